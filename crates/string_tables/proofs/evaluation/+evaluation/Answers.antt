use Rattle.std.proofs.Common.{◌≡◌, ◌<◌, length, set, refl, ap, ◌∙◌, ◌++◌, arith, get_or, get_or-set_same, length-set}
use Rattle.std.proofs.lemmas.List.{get_or_append_left, get_or_default}
use Rattle.kat_model.specs.Trees.{kat_tree, term_height, zero, one, act, sum, product, star, test, test_tree}
use Rattle.kat_model.specs.Relations.{Table}
use Rattle.kat_model.specs.Working.Decided.{computes_relation}
use Rattle.string_tables.specs.Working.Matrices.{Square, Represents, level}
use Rattle.string_tables.proofs.Rooms.{term_height_positive, same_room, room_first, room_rest, room_at_first}
use Rattle.string_tables.proofs.Reported.{union_given, product_given, closure_given}
use Rattle.string_tables.proofs.evaluation.+evaluation.Goals as goal

pub evaluate-put_test-requires-clause-tests : goal.evaluate-put_test-requires-clause-tests
evaluate-put_test-requires-clause-tests t c = let tree : kat_tree c.args.term.now ≡ test (test_tree c.in-Test.b) = rw c.in-Test.is refl in rw tree at c.requires.tests

pub evaluate-evaluate_both-requires : goal.evaluate-evaluate_both-requires
evaluate-evaluate_both-requires t c =
    let tree : kat_tree c.args.term.now ≡ sum (kat_tree c.deref.result.now) (kat_tree c.deref-in-Sum.result.now) = rw (c.in-Sum.is, c.deref.ensures, c.deref-in-Sum.ensures) refl in
    let tests = rw tree at c.requires.tests in
    let height = ap term_height tree in
    (omega (arith, c.decreases), (c.requires.whole, ((λ i li. (tests i li).0), ((λ i li. (tests i li).1), (omega arith, (omega arith, (c.requires.top, (c.requires.below, c.requires.spare))))))))

pub evaluate-bounds-below-0 : goal.evaluate-bounds-below-0
evaluate-bounds-below-0 t c =
    let tree : kat_tree c.args.term.now ≡ sum (kat_tree c.deref.result.now) (kat_tree c.deref-in-Sum.result.now) = rw (c.in-Sum.is, c.deref.ensures, c.deref-in-Sum.ensures) refl in
    let height = ap term_height tree in
    omega (arith, term_height_positive (kat_tree c.deref.result.now))

pub evaluate-join-requires-clause-others : goal.evaluate-join-requires-clause-others
evaluate-join-requires-clause-others t c =
    let tree : kat_tree c.args.term.now ≡ sum (kat_tree c.deref.result.now) (kat_tree c.deref-in-Sum.result.now) = rw (c.in-Sum.is, c.deref.ensures, c.deref-in-Sum.ensures) refl in
    let height = ap term_height tree in
    let some : 0 < length c.evaluate_both.new.below = omega (arith, term_height_positive (kat_tree c.deref.result.now)) in
    let room = room_at_first (λ (m : Square). m.size) c.args.table.now.states c.args.below.now c.evaluate_both.new.below c.requires.below c.evaluate_both.ensures.sizes some c.index-below-0.result in
    let states = ap (λ (t : Table). t.states) c.table.view_is in
    omega (arith, room)

pub evaluate-evaluate_both-requires-in-Seq : goal.evaluate-evaluate_both-requires-in-Seq
evaluate-evaluate_both-requires-in-Seq t c =
    let tree : kat_tree c.args.term.now ≡ product (kat_tree c.deref-in-Seq.result.now) (kat_tree c.deref-in-Seq-2.result.now) = rw (c.in-Seq.is, c.deref-in-Seq.ensures, c.deref-in-Seq-2.ensures) refl in
    let tests = rw tree at c.requires.tests in
    let height = ap term_height tree in
    (omega (arith, c.decreases), (c.requires.whole, ((λ i li. (tests i li).0), ((λ i li. (tests i li).1), (omega arith, (omega arith, (c.requires.top, (c.requires.below, c.requires.spare))))))))

pub evaluate-bounds-below-0-in-Seq : goal.evaluate-bounds-below-0-in-Seq
evaluate-bounds-below-0-in-Seq t c =
    let tree : kat_tree c.args.term.now ≡ product (kat_tree c.deref-in-Seq.result.now) (kat_tree c.deref-in-Seq-2.result.now) = rw (c.in-Seq.is, c.deref-in-Seq.ensures, c.deref-in-Seq-2.ensures) refl in
    let height = ap term_height tree in
    omega (arith, term_height_positive (kat_tree c.deref-in-Seq.result.now))

pub evaluate-multiply-requires-clause-others : goal.evaluate-multiply-requires-clause-others
evaluate-multiply-requires-clause-others t c =
    let tree : kat_tree c.args.term.now ≡ product (kat_tree c.deref-in-Seq.result.now) (kat_tree c.deref-in-Seq-2.result.now) = rw (c.in-Seq.is, c.deref-in-Seq.ensures, c.deref-in-Seq-2.ensures) refl in
    let height = ap term_height tree in
    let some : 0 < length c.evaluate_both-in-Seq.new.below = omega (arith, term_height_positive (kat_tree c.deref-in-Seq.result.now)) in
    let room = room_at_first (λ (m : Square). m.size) c.args.table.now.states c.args.below.now c.evaluate_both-in-Seq.new.below c.requires.below c.evaluate_both-in-Seq.ensures.sizes some c.index-below-0-in-Seq.result in
    let states = ap (λ (t : Table). t.states) c.table.view_is in
    omega (arith, room)

pub evaluate-evaluate-requires : goal.evaluate-evaluate-requires
evaluate-evaluate-requires t c =
    let tree : kat_tree c.args.term.now ≡ star (kat_tree c.deref-in-Star.result.now) = rw (c.in-Star.is, c.deref-in-Star.ensures) refl in
    let tests = rw tree at c.requires.tests in
    let height = ap term_height tree in
    (omega (arith, c.decreases), (c.requires.whole, (tests, (omega arith, (c.requires.top, (c.requires.below, c.requires.spare))))))

pub evaluate-returns-in-Zero-clause-size : goal.evaluate-returns-in-Zero-clause-size
evaluate-returns-in-Zero-clause-size t c = c.clear.ensures.size

pub evaluate-returns-in-Zero-clause-sizes : goal.evaluate-returns-in-Zero-clause-sizes
evaluate-returns-in-Zero-clause-sizes t c = refl

pub evaluate-returns-in-Zero-clause-width : goal.evaluate-returns-in-Zero-clause-width
evaluate-returns-in-Zero-clause-width t c = refl

pub evaluate-returns-in-One-clause-size : goal.evaluate-returns-in-One-clause-size
evaluate-returns-in-One-clause-size t c = c.put_identity.ensures.size

pub evaluate-returns-in-One-clause-sizes : goal.evaluate-returns-in-One-clause-sizes
evaluate-returns-in-One-clause-sizes t c = refl

pub evaluate-returns-in-One-clause-width : goal.evaluate-returns-in-One-clause-width
evaluate-returns-in-One-clause-width t c = refl

pub evaluate-returns-in-Test-clause-size : goal.evaluate-returns-in-Test-clause-size
evaluate-returns-in-Test-clause-size t c = c.put_test.ensures.size

pub evaluate-returns-in-Test-clause-sizes : goal.evaluate-returns-in-Test-clause-sizes
evaluate-returns-in-Test-clause-sizes t c = refl

pub evaluate-returns-in-Test-clause-width : goal.evaluate-returns-in-Test-clause-width
evaluate-returns-in-Test-clause-width t c = refl

pub evaluate-returns-in-Act-clause-size : goal.evaluate-returns-in-Act-clause-size
evaluate-returns-in-Act-clause-size t c = c.put_action.ensures.size

pub evaluate-returns-in-Act-clause-sizes : goal.evaluate-returns-in-Act-clause-sizes
evaluate-returns-in-Act-clause-sizes t c = refl

pub evaluate-returns-in-Act-clause-width : goal.evaluate-returns-in-Act-clause-width
evaluate-returns-in-Act-clause-width t c = refl

pub evaluate-returns-in-Sum-clause-given : goal.evaluate-returns-in-Sum-clause-given
evaluate-returns-in-Sum-clause-given t c =
    let tree : kat_tree c.args.term.now ≡ sum (kat_tree c.deref.result.now) (kat_tree c.deref-in-Sum.result.now) = rw (c.in-Sum.is, c.deref.ensures, c.deref-in-Sum.ensures) refl in
    let height = ap term_height tree in
    let n = c.args.table.now.states in
    let left = computes_relation c.args.table.now (kat_tree c.deref.result.now) in
    let right = computes_relation c.args.table.now (kat_tree c.deref-in-Sum.result.now) in
    let below = c.evaluate_both.new.below in
    let some : 0 < length below = omega (arith, term_height_positive (kat_tree c.deref.result.now)) in
    let second : Square = get_or below 0 c.index-below-0.result in
    let same : level below 0 ≡ second = get_or_default below 0 _ c.index-below-0.result some in
    let second_given : Represents n second right = rw (← same) c.evaluate_both.ensures.second in
    let states = ap (λ (t : Table). t.states) c.table.view_is in
    rw tree (union_given n left right c.evaluate_both.new.top second c.join.new.m c.evaluate_both.ensures.first second_given (rw states at c.join.ensures.given))

pub evaluate-returns-in-Sum-clause-size : goal.evaluate-returns-in-Sum-clause-size
evaluate-returns-in-Sum-clause-size t c = c.join.ensures.size ∙ c.evaluate_both.ensures.size

pub evaluate-returns-in-Sum-clause-sizes : goal.evaluate-returns-in-Sum-clause-sizes
evaluate-returns-in-Sum-clause-sizes t c = c.evaluate_both.ensures.sizes

pub evaluate-returns-in-Sum-clause-width : goal.evaluate-returns-in-Sum-clause-width
evaluate-returns-in-Sum-clause-width t c = c.evaluate_both.ensures.width

pub evaluate-returns-in-Seq-clause-given : goal.evaluate-returns-in-Seq-clause-given
evaluate-returns-in-Seq-clause-given t c =
    let tree : kat_tree c.args.term.now ≡ product (kat_tree c.deref-in-Seq.result.now) (kat_tree c.deref-in-Seq-2.result.now) = rw (c.in-Seq.is, c.deref-in-Seq.ensures, c.deref-in-Seq-2.ensures) refl in
    let height = ap term_height tree in
    let n = c.args.table.now.states in
    let left = computes_relation c.args.table.now (kat_tree c.deref-in-Seq.result.now) in
    let right = computes_relation c.args.table.now (kat_tree c.deref-in-Seq-2.result.now) in
    let below = c.evaluate_both-in-Seq.new.below in
    let some : 0 < length below = omega (arith, term_height_positive (kat_tree c.deref-in-Seq.result.now)) in
    let second : Square = get_or below 0 c.index-below-0-in-Seq.result in
    let same : level below 0 ≡ second = get_or_default below 0 _ c.index-below-0-in-Seq.result some in
    let second_given : Represents n second right = rw (← same) c.evaluate_both-in-Seq.ensures.second in
    let states = ap (λ (t : Table). t.states) c.table.view_is in
    rw tree (product_given n left right c.evaluate_both-in-Seq.new.top second c.multiply.new.m c.evaluate_both-in-Seq.ensures.first second_given (rw states at c.multiply.ensures.given))

pub evaluate-returns-in-Seq-clause-size : goal.evaluate-returns-in-Seq-clause-size
evaluate-returns-in-Seq-clause-size t c = c.multiply.ensures.size ∙ c.evaluate_both-in-Seq.ensures.size

pub evaluate-returns-in-Seq-clause-sizes : goal.evaluate-returns-in-Seq-clause-sizes
evaluate-returns-in-Seq-clause-sizes t c = c.evaluate_both-in-Seq.ensures.sizes

pub evaluate-returns-in-Seq-clause-width : goal.evaluate-returns-in-Seq-clause-width
evaluate-returns-in-Seq-clause-width t c = c.multiply.ensures.width ∙ c.evaluate_both-in-Seq.ensures.width

pub evaluate-returns-in-Star-clause-given : goal.evaluate-returns-in-Star-clause-given
evaluate-returns-in-Star-clause-given t c =
    let tree : kat_tree c.args.term.now ≡ star (kat_tree c.deref-in-Star.result.now) = rw (c.in-Star.is, c.deref-in-Star.ensures) refl in
    let states = ap (λ (t : Table). t.states) c.table.view_is in
    rw tree (closure_given c.args.table.now.states (computes_relation c.args.table.now (kat_tree c.deref-in-Star.result.now)) c.evaluate.new.top c.close.new.m c.evaluate.ensures.given (rw states at c.close.ensures.given))

pub evaluate-returns-in-Star-clause-size : goal.evaluate-returns-in-Star-clause-size
evaluate-returns-in-Star-clause-size t c = c.close.ensures.size ∙ c.evaluate.ensures.size

pub evaluate-returns-in-Star-clause-sizes : goal.evaluate-returns-in-Star-clause-sizes
evaluate-returns-in-Star-clause-sizes t c = c.evaluate.ensures.sizes

pub evaluate-returns-in-Star-clause-width : goal.evaluate-returns-in-Star-clause-width
evaluate-returns-in-Star-clause-width t c = c.close.ensures.width ∙ c.evaluate.ensures.width

pub evaluate_both-evaluate-requires : goal.evaluate_both-evaluate-requires
evaluate_both-evaluate-requires t c = (omega (arith, c.decreases), (c.requires.whole, (c.requires.first_tests, (omega arith, (c.requires.top, (c.requires.below, c.requires.spare))))))

pub evaluate_both-split_at_mut-next-requires : goal.evaluate_both-split_at_mut-next-requires
evaluate_both-split_at_mut-next-requires t c = omega (arith, term_height_positive (kat_tree c.args.first.now))

pub evaluate_both-evaluate-requires-2 : goal.evaluate_both-evaluate-requires-2
evaluate_both-evaluate-requires-2 t c =
    let parts = c.split_at_mut-next.ensures in
    let first = room_first (λ (m : Square). m.size) c.args.table.now.states c.args.below.now c.evaluate.new.below _ _ c.requires.below c.evaluate.ensures.sizes parts.value parts.front_len c.index-next-0.result in
    let rest = room_rest (λ (m : Square). m.size) c.args.table.now.states c.args.below.now c.evaluate.new.below c.split_at_mut-next.result.0.now c.split_at_mut-next.result.1.now c.requires.below c.evaluate.ensures.sizes parts.value in
    (omega (arith, c.decreases), (c.requires.whole, (c.requires.second_tests, (omega arith, (first, (rest, omega arith))))))

pub evaluate_both-returns-clause-second : goal.evaluate_both-returns-clause-second
evaluate_both-returns-clause-second t c =
    let next = c.split_at_mut-next.result.0.now in
    let top = c.evaluate-2.new.top in
    let room : 0 < length next = omega (arith, c.split_at_mut-next.ensures.front_len) in
    let longer : 0 < length (set next 0 top) = rw length-set room in
    let written : level (set next 0 top ++ c.evaluate-2.new.below) 0 ≡ top = get_or_append_left (set next 0 top) c.evaluate-2.new.below _ 0 longer ∙ get_or-set_same next 0 top _ room in
    rw written c.evaluate-2.ensures.given

pub evaluate-clear-requires : goal.evaluate-clear-requires
evaluate-clear-requires t c = same_room _ _ _ _ (ap (λ (t : Table). t.states) c.table.view_is) refl c.requires.top

pub evaluate-put_identity-requires : goal.evaluate-put_identity-requires
evaluate-put_identity-requires t c = same_room _ _ _ _ (ap (λ (t : Table). t.states) c.table.view_is) refl c.requires.top

pub evaluate-put_test-requires-clause-whole : goal.evaluate-put_test-requires-clause-whole
evaluate-put_test-requires-clause-whole t c = c.requires.whole

pub evaluate-put_test-requires-clause-own : goal.evaluate-put_test-requires-clause-own
evaluate-put_test-requires-clause-own t c = c.requires.top

pub evaluate-put_action-requires-clause-whole : goal.evaluate-put_action-requires-clause-whole
evaluate-put_action-requires-clause-whole t c = c.requires.whole

pub evaluate-put_action-requires-clause-own : goal.evaluate-put_action-requires-clause-own
evaluate-put_action-requires-clause-own t c = c.requires.top

pub evaluate-join-requires-clause-own : goal.evaluate-join-requires-clause-own
evaluate-join-requires-clause-own t c =
    same_room _ _ _ _ (ap (λ (t : Table). t.states) c.table.view_is) c.evaluate_both.ensures.size c.requires.top

pub evaluate-multiply-requires-clause-own : goal.evaluate-multiply-requires-clause-own
evaluate-multiply-requires-clause-own t c =
    same_room _ _ _ _ (ap (λ (t : Table). t.states) c.table.view_is) c.evaluate_both-in-Seq.ensures.size c.requires.top

pub evaluate-multiply-requires-clause-spare : goal.evaluate-multiply-requires-clause-spare
evaluate-multiply-requires-clause-spare t c =
    same_room _ _ _ _ (ap (λ (t : Table). t.states) c.table.view_is) c.evaluate_both-in-Seq.ensures.width c.requires.spare

pub evaluate-close-requires-clause-own : goal.evaluate-close-requires-clause-own
evaluate-close-requires-clause-own t c =
    same_room _ _ _ _ (ap (λ (t : Table). t.states) c.table.view_is) c.evaluate.ensures.size c.requires.top

pub evaluate-close-requires-clause-spare : goal.evaluate-close-requires-clause-spare
evaluate-close-requires-clause-spare t c =
    same_room _ _ _ _ (ap (λ (t : Table). t.states) c.table.view_is) c.evaluate.ensures.width c.requires.spare

pub evaluate_both-returns-clause-first : goal.evaluate_both-returns-clause-first
evaluate_both-returns-clause-first t c = c.evaluate.ensures.given

pub evaluate_both-returns-clause-size : goal.evaluate_both-returns-clause-size
evaluate_both-returns-clause-size t c = c.evaluate.ensures.size

pub evaluate_both-returns-clause-width : goal.evaluate_both-returns-clause-width
evaluate_both-returns-clause-width t c = c.evaluate-2.ensures.width ∙ c.evaluate.ensures.width

pub evaluate-returns-in-Zero-clause-given : goal.evaluate-returns-in-Zero-clause-given
evaluate-returns-in-Zero-clause-given t c =
    let tree : kat_tree c.args.term.now ≡ zero = rw c.in-Zero.is refl in
    let states = ap (λ (t : Table). t.states) c.table.view_is in
    rw tree (rw states at c.clear.ensures.cleared)

pub evaluate-returns-in-One-clause-given : goal.evaluate-returns-in-One-clause-given
evaluate-returns-in-One-clause-given t c =
    let tree : kat_tree c.args.term.now ≡ one = rw c.in-One.is refl in
    let states = ap (λ (t : Table). t.states) c.table.view_is in
    rw tree (rw states at c.put_identity.ensures.given)

pub evaluate-returns-in-Test-clause-given : goal.evaluate-returns-in-Test-clause-given
evaluate-returns-in-Test-clause-given t c =
    let tree : kat_tree c.args.term.now ≡ test (test_tree c.in-Test.b) = rw c.in-Test.is refl in
    rw tree c.put_test.ensures.given

pub evaluate-returns-in-Act-clause-given : goal.evaluate-returns-in-Act-clause-given
evaluate-returns-in-Act-clause-given t c =
    let tree : kat_tree c.args.term.now ≡ act c.in-Act.a = rw c.in-Act.is refl in
    rw tree c.put_action.ensures.given
