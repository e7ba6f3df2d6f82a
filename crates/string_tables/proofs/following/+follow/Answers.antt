use Rattle.std.proofs.Common.{◌≡◌, ◌<◌, ◌≤◌, ℕ, List, Bool, ◌∙◌, length, get_or, set, refl, ap, arith, get_or-set_same, length-set, false, slice_index_or}
use Rattle.kat_model.specs.Trees.{kat_tree, term_height, zero, one, act, test, sum, product, star, test_tree}
use Rattle.kat_model.specs.Steps.{truth}
use Rattle.kat_model.specs.Relations.{Table, atom_at}
use Rattle.kat_model.specs.Working.Decided.{computes_relation, warshall}
use Rattle.string_tables.specs.Working.Matrices.{Represents, entry, IsImage}
use Rattle.string_tables.proofs.Rooms.{term_height_positive, same_room, body_fits, room_first, room_rest}
use Rattle.string_tables.proofs.Reported.{closure_given}
use Rattle.string_tables.proofs.Images.{image_empty, image_identity, image_test, image_composition, image_union, image_given}
use Rattle.string_tables.proofs.following.+follow.Goals as goal

pub keep_true-requires-clause-tests : goal.keep_true-requires-clause-tests
keep_true-requires-clause-tests t c = let tree : kat_tree c.args.term.now ≡ test (test_tree c.in-Test.b) = rw c.in-Test.is refl in rw tree at c.requires.tests

pub split_at_mut-next-requires : goal.split_at_mut-next-requires
split_at_mut-next-requires t c =
    let tree : kat_tree c.args.term.now ≡ sum (kat_tree c.in-Sum.e.value) (kat_tree c.in-Sum.f.value) = rw c.in-Sum.is refl in
    let height = ap term_height tree in
    omega (arith, term_height_positive (kat_tree c.in-Sum.e.value))

pub copy_from-requires-in-Sum-clause-own : goal.copy_from-requires-in-Sum-clause-own
copy_from-requires-in-Sum-clause-own t c =
    let parts = c.split_at_mut-next.ensures in
    let states = ap (λ (t : Table). t.states) c.table.view_is in
    let first = room_first (λ (row : List Bool). length row) c.args.table.now.states c.args.rows.now c.args.rows.now _ _ c.requires.rows refl parts.value parts.front_len c.index-next-0.result in
    omega (arith, first)

pub follow-requires : goal.follow-requires
follow-requires t c =
    let tree : kat_tree c.args.term.now ≡ sum (kat_tree c.deref.result.now) (kat_tree c.in-Sum.f.value) = rw (c.in-Sum.is, c.deref.ensures) refl in
    let tests = rw tree at c.requires.tests in
    let height = ap term_height tree in
    let parts = c.split_at_mut-next.ensures in
    let rest = room_rest (λ (row : List Bool). length row) c.args.table.now.states c.args.rows.now c.args.rows.now c.split_at_mut-next.result.0.now c.split_at_mut-next.result.1.now c.requires.rows refl parts.value in
    (omega (arith, c.decreases), (c.requires.whole, ((λ i li. (tests i li).0), (omega arith, (omega (arith, parts.back_len), (c.requires.row, (rest, (c.requires.top, (c.requires.below, c.requires.spare)))))))))

pub follow-requires-in-Sum : goal.follow-requires-in-Sum
follow-requires-in-Sum t c =
    let tree : kat_tree c.args.term.now ≡ sum (kat_tree c.in-Sum.e.value) (kat_tree c.deref-in-Sum.result.now) = rw (c.in-Sum.is, c.deref-in-Sum.ensures) refl in
    let tests = rw tree at c.requires.tests in
    let height = ap term_height tree in
    let parts = c.split_at_mut-next.ensures in
    let n = c.args.table.now.states in
    let first = room_first (λ (row : List Bool). length row) n c.args.rows.now c.args.rows.now _ _ c.requires.rows refl parts.value parts.front_len c.index-next-0.result in
    let rest = room_rest (λ (row : List Bool). length row) n c.args.rows.now c.args.rows.now c.split_at_mut-next.result.0.now c.split_at_mut-next.result.1.now c.requires.rows refl parts.value in
    let room : 0 < length c.split_at_mut-next.result.0.now = omega (arith, parts.front_len) in
    let written : slice_index_or (set c.split_at_mut-next.result.0.now 0 c.copy_from-in-Sum.new.self) 0 c.index-next-0-in-Sum.result ≡ c.copy_from-in-Sum.new.self = get_or-set_same _ 0 _ _ room in
    let own : n ≤ length (slice_index_or (set c.split_at_mut-next.result.0.now 0 c.copy_from-in-Sum.new.self) 0 c.index-next-0-in-Sum.result) = rw written (omega (arith, first, c.copy_from-in-Sum.ensures.width)) in
    (omega (arith, c.decreases), (c.requires.whole, ((λ i li. (tests i li).1), (omega arith, (omega (arith, parts.back_len), (own, (rw c.follow.ensures.rows rest, (omega arith, (rw c.follow.ensures.sizes c.requires.below, omega arith)))))))))

pub follow-requires-in-Seq : goal.follow-requires-in-Seq
follow-requires-in-Seq t c =
    let tree : kat_tree c.args.term.now ≡ product (kat_tree c.deref-in-Seq.result.now) (kat_tree c.in-Seq.f.value) = rw (c.in-Seq.is, c.deref-in-Seq.ensures) refl in
    let tests = rw tree at c.requires.tests in
    let height = ap term_height tree in
    (omega (arith, c.decreases), (c.requires.whole, ((λ i li. (tests i li).0), (omega arith, (omega arith, (c.requires.row, (c.requires.rows, (c.requires.top, (c.requires.below, c.requires.spare)))))))))

pub follow-requires-in-Seq-2 : goal.follow-requires-in-Seq-2
follow-requires-in-Seq-2 t c =
    let tree : kat_tree c.args.term.now ≡ product (kat_tree c.in-Seq.e.value) (kat_tree c.deref-in-Seq-2.result.now) = rw (c.in-Seq.is, c.deref-in-Seq-2.ensures) refl in
    let tests = rw tree at c.requires.tests in
    let height = ap term_height tree in
    (omega (arith, c.decreases), (c.requires.whole, ((λ i li. (tests i li).1), (omega arith, (omega arith, (omega arith, (rw c.follow-in-Seq.ensures.rows c.requires.rows, (omega arith, (rw c.follow-in-Seq.ensures.sizes c.requires.below, omega arith)))))))))

pub evaluate-requires-clause-tests : goal.evaluate-requires-clause-tests
evaluate-requires-clause-tests t c =
    let tree : kat_tree c.args.term.now ≡ star (kat_tree c.deref-in-Star.result.now) = rw (c.in-Star.is, c.deref-in-Star.ensures) refl in
    rw tree at c.requires.tests

pub returns-in-Zero-clause-image : goal.returns-in-Zero-clause-image
returns-in-Zero-clause-image t c =
    let tree : kat_tree c.args.term.now ≡ zero = rw c.in-Zero.is refl in
    let states = ap (λ (t : Table). t.states) c.table.view_is in
    rw tree (image_empty c.args.table.now.states c.args.row.now c.clear.new.self (rw states at c.clear.ensures.cleared))

pub returns-in-One-clause-image : goal.returns-in-One-clause-image
returns-in-One-clause-image t c =
    let tree : kat_tree c.args.term.now ≡ one = rw c.in-One.is refl in
    rw tree (image_identity c.args.table.now.states c.args.row.now)

pub returns-in-Test-clause-image : goal.returns-in-Test-clause-image
returns-in-Test-clause-image t c =
    let tree : kat_tree c.args.term.now ≡ test (test_tree c.in-Test.b) = rw c.in-Test.is refl in
    rw tree (image_test c.args.table.now.states c.args.row.now (λ i. truth (test_tree c.in-Test.b) (atom_at c.args.table.now i)) c.keep_true.new.row c.keep_true.ensures.kept)

pub returns-in-Sum-clause-image : goal.returns-in-Sum-clause-image
returns-in-Sum-clause-image t c =
    let tree : kat_tree c.args.term.now ≡ sum (kat_tree c.deref.result.now) (kat_tree c.deref-in-Sum.result.now) = rw (c.in-Sum.is, c.deref.ensures, c.deref-in-Sum.ensures) refl in
    let n = c.args.table.now.states in
    let left = computes_relation c.args.table.now (kat_tree c.deref.result.now) in
    let right = computes_relation c.args.table.now (kat_tree c.deref-in-Sum.result.now) in
    let states = ap (λ (t : Table). t.states) c.table.view_is in
    let front = c.split_at_mut-next.result.0.now in
    let room : 0 < length front = omega (arith, c.split_at_mut-next.ensures.front_len) in
    let copy = get_or (set front 0 c.copy_from-in-Sum.new.self) 0 c.index-next-0-in-Sum.result in
    let copied : copy ≡ c.copy_from-in-Sum.new.self = get_or-set_same _ 0 _ _ room in
    let same : (j : ℕ) → j < n → slice_index_or copy j false ≡ slice_index_or c.args.row.now j false = rw copied (rw states at c.copy_from-in-Sum.ensures.copied) in
    let second = get_or (set (set front 0 c.copy_from-in-Sum.new.self) 0 c.follow-in-Sum.new.row) 0 c.index-next-0-in-Sum-2.result in
    let again : 0 < length (set front 0 c.copy_from-in-Sum.new.self) = omega (arith, length-set {A = List Bool}) in
    let written : second ≡ c.follow-in-Sum.new.row = get_or-set_same _ 0 _ _ again in
    let image : IsImage n copy right second = rw written c.follow-in-Sum.ensures.image in
    rw tree (image_union n c.args.row.now left right copy c.follow.new.row second c.join.new.self same c.follow.ensures.image image (rw states at c.join.ensures.joined))

pub returns-in-Seq-clause-image : goal.returns-in-Seq-clause-image
returns-in-Seq-clause-image t c =
    let tree : kat_tree c.args.term.now ≡ product (kat_tree c.deref-in-Seq.result.now) (kat_tree c.deref-in-Seq-2.result.now) = rw (c.in-Seq.is, c.deref-in-Seq.ensures, c.deref-in-Seq-2.ensures) refl in
    let left = computes_relation c.args.table.now (kat_tree c.deref-in-Seq.result.now) in
    let right = computes_relation c.args.table.now (kat_tree c.deref-in-Seq-2.result.now) in
    rw tree (image_composition c.args.table.now.states c.args.row.now left right c.follow-in-Seq.new.row c.follow-in-Seq-2.new.row c.follow-in-Seq.ensures.image c.follow-in-Seq-2.ensures.image)

pub returns-in-Star-clause-image : goal.returns-in-Star-clause-image
returns-in-Star-clause-image t c =
    let tree : kat_tree c.args.term.now ≡ star (kat_tree c.deref-in-Star.result.now) = rw (c.in-Star.is, c.deref-in-Star.ensures) refl in
    let n = c.args.table.now.states in
    let body = computes_relation c.args.table.now (kat_tree c.deref-in-Star.result.now) in
    let states = ap (λ (t : Table). t.states) c.table.view_is in
    let closed : Represents n c.close.new.m (warshall body n) = closure_given n body c.evaluate.new.top c.close.new.m c.evaluate.ensures.given (rw states at c.close.ensures.given) in
    let product : IsImage n c.args.row.now (entry c.close.new.m) c.row_product.new.to = rw states at c.row_product.ensures.given in
    let copied = rw states at c.copy_from-in-Star.ensures.copied in
    rw tree (image_given n c.args.row.now (warshall body n) c.close.new.m c.copy_from-in-Star.new.self closed (λ j lj. copied j lj ∙ product j lj))

pub returns-in-Zero-clause-row : goal.returns-in-Zero-clause-row
returns-in-Zero-clause-row t c = c.clear.ensures.width

pub returns-in-Zero-clause-rows : goal.returns-in-Zero-clause-rows
returns-in-Zero-clause-rows t c = refl

pub returns-in-Zero-clause-size : goal.returns-in-Zero-clause-size
returns-in-Zero-clause-size t c = refl

pub returns-in-Zero-clause-sizes : goal.returns-in-Zero-clause-sizes
returns-in-Zero-clause-sizes t c = refl

pub returns-in-Zero-clause-width : goal.returns-in-Zero-clause-width
returns-in-Zero-clause-width t c = refl

pub returns-in-One-clause-row : goal.returns-in-One-clause-row
returns-in-One-clause-row t c = refl

pub returns-in-One-clause-rows : goal.returns-in-One-clause-rows
returns-in-One-clause-rows t c = refl

pub returns-in-One-clause-size : goal.returns-in-One-clause-size
returns-in-One-clause-size t c = refl

pub returns-in-One-clause-sizes : goal.returns-in-One-clause-sizes
returns-in-One-clause-sizes t c = refl

pub returns-in-One-clause-width : goal.returns-in-One-clause-width
returns-in-One-clause-width t c = refl

pub returns-in-Test-clause-row : goal.returns-in-Test-clause-row
returns-in-Test-clause-row t c = c.keep_true.ensures.width

pub returns-in-Test-clause-rows : goal.returns-in-Test-clause-rows
returns-in-Test-clause-rows t c = refl

pub returns-in-Test-clause-size : goal.returns-in-Test-clause-size
returns-in-Test-clause-size t c = refl

pub returns-in-Test-clause-sizes : goal.returns-in-Test-clause-sizes
returns-in-Test-clause-sizes t c = refl

pub returns-in-Test-clause-width : goal.returns-in-Test-clause-width
returns-in-Test-clause-width t c = refl

pub returns-in-Act-clause-row : goal.returns-in-Act-clause-row
returns-in-Act-clause-row t c = c.copy_from.ensures.width

pub returns-in-Act-clause-rows : goal.returns-in-Act-clause-rows
returns-in-Act-clause-rows t c = refl

pub returns-in-Act-clause-size : goal.returns-in-Act-clause-size
returns-in-Act-clause-size t c = refl

pub returns-in-Act-clause-sizes : goal.returns-in-Act-clause-sizes
returns-in-Act-clause-sizes t c = refl

pub returns-in-Act-clause-width : goal.returns-in-Act-clause-width
returns-in-Act-clause-width t c = c.follow_action.ensures.width

pub returns-in-Sum-clause-row : goal.returns-in-Sum-clause-row
returns-in-Sum-clause-row t c = c.join.ensures.width ∙ c.follow.ensures.row

pub returns-in-Sum-clause-size : goal.returns-in-Sum-clause-size
returns-in-Sum-clause-size t c = c.follow-in-Sum.ensures.size ∙ c.follow.ensures.size

pub returns-in-Sum-clause-sizes : goal.returns-in-Sum-clause-sizes
returns-in-Sum-clause-sizes t c = c.follow-in-Sum.ensures.sizes ∙ c.follow.ensures.sizes

pub returns-in-Sum-clause-width : goal.returns-in-Sum-clause-width
returns-in-Sum-clause-width t c = c.follow-in-Sum.ensures.width ∙ c.follow.ensures.width

pub returns-in-Seq-clause-row : goal.returns-in-Seq-clause-row
returns-in-Seq-clause-row t c = c.follow-in-Seq-2.ensures.row ∙ c.follow-in-Seq.ensures.row

pub returns-in-Seq-clause-rows : goal.returns-in-Seq-clause-rows
returns-in-Seq-clause-rows t c = c.follow-in-Seq-2.ensures.rows ∙ c.follow-in-Seq.ensures.rows

pub returns-in-Seq-clause-size : goal.returns-in-Seq-clause-size
returns-in-Seq-clause-size t c = c.follow-in-Seq-2.ensures.size ∙ c.follow-in-Seq.ensures.size

pub returns-in-Seq-clause-sizes : goal.returns-in-Seq-clause-sizes
returns-in-Seq-clause-sizes t c = c.follow-in-Seq-2.ensures.sizes ∙ c.follow-in-Seq.ensures.sizes

pub returns-in-Seq-clause-width : goal.returns-in-Seq-clause-width
returns-in-Seq-clause-width t c = c.follow-in-Seq-2.ensures.width ∙ c.follow-in-Seq.ensures.width

pub returns-in-Star-clause-row : goal.returns-in-Star-clause-row
returns-in-Star-clause-row t c = c.copy_from-in-Star.ensures.width

pub returns-in-Star-clause-rows : goal.returns-in-Star-clause-rows
returns-in-Star-clause-rows t c = refl

pub returns-in-Star-clause-size : goal.returns-in-Star-clause-size
returns-in-Star-clause-size t c = c.close.ensures.size ∙ c.evaluate.ensures.size

pub returns-in-Star-clause-sizes : goal.returns-in-Star-clause-sizes
returns-in-Star-clause-sizes t c = c.evaluate.ensures.sizes

pub returns-in-Star-clause-width : goal.returns-in-Star-clause-width
returns-in-Star-clause-width t c = c.row_product.ensures.width ∙ c.close.ensures.width ∙ c.evaluate.ensures.width

pub clear-requires : goal.clear-requires
clear-requires t c = same_room _ _ _ _ (ap (λ (t : Table). t.states) c.table.view_is) refl c.requires.row

pub keep_true-requires-clause-whole : goal.keep_true-requires-clause-whole
keep_true-requires-clause-whole t c = c.requires.whole

pub keep_true-requires-clause-own : goal.keep_true-requires-clause-own
keep_true-requires-clause-own t c = c.requires.row

pub follow_action-requires-clause-whole : goal.follow_action-requires-clause-whole
follow_action-requires-clause-whole t c = c.requires.whole

pub follow_action-requires-clause-row : goal.follow_action-requires-clause-row
follow_action-requires-clause-row t c = c.requires.row

pub follow_action-requires-clause-to : goal.follow_action-requires-clause-to
follow_action-requires-clause-to t c = c.requires.spare

pub copy_from-requires-clause-own : goal.copy_from-requires-clause-own
copy_from-requires-clause-own t c = same_room _ _ _ _ (ap (λ (t : Table). t.states) c.table.view_is) refl c.requires.row

pub copy_from-requires-clause-others : goal.copy_from-requires-clause-others
copy_from-requires-clause-others t c =
    same_room _ _ _ _ (ap (λ (t : Table). t.states) c.table.view_is) c.follow_action.ensures.width c.requires.spare

pub copy_from-requires-in-Sum-clause-others : goal.copy_from-requires-in-Sum-clause-others
copy_from-requires-in-Sum-clause-others t c = same_room _ _ _ _ (ap (λ (t : Table). t.states) c.table.view_is) refl c.requires.row

pub join-requires-clause-own : goal.join-requires-clause-own
join-requires-clause-own t c = same_room _ _ _ _ (ap (λ (t : Table). t.states) c.table.view_is) c.follow.ensures.row c.requires.row

pub evaluate-requires-clause-whole : goal.evaluate-requires-clause-whole
evaluate-requires-clause-whole t c = c.requires.whole

pub evaluate-requires-clause-height : goal.evaluate-requires-clause-height
evaluate-requires-clause-height t c =
    let tree : kat_tree c.args.term.now ≡ star (kat_tree c.deref-in-Star.result.now) = rw (c.in-Star.is, c.deref-in-Star.ensures) refl in
    body_fits _ _ _ (ap term_height tree) c.requires.height

pub evaluate-requires-clause-top : goal.evaluate-requires-clause-top
evaluate-requires-clause-top t c = c.requires.top

pub evaluate-requires-clause-below : goal.evaluate-requires-clause-below
evaluate-requires-clause-below t c = c.requires.below

pub evaluate-requires-clause-spare : goal.evaluate-requires-clause-spare
evaluate-requires-clause-spare t c = c.requires.spare

pub close-requires-clause-own : goal.close-requires-clause-own
close-requires-clause-own t c = same_room _ _ _ _ (ap (λ (t : Table). t.states) c.table.view_is) c.evaluate.ensures.size c.requires.top

pub close-requires-clause-spare : goal.close-requires-clause-spare
close-requires-clause-spare t c = same_room _ _ _ _ (ap (λ (t : Table). t.states) c.table.view_is) c.evaluate.ensures.width c.requires.spare

pub row_product-requires-clause-row : goal.row_product-requires-clause-row
row_product-requires-clause-row t c = same_room _ _ _ _ (ap (λ (t : Table). t.states) c.table.view_is) refl c.requires.row

pub row_product-requires-clause-right : goal.row_product-requires-clause-right
row_product-requires-clause-right t c =
    same_room _ _ _ _ (ap (λ (t : Table). t.states) c.table.view_is) (c.close.ensures.size ∙ c.evaluate.ensures.size) c.requires.top

pub row_product-requires-clause-to : goal.row_product-requires-clause-to
row_product-requires-clause-to t c =
    same_room _ _ _ _ (ap (λ (t : Table). t.states) c.table.view_is) (c.close.ensures.width ∙ c.evaluate.ensures.width) c.requires.spare

pub copy_from-requires-in-Star-clause-own : goal.copy_from-requires-in-Star-clause-own
copy_from-requires-in-Star-clause-own t c = same_room _ _ _ _ (ap (λ (t : Table). t.states) c.table.view_is) refl c.requires.row

pub copy_from-requires-in-Star-clause-others : goal.copy_from-requires-in-Star-clause-others
copy_from-requires-in-Star-clause-others t c =
    same_room _ _ _ _ (ap (λ (t : Table). t.states) c.table.view_is) (c.row_product.ensures.width ∙ c.close.ensures.width ∙ c.evaluate.ensures.width) c.requires.spare

pub returns-in-Act-clause-image : goal.returns-in-Act-clause-image
returns-in-Act-clause-image t c =
    let tree : kat_tree c.args.term.now ≡ act c.in-Act.a = rw c.in-Act.is refl in
    let states = ap (λ (t : Table). t.states) c.table.view_is in
    let copied = rw states at c.copy_from.ensures.copied in
    rw tree (λ j lj. copied j lj ∙ c.follow_action.ensures.image j lj)

pub join-requires-clause-others : goal.join-requires-clause-others
join-requires-clause-others t c =
    let parts = c.split_at_mut-next.ensures in
    let front = c.split_at_mut-next.result.0.now in
    let first = room_first (λ (row : List Bool). length row) c.args.table.now.states c.args.rows.now c.args.rows.now _ _ c.requires.rows refl parts.value parts.front_len c.index-next-0.result in
    let room : 0 < length front = omega (arith, parts.front_len) in
    let again : 0 < length (set front 0 c.copy_from-in-Sum.new.self) = rw length-set room in
    let copied : get_or (set front 0 c.copy_from-in-Sum.new.self) 0 c.index-next-0-in-Sum.result ≡ c.copy_from-in-Sum.new.self = get_or-set_same _ 0 _ _ room in
    let written : get_or (set (set front 0 c.copy_from-in-Sum.new.self) 0 c.follow-in-Sum.new.row) 0 c.index-next-0-in-Sum-2.result ≡ c.follow-in-Sum.new.row = get_or-set_same _ 0 _ _ again in
    same_room _ _ _ _ (ap (λ (t : Table). t.states) c.table.view_is) (ap length written ∙ c.follow-in-Sum.ensures.row ∙ ap length copied ∙ c.copy_from-in-Sum.ensures.width) first
