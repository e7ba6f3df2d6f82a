use Rattle.std.proofs.Common.{◌≡◌, ◌⊎◌, ℕ, ◌&&◌, List, Bool, true, false, None, ⊎_elim, inl, inr, sym, ◌∙◌, subst}
use Rattle.std.specs.Option.{option_map_or}
use Rattle.std.proofs.lemmas.Bool.{iff_false}
use Rattle.term_nodes.specs.NumberSets.{NumberPair}
use Rattle.cert_checker.specs.declared.known.Truth.{Truth}
use Rattle.cert_checker.specs.declared.sides.TargetSide.{TargetSide}
use Rattle.cert_checker.specs.declared.sides.TargetSides.{TargetSides}
use Rattle.cert_checker.specs.Indices.{AreIndexed}
use Rattle.cert_checker.specs.Questions.{ActionPassParts, QuestionParts}
use Rattle.cert_checker.specs.Sides.{is_sure, AreTargetSides, IsWaitedByOne}
use Rattle.cert_checker.specs.Working.Matching.{counting, AreCovered, AreSurelyMatched}
use Rattle.cert_checker.specs.Waiting.{AreTestsSettled}
use Rattle.cert_checker.specs.Moves.{IsMoveStatus}
use Rattle.cert_checker.proofs.CountedPairs.{counted_as}
use Rattle.cert_checker.proofs.StepAnswers.{side_sure, none_alone}
use Rattle.cert_checker.proofs.StepStates.{waits_open, guard_open, universal_match, matched_holds, unmatched_fails}
use Rattle.cert_checker.proofs.matching.outcome_by.Goals as goal
use Rattle.cert_checker.proofs.matching.outcome_by.Goals.{then-are_universal-via-then-are_universal, then-are_universal-via-else-are_universal+in_ok-are_matched+then-branch, then-branch-2+in_default-undecided_test_of_pairs, else-branch-2}

-- the result for the universal term, by equal arguments
sure_as : (q : QuestionParts) (k l : List Truth) (a b : Bool) → k ≡ l → a ≡ option_map_or (λ u. is_sure k q.left u && is_sure k q.right u) q.action_pass.universal false → a ≡ b → option_map_or (λ u. is_sure l q.left u && is_sure l q.right u) q.action_pass.universal false ≡ b
sure_as q k l a b same given is = subst (λ (m : List Truth). option_map_or (λ u. is_sure m q.left u && is_sure m q.right u) q.action_pass.universal false ≡ b) same (sym given ∙ is)

pub are_matched-requires-clause-left : goal.are_matched-requires-clause-left
are_matched-requires-clause-left c =
    let q = c.args.question.now in
    let known = c.args.case.now.begin.items in
    side_sure known q.right q.left c.args.sides.now.left c.requires.sides.left

pub are_matched-requires-clause-right : goal.are_matched-requires-clause-right
are_matched-requires-clause-right c =
    let q = c.args.question.now in
    let known = c.args.case.now.begin.items in
    side_sure known q.left q.right c.args.sides.now.right c.requires.sides.right

pub returns-then-are_universal : goal.returns-then-are_universal
returns-then-are_universal c =
    let q = c.args.question.now in
    let case = c.args.case.now in
    let known = case.begin.items in
    let s : TargetSides = c.args.sides.now in
    elim c.then-are_universal.branch [
      | then-are_universal-via-then-are_universal w ↦
          universal_match q.tables c.requires.question.tables q c.requires.question.question q.queried c.requires.question.named case.decided.items case c.requires.case
          (sure_as q _ known c.are_universal.result true c.as_slice-known.ensures.value c.are_universal.ensures w.if-are_universal.true)
      | then-are_universal-via-else-are_universal+in_ok-are_matched+then-branch w ↦
          let denoted = counted_as (λ (t : ActionPassParts) (ns : List NumberPair). AreSurelyMatched t.style ns t.universal s) w.of.result q.action_pass case.end.items false w.of.ensures.action_pass w.of.ensures.known w.of.ensures.also_open in
          matched_holds q.tables c.requires.question.tables q c.requires.question.question q.queried c.requires.question.named case.decided.items case c.requires.case s c.requires.sides (denoted.0 (w.in_ok-are_matched.ensures.0 w.if-branch.true))
    ]

pub returns-in-Tied : goal.returns-in-Tied
returns-in-Tied c =
    let q = c.args.question.now in
    let case = c.args.case.now in
    waits_open q.tables c.requires.question.tables q c.requires.question.question q.queried c.requires.question.named case.decided.items case c.requires.case c.in-Tied.test (subst (IsMoveStatus q case) c.in-Tied.is c.requires.the_move)

pub waiting_guard-requires : goal.waiting_guard-requires
waiting_guard-requires c = subst (λ (l : List Truth). AreTargetSides l c.args.question.now.left c.args.question.now.right c.args.sides.now) (sym c.as_slice-known.ensures.value) c.requires.sides

pub returns-in-Some : goal.returns-in-Some
returns-in-Some c =
    let q = c.args.question.now in
    let case = c.args.case.now in
    let k : ℕ = c.in-Some.test in
    guard_open q.tables c.requires.question.tables q c.requires.question.question q.queried c.requires.question.named case.decided.items case c.requires.case k
    (subst (λ (l : List Truth). IsWaitedByOne l q.left q.right k) c.as_slice-known.ensures.value c.in-Some.ensures)

pub are_covered-requires : goal.are_covered-requires
are_covered-requires c =
    let q = c.args.question.now in
    let known = c.args.case.now.begin.items in
    let x : TargetSide = c.args.sides.now.left in
    let y : TargetSide = c.args.sides.now.right in
    let none = c.in_default-waiting_guard.ensures in
    record {
      indexed = subst (λ (t : ActionPassParts). AreIndexed t.index t.pairs) (sym c.of-2.ensures.action_pass) c.requires.question.question.indexed;
      left = side_sure known q.right q.left x c.requires.sides.left (none_alone known q.right q.left x c.requires.sides.left none.0);
      right = side_sure known q.left q.right y c.requires.sides.right (none_alone known q.left q.right y c.requires.sides.right none.1);
    }

pub returns-in-Some-undecided_test_of_pairs : goal.returns-in-Some-undecided_test_of_pairs
returns-in-Some-undecided_test_of_pairs c =
    let q = c.args.question.now in
    let case = c.args.case.now in
    waits_open q.tables c.requires.question.tables q c.requires.question.question q.queried c.requires.question.named case.decided.items case c.requires.case c.in-Some-undecided_test_of_pairs.test c.in-Some-undecided_test_of_pairs.ensures

pub returns-in-Counts : goal.returns-in-Counts
returns-in-Counts c =
    let q = c.args.question.now in
    let case = c.args.case.now in
    let known = case.begin.items in
    let s : TargetSides = c.args.sides.now in
    let none : (s.left.waits ≡ None) × (s.right.waits ≡ None) = c.in_default-waiting_guard.ensures in
    let denoted = counted_as (λ (t : ActionPassParts) (ns : List NumberPair). AreSurelyMatched t.style ns t.universal s) c.of.result q.action_pass case.end.items false c.of.ensures.action_pass c.of.ensures.known c.of.ensures.also_open in
    let also = counted_as (λ (t : ActionPassParts) (ns : List NumberPair). AreCovered ns t.universal s) c.of-2.result q.action_pass case.end.items true c.of-2.ensures.action_pass c.of-2.ensures.known c.of-2.ensures.also_open in
    let over : (AreCovered (counting true case.end.items q.action_pass.pairs) q.action_pass.universal s → ⊥) ⊎ AreTestsSettled case.end.items q.action_pass.pairs =
    elim c.if-branch-2.branch [
      | then-branch-2+in_default-undecided_test_of_pairs w ↦ inr w.in_default-undecided_test_of_pairs.ensures
      | else-branch-2 w ↦ inl (λ m. iff_false c.in_ok-are_covered.ensures w.if-branch-2.false (also.1 m))
    ] in
    unmatched_fails q.tables c.requires.question.tables q c.requires.question.question q.queried c.requires.question.named case.decided.items case c.requires.case s c.requires.sides (subst (IsMoveStatus q case) c.in-Counts.is c.requires.the_move) none.0 none.1
    (sure_as q _ known c.are_universal.result false c.as_slice-known.ensures.value c.are_universal.ensures c.if-are_universal.false) (λ m. iff_false c.in_ok-are_matched.ensures c.if-branch.false (denoted.1 m)) over

pub returns-in-Tied-the_move : goal.returns-in-Tied-the_move
returns-in-Tied-the_move c =
    let q = c.args.question.now in
    let case = c.args.case.now in
    let waits = ⊎_elim (λ e. subst (IsMoveStatus q case) e c.requires.the_move) (λ e. subst (IsMoveStatus q case) e c.requires.the_move) c.in-Tied-the_move.is in
    waits_open q.tables c.requires.question.tables q c.requires.question.question q.queried c.requires.question.named case.decided.items case c.requires.case c.in-Tied-the_move.test waits

pub returns-in-Tied-the_move-2 : goal.returns-in-Tied-the_move-2
returns-in-Tied-the_move-2 c =
    let q = c.args.question.now in
    let case = c.args.case.now in
    let waits = ⊎_elim (λ e. subst (IsMoveStatus q case) e c.requires.the_move) (λ e. subst (IsMoveStatus q case) e c.requires.the_move) c.in-Tied-the_move.is in
    waits_open q.tables c.requires.question.tables q c.requires.question.question q.queried c.requires.question.named case.decided.items case c.requires.case c.in-Tied-the_move.test waits
