use Rattle.std.proofs.Common.{◌≡◌, ◌≤◌, ℕ, List, length, Option, IfSome, sym, ap, ◌∙◌, subst}
use Rattle.std.specs.Option.{option_or}
use Rattle.std.proofs.lemmas.Bool.{or_left}
use Rattle.cert_checker.specs.Cases.{falsely, known_test}
use Rattle.cert_checker.specs.Questions.{ActionPassParts, QuestionParts}
use Rattle.cert_checker.specs.Waiting.{IsWaited}
use Rattle.cert_checker.proofs.MoveTurns.{begun, ended, excluded_here, next_given}
use Rattle.cert_checker.proofs.moves.move_status.Goals as goal

pub returns-then-is_false : goal.returns-then-is_false
returns-then-is_false c =
    let q = c.args.question.now in
    let own : c.test_value-own.result ≡ known_test c.args.case.now.begin.items q.pair_test = c.test_value-own.ensures ∙ (λ i. known_test (c.as_slice-begin.ensures.value i) (ap (λ (p : QuestionParts). p.pair_test) c.question.view_is i)) in
    or_left (falsely (known_test c.args.case.now.begin.items q.pair_test)) _ (ap falsely (sym own) ∙ sym c.is_false.ensures ∙ c.if-is_false.true)

pub loop-from-init : goal.loop-from-init
loop-from-init c =
    let q = c.args.question.now in
    let own : c.test_value-own.result ≡ known_test c.args.case.now.begin.items q.pair_test = c.test_value-own.ensures ∙ (λ i. known_test (c.as_slice-begin.ensures.value i) (ap (λ (p : QuestionParts). p.pair_test) c.question.view_is i)) in
    rw c.undecided_in-waiting.ensures (begun q c.args.case.now c.test_value-own.result (sym own) (sym c.is_false.ensures ∙ c.if-is_false.false))

pub returns-then-is_true : goal.returns-then-is_true
returns-then-is_true c =
    let fs : List (ℕ × ℕ) = c.deref-from-items.result.now in
    let is : fs ≡ c.args.question.now.action_pass.forbidden = c.deref-from-items.ensures.value ∙ ap (λ (t : ActionPassParts). t.forbidden) c.action_pass.view_is ∙ ap (λ (q : QuestionParts). q.action_pass.forbidden) c.question.view_is in
    excluded_here c.args.question.now c.args.case.now fs is c.as_slice-begin.result.now c.as_slice-end.result.now c.as_slice-begin.ensures.value c.as_slice-end.ensures.value c.loop-from.from-index _ c.loop-from-test.true
    c.value_of-first.result c.value_of-second.result c.conjunction.result c.value_of-first.ensures c.value_of-second.ensures c.conjunction.ensures c.loop-from.tied c.loop-from.waiting c.loop-from.tied c.loop-from.waiting c.loop-from.invariant
    (sym c.is_true.ensures ∙ c.if-is_true.true)

pub loop-from-preserved : goal.loop-from-preserved
loop-from-preserved c =
    let fs : List (ℕ × ℕ) = c.deref-from-items.result.now in
    let is : fs ≡ c.args.question.now.action_pass.forbidden = c.deref-from-items.ensures.value ∙ ap (λ (t : ActionPassParts). t.forbidden) c.action_pass.view_is ∙ ap (λ (q : QuestionParts). q.action_pass.forbidden) c.question.view_is in
    next_given c.args.question.now c.args.case.now fs is c.as_slice-begin.result.now c.as_slice-end.result.now c.as_slice-begin.ensures.value c.as_slice-end.ensures.value c.loop-from.from-index _ c.loop-from-test.true
    c.value_of-first.result c.value_of-second.result c.conjunction.result c.value_of-first.ensures c.value_of-second.ensures c.conjunction.ensures c.loop-from.tied c.loop-from.waiting c.or-tied.result c.or-waiting.result c.loop-from.invariant
    (sym c.is_true.ensures ∙ c.if-is_true.false)
    (c.or-tied.ensures ∙ ap (option_or c.loop-from.tied) c.tied_by.ensures) (c.or-waiting.ensures ∙ ap (option_or c.loop-from.waiting) c.loose_by.ensures)

pub returns-in-Some : goal.returns-in-Some
returns-in-Some c = subst (λ (o : Option ℕ). IfSome o (IsWaited c.args.question.now c.args.case.now)) c.in-Some.is c.loop-from.invariant.tied_waits

pub returns-in-Some-waiting : goal.returns-in-Some-waiting
returns-in-Some-waiting c = subst (λ (o : Option ℕ). IfSome o (IsWaited c.args.question.now c.args.case.now)) c.in-Some-waiting.is c.loop-from.invariant.waits

pub returns : goal.returns
returns c =
    let fs : List (ℕ × ℕ) = c.deref-from-items.result.now in
    let is : fs ≡ c.args.question.now.action_pass.forbidden = c.deref-from-items.ensures.value ∙ ap (λ (t : ActionPassParts). t.forbidden) c.action_pass.view_is ∙ ap (λ (q : QuestionParts). q.action_pass.forbidden) c.question.view_is in
    ended c.args.question.now c.args.case.now c.loop-from.from-index c.loop-from.tied c.loop-from.waiting (subst (λ (l : List (ℕ × ℕ)). length l ≤ c.loop-from.from-index) is c.loop-from-test.false) c.loop-from.invariant c.in_default.is c.in_default-waiting.is
