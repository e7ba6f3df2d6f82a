use Rattle.std.proofs.Common.{◌≡◌, ◌+◌, length, None, sym, ap, ◌∙◌, subst, arith}
use Rattle.std.specs.Option.{option_map}
use Rattle.std.proofs.lemmas.List.{length-replicate}
use Rattle.cert_checker.specs.NodeTables.{TablesGrow, IsTest}
use Rattle.cert_checker.proofs.GrowingTables.{grows_trans}
use Rattle.cert_checker.proofs.TargetSets.{test_within}
use Rattle.cert_checker.specs.LeastFailures.{IsFirstFailure}
use Rattle.cert_checker.specs.Cases.{undecided}
use Rattle.cert_checker.specs.Questions.{QuestionParts, MatchAt}
use Rattle.cert_checker.specs.Passes.{PassParts}
use Rattle.cert_checker.proofs.FirstPairs.{throughout_entries, throughout_posed, throughout_given}
use Rattle.cert_checker.proofs.LeastFailures.{Below, unbounded}
use Rattle.cert_checker.proofs.PosedQuestions.{narrow}
use Rattle.cert_checker.proofs.Passes.{passes_itself, grown}
use Rattle.cert_checker.proofs.first_pairs.holds_in.Goals as goal

pub empty_product-requires : goal.empty_product-requires
empty_product-requires c =
    let p = c.args.pass.now in
    let t : c.pass.inside.tables ≡ p.tables = ap (λ (z : PassParts). z.tables) c.pass.view_is in
    test_within c.pass.inside.tables c.constant.new.self c.constant.ensures.grows.grows.was c.constant.ensures.grows.grows c.args.test (subst (λ z. IsTest z c.args.test) (sym t) c.requires.is_test)

pub empty_product-requires-2 : goal.empty_product-requires-2
empty_product-requires-2 c = test_within c.constant.new.self c.empty_product.new.tables c.empty_product.ensures.grows.was c.empty_product.ensures.grows c.in_ok-always.always c.in_ok-always.ensures.values.0

pub new-requires : goal.new-requires
new-requires c =
    let p = c.args.pass.now in
    let t : c.pass.inside.tables ≡ p.tables = ap (λ (z : PassParts). z.tables) c.pass.view_is in
    let second = c.constant.new.self in
    let third = c.empty_product.new.tables in
    let last = c.empty_product-2.new.tables in
    let to_second = subst (λ z. TablesGrow z second) t c.constant.ensures.grows.grows in
    let there = narrow p c.requires.pass in
    omega (arith, there, c.width.ensures, c.empty_product-2.ensures.grows.width, c.empty_product.ensures.grows.width, to_second.width)

pub of-requires-clause-left : goal.of-requires-clause-left
of-requires-clause-left c =
    let p = c.args.pass.now in
    let t : c.pass.inside.tables ≡ p.tables = ap (λ (z : PassParts). z.tables) c.pass.view_is in
    let second = c.constant.new.self in
    let third = c.empty_product.new.tables in
    let last = c.empty_product-2.new.tables in
    let to_second = subst (λ z. TablesGrow z second) t c.constant.ensures.grows.grows in
    throughout_entries p p (passes_itself p c.requires.pass) c.requires.pass second third last to_second c.empty_product.ensures.grows c.empty_product-2.ensures.grows c.args.action_pass.now c.requires.action_pass c.requires.outputs c.args.test c.in_ok-always.always c.requires.is_test c.in_ok-always.ensures.values c.in_ok-left.left.entries c.in_ok-right.right.entries c.in_ok-left.ensures.targets c.in_ok-right.ensures.targets

pub of-requires-clause-right : goal.of-requires-clause-right
of-requires-clause-right c = c.in_ok-right.ensures.targets.entries

pub least_failure-requires-clause-question : goal.least_failure-requires-clause-question
least_failure-requires-clause-question c =
    let p = c.args.pass.now in
    let t : c.pass.inside.tables ≡ p.tables = ap (λ (z : PassParts). z.tables) c.pass.view_is in
    let second = c.constant.new.self in
    let third = c.empty_product.new.tables in
    let last = c.empty_product-2.new.tables in
    let to_second = subst (λ z. TablesGrow z second) t c.constant.ensures.grows.grows in
    throughout_posed p p (passes_itself p c.requires.pass) c.requires.pass second third last to_second c.empty_product.ensures.grows c.empty_product-2.ensures.grows c.args.action_pass.now c.requires.action_pass c.requires.outputs c.args.test c.in_ok-always.always c.requires.is_test c.in_ok-always.ensures.values c.in_ok-left.left.entries c.in_ok-right.right.entries c.in_ok-left.ensures.targets c.in_ok-right.ensures.targets c.in_ok-question.question c.in_ok-question.ensures.question c.in_ok-question.ensures.named

pub least_failure-requires-clause-decided : goal.least_failure-requires-clause-decided
least_failure-requires-clause-decided c =
    let w : c.width.result ≡ c.in_ok-question.question.tables.width = c.width.ensures ∙ sym (ap (λ (q : QuestionParts). q.tables.width) c.in_ok-question.ensures.question) in
    ap length c.in_ok-case.ensures ∙ length-replicate (c.width.result + c.width.result) None ∙ ap (λ n. n + n) w

pub returns-clause-holds : goal.returns-clause-holds
returns-clause-holds c =
    let p = c.args.pass.now in
    let t : c.pass.inside.tables ≡ p.tables = ap (λ (z : PassParts). z.tables) c.pass.view_is in
    let second = c.constant.new.self in
    let third = c.empty_product.new.tables in
    let last = c.empty_product-2.new.tables in
    let to_second = subst (λ z. TablesGrow z second) t c.constant.ensures.grows.grows in
    let q = c.in_ok-question.question in
    let o = option_map (λ v. v.items) c.in_ok-least_failure.field-0 in
    let ds = c.in_ok-case.ensures ∙ ap (λ n. undecided (n + n)) c.width.ensures in
    throughout_given p p (passes_itself p c.requires.pass) c.requires.pass second third last to_second c.empty_product.ensures.grows c.empty_product-2.ensures.grows c.args.action_pass.now c.requires.action_pass c.requires.outputs c.args.test c.in_ok-always.always c.requires.is_test c.in_ok-always.ensures.values c.in_ok-left.left.entries c.in_ok-right.right.entries c.in_ok-left.ensures.targets c.in_ok-right.ensures.targets
    q c.in_ok-question.ensures.question (λ v. v.items) c.in_ok-least_failure.field-0 c.is_none.result c.is_none.ensures
    (unbounded (MatchAt q.tables q) (undecided (last.width + last.width)) o (subst (λ l. IsFirstFailure (Below (MatchAt q.tables q) None) l o) ds c.in_ok-least_failure.ensures.failure))

pub returns-clause-grows : goal.returns-clause-grows
returns-clause-grows c = grown c.empty_product-2.new.tables c.pass.view_is (grows_trans c.pass.inside.tables c.empty_product.new.tables c.empty_product-2.new.tables (grows_trans c.pass.inside.tables c.constant.new.self c.empty_product.new.tables c.constant.ensures.grows.grows c.empty_product.ensures.grows) c.empty_product-2.ensures.grows)

pub returns-in_err-always-clause-grows : goal.returns-in_err-always-clause-grows
returns-in_err-always-clause-grows c = grown c.constant.new.self c.pass.view_is c.constant.ensures.grows.grows

pub returns-in_err-left-clause-grows : goal.returns-in_err-left-clause-grows
returns-in_err-left-clause-grows c = grown c.empty_product.new.tables c.pass.view_is (grows_trans c.pass.inside.tables c.constant.new.self c.empty_product.new.tables c.constant.ensures.grows.grows c.empty_product.ensures.grows)

pub returns-in_err-right-clause-grows : goal.returns-in_err-right-clause-grows
returns-in_err-right-clause-grows c = grown c.empty_product-2.new.tables c.pass.view_is (grows_trans c.pass.inside.tables c.empty_product.new.tables c.empty_product-2.new.tables (grows_trans c.pass.inside.tables c.constant.new.self c.empty_product.new.tables c.constant.ensures.grows.grows c.empty_product.ensures.grows) c.empty_product-2.ensures.grows)

pub returns-in_err-case-clause-grows : goal.returns-in_err-case-clause-grows
returns-in_err-case-clause-grows c = grown c.empty_product-2.new.tables c.pass.view_is (grows_trans c.pass.inside.tables c.empty_product.new.tables c.empty_product-2.new.tables (grows_trans c.pass.inside.tables c.constant.new.self c.empty_product.new.tables c.constant.ensures.grows.grows c.empty_product.ensures.grows) c.empty_product-2.ensures.grows)

pub returns-in_err-question-clause-grows : goal.returns-in_err-question-clause-grows
returns-in_err-question-clause-grows c = grown c.empty_product-2.new.tables c.pass.view_is (grows_trans c.pass.inside.tables c.empty_product.new.tables c.empty_product-2.new.tables (grows_trans c.pass.inside.tables c.constant.new.self c.empty_product.new.tables c.constant.ensures.grows.grows c.empty_product.ensures.grows) c.empty_product-2.ensures.grows)

pub returns-in_err-least_failure-clause-grows : goal.returns-in_err-least_failure-clause-grows
returns-in_err-least_failure-clause-grows c = grown c.empty_product-2.new.tables c.pass.view_is (grows_trans c.pass.inside.tables c.empty_product.new.tables c.empty_product-2.new.tables (grows_trans c.pass.inside.tables c.constant.new.self c.empty_product.new.tables c.constant.ensures.grows.grows c.empty_product.ensures.grows) c.empty_product-2.ensures.grows)
