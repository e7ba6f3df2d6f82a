use Rattle.std.proofs.Common.{◌≡◌, ◌+◌, map, length, None, sym, ap, ◌∙◌, subst}
use Rattle.std.specs.Option.{option_map}
use Rattle.std.specs.Bool.{IsTrue}
use Rattle.std.proofs.lemmas.List.{length-map, length-replicate}
use Rattle.std.proofs.lemmas.Result.{IfOk-weaker}
use Rattle.kat_model.specs.Members.{Has}
use Rattle.term_nodes.specs.NumberSets.{are_below, terms_of}
use Rattle.certificate.specs.PairParts.{PairParts}
use Rattle.cert_checker.specs.NodeTables.{TablesGrow, nodes_in}
use Rattle.cert_checker.specs.Targets.{AreSteps, Represent, set_leads_to}
use Rattle.cert_checker.proofs.GrowingTables.{grows_trans}
use Rattle.cert_checker.proofs.TargetSets.{entries_kept}
use Rattle.cert_checker.specs.LeastFailures.{IsFirstFailure}
use Rattle.cert_checker.specs.Cases.{undecided}
use Rattle.cert_checker.specs.Questions.{ActionPassParts, QuestionParts, IsQueriedOf, MatchAt}
use Rattle.cert_checker.specs.Passes.{PassParts}
use Rattle.cert_checker.proofs.LeastFailures.{Below, unbounded}
use Rattle.cert_checker.proofs.Passes.{grown}
use Rattle.cert_checker.proofs.PairTurns.{by_path, pair_posed, pair_given}
use Rattle.cert_checker.proofs.PosedQuestions.{question_of, left_steps, right_steps, left_numbers, right_numbers, own_test}
use Rattle.cert_checker.proofs.places.pair_failure.Goals as goal

pub of_set-requires-clause-steps : goal.of_set-requires-clause-steps
of_set-requires-clause-steps c =
    let p = c.args.pass.now in
    let action_pass = c.args.action_pass.now in
    let r = c.args.pair.now in
    let t : c.pass.inside.tables ≡ p.tables = ap (λ (z : PassParts). z.tables) c.pass.view_is in
    let a : c.action_pass.inside.action ≡ action_pass.action = ap (λ (z : ActionPassParts). z.action) c.action_pass.view_is in
    let s : map (λ e. e.entries) c.deref.result.now ≡ action_pass.steps = ap (map (λ e. e.entries)) c.deref.ensures.value ∙ ap (λ (z : ActionPassParts). z.steps) c.action_pass.view_is in
    let l : c.as_slice.result.now ≡ r.left = c.as_slice.ensures ∙ ap (λ (z : PairParts). z.left) c.pair.view_is in
    (by_path (λ i. AreSteps (t i) (a i) (Has (l i)) (s i))).1 (left_steps p c.requires.pass action_pass c.requires.action_pass r c.requires.pair)

pub of_set-requires-clause-numbers : goal.of_set-requires-clause-numbers
of_set-requires-clause-numbers c =
    let p = c.args.pass.now in
    let action_pass = c.args.action_pass.now in
    let r = c.args.pair.now in
    let t : c.pass.inside.tables ≡ p.tables = ap (λ (z : PassParts). z.tables) c.pass.view_is in
    let a : c.action_pass.inside.action ≡ action_pass.action = ap (λ (z : ActionPassParts). z.action) c.action_pass.view_is in
    let s : map (λ e. e.entries) c.deref.result.now ≡ action_pass.steps = ap (map (λ e. e.entries)) c.deref.ensures.value ∙ ap (λ (z : ActionPassParts). z.steps) c.action_pass.view_is in
    let l : c.as_slice.result.now ≡ r.left = c.as_slice.ensures ∙ ap (λ (z : PairParts). z.left) c.pair.view_is in
    let n : length c.deref.result.now ≡ length action_pass.steps = sym (length-map c.deref.result.now (λ e. e.entries)) ∙ ap length s in
    (by_path (λ i. IsTrue (are_below (n i) (l i)))).1 (left_numbers p c.requires.pass action_pass c.requires.action_pass r c.requires.pair)

pub of_set-requires-2-clause-steps : goal.of_set-requires-2-clause-steps
of_set-requires-2-clause-steps c =
    let p = c.args.pass.now in
    let action_pass = c.args.action_pass.now in
    let r = c.args.pair.now in
    let t : c.pass.inside.tables ≡ p.tables = ap (λ (z : PassParts). z.tables) c.pass.view_is in
    let a : c.action_pass.inside.action ≡ action_pass.action = ap (λ (z : ActionPassParts). z.action) c.action_pass.view_is in
    let s : map (λ e. e.entries) c.deref-2.result.now ≡ action_pass.steps = ap (map (λ e. e.entries)) c.deref-2.ensures.value ∙ ap (λ (z : ActionPassParts). z.steps) c.action_pass.view_is in
    let k : c.as_slice-2.result.now ≡ r.right = c.as_slice-2.ensures ∙ ap (λ (z : PairParts). z.right) c.pair.view_is in
    let mid = c.of_set.new.tables in
    let to_mid = subst (λ z. TablesGrow z mid) t c.of_set.ensures.grows.grows in
    (by_path (λ i. AreSteps mid (a i) (Has (k i)) (s i))).1 (right_steps p c.requires.pass action_pass c.requires.action_pass r c.requires.pair mid to_mid)

pub of_set-requires-2-clause-numbers : goal.of_set-requires-2-clause-numbers
of_set-requires-2-clause-numbers c =
    let p = c.args.pass.now in
    let action_pass = c.args.action_pass.now in
    let r = c.args.pair.now in
    let t : c.pass.inside.tables ≡ p.tables = ap (λ (z : PassParts). z.tables) c.pass.view_is in
    let a : c.action_pass.inside.action ≡ action_pass.action = ap (λ (z : ActionPassParts). z.action) c.action_pass.view_is in
    let s : map (λ e. e.entries) c.deref-2.result.now ≡ action_pass.steps = ap (map (λ e. e.entries)) c.deref-2.ensures.value ∙ ap (λ (z : ActionPassParts). z.steps) c.action_pass.view_is in
    let k : c.as_slice-2.result.now ≡ r.right = c.as_slice-2.ensures ∙ ap (λ (z : PairParts). z.right) c.pair.view_is in
    let n : length c.deref-2.result.now ≡ length action_pass.steps = sym (length-map c.deref-2.result.now (λ e. e.entries)) ∙ ap length s in
    (by_path (λ i. IsTrue (are_below (n i) (k i)))).1 (right_numbers p c.requires.pass action_pass c.requires.action_pass r c.requires.pair)

pub of-requires-clause-pair_test : goal.of-requires-clause-pair_test
of-requires-clause-pair_test c =
    let p = c.args.pass.now in
    let r = c.args.pair.now in
    let t : c.pass.inside.tables ≡ p.tables = ap (λ (z : PassParts). z.tables) c.pass.view_is in
    let mid = c.of_set.new.tables in
    let to_mid = subst (λ z. TablesGrow z mid) t c.of_set.ensures.grows.grows in
    λ k e. own_test p c.requires.pass r c.requires.pair mid c.of_set-2.new.tables to_mid c.of_set-2.ensures.grows.grows k (sym (ap (λ (z : PairParts). z.test) c.pair.view_is) ∙ e)

pub of-requires-clause-left : goal.of-requires-clause-left
of-requires-clause-left c =
    let to_last = c.of_set-2.ensures.grows.grows in
    entries_kept c.of_set.new.tables c.of_set-2.new.tables to_last.was to_last c.in_ok-left.left.entries c.in_ok-left.ensures.targets.entries

pub of-requires-clause-right : goal.of-requires-clause-right
of-requires-clause-right c = c.in_ok-right.ensures.targets.entries

pub least_failure-requires-clause-question : goal.least_failure-requires-clause-question
least_failure-requires-clause-question c =
    let p = c.args.pass.now in
    let action_pass = c.args.action_pass.now in
    let r = c.args.pair.now in
    let t : c.pass.inside.tables ≡ p.tables = ap (λ (z : PassParts). z.tables) c.pass.view_is in
    let a : c.action_pass.inside.action ≡ action_pass.action = ap (λ (z : ActionPassParts). z.action) c.action_pass.view_is in
    let l : c.as_slice.result.now ≡ r.left = c.as_slice.ensures ∙ ap (λ (z : PairParts). z.left) c.pair.view_is in
    let k : c.as_slice-2.result.now ≡ r.right = c.as_slice-2.ensures ∙ ap (λ (z : PairParts). z.right) c.pair.view_is in
    let mid = c.of_set.new.tables in
    let to_mid = subst (λ z. TablesGrow z mid) t c.of_set.ensures.grows.grows in
    let last = c.of_set-2.new.tables in
    let to_last = c.of_set-2.ensures.grows.grows in
    let lefts = c.in_ok-left.left.entries in
    let rights = c.in_ok-right.right.entries in
    let own = (by_path (λ i. Represent mid lefts (set_leads_to (a i) (terms_of (nodes_in (t i)) (l i))))).0 c.in_ok-left.ensures.targets in
    let other = (by_path (λ i. Represent last rights (set_leads_to (a i) (terms_of (nodes_in mid) (k i))))).0 c.in_ok-right.ensures.targets in
    let test : c.pair.inside.test ≡ r.test = ap (λ (z : PairParts). z.test) c.pair.view_is in
    let q = c.in_ok-question.question in
    let queried : IsQueriedOf last action_pass r.test lefts rights q = c.in_ok-question.ensures.question ∙ ap (λ o. question_of last action_pass o lefts rights q.queried) test in
    pair_posed p mid last c.requires.pass to_mid to_last action_pass c.requires.action_pass r c.requires.pair lefts rights own other q queried c.in_ok-question.ensures.named

pub least_failure-requires-clause-decided : goal.least_failure-requires-clause-decided
least_failure-requires-clause-decided c =
    let p = c.args.pass.now in
    let t : c.pass.inside.tables ≡ p.tables = ap (λ (z : PassParts). z.tables) c.pass.view_is in
    let w : c.in_ok-question.question.tables.width ≡ p.tables.width =
    ap (λ (q : QuestionParts). q.tables.width) c.in_ok-question.ensures.question ∙ c.of_set-2.ensures.grows.grows.width ∙ c.of_set.ensures.grows.grows.width ∙ ap (λ z. z.width) t in
    ap length c.requires.undecided ∙ length-replicate (p.tables.width + p.tables.width) None ∙ ap (λ n. n + n) (sym w)

pub returns-clause-failure : goal.returns-clause-failure
returns-clause-failure c =
    let p = c.args.pass.now in
    let action_pass = c.args.action_pass.now in
    let r = c.args.pair.now in
    let t : c.pass.inside.tables ≡ p.tables = ap (λ (z : PassParts). z.tables) c.pass.view_is in
    let a : c.action_pass.inside.action ≡ action_pass.action = ap (λ (z : ActionPassParts). z.action) c.action_pass.view_is in
    let l : c.as_slice.result.now ≡ r.left = c.as_slice.ensures ∙ ap (λ (z : PairParts). z.left) c.pair.view_is in
    let k : c.as_slice-2.result.now ≡ r.right = c.as_slice-2.ensures ∙ ap (λ (z : PairParts). z.right) c.pair.view_is in
    let mid = c.of_set.new.tables in
    let to_mid = subst (λ z. TablesGrow z mid) t c.of_set.ensures.grows.grows in
    let last = c.of_set-2.new.tables in
    let to_last = c.of_set-2.ensures.grows.grows in
    let lefts = c.in_ok-left.left.entries in
    let rights = c.in_ok-right.right.entries in
    let own = (by_path (λ i. Represent mid lefts (set_leads_to (a i) (terms_of (nodes_in (t i)) (l i))))).0 c.in_ok-left.ensures.targets in
    let other = (by_path (λ i. Represent last rights (set_leads_to (a i) (terms_of (nodes_in mid) (k i))))).0 c.in_ok-right.ensures.targets in
    let test : c.pair.inside.test ≡ r.test = ap (λ (z : PairParts). z.test) c.pair.view_is in
    let q = c.in_ok-question.question in
    let queried : IsQueriedOf last action_pass r.test lefts rights q = c.in_ok-question.ensures.question ∙ ap (λ o. question_of last action_pass o lefts rights q.queried) test in
    let given = pair_given p mid last c.requires.pass to_mid to_last action_pass c.requires.action_pass r c.requires.pair lefts rights own other q in
    IfOk-weaker c.least_failure.result _ _
    (λ o f. given (option_map (λ v. v.items) o) queried (unbounded (MatchAt q.tables q) (undecided (p.tables.width + p.tables.width)) (option_map (λ v. v.items) o) (subst (λ ds. IsFirstFailure (Below (MatchAt q.tables q) None) ds (option_map (λ v. v.items) o)) c.requires.undecided f)))
    c.least_failure.ensures.failure

pub returns-clause-grows : goal.returns-clause-grows
returns-clause-grows c = grown c.of_set-2.new.tables c.pass.view_is (grows_trans c.pass.inside.tables c.of_set.new.tables c.of_set-2.new.tables c.of_set.ensures.grows.grows c.of_set-2.ensures.grows.grows)

pub returns-in_err-right-clause-grows : goal.returns-in_err-right-clause-grows
returns-in_err-right-clause-grows c = grown c.of_set-2.new.tables c.pass.view_is (grows_trans c.pass.inside.tables c.of_set.new.tables c.of_set-2.new.tables c.of_set.ensures.grows.grows c.of_set-2.ensures.grows.grows)

pub returns-in_err-question-clause-grows : goal.returns-in_err-question-clause-grows
returns-in_err-question-clause-grows c = grown c.of_set-2.new.tables c.pass.view_is (grows_trans c.pass.inside.tables c.of_set.new.tables c.of_set-2.new.tables c.of_set.ensures.grows.grows c.of_set-2.ensures.grows.grows)

pub returns-in_err-left-clause-grows : goal.returns-in_err-left-clause-grows
returns-in_err-left-clause-grows c = grown c.of_set.new.tables c.pass.view_is c.of_set.ensures.grows.grows
