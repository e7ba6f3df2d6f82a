use Rattle.std.proofs.Common.{◌≡◌, ◌+◌, ℕ, length, Vec, Global, sym, ap, ◌∙◌, subst, arith}
use Rattle.test_diagrams.proofs.Kept.{KeepsFunctions-itself, KeepsFunctions-trans}
use Rattle.walk_regions.specs.Working.Querying.{AreFreshTests}
use Rattle.walk_regions.proofs.QueriedTests.{fresh_first, fresh_skipped, fresh_pushed}
use Rattle.walk_regions.proofs.querying.fresh_tests.Goals as goal
use Rattle.walk_regions.proofs.querying.fresh_tests.Goals.{then-branch+in_ok-push, else-branch}

pub loop-test-init : goal.loop-test-init
loop-test-init c = record {
  kept = KeepsFunctions-itself c.args.diagrams.now;
  fresh = subst (AreFreshTests c.args.diagrams.now c.args.id c.args.queried.now c.args.queried.now 0) (sym c.new-fresh.ensures.items) (fresh_first c.args.diagrams.now c.args.id c.args.queried.now);
}

pub returns-in_err-queries_first-clause-kept : goal.returns-in_err-queries_first-clause-kept
returns-in_err-queries_first-clause-kept c = KeepsFunctions-trans _ _ _ c.loop-test.invariant.kept c.in_err-queries_first.ensures.kept

pub returns-in_err-push-clause-kept : goal.returns-in_err-push-clause-kept
returns-in_err-push-clause-kept c = KeepsFunctions-trans _ _ _ c.loop-test.invariant.kept c.in_ok-queries_first.ensures.kept

pub loop-test-preserved : goal.loop-test-preserved
loop-test-preserved c =
    let d = c.queries_first.new.diagrams in
    let before = c.loop-test.invariant in
    let is = before.kept.ids c.args.id c.requires.id in
    let kept = c.in_ok-queries_first.ensures.kept in
    record {
      kept = KeepsFunctions-trans c.args.diagrams.now c.loop-test.diagrams d before.kept kept;
      fresh =
          elim c.if-branch.branch [
            | then-branch+in_ok-push w ↦
                subst (AreFreshTests d c.args.id c.args.queried.now c.queries_first.new.queried (c.loop-test.test + 1)) (sym (ap (λ (v : Vec ℕ Global). v.items) w.fresh-is ∙ w.in_ok-push.ensures.items))
                (fresh_pushed c.loop-test.diagrams d kept c.args.id is c.args.queried.now c.loop-test.queried c.queries_first.new.queried c.loop-test.test c.loop-test.fresh.items before.fresh c.in_ok-queries_first.field-0 c.in_ok-queries_first.ensures.queries w.if-branch.true)
            | else-branch w ↦
                subst (AreFreshTests d c.args.id c.args.queried.now c.queries_first.new.queried (c.loop-test.test + 1)) (sym (ap (λ (v : Vec ℕ Global). v.items) w.fresh-is))
                (fresh_skipped c.loop-test.diagrams d kept c.args.id is c.args.queried.now c.loop-test.queried c.queries_first.new.queried c.loop-test.test c.loop-test.fresh.items before.fresh c.in_ok-queries_first.field-0 c.in_ok-queries_first.ensures.queries)
          ];
    }

pub queries_first-requires-clause-id : goal.queries_first-requires-clause-id
queries_first-requires-clause-id c = c.loop-test.invariant.kept.ids c.args.id c.requires.id

pub queries_first-requires-clause-tests : goal.queries_first-requires-clause-tests
queries_first-requires-clause-tests c = c.loop-test.auto.queried ∙ c.requires.tests ∙ sym c.loop-test.invariant.kept.tests

pub returns-clause-fresh : goal.returns-clause-fresh
returns-clause-fresh c = let same : c.loop-test.test ≡ length c.args.queried.now = omega arith in subst (λ n. AreFreshTests c.loop-test.diagrams c.args.id c.args.queried.now c.loop-test.queried n c.loop-test.fresh.items) same c.loop-test.invariant.fresh

pub returns-clause-kept : goal.returns-clause-kept
returns-clause-kept c = c.loop-test.invariant.kept
