use Rattle.std.proofs.Common.{sym, subst}
use Rattle.std.proofs.lemmas.Result.{IfOk-weaker}
use Rattle.partial_derivs.specs.Moves.{IsTermOf}
use Rattle.partial_derivs.proofs.Kept.{Keeps-itself, Keeps-trans}
use Rattle.partial_derivs.proofs.Unions.{union_step, union_end}
use Rattle.partial_derivs.proofs.derivatives.Derivatives.step.Goals as goal

pub loop-term-init : goal.loop-term-init
loop-term-init c = record {
  union = c.new-whole.ensures.none c.args.store.now;
  right = c.requires.right;
  kept = Keeps-itself c.args.store.now c.args.diagrams.now;
}

pub returns-in_err-add_term-clause-kept : goal.returns-in_err-add_term-clause-kept
returns-in_err-add_term-clause-kept c = Keeps-trans _ _ _ _ _ _ c.loop-term.invariant.kept c.in_err-add_term.ensures.kept

pub loop-term-preserved : goal.loop-term-preserved
loop-term-preserved c =
    let before = c.loop-term.invariant in
    let added = c.in_ok-add_term.ensures in
    let there : IsTermOf c.args.store.now c.args.diagrams.now.tests c.term-item.result =
    subst (IsTermOf c.args.store.now c.args.diagrams.now.tests) (sym c.term-item.is) (c.requires.terms c.loop-term.term-index c.term-item.result c.loop-term-test.true) in
    record {
      union = union_step c.args.store.now _ _ _ _ c.args.terms.now c.loop-term.term-index c.term-item.result _ _ c.loop-term-test.true c.term-item.is
          (before.kept.trees.trees c.term-item.result there.is_id) added.added before.union;
      right = added.right;
      kept = Keeps-trans _ _ _ _ _ _ before.kept added.kept;
    }

pub returns-clause-steps : goal.returns-clause-steps
returns-clause-steps c =
    IfOk-weaker c.steps.result _ _
    (λ s steps. steps c.loop-term.store c.loop-term.diagrams _ _ (union_end c.args.store.now _ _ c.args.terms.now c.loop-term.term-index _ c.loop-term-test.false c.loop-term.invariant.union))
    c.steps.ensures
