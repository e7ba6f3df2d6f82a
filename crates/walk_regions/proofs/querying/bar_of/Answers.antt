use Rattle.std.proofs.Common.{[], ◌∷◌, refl, sym, subst}
use Rattle.kat_model.specs.Steps.{set_out}
use Rattle.term_nodes.specs.NodeTrees.{tree_at}
use Rattle.test_diagrams.specs.Functions.{IsDiagramOf}
use Rattle.test_diagrams.proofs.Kept.{IsDiagramOf-kept}
use Rattle.partial_derivs.proofs.Kept.{Keeps-trans, Keeps-functions}
use Rattle.partial_derivs.proofs.Tables.{AreRight-kept}
use Rattle.walk_regions.proofs.querying.bar_of.Goals as goal

pub returns-in_err-fresh-clause-right : goal.returns-in_err-fresh-clause-right
returns-in_err-fresh-clause-right c = AreRight-kept c.accepted_by.new.store c.accepted_by.new.store c.accepted_by.new.diagrams c.fresh_tests.new.diagrams c.accepted_by.new.derivatives (Keeps-functions c.accepted_by.new.store c.accepted_by.new.diagrams c.fresh_tests.new.diagrams c.in_err-fresh.ensures.kept) c.in_ok-to.ensures.right

pub returns-in_err-fresh-clause-kept : goal.returns-in_err-fresh-clause-kept
returns-in_err-fresh-clause-kept c = Keeps-trans _ _ _ _ _ _ c.in_ok-to.ensures.kept (Keeps-functions _ _ _ c.in_err-fresh.ensures.kept)

pub returns-clause-bar : goal.returns-clause-bar
returns-clause-bar c = record {
  from = refl;
  to =
      subst (λ e. IsDiagramOf c.fresh_tests.new.diagrams c.in_ok-to.to (set_out (e ∷ []))) (sym (c.in_ok-to.ensures.kept.trees.trees c.args.guarded.now.to c.requires.to.is_id))
      (IsDiagramOf-kept c.accepted_by.new.diagrams c.fresh_tests.new.diagrams c.in_ok-fresh.ensures.kept c.in_ok-to.to (set_out (tree_at c.args.store.now c.args.guarded.now.to ∷ [])) c.in_ok-to.ensures.accepted);
}

pub returns-clause-right : goal.returns-clause-right
returns-clause-right c = AreRight-kept c.accepted_by.new.store c.accepted_by.new.store c.accepted_by.new.diagrams c.fresh_tests.new.diagrams c.accepted_by.new.derivatives (Keeps-functions c.accepted_by.new.store c.accepted_by.new.diagrams c.fresh_tests.new.diagrams c.in_ok-fresh.ensures.kept) c.in_ok-to.ensures.right

pub returns-clause-kept : goal.returns-clause-kept
returns-clause-kept c = Keeps-trans _ _ _ _ _ _ c.in_ok-to.ensures.kept (Keeps-functions _ _ _ c.in_ok-fresh.ensures.kept)

pub accepted_by-requires-clause-term : goal.accepted_by-requires-clause-term
accepted_by-requires-clause-term c = c.requires.to

pub accepted_by-requires-clause-right : goal.accepted_by-requires-clause-right
accepted_by-requires-clause-right c = c.requires.right

pub returns-in_err-to-clause-right : goal.returns-in_err-to-clause-right
returns-in_err-to-clause-right c = c.in_err-to.ensures.right

pub returns-in_err-to-clause-kept : goal.returns-in_err-to-clause-kept
returns-in_err-to-clause-kept c = c.in_err-to.ensures.kept

pub fresh_tests-requires-clause-id : goal.fresh_tests-requires-clause-id
fresh_tests-requires-clause-id c = c.in_ok-to.ensures.kept.functions.ids c.args.guarded.now.guard c.requires.guard

pub returns-clause-fresh : goal.returns-clause-fresh
returns-clause-fresh c = c.in_ok-fresh.ensures.fresh
