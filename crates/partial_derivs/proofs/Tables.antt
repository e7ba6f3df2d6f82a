-- Tables of derivatives.
use Rattle.std.specs.Prelude.{◌↔◌}
use Rattle.std.proofs.Common.{◌≡◌, ⊎_elim, ℕ, Bool, true, Some, sym, subst}
use Rattle.std.specs.Map.{lookup}
use Rattle.indexmap.specs.IndexMap.{insert_entry}
use Rattle.kat_model.specs.Trees.{Term}
use Rattle.kat_model.specs.Members.{Has}
use Rattle.kat_model.specs.Steps.{out, next}
use Rattle.term_nodes.specs.NodeLists.{NodeParts}
use Rattle.term_nodes.specs.NodeTrees.{tree_at}
use Rattle.test_diagrams.specs.Functions.{DiagramsParts, IsDiagramOf}
use Rattle.partial_derivs.specs.declared.moves.Steps.{Steps}
use Rattle.partial_derivs.specs.declared.derivatives.Derivatives.{Derivatives}
use Rattle.partial_derivs.specs.Moves.{IsTermOf, AreGuards, AreTargets, AreMerged, LeadsTo, IsDerivativeOf, Keeps}
use Rattle.partial_derivs.specs.Tables.{IsRight, AreRight}
use Rattle.partial_derivs.proofs.Kept.{IsTermOf-kept, IsStepsBy-kept}
use Rattle.partial_derivs.proofs.Entries.{insert_entry_has, lookup_has}

-- a derivative stays a derivative if old ids keep their trees and functions
pub IsDerivativeOf-kept : (s t : NodeParts) (c d : DiagramsParts) (e : Term) (steps : Steps) → Keeps s t c d → IsDerivativeOf s c e steps → IsDerivativeOf t d e steps
IsDerivativeOf-kept s t c d e steps kept is = IsStepsBy-kept s t c d kept (out e) (next e) steps is

-- so does a correct table
pub AreRight-kept : (s t : NodeParts) (c d : DiagramsParts) (derivatives : Derivatives) → Keeps s t c d → AreRight s c derivatives → AreRight t d derivatives
AreRight-kept s t c d derivatives kept right entry h =
    let is = right entry h in
    record {
      term = IsTermOf-kept s t c d kept entry.0 is.term;
      steps_of = subst (λ e. IsDerivativeOf t d e entry.1) (sym (kept.trees.trees entry.0 is.term.is_id)) (IsDerivativeOf-kept s t c d (tree_at s entry.0) entry.1 kept is.steps_of);
    }

-- the derivative of a term of the old store is correct for its id
pub right_derived : (s t : NodeParts) (c d : DiagramsParts) (i : ℕ) (steps : Steps) → Keeps s t c d → IsTermOf s c.tests i → IsDerivativeOf t d (tree_at s i) steps → IsRight t d i steps
right_derived s t c d i steps kept there is = record {
  term = IsTermOf-kept s t c d kept i there;
  steps_of = subst (λ e. IsDerivativeOf t d e steps) (sym (kept.trees.trees i there.is_id)) is;
}

-- steps with equal parts are the same derivative
pub same_steps : (store : NodeParts) (d : DiagramsParts) (e : Term) (steps copy : Steps) → copy.accepts ≡ steps.accepts → copy.moves.items ≡ steps.moves.items → IsDerivativeOf store d e steps → IsDerivativeOf store d e copy
same_steps store d e steps copy accepts moves is = record {
  accepts = subst (λ id. IsDiagramOf d id (out e)) (sym accepts) is.accepts;
  guards = subst (AreGuards d) (sym moves) is.guards;
  targets = subst (AreTargets store d.tests) (sym moves) is.targets;
  leads = λ atom fits a x. subst (λ l. (Has (next e atom a) x) ↔ (LeadsTo store d l atom a x)) (sym moves) (is.leads atom fits a x);
  merged = subst AreMerged (sym moves) is.merged;
}

module _ (eq : ℕ → ℕ → Bool) (same : (x y : ℕ) → eq x y ≡ true → x ≡ y) where
  -- a lookup in a correct table returns a correct derivative
  pub right_found : (s : NodeParts) (c : DiagramsParts) (derivatives : Derivatives) (i : ℕ) (steps : Steps) → lookup (eq i) derivatives.table.entries ≡ Some steps → AreRight s c derivatives → IsDerivativeOf s c (tree_at s i) steps
  right_found s c derivatives i steps e right = (right (i, steps) (lookup_has eq same i derivatives.table.entries steps e)).steps_of

  -- a correct table stays correct after an insert of a correct derivative
  pub right_insert : (s : NodeParts) (c : DiagramsParts) (old new : Derivatives) (i : ℕ) (steps : Steps) → new.table.entries ≡ insert_entry eq old.table.entries i steps → IsRight s c i steps → AreRight s c old → AreRight s c new
  right_insert s c old new i steps e is right entry h =
      ⊎_elim
      (λ there. right entry there)
      (λ own. subst (λ (z : ℕ × Steps). IsRight s c z.0 z.1) (sym own) is)
      (insert_entry_has eq same i steps old.table.entries entry (subst (λ l. Has l entry) e h))
