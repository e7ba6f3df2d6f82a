-- Ids of sets when diagrams are added.
use Rattle.std.proofs.Common.{◌≡◌, ℕ, suc, ⊎_elim, List, [], ◌∷◌, ◌++◌, length, refl, ap, subst}
use Rattle.outline_rules.specs.StepFunctions.{StepDiagramsParts, KeepsSteps}
use Rattle.outline_rules.proofs.StepSets.{IsStepDiagram-kept}
use Rattle.hoare_outlines.specs.Working.AtomSets.{AtomSet, IsSetId, AreSetIds}
use Rattle.hoare_outlines.specs.Working.Noted.{AreSets}

module _ (old new : StepDiagramsParts) (kept : KeepsSteps old new) where
  pub set_kept : (id : ℕ) (X : AtomSet) → IsSetId old id X → IsSetId new id X
  set_kept id X is = IsStepDiagram-kept old new kept id (λ x y. X x) is

  pub sets_kept : (ids : List ℕ) (Xs : List AtomSet) → AreSetIds old ids Xs → AreSetIds new ids Xs
  sets_kept [] [] are = tt
  sets_kept [] (X ∷ Xs) are = absurd are
  sets_kept (id ∷ ids) [] are = absurd are
  sets_kept (id ∷ ids) (X ∷ Xs) are = (set_kept id X are.0, sets_kept ids Xs are.1)

pub sets_append : (d : StepDiagramsParts) (ids js : List ℕ) (Xs Ys : List AtomSet) → AreSetIds d ids Xs → AreSetIds d js Ys → AreSetIds d (ids ++ js) (Xs ++ Ys)
sets_append d [] js [] Ys are more = more
sets_append d [] js (X ∷ Xs) Ys are more = absurd are
sets_append d (id ∷ ids) js [] Ys are more = absurd are
sets_append d (id ∷ ids) js (X ∷ Xs) Ys are more = (are.0, sets_append d ids js Xs Ys are.1 more)

-- the numbers of ids and sets are equal
pub sets_count : (d : StepDiagramsParts) (ids : List ℕ) (Xs : List AtomSet) → AreSetIds d ids Xs → length ids ≡ length Xs
sets_count d [] [] are = refl
sets_count d [] (X ∷ Xs) are = absurd are
sets_count d (id ∷ ids) [] are = absurd are
sets_count d (id ∷ ids) (X ∷ Xs) are = ap suc (sets_count d ids Xs are.1)

-- each of the ids is the id of a set
pub each_set : (d : StepDiagramsParts) (ids : List ℕ) (Xs : List AtomSet) → AreSetIds d ids Xs → AreSets d ids
each_set d [] Xs are id h = absurd h
each_set d (i ∷ ids) [] are id h = absurd are
each_set d (i ∷ ids) (X ∷ Xs) are id h = ⊎_elim (λ e. (X, subst (λ k. IsSetId d k X) e are.0)) (each_set d ids Xs are.1 id) h
