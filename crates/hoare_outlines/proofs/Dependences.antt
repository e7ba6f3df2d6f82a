-- Which values of an atom decide whether it is in a set.
use Rattle.std.proofs.Common.{◌≡◌, ℕ, zero, suc, ◌+◌, ◌≤◌, [], ◌∷◌, length, drop, get_or, Bool, true, false, cond, refl, sym, ap, ◌∙◌, subst, arith, length-set}
use Rattle.std.proofs.Math.ListN.{set}
use Rattle.std.proofs.lemmas.List.{set-get_or}
use Rattle.kat_model.specs.Steps.{Atom}
use Rattle.outline_rules.specs.declared.moments.Moment.TheVariants.{Before}
use Rattle.outline_rules.specs.Interleaved.{with_value}
use Rattle.outline_rules.specs.StepFunctions.{StepDiagramsParts, step_value, IsStepId, IsStepDiagram, KeepsSteps}
use Rattle.outline_rules.proofs.StepSets.{IsStepId-kept, step_value-kept, IsStepDiagram-same, IsStepDiagram-kept}
use Rattle.hoare_outlines.specs.Working.AtomSets.{AtomSet, IsSetId}
use Rattle.hoare_outlines.specs.Working.Noted.{DependsFrom, IsSetFrom}

-- membership may depend on all values
pub depends_all : (tests : ℕ) (X : AtomSet) → DependsFrom tests 0 X
depends_all tests X atom other la lo e = ap X e

-- membership that depends on no value is the same for all atoms
drop_past : (k : ℕ) (atom : Atom) → length atom ≤ k → drop k atom ≡ []
drop_past zero [] le = refl
drop_past zero (b ∷ atom) le = absurd (omega (arith, le))
drop_past (suc k) [] le = refl
drop_past (suc k) (b ∷ atom) le = drop_past k atom (omega (arith, le))

pub depends_none : (tests : ℕ) (X : AtomSet) (atom other : Atom) → DependsFrom tests tests X → length atom ≡ tests → length other ≡ tests → X atom ≡ X other
depends_none tests X atom other dep la lo = dep atom other la lo (drop_past tests atom (omega (arith, la)) ∙ sym (drop_past tests other (omega (arith, lo))))

-- after a test is set to a value, membership does not depend on that test
drop_set : (k : ℕ) (x y : Atom) (v : Bool) → length x ≡ length y → drop (suc k) x ≡ drop (suc k) y → drop k (set x k v) ≡ drop k (set y k v)
drop_set k [] [] v l e = refl
drop_set k [] (b ∷ y) v l e = absurd (omega (arith, l))
drop_set k (a ∷ x) [] v l e = absurd (omega (arith, l))
drop_set zero (a ∷ x) (b ∷ y) v l e = ap (λ (z : Atom). v ∷ z) e
drop_set (suc k) (a ∷ x) (b ∷ y) v l e = drop_set k x y v (omega (arith, l)) e

depends_set : (tests k : ℕ) (v : Bool) (X : AtomSet) → DependsFrom tests k X → DependsFrom tests (suc k) (λ atom. X (set atom k v))
depends_set tests k v X dep atom other la lo e =
    dep (set atom k v) (set other k v) (length-set atom k v ∙ la) (length-set other k v ∙ lo) (drop_set k atom other v (la ∙ sym lo) e)

-- ---- ids of sets with a test set to a value

-- the id is the older set with test k set to v
abbrev pub IsFixed : StepDiagramsParts → StepDiagramsParts → ℕ → Bool → ℕ → ℕ → Type 0
IsFixed old new k v id fixed = IsStepDiagram new fixed (with_value Before k v (step_value old id))

fixed_set : (old new : StepDiagramsParts) (k : ℕ) (v : Bool) (id fixed : ℕ) (X : AtomSet) → new.tests ≡ old.tests → IsSetId old id X → IsFixed old new k v id fixed → IsSetId new fixed (λ atom. X (set atom k v))
fixed_set old new k v id fixed X tests is fix =
    IsStepDiagram-same new fixed _ _ fix (λ x y lx ly. is.value (set x k v) y (length-set x k v ∙ lx ∙ tests) (ly ∙ tests))

pub from_kept : (old new : StepDiagramsParts) (k id : ℕ) → KeepsSteps old new → IsSetFrom old k id → IsSetFrom new k id
from_kept old new k id kept s =
    record {
      set = s.set;
      is_set = IsStepDiagram-kept old new kept id (λ x y. s.set x) s.is_set;
      depends = λ atom other la lo e. s.depends atom other (la ∙ kept.tests) (lo ∙ kept.tests) e;
    }

pub fixed_from : (old new : StepDiagramsParts) (k next : ℕ) (v : Bool) (id fixed : ℕ) → KeepsSteps old new → next ≡ k + 1 → IsSetFrom old k id → IsFixed old new k v id fixed → IsSetFrom new next fixed
fixed_from old new k next v id fixed kept e s fix =
    record {
      set = λ atom. s.set (set atom k v);
      is_set = fixed_set old new k v id fixed s.set kept.tests s.is_set fix;
      depends =
          let is : suc k ≡ next = omega (arith, e) in
          subst (λ n. DependsFrom new.tests n (λ atom. s.set (set atom k v))) is (λ atom other la lo d. depends_set old.tests k v s.set s.depends atom other (la ∙ kept.tests) (lo ∙ kept.tests) d);
    }

-- the value of a set from the value of a test
fixed_value : (old new : StepDiagramsParts) (k : ℕ) (v : Bool) (id fixed : ℕ) (atom : Atom) → IsFixed old new k v id fixed → length atom ≡ new.tests → get_or atom k false ≡ v → step_value new fixed atom atom ≡ step_value old id atom atom
fixed_value old new k v id fixed atom fix wide is =
    let own : set atom k v ≡ atom = ap (set atom k) (sym is) ∙ set-get_or atom k false in
    fix.value atom atom wide wide ∙ ap (λ (z : Atom). step_value old id z atom) own

pub chosen_value : (old mid new : StepDiagramsParts) (k id low high : ℕ) (atom : Atom) → KeepsSteps old mid → KeepsSteps mid new → IsStepId old id → IsFixed old mid k false id low → IsFixed mid new k true id high → length atom ≡ new.tests
    → cond (get_or atom k false) (step_value new high atom atom) (step_value new low atom atom) ≡ step_value new id atom atom
chosen_value old mid new k id low high atom first second is is_low is_high wide = by_value (get_or atom k false) refl
  where
    own : step_value new id atom atom ≡ step_value old id atom atom
    own = step_value-kept mid new second id (IsStepId-kept old mid first id is) atom atom ∙ step_value-kept old mid first id is atom atom

    by_value : (v : Bool) → get_or atom k false ≡ v → cond v (step_value new high atom atom) (step_value new low atom atom) ≡ step_value new id atom atom
    by_value true e = fixed_value mid new k true id high atom is_high wide e ∙ step_value-kept old mid first id is atom atom ∙ sym own
    by_value false e = step_value-kept mid new second low is_low.in_range atom atom ∙ fixed_value old mid k false id low atom is_low (wide ∙ second.tests) e ∙ sym own

-- if both values of the test give one id, it is that of the set
pub one_value : (v : Bool) (x y z : Bool) → x ≡ y → cond v x y ≡ z → y ≡ z
one_value true x y z e c = sym e ∙ c
one_value false x y z e c = c
