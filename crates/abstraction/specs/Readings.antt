-- Readings of the declared tests and actions of a file as predicates and relations on stores, and what goals say under
-- them.
use Rattle.std.specs.Prelude.{◌≡◌, ◌↔◌, ℕ, Bool, true, false, not, ◌&&◌, ◌||◌, IsTrue, List, map, set, slice_get, Option, Some, None}
use Rattle.kat_model.specs.Trees.{Term}
use Rattle.kat_model.specs.Members.{Has}
use Rattle.kat_model.specs.Expressions.{CondTree, always, never, named, compared, negation, both, either}
use Rattle.kat_model.specs.Stores.{modulus, Store, value, holds}
use Rattle.kat_model.specs.declared.expression.Width.{Width}
use Rattle.kat_model.specs.Relations.{Frame, Along, RelatesIn}
use Rattle.linear_forms.specs.Values.{form_value}
use Rattle.linear_forms.specs.Comparisons.{atomic_holds}
use Rattle.while_lang.specs.Programs.{ProgTree, empty, skip_then, abort_then, assert_then, act_then, assign_then, branch_then, loop_then}
use Rattle.while_lang.specs.Runs.{Chosen}
use Rattle.while_lang.specs.Files.{FileParts, SideTree, term_side, prog_side, GoalTree, equal, below, triple}
use Rattle.while_lang.specs.Concrete.{IsStoreOf}
use Rattle.abstraction.specs.declared.rows.ActionRow.{ActionRow}
use Rattle.abstraction.specs.declared.rows.ActionRow.TheVariants as action
use Rattle.abstraction.specs.declared.rows.TestRow.{TestRow}
use Rattle.abstraction.specs.declared.rows.TestRow.TheVariants as test
use Rattle.abstraction.specs.Abstracts.{AbstractParts}

-- which stores satisfy each declared test, and which stores each declared action relates
pub record Reading : Type 0 where
  pub test : ℕ → Store → Bool
  pub act : ℕ → Store → Store → Bool

-- ---- programs under a reading

-- whether a condition holds in a store
abbrev pub holds_by : Width → Reading → Store → CondTree → Bool
holds_by w r s always = true
holds_by w r s never = false
holds_by w r s (named k) = r.test k s
holds_by w r s (compared rel d e) = holds w s (compared rel d e)
holds_by w r s (negation b) = not (holds_by w r s b)
holds_by w r s (both b c) = holds_by w r s b && holds_by w r s c
holds_by w r s (either b c) = holds_by w r s b || holds_by w r s c

-- the program leads from a store of the file to another
abbrev pub LeadsBy : FileParts → Reading → ProgTree → Store → Store → Type 0
LeadsBy f r empty s t = s ≡ t
LeadsBy f r (skip_then rest) s t = LeadsBy f r rest s t
LeadsBy f r (abort_then rest) s t = ⊥
LeadsBy f r (assert_then b rest) s t = (holds_by f.width r s b ≡ true) × LeadsBy f r rest s t
LeadsBy f r (act_then a rest) s t = (u : Store) × IsStoreOf f u × IsTrue (r.act a s u) × LeadsBy f r rest u t
LeadsBy f r (assign_then x e rest) s t = LeadsBy f r rest (set s x (value f.width s e)) t
LeadsBy f r (branch_then b p q rest) s t =
    (u : Store) × IsStoreOf f u × Chosen (holds_by f.width r s b) (LeadsBy f r p s u) (LeadsBy f r q s u) × LeadsBy f r rest u t
LeadsBy f r (loop_then b p rest) s t =
    (u : Store) × IsStoreOf f u
    × ((ks : List Store) × Along (IsStoreOf f) (λ v z. (holds_by f.width r v b ≡ true) × LeadsBy f r p v z) s ks u)
    × (holds_by f.width r u b ≡ false)
    × LeadsBy f r rest u t

-- ---- the stores of a file as a Kripke frame

-- whether a test holds in a store
abbrev pub row_by : ℕ → Reading → Store → TestRow → Bool
row_by m r s (test.Named k) = r.test k s
row_by m r s (test.Compare a) = atomic_holds m s a

-- an assignment sets its variable to the value of its form
abbrev pub StepsBy : ℕ → Reading → Option ActionRow → Store → Store → Type 0
StepsBy m r (Some (action.Assign x f)) s t = t ≡ set s x (form_value m s f)
StepsBy m r (Some (action.Named a)) s t = IsTrue (r.act a s t)
StepsBy m r None s t = ⊥

abbrev pub reading_frame : FileParts → AbstractParts → Reading → Frame Store
reading_frame f a r = record {
  IsState = IsStoreOf f;
  atom = λ s. map (row_by (modulus a.width) r s) a.tests;
  Acts = λ k s t. StepsBy (modulus a.width) r (slice_get a.actions k) s t;
}

-- no stated hypothesis relates any two stores of the file
abbrev pub KeepsStated : FileParts → AbstractParts → Reading → Type 0
KeepsStated f a r = (h : Term) → Has f.hyps h → (s t : Store) → IsStoreOf f s → IsStoreOf f t → RelatesIn (reading_frame f a r) h s t → ⊥

-- ---- goals under a reading

-- a side leads from one store to another
abbrev pub SideLeads : FileParts → AbstractParts → Reading → SideTree → Store → Store → Type 0
SideLeads f a r (term_side e) s t = RelatesIn (reading_frame f a r) e s t
SideLeads f a r (prog_side p) s t = LeadsBy f r p s t

-- the goal holds for all stores of the file
abbrev pub GoalHoldsBy : FileParts → AbstractParts → Reading → GoalTree → Type 0
GoalHoldsBy f a r (equal d e) = (s t : Store) → IsStoreOf f s → IsStoreOf f t → SideLeads f a r d s t ↔ SideLeads f a r e s t
GoalHoldsBy f a r (below d e) = (s t : Store) → IsStoreOf f s → IsStoreOf f t → SideLeads f a r d s t → SideLeads f a r e s t
GoalHoldsBy f a r (triple b d c) =
    (s t : Store) → IsStoreOf f s → IsStoreOf f t → holds_by f.width r s b ≡ true → SideLeads f a r d s t → holds_by f.width r t c ≡ true
