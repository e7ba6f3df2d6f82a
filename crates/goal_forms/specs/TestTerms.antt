-- Simple hypotheses with their befores and afters, and the atoms and steps that hypotheses rule out. A term without
-- actions and stars is a test: it is true at the atoms that it accepts.
use Rattle.std.specs.Prelude.{◌≡◌, ◌⊎◌, ◌<◌, ℕ, Bool, true, false, List, [], ◌∷◌, ◌++◌, Some, slice_get, IsTrue}
use Rattle.std.specs.List.{list_all}
use Rattle.kat_model.specs.Trees.{Term, zero, one, test, act, sum, product, star, is_test}
use Rattle.kat_model.specs.Members.{Has}
use Rattle.kat_model.specs.Steps.{Atom, out}

abbrev pub are_tests : List Term → Bool
are_tests es = list_all is_test es

abbrev pub all_true : List Term → Atom → Bool
all_true es atom = list_all (λ e. out e atom) es

-- the factors of a term, from left to right
abbrev pub factors : Term → List Term
factors zero = zero ∷ []
factors one = one ∷ []
factors (test b) = test b ∷ []
factors (act a) = act a ∷ []
factors (sum e f) = sum e f ∷ []
factors (product e f) = factors e ++ factors f
factors (star e) = star e ∷ []

-- the factors of one action between test terms: those before the action and those after it
pub record StepForm : Type 0 where
  pub befores : List Term
  pub act : ℕ
  pub afters : List Term

pub record HasStepForm (h : Term) (s : StepForm) : Type 0 where
  pub factors : factors h ≡ s.befores ++ act s.act ∷ s.afters
  pub befores : are_tests s.befores ≡ true
  pub afters : are_tests s.afters ≡ true

-- a test term, or one action between test terms
abbrev pub IsSimple : Term → Type 0
IsSimple h = (is_test h ≡ true) ⊎ ((s : StepForm) × HasStepForm h s)

abbrev pub AreSimple : List Term → Type 0
AreSimple hyps = (h : Term) → Has hyps h → IsSimple h

-- the least hypothesis that is not simple
pub record IsNotSimple (hyps : List Term) (k : ℕ) : Type 0 where
  pub hyp : Term
  pub place : slice_get hyps k ≡ Some hyp
  pub not_simple : IsSimple hyp → ⊥
  pub least : (j : ℕ) (h : Term) → j < k → slice_get hyps j ≡ Some h → IsSimple h

-- no hypothesis that is a test term is true at the atom
abbrev pub IsAllowed : List Term → Atom → Type 0
IsAllowed hyps atom = (h : Term) → Has hyps h → is_test h ≡ true → out h atom ≡ false

-- the hypothesis says that action a does not lead from the one atom to the other
pub record RulesOut (h : Term) (a : ℕ) (from to : Atom) : Type 0 where
  pub form : StepForm
  pub is_form : HasStepForm h form
  pub action : form.act ≡ a
  pub before : IsTrue (all_true form.befores from)
  pub after : IsTrue (all_true form.afters to)

-- some hypothesis rules out the step
abbrev pub IsRuledOut : List Term → ℕ → Atom → Atom → Type 0
IsRuledOut hyps a from to = (h : Term) × Has hyps h × RulesOut h a from to
