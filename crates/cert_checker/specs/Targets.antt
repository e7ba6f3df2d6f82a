-- Symbolic partial derivatives: terms with guards that represent, at each atom, the terms that a step leads to.
use Rattle.std.specs.Prelude.{◌≡◌, ℕ, Bool, false, if◌then◌else◌, List, [], ◌∷◌, ◌++◌, slice_get, Option, Some, None}
use Rattle.std.specs.Ordering.{nat_cmp}
use Rattle.std.specs.Map.{lookup}
use Rattle.std.specs.BTreeMap.{is_at}
use Rattle.kat_model.specs.Trees.{Term, one}
use Rattle.kat_model.specs.Members.{Has, SameMembers}
use Rattle.kat_model.specs.Steps.{Atom, out, next, set_out, set_next}
use Rattle.cert_checker.specs.NodeTables.{TableParts, IsTest, IsTerm, HasValues, holds_at, term_at}

-- the terms whose guards are true at the atom
abbrev pub chosen : TableParts → List (ℕ × ℕ) → Atom → List Term
chosen t [] atom = []
chosen t (e ∷ es) atom = (if holds_at t e.1 atom then term_at t e.0 ∷ [] else []) ++ chosen t es atom

-- the terms and guards are terms and tests of the tables
abbrev pub AreEntries : TableParts → List (ℕ × ℕ) → Type 0
AreEntries t es = (e : ℕ × ℕ) → Has es e → IsTerm t e.0 × IsTest t e.1

-- the guard of a term among the targets
abbrev pub guard_of : List (ℕ × ℕ) → ℕ → Option ℕ
guard_of es k = lookup (is_at (nat_cmp k)) es

-- at each atom, the chosen terms are these terms
pub record Represent (t : TableParts) (es : List (ℕ × ℕ)) (terms : Atom → List Term) : Type 0 where
  pub entries : AreEntries t es
  pub same : (atom : Atom) → SameMembers (chosen t es atom) (terms atom)

-- the tests are true where the first terms of the tables accept
abbrev pub AreAcceptances : TableParts → List ℕ → Type 0
AreAcceptances t guards = (k g : ℕ) → slice_get guards k ≡ Some g → HasValues t (out (term_at t k)) g

-- the terms that a term leads to by an action; without an action, the empty product if the term accepts
abbrev pub leads_to : Option ℕ → Term → Atom → List Term
leads_to None e atom = if out e atom then one ∷ [] else []
leads_to (Some a) e atom = next e atom a

-- and those that a set of terms leads to
abbrev pub set_leads_to : Option ℕ → List Term → Atom → List Term
set_leads_to None es atom = if set_out es atom then one ∷ [] else []
set_leads_to (Some a) es atom = set_next es atom a

-- the targets of each of these terms stand for what the term leads to
abbrev pub AreSteps : TableParts → Option ℕ → (ℕ → Type 0) → List (List (ℕ × ℕ)) → Type 0
AreSteps t action Among steps = (k : ℕ) (es : List (ℕ × ℕ)) → Among k → slice_get steps k ≡ Some es → Represent t es (λ atom. leads_to action (term_at t k) atom)

-- terms that are not marked have no targets
abbrev pub HasNoneElsewhere : List Bool → List (List (ℕ × ℕ)) → Type 0
HasNoneElsewhere marks steps = (k : ℕ) (es : List (ℕ × ℕ)) → slice_get marks k ≡ Some false → slice_get steps k ≡ Some es → es ≡ []
