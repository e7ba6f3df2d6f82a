-- The test that is true when some member of a set accepts, built from the tests of its members.
use Rattle.std.proofs.Common.{◌≡◌, ℕ, ◌<◌, List, ◌∷◌, length, get_or, [], refl, sym, ap, ◌∙◌, Bool, true, false, ◌||◌}
use Rattle.std.proofs.Math.Bool.{or-false}
use Rattle.kat_model.specs.Steps.{Atom, out, set_out}
use Rattle.cert_checker.specs.NodeTables.{TableParts, TestsGrow, IsTest, HasValues, term_at, holds_at, nodes_in}
use Rattle.cert_checker.specs.Targets.{AreAcceptances}
use Rattle.term_nodes.specs.NumberSets.{terms_of}
use Rattle.cert_checker.proofs.TargetSets.{holds_kept}
use Rattle.cert_checker.proofs.GrowingTables.{tests_trans}
use Rattle.cert_checker.proofs.StepLists.{accept_at}

-- the guard is true where a processed member accepts; the other members are left
pub record IsAccepting (first now : TableParts) (guard : ℕ) (rest all : List ℕ) : Type 0 where
  pub grows : TestsGrow first now
  pub test : IsTest now guard
  pub same : (atom : Atom) → (holds_at now guard atom || set_out (terms_of (nodes_in first) rest) atom) ≡ set_out (terms_of (nodes_in first) all) atom

or_assoc : (a b c : Bool) → ((a || b) || c) ≡ (a || (b || c))
or_assoc true b c = refl
or_assoc false b c = refl

pub accepting_begins : (first now : TableParts) (guard : ℕ) (set : List ℕ) → TestsGrow first now → HasValues now (λ atom. false) guard → IsAccepting first now guard set set
accepting_begins first now guard set grows values = record {
  grows = grows;
  test = values.0;
  same = λ atom. ap (λ b. b || set_out (terms_of (nodes_in first) set) atom) (values.1 atom);
}

pub accepting_more : (first now new : TableParts) (guard next_guard k : ℕ) (rest all acceptance_tests : List ℕ) → IsAccepting first now guard (k ∷ rest) all → AreAcceptances first acceptance_tests → k < length acceptance_tests → TestsGrow now new
    → HasValues new (λ atom. holds_at now guard atom || holds_at now (get_or acceptance_tests k 0) atom) next_guard → IsAccepting first new next_guard rest all
accepting_more first now new guard next_guard k rest all acceptance_tests a accepts low grows values = record {
  grows = tests_trans first now new a.grows grows;
  test = values.0;
  same = λ atom.
      ap (λ b. b || set_out (terms_of (nodes_in first) rest) atom) (values.1 atom ∙ ap (λ b. holds_at now guard atom || b) (holds_kept first now a.grows.grows.was a.grows.grows (get_or acceptance_tests k 0) atom here.0 ∙ here.1 atom))
      ∙ or_assoc (holds_at now guard atom) (out (term_at first k) atom) (set_out (terms_of (nodes_in first) rest) atom)
      ∙ a.same atom;
}
  where
    here : IsTest first (get_or acceptance_tests k 0) × ((atom : Atom) → holds_at first (get_or acceptance_tests k 0) atom ≡ out (term_at first k) atom)
    here = accept_at first acceptance_tests k accepts low

-- once no member is left, the guard is true where some member accepts
pub accepting_ends : (first now : TableParts) (guard : ℕ) (rest all : List ℕ) → rest ≡ [] → IsAccepting first now guard rest all → HasValues now (set_out (terms_of (nodes_in first) all)) guard
accepting_ends first now guard rest all none a = (
  a.test,
  (λ atom.
      sym (or-false (holds_at now guard atom))
      ∙ ap (λ l. holds_at now guard atom || set_out (terms_of (nodes_in first) l) atom) (sym none)
      ∙ a.same atom),
)
