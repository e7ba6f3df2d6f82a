-- Pairs of sets of terms that should accept the same strings only from the atoms of a test. So hypotheses on single
-- moves need not be eliminated: the tests determine the possible moves.
use Rattle.std.specs.Prelude.{◌≡◌, ◌<◌, ℕ, List, [], ◌∷◌, map, length, Option, IsTrue}
use Rattle.std.specs.List.{filter}
use Rattle.kat_model.specs.Trees.{TestTree, top, Term}
use Rattle.kat_model.specs.Members.{Has}
use Rattle.kat_model.specs.Steps.{Atom, truth, set_out, set_next}
use Rattle.kat_model.specs.Strings.{Move}
use Rattle.kat_model.specs.Problems.{ProblemParts}
use Rattle.kat_model.specs.Closed.{closed}
use Rattle.kat_model.specs.Pairs.{SetPair, IsCongruent}
use Rattle.kat_model.specs.AllowedMoves.{IsAllowedAtom, IsAllowedMove}

-- a pair under a test
pub record TestedPair : Type 0 where
  pub sets : SetPair
  pub test : TestTree

-- the sets of the pairs, without their tests
abbrev pub sets_of : List TestedPair → List SetPair
sets_of pairs = map (λ p. p.sets) pairs

-- the pair under the test that is true everywhere
abbrev pub everywhere : SetPair → TestedPair
everywhere p = record { sets = p; test = top }

-- the pairs whose test is true at the atom
abbrev pub pairs_at : List TestedPair → Atom → List SetPair
pairs_at pairs atom = sets_of (filter (λ p. truth p.test atom) pairs)

-- At each allowed atom that satisfies its test, the sets of a pair accept alike. After each allowed move, its next sets
-- are congruent under the pairs whose test is true at the atom after the move.
pub record IsTestedBisimulation (shorts : List Term) (tests actions : ℕ) (universal : Option Term) (pairs : List TestedPair) : Type 0 where
  pub outputs : (p : TestedPair) → Has pairs p → (atom : Atom) → length atom ≡ tests → IsAllowedAtom shorts atom → IsTrue (truth p.test atom)
      → set_out p.sets.left atom ≡ set_out p.sets.right atom
  pub steps : (p : TestedPair) → Has pairs p → (atom : Atom) → length atom ≡ tests → IsTrue (truth p.test atom)
      → (m : Move) → m.act < actions → length m.atom ≡ tests → IsAllowedMove shorts atom m
      → IsCongruent universal (pairs_at pairs m.atom) (set_next p.sets.left atom m.act) (set_next p.sets.right atom m.act)

-- The first pair is the closed sides under a test that is true at every allowed atom, and the pairs are a bisimulation.
-- The hypotheses of the problem `q` are those that do not count as short.
pub record AreAcceptedUnder (shorts : List Term) (q : ProblemParts) (pairs : List TestedPair) : Type 0 where
  pub test : TestTree
  pub rest : List TestedPair
  pub first : pairs ≡ record { sets = record { left = (closed q).left ∷ []; right = (closed q).right ∷ [] }; test = test } ∷ rest
  pub holds : (atom : Atom) → length atom ≡ q.tests → IsAllowedAtom shorts atom → IsTrue (truth test atom)
  pub bisimulation : IsTestedBisimulation shorts q.tests q.actions (closed q).universal pairs
