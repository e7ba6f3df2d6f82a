-- The laws of walks under tests. Each is the contract of a function of the crate with an empty body.
use Rattle.std.specs.Prelude.{◌≡◌, ◌≤◌, ◌+◌, ◌*◌, ◌^◌, ℕ, suc, Bool, List, [], ◌∷◌, length, slice_get, Some, None, IsTrue}
use Rattle.kat_model.specs.Trees.{Term, acts}
use Rattle.kat_model.specs.Problems.{ProblemParts}
use Rattle.kat_model.specs.Steps.{Atom, truth}
use Rattle.kat_model.specs.Closed.{closed}
use Rattle.kat_model.specs.AllowedMoves.{IsAllowedAtom}
use Rattle.kat_model.specs.TestedPairs.{TestedPair, sets_of, AreAcceptedUnder}
use Rattle.kat_model.specs.Pairs.{AllDiffer}
use Rattle.kat_model.specs.Members.{Has}
use Rattle.kat_model.specs.Guarded.{IsGuarded}
use Rattle.walk_under.specs.MergedPairs.{AreMergedPairs}
use Rattle.walk_under.specs.TestedWalks.{TestedEntry, closed_sides, IsTaken, IsTestedWalk}

-- the start of a walk, and its continuation by an entry that is processed
pub record TestedWalkGoesOn (shorts : List Term) (q : ProblemParts) : Type 0 where
  pub starts : (start : Atom → Bool) → ((atom : Atom) → length atom ≡ q.tests → IsAllowedAtom shorts atom → IsTrue (start atom))
      → IsTestedWalk shorts q (record { pair = closed_sides q; test = start; level = 0; origin = None } ∷ []) 0
  pub takes : (es : List TestedEntry) (done : ℕ) (e : TestedEntry) → IsTestedWalk shorts q es done → slice_get es done ≡ Some e → IsTaken shorts q es e → IsTestedWalk shorts q es (suc done)

-- a bound on the number of pairs that a walk lists: no two have the same sets and a common atom
abbrev pub TestedWalksAreFew : Type 0
TestedWalksAreFew =
    (shorts : List Term) (q : ProblemParts) (es : List TestedEntry) (done : ℕ) → IsTestedWalk shorts q es done
    → length es ≤ 1 + 2 ^ (acts (closed q).left + 1) * 2 ^ (acts (closed q).right + 1) * 2 ^ q.tests

-- if all entries are processed, the merged pairs are accepted
abbrev pub EndedWalksAreAccepted : Type 0
EndedWalksAreAccepted =
    (shorts : List Term) (q : ProblemParts) (es : List TestedEntry) → IsTestedWalk shorts q es (length es) → (pairs : List TestedPair) → AreMergedPairs q es pairs → AreAcceptedUnder shorts q pairs

-- the number of pairs is at most that of pairs of sets over both closed sides, with a smaller bound if both are guarded
pub record AreFewPairs (q : ProblemParts) (pairs : List TestedPair) : Type 0 where
  pub all : length pairs ≤ 2 ^ (acts (closed q).left + 1) * 2 ^ (acts (closed q).right + 1)
  pub guarded : IsGuarded (closed q).left → IsGuarded (closed q).right → length pairs ≤ (acts (closed q).left + 2) * (acts (closed q).right + 2)

-- merged pairs with different sets are few if each pair after the first is true at some atom
abbrev pub MergedPairsAreFew : Type 0
MergedPairsAreFew =
    (shorts : List Term) (q : ProblemParts) (es : List TestedEntry) (done : ℕ) → IsTestedWalk shorts q es done → (pairs : List TestedPair) → (m : AreMergedPairs q es pairs) → AllDiffer (sets_of pairs)
    → ((p : TestedPair) → Has m.rest p → (atom : Atom) × (length atom ≡ q.tests) × IsTrue (truth p.test atom)) → AreFewPairs q pairs
