-- The effect of the cases of one action on a walk.
use Rattle.std.specs.Prelude.{◌≡◌, ℕ, List, ◌++◌, length}
use Rattle.kat_model.specs.Steps.{Atom, set_next}
use Rattle.kat_model.specs.Problems.{ProblemParts}
use Rattle.kat_model.specs.Closed.{closed}
use Rattle.kat_model.specs.Pairs.{SetPair, IsCongruent}
use Rattle.walk_up_to.specs.Walks.{Entry, pairs_of, IsWalk}

-- additional entries are listed after the old ones
pub record AddsEntries (old new : List Entry) : Type 0 where
  pub more : List Entry
  pub is : new ≡ old ++ more

-- the walk has listed pairs such that the next sets of the pair by the action are congruent at all atoms of a case
pub record IsVisited (q : ProblemParts) (old new : List Entry) (done : ℕ) (p : SetPair) (a : ℕ) (IsCase : Atom → Type 0) : Type 0 where
  pub grows : AddsEntries old new
  pub walk : IsWalk q new done
  pub congruent : (atom : Atom) → length atom ≡ q.tests → IsCase atom → IsCongruent (closed q).universal (pairs_of new) (set_next p.left atom a) (set_next p.right atom a)
