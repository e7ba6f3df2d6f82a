-- The walk over pairs of sets of terms under tests, breadth first (after Bonchi and Pous 2013, algorithm HKC): the
-- pairs that it has listed, each with atoms at which it was reached, and the number of processed pairs. A pair of sets
-- that is reached at additional atoms is listed again, with only these atoms. Steps start from all atoms at which the
-- pair was reached by the same number of moves.
use Rattle.std.specs.Prelude.{◌≡◌, ◌≤◌, ◌<◌, ℕ, suc, Bool, List, [], ◌∷◌, length, slice_get, Option, Some, None, IsTrue}
use Rattle.kat_model.specs.Trees.{Term}
use Rattle.kat_model.specs.Members.{Has, SameMembers}
use Rattle.kat_model.specs.Steps.{Atom, set_out, set_next}
use Rattle.kat_model.specs.Problems.{ProblemParts}
use Rattle.kat_model.specs.Closed.{closed}
use Rattle.kat_model.specs.Pairs.{SetPair, IsCongruent}
use Rattle.kat_model.specs.AllowedMoves.{IsAllowedAtom, IsAllowedMove}

-- how the walk reached a pair: the place of the previous pair, the action of the step, and the atoms from which it
-- leads to the sets
pub record TestedOrigin : Type 0 where
  pub place : ℕ
  pub act : ℕ
  pub region : Atom → Bool

-- a listed pair, the atoms at which it was reached, and the number of moves that lead to it; the first has no origin
pub record TestedEntry : Type 0 where
  pub pair : SetPair
  pub test : Atom → Bool
  pub level : ℕ
  pub origin : Option TestedOrigin

-- the closed sides, each as a set of one term
abbrev pub closed_sides : ProblemParts → SetPair
closed_sides q = record { left = (closed q).left ∷ []; right = (closed q).right ∷ [] }

-- the sets of the entry were reached at the atom, by the entry's number of moves
pub record IsListedAt (es : List TestedEntry) (e : TestedEntry) (atom : Atom) : Type 0 where
  pub entry : TestedEntry
  pub member : Has es entry
  pub sets : entry.pair ≡ e.pair
  pub level : entry.level ≡ e.level
  pub there : IsTrue (entry.test atom)

-- at each atom of the region, the sets of `from` were reached by its number of moves, and the action leads to the sets
-- of `to`
pub record IsRegion (tests : ℕ) (es : List TestedEntry) (from : TestedEntry) (o : TestedOrigin) (to : SetPair) : Type 0 where
  pub within : (atom : Atom) → length atom ≡ tests → IsTrue (o.region atom) → IsListedAt es from atom
  pub lefts : (atom : Atom) → length atom ≡ tests → IsTrue (o.region atom) → SameMembers (set_next from.pair.left atom o.act) to.left
  pub rights : (atom : Atom) → length atom ≡ tests → IsTrue (o.region atom) → SameMembers (set_next from.pair.right atom o.act) to.right

-- an allowed move by the action leads from an atom of the region to this atom
pub record HasSource (shorts : List Term) (tests : ℕ) (o : TestedOrigin) (atom : Atom) : Type 0 where
  pub before : Atom
  pub of_tests : length before ≡ tests
  pub there : IsTrue (o.region before)
  pub allowed : IsAllowedMove shorts before (record { act = o.act; atom = atom })

-- the entry comes, at each of its atoms, from the sets of an entry at place k or before; it has at least one atom
pub record ComesFrom (shorts : List Term) (q : ProblemParts) (es : List TestedEntry) (k : ℕ) (e : TestedEntry) : Type 0 where
  pub origin : TestedOrigin
  pub is : e.origin ≡ Some origin
  pub from : TestedEntry
  pub at : slice_get es origin.place ≡ Some from
  pub earlier : origin.place ≤ k
  pub of_actions : origin.act < q.actions
  pub level : e.level ≡ suc from.level
  pub region : IsRegion q.tests es from origin e.pair
  pub sources : (atom : Atom) → length atom ≡ q.tests → IsTrue (e.test atom) → HasSource shorts q.tests origin atom
  pub somewhere : (atom : Atom) × (length atom ≡ q.tests) × IsTrue (e.test atom)

-- the two entries do not have the same sets at a common atom
abbrev pub IsApart : ℕ → TestedEntry → TestedEntry → Type 0
IsApart tests e f =
    SameMembers e.pair.left f.pair.left → SameMembers e.pair.right f.pair.right → (atom : Atom) → length atom ≡ tests → IsTrue (e.test atom) → IsTrue (f.test atom) → ⊥

-- no two entries have the same sets at a common atom
abbrev pub AreApart : ℕ → List TestedEntry → Type 0
AreApart tests [] = Unit {0}
AreApart tests (e ∷ es) = ((f : TestedEntry) → Has es f → IsApart tests e f) × AreApart tests es

-- the two sets are congruent under pairs that were reached at the atom by at most `level` moves
pub record AreJoined (q : ProblemParts) (es : List TestedEntry) (level : ℕ) (atom : Atom) (lefts rights : List Term) : Type 0 where
  pub pairs : List SetPair
  pub reached : (p : SetPair) → Has pairs p → (e : TestedEntry) × Has es e × (e.pair ≡ p) × IsTrue (e.test atom) × (e.level ≤ level)
  pub congruent : IsCongruent (closed q).universal pairs lefts rights

-- after each allowed move by the action from an atom of the test, the next sets of the pair are joined
abbrev pub AreJoinedAfter : List Term → ProblemParts → List TestedEntry → ℕ → SetPair → (Atom → Bool) → ℕ → Type 0
AreJoinedAfter shorts q es level p test a =
    (atom : Atom) → length atom ≡ q.tests → IsTrue (test atom) → (after : Atom) → length after ≡ q.tests → IsAllowedMove shorts atom (record { act = a; atom = after })
    → AreJoined q es level after (set_next p.left atom a) (set_next p.right atom a)

-- both sets of the entry agree on its atoms, and its next sets are joined by entries of at most the next level
pub record IsTaken (shorts : List Term) (q : ProblemParts) (es : List TestedEntry) (e : TestedEntry) : Type 0 where
  pub outputs : (atom : Atom) → length atom ≡ q.tests → IsTrue (e.test atom) → set_out e.pair.left atom ≡ set_out e.pair.right atom
  pub steps : (a : ℕ) → a < q.actions → AreJoinedAfter shorts q es (suc e.level) e.pair e.test a

-- The walk has listed these entries, and processed the first `done`. The hypotheses of the problem are those that do
-- not count as short.
pub record IsTestedWalk (shorts : List Term) (q : ProblemParts) (es : List TestedEntry) (done : ℕ) : Type 0 where
  pub start : Atom → Bool
  pub everywhere : (atom : Atom) → length atom ≡ q.tests → IsAllowedAtom shorts atom → IsTrue (start atom)
  pub first : slice_get es 0 ≡ Some (record { pair = closed_sides q; test = start; level = 0; origin = None })
  pub origins : (k : ℕ) (e : TestedEntry) → slice_get es (suc k) ≡ Some e → ComesFrom shorts q es k e
  pub apart : AreApart q.tests es
  pub in_order : (i j : ℕ) (e f : TestedEntry) → i ≤ j → slice_get es i ≡ Some e → slice_get es j ≡ Some f → e.level ≤ f.level
  pub so_far : (e f : TestedEntry) → Has es e → slice_get es done ≡ Some f → e.level ≤ suc f.level
  pub taken : (k : ℕ) (e : TestedEntry) → k < done → slice_get es k ≡ Some e → IsTaken shorts q es e
