-- The walk over pairs of sets of terms, breadth first (Bonchi and Pous 2013, algorithm HKC): the pairs that it has
-- listed, the origin of each, and the number of processed pairs.
use Rattle.std.specs.Prelude.{◌≡◌, ◌≤◌, ◌<◌, ℕ, suc, List, [], ◌∷◌, map, length, slice_get, Option, Some, None}
use Rattle.kat_model.specs.Members.{Has, SameMembers}
use Rattle.kat_model.specs.Steps.{Atom, set_out, set_next}
use Rattle.kat_model.specs.Strings.{GuardedString}
use Rattle.kat_model.specs.Problems.{ProblemParts}
use Rattle.kat_model.specs.Closed.{closed}
use Rattle.kat_model.specs.Pairs.{SetPair, IsCongruent}
use Rattle.certificate.specs.Decisions.{HasNoRedundantPair, IsShortest}

-- the place of the previous pair, and the atom and the action of the step that leads from it
pub record StepOrigin : Type 0 where
  pub place : ℕ
  pub atom : Atom
  pub act : ℕ

-- a listed pair; the first has no origin
pub record Entry : Type 0 where
  pub pair : SetPair
  pub origin : Option StepOrigin

abbrev pub pairs_of : List Entry → List SetPair
pairs_of es = map (λ e. e.pair) es

-- the closed sides, each as a set of one term
abbrev pub closed_pair : ProblemParts → SetPair
closed_pair q = record { left = (closed q).left ∷ []; right = (closed q).right ∷ [] }

-- the step leads from the sets of `from` to those of `to`
pub record IsNextOf (tests actions : ℕ) (from : SetPair) (atom : Atom) (act : ℕ) (to : SetPair) : Type 0 where
  pub of_tests : length atom ≡ tests
  pub of_actions : act < actions
  pub lefts : SameMembers (set_next from.left atom act) to.left
  pub rights : SameMembers (set_next from.right atom act) to.right

-- the entry comes from an entry at place k or before
pub record ComesFrom (q : ProblemParts) (es : List Entry) (k : ℕ) (e : Entry) : Type 0 where
  pub origin : StepOrigin
  pub is : e.origin ≡ Some origin
  pub from : Entry
  pub at : slice_get es origin.place ≡ Some from
  pub earlier : origin.place ≤ k
  pub next : IsNextOf q.tests q.actions from.pair origin.atom origin.act e.pair

-- the entry is listed when the pair at place k has been processed
abbrev pub IsFoundBy : ℕ → Option StepOrigin → Type 0
IsFoundBy k None = Unit {0}
IsFoundBy k (Some o) = o.place ≤ k

-- the origins of the entries are in ascending order of their places
abbrev pub AreInOrder : List Entry → Type 0
AreInOrder es = (i j : ℕ) (e f : Entry) (o : StepOrigin) → i ≤ j → slice_get es i ≡ Some e → slice_get es j ≡ Some f → f.origin ≡ Some o → IsFoundBy o.place e.origin

-- both sets of the pair accept the same atoms
abbrev pub AcceptAlike : ProblemParts → SetPair → Type 0
AcceptAlike q p = (atom : Atom) → length atom ≡ q.tests → set_out p.left atom ≡ set_out p.right atom

-- the next sets of the pair by the action are congruent for each atom
abbrev pub AreCongruentAfter : ProblemParts → List SetPair → SetPair → ℕ → Type 0
AreCongruentAfter q pairs p a = (atom : Atom) → length atom ≡ q.tests → IsCongruent (closed q).universal pairs (set_next p.left atom a) (set_next p.right atom a)

-- both sets of the pair accept the same atoms, and its next sets are congruent under the pairs
pub record IsSettled (q : ProblemParts) (pairs : List SetPair) (p : SetPair) : Type 0 where
  pub outputs : AcceptAlike q p
  pub steps : (a : ℕ) → a < q.actions → AreCongruentAfter q pairs p a

-- the pair at place k is settled by pairs that were listed when it had been processed
pub record IsProcessed (q : ProblemParts) (es : List Entry) (k : ℕ) (p : SetPair) : Type 0 where
  pub pairs : List SetPair
  pub found : (r : SetPair) → Has pairs r → (e : Entry) × Has es e × (e.pair ≡ r) × IsFoundBy k e.origin
  pub settled : IsSettled q pairs p

-- the walk has listed these entries, and processed the first `done`
pub record IsWalk (q : ProblemParts) (es : List Entry) (done : ℕ) : Type 0 where
  pub first : slice_get es 0 ≡ Some (record { pair = closed_pair q; origin = None })
  pub origins : (k : ℕ) (e : Entry) → slice_get es (suc k) ≡ Some e → ComesFrom q es k e
  pub needed : HasNoRedundantPair q (pairs_of es)
  pub in_order : AreInOrder es
  pub so_far : (e : Entry) → Has es e → IsFoundBy done e.origin
  pub processed : (k : ℕ) (e : Entry) → k < done → slice_get es k ≡ Some e → IsProcessed q es k e.pair

-- the origins that lead from place k back to the first pair
abbrev pub IsTrail : List Entry → ℕ → List StepOrigin → Type 0
IsTrail es k [] = k ≡ 0
IsTrail es k (o ∷ os) = ((e : Entry) × (slice_get es k ≡ Some e) × (e.origin ≡ Some o)) × IsTrail es o.place os

-- the string with the atom and the action of an origin before it
abbrev pub after_step : StepOrigin → GuardedString → GuardedString
after_step o x = record { first = o.atom; rest = record { act = o.act; atom = x.first } ∷ x.rest }

-- the string with the steps of a trail before it
abbrev pub after_trail : List StepOrigin → GuardedString → GuardedString
after_trail [] x = x
after_trail (o ∷ os) x = after_trail os (after_step o x)

-- the string with the steps that lead to place k before it is a shortest refuting string
abbrev pub IsShortestFrom : ProblemParts → List Entry → ℕ → GuardedString → Type 0
IsShortestFrom q es k x = (os : List StepOrigin) → IsTrail es k os → IsShortest q (after_trail os x)
