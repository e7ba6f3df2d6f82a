-- The laws of the definitions. Each is the contract of a function of the crate that does nothing.
use Rattle.std.specs.Prelude.{◌≡◌, ◌≢◌, ◌↔◌, ◌+◌, ◌*◌, ◌^◌, ◌<◌, ◌≤◌, ℕ, false, ◌||◌, IsTrue, List, [], ◌∷◌, ◌++◌, map, length, Some, None}
use Rattle.std.specs.List.{flat_map}
use Rattle.kat_model.specs.Trees.{TestTree, Term, zero, one, test, act, sum, product, star, acts}
use Rattle.kat_model.specs.Members.{Has, IsSubset}
use Rattle.kat_model.specs.Problems.{ProblemParts, IsProblem, problem_fault}
use Rattle.kat_model.specs.Steps.{Atom, truth, out, next, set_next, reach}
use Rattle.kat_model.specs.Balanced.{sum_of, product_of}
use Rattle.kat_model.specs.Relations.{SomeRelates, RelateInTurn, Table, atom_at, frame_of, Relates, Keeps, Same}
use Rattle.kat_model.specs.Strings.{Move, AreMoves, last_atom, accepts, Hop, IsPath, spelled}
use Rattle.kat_model.specs.Closed.{universal_of, inside, closed}
use Rattle.kat_model.specs.Pairs.{SetPair, Style, up_to, AreAccepted, AllDiffer}
use Rattle.kat_model.specs.Degrees.{degree, IsBounded, is_short, short_hyps, long_hyps, with_hyps, AreSplit}
use Rattle.kat_model.specs.AllowedMoves.{AreAllowed, HasAllowedMoves}
use Rattle.kat_model.specs.TestedPairs.{TestedPair, sets_of, everywhere, AreAcceptedUnder}
use Rattle.kat_model.specs.Guarded.{IsSingle}

-- the moves are two parts; the first term accepts the first part, and the second term the second part, from the atom at
-- the cut
pub record IsCut (e f : Term) (atom : Atom) (ms : List Move) : Type 0 where
  pub before : List Move
  pub after : List Move
  pub whole : ms ≡ before ++ after
  pub first : IsTrue (accepts e atom before)
  pub second : IsTrue (accepts f (last_atom atom before) after)

-- the term accepts each piece, from the last atom of the piece before it
abbrev pub AcceptsEach : Term → Atom → List (List Move) → Type 0
AcceptsEach e atom [] = Unit {0}
AcceptsEach e atom (p ∷ ps) = IsTrue (accepts e atom p) × AcceptsEach e (last_atom atom p) ps

-- the moves are a concatenation of pieces that the term accepts
abbrev pub AreJoined : Term → Atom → List Move → Type 0
AreJoined e atom ms = (ps : List (List Move)) × (ms ≡ flat_map (λ p. p) ps) × AcceptsEach e atom ps

-- the strings that a term accepts, by its form
pub record AcceptsByForm (atom : Atom) (ms : List Move) : Type 0 where
  pub of_zero : accepts zero atom ms ≡ false
  pub of_one : IsTrue (accepts one atom ms) ↔ (ms ≡ [])
  pub of_test : (b : TestTree) → IsTrue (accepts (test b) atom ms) ↔ ((ms ≡ []) × IsTrue (truth b atom))
  pub of_act : (a : ℕ) → IsTrue (accepts (act a) atom ms) ↔ ((after : Atom) × (ms ≡ record { act = a; atom = after } ∷ []))
  pub of_sum : (e f : Term) → accepts (sum e f) atom ms ≡ (accepts e atom ms || accepts f atom ms)
  pub of_product : (e f : Term) → IsTrue (accepts (product e f) atom ms) ↔ IsCut e f atom ms
  pub of_star : (e : Term) → IsTrue (accepts (star e) atom ms) ↔ AreJoined e atom ms

-- the term accepts some part of the moves
pub record IsWithin (e : Term) (atom : Atom) (ms : List Move) : Type 0 where
  pub before : List Move
  pub part : List Move
  pub after : List Move
  pub whole : ms ≡ before ++ part ++ after
  pub taken : IsTrue (accepts e (last_atom atom before) part)

-- the universal term accepts every string, and any strings around another term
pub record UniversalAccepts (tests actions : ℕ) (atom : Atom) (ms : List Move) : Type 0 where
  pub whole : IsTrue (accepts (universal_of actions) atom ms)
  pub around : (e : Term) → IsTrue (accepts (inside (universal_of actions) e) atom ms) ↔ IsWithin e atom ms

-- some path from i to j spells a string that the term accepts
pub record IsSpelled (t : Table) (e : Term) (i j : ℕ) : Type 0 where
  pub hops : List (Hop ℕ)
  pub path : IsPath (frame_of t) i hops j
  pub accepted : IsTrue (accepts e (atom_at t i) (spelled (frame_of t) hops))

-- a term relates two states of a table exactly when it accepts what some path between them spells
abbrev pub RelatesBySpelling : Type 0
RelatesBySpelling = (t : Table) (e : Term) (i j : ℕ) → i < t.states → j < t.states → Relates t e i j ↔ IsSpelled t e i j

-- accepted pairs show that both sides are the same
abbrev pub AcceptedAreSame : Type 0
AcceptedAreSame = (style : Style) (q : ProblemParts) (pairs : List SetPair) → AreAccepted style q pairs → Same q

-- and so do accepted pairs under tests, if all short hypotheses count as short or only some
pub record AcceptedUnderTestsAreSame (q : ProblemParts) (pairs : List TestedPair) : Type 0 where
  pub by_degree : AreAcceptedUnder (short_hyps q) (with_hyps q (long_hyps q)) pairs → Same q
  pub counted : (shorts longs : List Term) → AreSplit q.hyps shorts longs → AreAcceptedUnder shorts (with_hyps q longs) pairs → Same q

-- pairs without tests are accepted up to congruence exactly when they are accepted under tests that are true
-- everywhere, with no hypothesis counted as short
abbrev pub UntestedAreAccepted : Type 0
UntestedAreAccepted = (q : ProblemParts) (pairs : List SetPair) → AreAccepted up_to q pairs ↔ AreAcceptedUnder [] q (map everywhere pairs)

-- bounds on the number of moves of a string of the term
pub record DegreeBoundsMoves (e : Term) (atom : Atom) (ms : List Move) : Type 0 where
  pub bounded : IsTrue (accepts e atom ms) → IsBounded (degree e) (length ms)
  pub few : IsTrue (is_short e) → IsTrue (accepts e atom ms) → length ms ≤ 1
  pub none : degree e ≡ Some 0 → IsTrue (accepts e atom ms) → ms ≡ []

-- a table keeps short hypotheses exactly when its atoms and moves are allowed
abbrev pub ShortAreKept : Type 0
ShortAreKept = (t : Table) (shorts : List Term) → ((h : Term) → Has shorts h → IsTrue (is_short h)) → Keeps t shorts ↔ HasAllowedMoves shorts t

-- exactly one of the closed sides accepts the string
abbrev pub ClosedDifferOn : ProblemParts → Atom → List Move → Type 0
ClosedDifferOn q atom ms = accepts (closed q).left atom ms ≢ accepts (closed q).right atom ms

-- the closed sides differ on a string exactly when it is allowed and the closed sides with only the long hypotheses
-- differ on it
abbrev pub DifferWhereAllowed : Type 0
DifferWhereAllowed =
    (q : ProblemParts) (shorts longs : List Term) (atom : Atom) (ms : List Move)
    → AreSplit q.hyps shorts longs
    → AreMoves q.tests q.actions ms
    → ClosedDifferOn q atom ms ↔ (AreAllowed shorts atom ms × ClosedDifferOn (with_hyps q longs) atom ms)

-- the reach of a term has one member for each occurrence of an action, and steps do not leave it
pub record ReachIsClosed (e : Term) : Type 0 where
  pub count : length (reach e) ≡ acts e
  pub first : (atom : Atom) (a : ℕ) → IsSubset (next e atom a) (reach e)
  pub further : (atom : Atom) (a : ℕ) (x : Term) → Has (reach e) x → IsSubset (next x atom a) (reach e)

-- under each atom the term has at most one next term, by one action, and no next term if it accepts the atom
pub record HasOneStep (e : Term) : Type 0 where
  pub ended : (atom : Atom) (a : ℕ) (x : Term) → IsTrue (out e atom) → Has (next e atom a) x → ⊥
  pub alone : (atom : Atom) (a b : ℕ) (x y : Term) → Has (next e atom a) x → Has (next e atom b) y → (a ≡ b) × (x ≡ y)

-- the term and all that its steps lead to have at most one step, and steps keep sets of at most one term
pub record StaysGuarded (e : Term) : Type 0 where
  pub own : HasOneStep e
  pub further : (x : Term) → Has (reach e) x → HasOneStep x
  pub sets : (es : List Term) (atom : Atom) (a : ℕ) → IsSingle e es → IsSingle e (set_next es atom a)

-- the left sets have only `l` and terms reached from it, the right sets only `r` and terms reached from it
abbrev pub AreReached : Term → Term → List SetPair → Type 0
AreReached l r pairs = (p : SetPair) → Has pairs p → IsSubset p.left (l ∷ reach l) × IsSubset p.right (r ∷ reach r)

abbrev pub AreSingle : Term → Term → List SetPair → Type 0
AreSingle l r pairs = (p : SetPair) → Has pairs p → IsSingle l p.left × IsSingle r p.right

-- bounds on the number of different pairs over two sides
pub record PairsAreBounded (l r : Term) (pairs : List SetPair) : Type 0 where
  pub all : AllDiffer pairs → AreReached l r pairs → length pairs ≤ 2 ^ (acts l + 1) * 2 ^ (acts r + 1)
  pub single : AllDiffer pairs → AreSingle l r pairs → length pairs ≤ (acts l + 2) * (acts r + 2)

-- the same bounds for pairs under tests
pub record TestedPairsAreBounded (l r : Term) (pairs : List TestedPair) : Type 0 where
  pub all : AllDiffer (sets_of pairs) → AreReached l r (sets_of pairs) → length pairs ≤ 2 ^ (acts l + 1) * 2 ^ (acts r + 1)
  pub single : AllDiffer (sets_of pairs) → AreSingle l r (sets_of pairs) → length pairs ≤ (acts l + 2) * (acts r + 2)

-- what the balanced trees of a list relate in a table: the product relates what the members relate in turn, the sum
-- what some member relates
pub record ListsRelate (t : Table) (es : List Term) (i j : ℕ) : Type 0 where
  pub of_product : i < t.states → j < t.states → Relates t (product_of es) i j ↔ RelateInTurn (frame_of t) es i j
  pub of_sum : Relates t (sum_of es) i j ↔ SomeRelates (frame_of t) es i j

-- a question is within the limits of a problem exactly when it has no fault
abbrev pub FaultlessAreProblems : Type 0
FaultlessAreProblems = (q : ProblemParts) → (problem_fault q ≡ None) ↔ IsProblem q
