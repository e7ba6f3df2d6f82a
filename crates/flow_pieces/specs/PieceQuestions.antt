-- Pieces as questions: each match has graphs that agree, or the same text on both sides.
use Rattle.std.specs.Prelude.{◌≡◌, ◌⊎◌, ◌<◌, ◌+◌, ℕ, true, false, List, [], length, Some, slice_get}
use Rattle.kat_model.specs.Members.{Has}
use Rattle.kat_model.specs.Stores.{modulus}
use Rattle.kat_model.specs.declared.expression.Width.TheVariants.{W32}
use Rattle.flow_model.specs.declared.sort.Sort.{Sort}
use Rattle.flow_model.specs.Conditions.{always}
use Rattle.flow_model.specs.Graphs.{JumpTree, goto, branch, return, abort, Block, Pair}
use Rattle.flow_model.specs.Agreement.{AgreeAlways}
use Rattle.flow_forms.specs.Expressions.{sort_of, IsSorted}
use Rattle.flow_ways.specs.Conditions.{IsSortedCond}
use Rattle.flow_ways.specs.Liveness.{cond_reads, IsLive}
use Rattle.flow_model.specs.Matches.{Equation, Match}
use Rattle.flow_pieces.specs.Matches.{gives, equations_read}
use Rattle.flow_pieces.specs.Pieces.{is_matched_before, is_matched_after}
use Rattle.flow_pieces.specs.PieceGraphs.{Exit, piece_pair}

-- the equation gives a variable an expression of its sort
abbrev pub IsSortedEquation : List Sort → Equation → Type 0
IsSortedEquation sorts e = (slice_get sorts e.variable ≡ Some (sort_of sorts e.expression)) × IsSorted sorts false e.expression

abbrev pub AreSortedEquations : List Sort → List Equation → Type 0
AreSortedEquations sorts es = (e : Equation) → Has es e → IsSortedEquation sorts e

-- the variable is given or read by `back`
abbrev pub IsOfBack : Match → ℕ → Type 0
IsOfBack m x = (gives m.back x ≡ true) ⊎ (equations_read m.back x ≡ true)

-- Both states at a match follow from one state: no variable of `back` is given or read by the other equations or read
-- by the condition, and a variable that only `back` reads is not live in the first graph.
pub record IsProper (p : Pair) (m : Match) : Type 0 where
  pub forth_sorted : AreSortedEquations p.sorts m.forth
  pub back_sorted : AreSortedEquations p.sorts m.back
  pub keeping_sorted : AreSortedEquations p.sorts m.keeping
  pub condition_sorted : IsSortedCond p.sorts m.condition
  pub ungiven : (x : ℕ) → IsOfBack m x → (gives m.forth x ≡ false) × (gives m.keeping x ≡ false)
  pub unread : (x : ℕ) → IsOfBack m x → (equations_read m.forth x ≡ false) × (equations_read m.keeping x ≡ false) × (cond_reads x m.condition ≡ false)
  pub own : (x : ℕ) → equations_read m.back x ≡ true → IsLive p.before x m.before → gives m.back x ≡ true

-- a match of other blocks with the same equations and condition
abbrev pub matched_at : ℕ → ℕ → Match → Match
matched_at k l m = record { before = k; after = l; forth = m.forth; back = m.back; keeping = m.keeping; condition = m.condition }

-- each row of an exit is matched with each column, and its live variables are those of each column
pub record IsExit (p : Pair) (ms : List Match) (e : Exit) : Type 0 where
  pub matched : (k l : ℕ) → Has e.rows k → Has e.columns l → Has ms (matched_at k l e.match)
  pub live : (l x : ℕ) → Has e.columns l → IsLive p.after x l → Has e.live x

-- the piece of a match as a question: some exits with which its two graphs agree
pub record IsAgreed (p : Pair) (ms : List Match) (m : Match) : Type 0 where
  pub exits : List Exit
  pub are_exits : (e : Exit) → Has exits e → IsExit p ms e
  pub marked : length exits + 3 < modulus W32
  pub agree : AgreeAlways (piece_pair p ms m exits)

-- the match has no equation and no condition
abbrev pub plain_match : ℕ → ℕ → Match
plain_match k l = record { before = k; after = l; forth = []; back = []; keeping = []; condition = always }

-- Jumps to a block of each graph do the same: both blocks are matched, by a plain match, or neither is, and they are
-- a pair of blocks with the same text.
abbrev pub LeadAlike : List Match → List (ℕ × ℕ) → ℕ → ℕ → Type 0
LeadAlike ms pairs k l =
    ((is_matched_before ms k ≡ true) × (is_matched_after ms l ≡ true) × Has ms (plain_match k l))
    ⊎ ((is_matched_before ms k ≡ false) × (is_matched_after ms l ≡ false) × Has pairs (k, l))

abbrev pub JumpAlike : List Match → List (ℕ × ℕ) → JumpTree → JumpTree → Type 0
JumpAlike ms pairs (goto k) (goto l) = LeadAlike ms pairs k l
JumpAlike ms pairs (branch b k k') (branch c l l') = (b ≡ c) × LeadAlike ms pairs k l × LeadAlike ms pairs k' l'
JumpAlike ms pairs (return es) (return fs) = es ≡ fs
JumpAlike ms pairs abort abort = Unit {0}
JumpAlike ms pairs _ _ = ⊥

-- two blocks have the same statements, and jump alike
pub record AreAlike (p : Pair) (ms : List Match) (pairs : List (ℕ × ℕ)) (k l : ℕ) : Type 0 where
  pub before : Block
  pub after : Block
  pub block_before : slice_get p.before k ≡ Some before
  pub block_after : slice_get p.after l ≡ Some after
  pub statements : before.statements ≡ after.statements
  pub jumps : JumpAlike ms pairs before.jump after.jump

-- both graphs have the same text from a plain match to the next matched blocks, which are matched plainly too
pub record HasSameText (p : Pair) (ms : List Match) (m : Match) : Type 0 where
  pub plain : m ≡ plain_match m.before m.after
  pub pairs : List (ℕ × ℕ)
  pub first : Has pairs (m.before, m.after)
  pub alike : (k l : ℕ) → Has pairs (k, l) → AreAlike p ms pairs k l
