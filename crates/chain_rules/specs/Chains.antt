-- Chains of equations as trees, without the lists and boxes of the program.
use Rattle.std.specs.Prelude.{ℕ, ◌+◌, List, [], ◌∷◌, ◌++◌, Option, Some, None}
use Rattle.kat_model.specs.Trees.{Term}
use Rattle.chain_rules.specs.declared.chain.Axiom.{Axiom}

-- an equation between two terms
pub record Equation : Type 0 where
  pub left : Term
  pub right : Term

-- the equation with these sides
abbrev pub equation : Term → Term → Equation
equation e f = record { left = e; right = f }

-- A chain: a single term, or a term that a line equates with the first term of the rest, by an axiom at a place. The
-- line may have an inner chain.
pub data ChainTree : Type 0 where
  alone : (e : Term) → ChainTree
  equal_by : (e : Term) (rule : Axiom) (path : List ℕ) (rest : ChainTree) → ChainTree
  equal_by_inner : (e : Term) (rule : Axiom) (path : List ℕ) (inner rest : ChainTree) → ChainTree

-- the first term of a chain, and the last
abbrev pub first_term : ChainTree → Term
first_term (alone e) = e
first_term (equal_by e rule path rest) = e
first_term (equal_by_inner e rule path inner rest) = e

abbrev pub last_term : ChainTree → Term
last_term (alone e) = e
last_term (equal_by e rule path rest) = last_term rest
last_term (equal_by_inner e rule path inner rest) = last_term rest

-- the equation that a chain states
abbrev pub ends_of : ChainTree → Equation
ends_of c = equation (first_term c) (last_term c)

-- a line: the term before it, its own term, its axiom, its place, and the equation that its inner chain states
pub record LineParts : Type 0 where
  pub before : Term
  pub after : Term
  pub rule : Axiom
  pub path : List ℕ
  pub inner : Option Equation

-- the line from a term to the rest of a chain
abbrev pub line_to : Term → Axiom → List ℕ → Option Equation → ChainTree → LineParts
line_to e rule path inner rest =
    record { before = e; after = first_term rest; rule = rule; path = path; inner = inner }

-- the lines in text order: a line precedes those of its inner chain
abbrev pub lines_of : ChainTree → List LineParts
lines_of (alone e) = []
lines_of (equal_by e rule path rest) = line_to e rule path None rest ∷ lines_of rest
lines_of (equal_by_inner e rule path inner rest) =
    line_to e rule path (Some (ends_of inner)) rest ∷ (lines_of inner ++ lines_of rest)

-- the number of lines, including those of inner chains
abbrev pub lines_count : ChainTree → ℕ
lines_count (alone e) = 0
lines_count (equal_by e rule path rest) = lines_count rest + 1
lines_count (equal_by_inner e rule path inner rest) = lines_count inner + lines_count rest + 1
