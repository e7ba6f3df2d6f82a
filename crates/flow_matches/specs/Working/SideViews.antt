-- The parts of a side of a piece, as the definitions have them.
use Rattle.std.specs.Prelude.{◌≡◌, ◌<◌, ◌+◌, ◌++◌, ℕ, Bool, true, false, ◌||◌, List, [], ◌∷◌, length, map, unwrap_or, slice_get, slice_set, slice_index_or, if◌then◌else◌, Vec}
use Rattle.std.specs.declared.alloc.Global.{Global}
use Rattle.flow_model.specs.declared.graph.Block.{Block as ABlock}
use Rattle.kat_model.specs.declared.expression.Rel.TheVariants.{Eq}
use Rattle.flow_model.specs.Expressions.{ExprTree, variable}
use Rattle.flow_model.specs.Conditions.{compared}
use Rattle.flow_model.specs.Matches.{Equation}
use Rattle.flow_model.specs.Graphs.{branch, return, Graph}
use Rattle.flow_model.specs.Polish.{CondPart, a_condition, a_conjunction, cond_of, values_of, statement_of, graph_of}
use Rattle.flow_pieces.specs.PieceGraphs.{Leave, Side, arrivals_of, side_blocks, points, target_of, block_without, mark}
use Rattle.flow_matches.specs.declared.leaves.Leave.{Leave as ALeave}
use Rattle.flow_matches.specs.declared.side.Side.{Side as ASide}

-- each number that passes the test is less than n
abbrev pub AreBelowIf : ℕ → (ℕ → Bool) → Type 0
AreBelowIf n test = (k : ℕ) → test k ≡ true → k < n

abbrev pub leave_tree : ALeave → Leave
leave_tree leave = record { condition = cond_of leave.condition.items; results = values_of leave.results.items }

abbrev pub leave_trees : List ALeave → List Leave
leave_trees leaves = map leave_tree leaves

-- the matched blocks where runs from the first block arrive
abbrev pub side_arrivals : Side → List ℕ
side_arrivals s = arrivals_of s.graph s.is_matched (side_blocks s)

-- the parts are those of the side, and jumps lead to the points to which it has them lead
pub record IsSide (side : ASide) (blocks : List ABlock) (s : Side) : Type 0 where
  pub graph : s.graph ≡ graph_of blocks
  pub opening : map statement_of side.opening.items ≡ s.opening
  pub inside : side.inside.items ≡ side_blocks s
  pub leaves : map (λ l. leave_trees l.items) side.leaves.items ≡ map s.leaves (side_arrivals s)
  pub targets : (k : ℕ) → unwrap_or (slice_get side.targets.items k) side.count ≡ target_of s k
  pub count : side.count ≡ length (points s)
  pub otherwise : s.otherwise ≡ mark side.otherwise ∷ []

-- the list has these blocks after the others
abbrev pub AddsBlocks : Vec ABlock Global → Vec ABlock Global → Graph → Type 0
AddsBlocks old new bs = graph_of new.items ≡ graph_of old.items ++ bs

-- the two blocks of an exit from a number on: the run leaves where the condition holds
abbrev pub leave_blocks : ℕ → Leave → Graph
leave_blocks n l = block_without (branch l.condition (n + 1) (n + 2)) ∷ block_without (return l.results) ∷ []

-- the blocks of an arrival from a number on: each exit is tried in turn
abbrev pub arrival_blocks : ℕ → List Leave → List ExprTree → Graph
arrival_blocks n [] es = block_without (return es) ∷ []
arrival_blocks n (l ∷ ls) es = leave_blocks n l ++ arrival_blocks (n + 2) ls es

-- the number of the point after an arrival with some exits
abbrev pub after_arrival : ℕ → ℕ → ℕ
after_arrival n leaves = n + leaves + leaves + 1

-- the number of the point after arrivals with these numbers of exits
abbrev pub after_arrivals : ℕ → List ℕ → ℕ
after_arrivals n [] = n
after_arrivals n (l ∷ ls) = after_arrivals (after_arrival n l) ls

-- the blocks of arrivals with these exits, from a number on
abbrev pub blocks_of_arrivals : ℕ → List (List Leave) → List ExprTree → Graph
blocks_of_arrivals n [] es = []
blocks_of_arrivals n (l ∷ ls) es = arrival_blocks n l es ++ blocks_of_arrivals (after_arrival n (length l)) ls es

-- a table of numbers with those of the blocks inside, which are numbered in their order; a block where runs stop keeps its
-- number
abbrev pub number_blocks : (ℕ → Bool) → ℕ → List ℕ → List ℕ → List ℕ
number_blocks stops n [] targets = targets
number_blocks stops n (k ∷ ks) targets = number_blocks stops (n + 1) ks (if stops k then targets else slice_set targets k n)

-- a table of numbers with those of the first points of arrivals with these numbers of exits
abbrev pub number_all_arrivals : ℕ → List ℕ → List ℕ → List ℕ → List ℕ
number_all_arrivals n [] ls targets = targets
number_all_arrivals n (k ∷ ks) [] targets = targets
number_all_arrivals n (k ∷ ks) (l ∷ ls) targets = number_all_arrivals (after_arrival n l) ks ls (slice_set targets k n)

-- the numbers of exits of arrivals
abbrev pub numbers_of_leaves : List (Vec ALeave Global) → List ℕ
numbers_of_leaves leaves = map (λ l. length l.items) leaves

-- the nodes of the condition that an equation holds and the next condition too
abbrev pub equation_parts : Equation → List CondPart
equation_parts e = a_conjunction ∷ a_condition (compared Eq (variable e.variable) e.expression) ∷ []

-- the variables that pass the test are marked as well
pub record HasMarks (test : ℕ → Bool) (old new : List Bool) : Type 0 where
  pub long : length new ≡ length old
  pub marked : (x : ℕ) → x < length old → slice_index_or new x false ≡ (test x || slice_index_or old x false)
