-- The graphs of a piece: a question about two graphs from one state. Each graph begins with the equations of its match,
-- follows its blocks to the next matched ones, and returns there what is compared.
use Rattle.std.specs.Prelude.{ℕ, suc, ◌+◌, Bool, true, false, ◌&&◌, nat_eq, List, [], ◌∷◌, ◌++◌, length, map, filter, flat_map, position, unwrap_or, Option, Some, None, slice_get, if◌then◌else◌}
use Rattle.std.specs.List.{list_any, range_with_len}
use Rattle.kat_model.specs.UniqueRows.{with_all_new}
use Rattle.kat_model.specs.declared.expression.Rel.TheVariants.{Eq}
use Rattle.kat_model.specs.declared.expression.Width.TheVariants.{W32}
use Rattle.flow_model.specs.Expressions.{ExprTree, number, variable}
use Rattle.flow_model.specs.Conditions.{CondTree, always, compared, both}
use Rattle.flow_model.specs.Graphs.{StatementTree, assign, claim, JumpTree, goto, branch, return, abort, Block, Graph, Pair}
use Rattle.flow_places.specs.Loops.{targets}
use Rattle.flow_places.specs.Walks.{blocks_from}
use Rattle.flow_model.specs.Matches.{Equation, Match}
use Rattle.flow_pieces.specs.Matches.{is_shared}
use Rattle.flow_pieces.specs.Pieces.{is_matched_before, is_matched_after}

-- ---- blocks of a piece

-- the matched blocks to which blocks jump, each once
abbrev pub arrivals_of : Graph → (ℕ → Bool) → List ℕ → List ℕ
arrivals_of g is_matched ks = with_all_new nat_eq [] (filter is_matched (flat_map (targets g) ks))

-- A point of the graph of a piece: its start, a block inside, the arrival at a matched block, where the exits from number
-- `i` on are left to try, and the exit of number `i` there.
pub data Point : Type 0 where
  start : Point
  inside : (block : ℕ) → Point
  arrival : (block i : ℕ) → Point
  leaving : (block i : ℕ) → Point

abbrev pub is_same_point : Point → Point → Bool
is_same_point start start = true
is_same_point (inside k) (inside l) = nat_eq k l
is_same_point (arrival k i) (arrival l j) = nat_eq k l && nat_eq i j
is_same_point (leaving k i) (leaving l j) = nat_eq k l && nat_eq i j
is_same_point _ _ = false

-- an exit at a matched block: where the condition holds, the run returns the results
pub record Leave : Type 0 where
  pub condition : CondTree
  pub results : List ExprTree

-- one side of a piece: the graph that it is cut from, its first block, what is known at first, the exits at each matched
-- block, in the order in which they are tried, and what is returned where none of them is taken
pub record Side : Type 0 where
  pub graph : Graph
  pub is_matched : ℕ → Bool
  pub first : ℕ
  pub opening : List StatementTree
  pub leaves : ℕ → List Leave
  pub otherwise : List ExprTree

abbrev pub side_blocks : Side → List ℕ
side_blocks side = blocks_from side.graph side.is_matched side.first

abbrev pub points_at : Side → ℕ → List Point
points_at side k =
    flat_map (λ i. arrival k i ∷ leaving k i ∷ []) (range_with_len 0 (length (side.leaves k)))
    ++ arrival k (length (side.leaves k)) ∷ []

-- the points of a side, in the order of its graph
abbrev pub points : Side → List Point
points side =
    start ∷ map inside (side_blocks side)
    ++ flat_map (points_at side) (arrivals_of side.graph side.is_matched (side_blocks side))

-- the number of a point; there is no block of the number of a point that there is not
abbrev pub number_of : Side → Point → ℕ
number_of side x = unwrap_or (position (is_same_point x) (points side)) (length (points side))

-- each return of a piece begins with a mark
abbrev pub mark : ℕ → ExprTree
mark n = number W32 n

abbrev pub return_mark : ExprTree
return_mark = mark 0

abbrev pub lost_before_mark : ExprTree
lost_before_mark = mark 1

abbrev pub lost_after_mark : ExprTree
lost_after_mark = mark 2

abbrev pub exit_mark : ℕ → ExprTree
exit_mark i = mark (3 + i)

abbrev pub block_without : JumpTree → Block
block_without jump = record { is_cut = false; statements = []; jump = jump }

-- where a jump to a block leads
abbrev pub target_of : Side → ℕ → ℕ
target_of side k = number_of side (if side.is_matched k then arrival k 0 else inside k)

abbrev pub jump_of : Side → JumpTree → JumpTree
jump_of side (goto k) = goto (target_of side k)
jump_of side (branch b k l) = branch b (target_of side k) (target_of side l)
jump_of side (return es) = return (return_mark ∷ es)
jump_of side abort = abort

abbrev pub block_inside : Side → Option Block → Block
block_inside side None = block_without abort
block_inside side (Some block) = record { is_cut = block.is_cut; statements = block.statements; jump = jump_of side block.jump }

abbrev pub arrival_jump : Side → ℕ → ℕ → Option Leave → JumpTree
arrival_jump side k i None = return side.otherwise
arrival_jump side k i (Some leave) = branch leave.condition (number_of side (leaving k i)) (number_of side (arrival k (suc i)))

abbrev pub leaving_jump : Option Leave → JumpTree
leaving_jump None = abort
leaving_jump (Some leave) = return leave.results

abbrev pub block_at : Side → Point → Block
block_at side start = record { is_cut = false; statements = side.opening; jump = goto (number_of side (inside side.first)) }
block_at side (inside k) = block_inside side (slice_get side.graph k)
block_at side (arrival k i) = block_without (arrival_jump side k i (slice_get (side.leaves k) i))
block_at side (leaving k i) = block_without (leaving_jump (slice_get (side.leaves k) i))

abbrev pub side_graph : Side → Graph
side_graph side = map (block_at side) (points side)

-- ---- both sides of a piece

-- Matches that share a mark: they pair each of some blocks of the first graph with each of some blocks of the second, with
-- the equations and the condition of one match, and have these live variables.
pub record Exit : Type 0 where
  pub rows : List ℕ
  pub columns : List ℕ
  pub match : Match
  pub live : List ℕ

-- the equations hold, as a condition
abbrev pub equations_hold : List Equation → CondTree → CondTree
equations_hold [] b = b
equations_hold (e ∷ es) b = both (compared Eq (variable e.variable) e.expression) (equations_hold es b)

abbrev pub assigned : List Equation → StatementTree
assigned es = assign (map (λ e. e.variable) es) (map (λ e. e.expression) es)

-- what is known of the common state at a match: its condition, and equations of the first graph, by which variables are
-- replaced
abbrev pub known_at : Match → List StatementTree
known_at m = claim (equations_hold m.keeping m.condition) ∷ assigned m.keeping ∷ []

-- the variables that an exit compares as they are, and the equations that give others
abbrev pub shared_variables : Exit → List ℕ
shared_variables e = filter (is_shared e.match) e.live

abbrev pub live_equations : Exit → List Equation
live_equations e = filter (λ q. list_any (λ x. nat_eq x q.variable) e.live) e.match.forth

-- what both sides return at an exit
abbrev pub results_before : Exit → List ExprTree
results_before e =
    map variable (shared_variables e)
    ++ map (λ q. q.expression) (live_equations e)
    ++ map (λ q. variable q.variable) e.match.back

abbrev pub results_after : Exit → List ExprTree
results_after e =
    map variable (shared_variables e)
    ++ map (λ q. variable q.variable) (live_equations e)
    ++ map (λ q. q.expression) e.match.back

-- the leaves of the exits that have a block, each with the mark of its number
abbrev pub leaves_from : (ℕ → Exit → Leave) → (Exit → Bool) → ℕ → List Exit → List Leave
leaves_from leave has_block i [] = []
leaves_from leave has_block i (e ∷ es) =
    if has_block e then leave i e ∷ leaves_from leave has_block (suc i) es else leaves_from leave has_block (suc i) es

abbrev pub has_block : List ℕ → ℕ → Bool
has_block ks k = list_any (λ l. nat_eq l k) ks

-- the first graph leaves by an exit whose condition and equations hold
abbrev pub leave_before : ℕ → Exit → Leave
leave_before i e = record { condition = equations_hold e.match.keeping e.match.condition; results = exit_mark i ∷ results_before e }

abbrev pub leave_after : ℕ → Exit → Leave
leave_after i e = record { condition = always; results = exit_mark i ∷ results_after e }

abbrev pub side_before : Pair → List Match → Match → List Exit → Side
side_before p ms m exits = record {
  graph = p.before;
  is_matched = is_matched_before ms;
  first = m.before;
  opening = known_at m ++ assigned m.back ∷ [];
  leaves = λ k. leaves_from leave_before (λ e. has_block e.rows k) 0 exits;
  otherwise = lost_before_mark ∷ [];
}

abbrev pub side_after : Pair → List Match → Match → List Exit → Side
side_after p ms m exits = record {
  graph = p.after;
  is_matched = is_matched_after ms;
  first = m.after;
  opening = known_at m ++ assigned m.forth ∷ [];
  leaves = λ k. leaves_from leave_after (λ e. has_block e.columns k) 0 exits;
  otherwise = lost_after_mark ∷ [];
}

-- the two graphs of the piece of a match with these exits
abbrev pub piece_pair : Pair → List Match → Match → List Exit → Pair
piece_pair p ms m exits = record {
  sorts = p.sorts;
  before = side_graph (side_before p ms m exits);
  after = side_graph (side_after p ms m exits);
}
