-- The walks of the parts of a program along a string, by recursion on the program.
use Rattle.std.specs.Prelude.{ℕ, zero, suc, Bool, true, false, List, [], ◌+◌, ◌-◌, length, take, drop, slice_get, nat_eq, Option, Some, None, if◌then◌else◌}
use Rattle.kat_model.specs.Trees.{TestTree}
use Rattle.kat_model.specs.Steps.{Atom, truth}
use Rattle.kat_model.specs.Strings.{Move, GuardedString}
use Rattle.while_lang.specs.Flows as flow
use Rattle.while_lang.specs.Flows.{FlowTree, FlowStmt}
use Rattle.tool_explain.specs.declared.walking.Stop.{Stop}
use Rattle.tool_explain.specs.declared.walking.Stop.TheVariants as stop
use Rattle.tool_explain.specs.declared.place.Place.{Place}
use Rattle.tool_explain.specs.declared.place.Place.TheVariants.{Ended, Blocked, AtAction}
use Rattle.tool_explain.specs.Places.{PlacedTree, empty, skip_then, abort_then, assert_then, act_then, branch_then, loop_then, path_at, path_in, placed, Walk, ended, stopped, walk}

-- ---- positions of the string

-- the atom of a move, if there is one
abbrev pub atom_of_move : Option Move → Atom
atom_of_move None = []
atom_of_move (Some m) = m.atom

-- the atom at a position of the string
abbrev pub atom_from : GuardedString → ℕ → Atom
atom_from x zero = x.first
atom_from x (suc k) = atom_of_move (slice_get x.rest k)

-- whether the move is this action
abbrev pub is_act_of : Option Move → ℕ → Bool
is_act_of None a = false
is_act_of (Some m) a = nat_eq m.act a

-- whether the string continues with this action
abbrev pub is_next : GuardedString → ℕ → ℕ → Bool
is_next x k a = is_act_of (slice_get x.rest k) a

abbrev pub count_of : Bool → ℕ
count_of true = 1
count_of false = 0

-- the walk from a position of the string
abbrev pub walk_from : GuardedString → ℕ → PlacedTree → Walk
walk_from x k f = walk (drop k x.rest) k (atom_from x k) f

-- ---- how parts of a program end

-- how statements end that follow the string: all of them have ended, at this position, or one of them stops there
pub data End : Type 0 where
  over : (k : ℕ) → End
  halted : (why : Stop) (k : ℕ) (path : List ℕ) → End

-- the end by what the code returns
abbrev pub end_of : Option Stop → ℕ → List ℕ → End
end_of None k path = over k
end_of (Some why) k path = halted why k path

-- the end of a first part, or else of a second part from there
abbrev pub then_on : End → (ℕ → End) → End
then_on (over k) next = next k
then_on (halted why k path) next = halted why k path

-- the end by the walk of the whole program
abbrev pub end_of_walk : Walk → End
end_of_walk (ended k atom left) = over k
end_of_walk (stopped (Ended k)) = over k
end_of_walk (stopped (Blocked k path)) = halted stop.Blocked k path
end_of_walk (stopped (AtAction k path)) = halted stop.AtAction k path

-- a statement with its path
abbrev pub placed_stmt : List ℕ → FlowStmt → PlacedTree
placed_stmt path flow.skip = skip_then empty
placed_stmt path flow.abort = abort_then path empty
placed_stmt path (flow.assert b) = assert_then path b empty
placed_stmt path (flow.act a) = act_then path a empty
placed_stmt path (flow.branch b f g) = branch_then b (placed (path_in path 0) 0 f) (placed (path_in path 1) 0 g) empty
placed_stmt path (flow.loop b f) = loop_then path b (placed (path_in path 0) 0 f) empty

-- a loop with this path
abbrev pub loop_end : GuardedString → List ℕ → TestTree → FlowTree → ℕ → End
loop_end x path b f k = end_of_walk (walk_from x k (placed_stmt path (flow.loop b f)))

-- statements from number j of the list with this base on
abbrev pub list_end : GuardedString → List ℕ → ℕ → FlowTree → ℕ → End
list_end x base j flow.empty k = over k
list_end x base j (flow.skip_then rest) k = list_end x base (j + 1) rest k
list_end x base j (flow.abort_then rest) k = halted stop.Blocked k (path_at base j)
list_end x base j (flow.assert_then b rest) k =
    then_on (if truth b (atom_from x k) then over k else halted stop.Blocked k (path_at base j)) (list_end x base (j + 1) rest)
list_end x base j (flow.act_then a rest) k =
    then_on (if is_next x k a then over (k + 1) else halted stop.AtAction k (path_at base j)) (list_end x base (j + 1) rest)
list_end x base j (flow.branch_then b f g rest) k =
    then_on (if truth b (atom_from x k) then list_end x (path_in (path_at base j) 0) 0 f k else list_end x (path_in (path_at base j) 1) 0 g k)
    (list_end x base (j + 1) rest)
list_end x base j (flow.loop_then b f rest) k = then_on (loop_end x (path_at base j) b f k) (list_end x base (j + 1) rest)

-- a statement at this path
abbrev pub stmt_end : GuardedString → List ℕ → FlowStmt → ℕ → End
stmt_end x path flow.skip k = over k
stmt_end x path flow.abort k = halted stop.Blocked k path
stmt_end x path (flow.assert b) k = if truth b (atom_from x k) then over k else halted stop.Blocked k path
stmt_end x path (flow.act a) k = if is_next x k a then over (k + 1) else halted stop.AtAction k path
stmt_end x path (flow.branch b f g) k =
    if truth b (atom_from x k) then list_end x (path_in path 0) 0 f k else list_end x (path_in path 1) 0 g k
stmt_end x path (flow.loop b f) k = loop_end x path b f k

-- the place where a whole program ended or stopped
abbrev pub place_at : Option Stop → ℕ → List ℕ → Place
place_at None k path = Ended k
place_at (Some stop.Blocked) k path = Blocked k path
place_at (Some stop.AtAction) k path = AtAction k path

-- a path without its last number
abbrev pub without_last : List ℕ → List ℕ
without_last path = take (length path - 1) path
