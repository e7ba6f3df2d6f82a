-- Where a program over tests and actions is after a guarded string: the residual of the program along the string, by
-- the derivatives of guarded programs (Smolka, Foster, Hsu, Kappé, Kozen and Silva, *Guarded Kleene algebra with tests*,
-- 2020), with the paths of its statements.
use Rattle.std.specs.Prelude.{ℕ, suc, List, [], ◌∷◌, ◌++◌, nat_eq, if◌then◌else◌}
use Rattle.kat_model.specs.Trees.{TestTree}
use Rattle.kat_model.specs.Steps.{Atom, truth}
use Rattle.kat_model.specs.Strings.{Move, GuardedString}
use Rattle.while_lang.specs.Flows as flow
use Rattle.while_lang.specs.Flows.{FlowTree}
use Rattle.tool_explain.specs.declared.place.Place.{Place}
use Rattle.tool_explain.specs.declared.place.Place.TheVariants.{Ended, Blocked, AtAction}

-- ---- paths

-- a list of statements, with the paths of those at which a program can stop
pub data PlacedTree : Type 0 where
  empty : PlacedTree
  skip_then : (rest : PlacedTree) → PlacedTree
  abort_then : (path : List ℕ) (rest : PlacedTree) → PlacedTree
  assert_then : (path : List ℕ) (b : TestTree) (rest : PlacedTree) → PlacedTree
  act_then : (path : List ℕ) (a : ℕ) (rest : PlacedTree) → PlacedTree
  branch_then : (b : TestTree) (f g rest : PlacedTree) → PlacedTree
  loop_then : (path : List ℕ) (b : TestTree) (f rest : PlacedTree) → PlacedTree

-- the path of statement k of the list with this base, and the base of a block of the statement at a path
abbrev pub path_at : List ℕ → ℕ → List ℕ
path_at base k = base ++ k ∷ []

abbrev pub path_in : List ℕ → ℕ → List ℕ
path_in path block = path ++ block ∷ []

-- the statements of the list with this base, from number k on, with their paths
abbrev pub placed : List ℕ → ℕ → FlowTree → PlacedTree
placed base k flow.empty = empty
placed base k (flow.skip_then rest) = skip_then (placed base (suc k) rest)
placed base k (flow.abort_then rest) = abort_then (path_at base k) (placed base (suc k) rest)
placed base k (flow.assert_then b rest) = assert_then (path_at base k) b (placed base (suc k) rest)
placed base k (flow.act_then a rest) = act_then (path_at base k) a (placed base (suc k) rest)
placed base k (flow.branch_then b f g rest) =
    branch_then b (placed (path_in (path_at base k) 0) 0 f) (placed (path_in (path_at base k) 1) 0 g) (placed base (suc k) rest)
placed base k (flow.loop_then b f rest) = loop_then (path_at base k) b (placed (path_in (path_at base k) 0) 0 f) (placed base (suc k) rest)

-- ---- one step

-- the first list of statements, then the second
abbrev pub followed_by : PlacedTree → PlacedTree → PlacedTree
followed_by empty g = g
followed_by (skip_then rest) g = skip_then (followed_by rest g)
followed_by (abort_then path rest) g = abort_then path (followed_by rest g)
followed_by (assert_then path b rest) g = assert_then path b (followed_by rest g)
followed_by (act_then path a rest) g = act_then path a (followed_by rest g)
followed_by (branch_then b f h rest) g = branch_then b f h (followed_by rest g)
followed_by (loop_then path b f rest) g = loop_then path b f (followed_by rest g)

-- what a program does under an atom: it ends without an action; it neither ends nor acts, at the statement with this
-- path; or it takes an action, at the statement with this path, and continues with the rest
pub data Front : Type 0 where
  over : Front
  blocked : (path : List ℕ) → Front
  acting : (path : List ℕ) (a : ℕ) (rest : PlacedTree) → Front

-- what a first part and then `g` do, by what the first part does and what `g` does, `next`
abbrev pub then_front : Front → PlacedTree → Front → Front
then_front over g next = next
then_front (blocked path) g next = blocked path
then_front (acting path a f) g next = acting path a (followed_by f g)

-- what a loop at this path does if its test is true, by what its body does. A body that ends without an action is
-- repeated forever
abbrev pub turn_front : Front → List ℕ → PlacedTree → Front
turn_front over path again = blocked path
turn_front (blocked inner) path again = blocked inner
turn_front (acting inner a f) path again = acting inner a (followed_by f again)

abbrev pub front : Atom → PlacedTree → Front
front atom empty = over
front atom (skip_then rest) = front atom rest
front atom (abort_then path rest) = blocked path
front atom (assert_then path b rest) = if truth b atom then front atom rest else blocked path
front atom (act_then path a rest) = acting path a rest
front atom (branch_then b f g rest) = then_front (if truth b atom then front atom f else front atom g) rest (front atom rest)
front atom (loop_then path b f rest) = if truth b atom then turn_front (front atom f) path (loop_then path b f rest) else front atom rest

-- ---- a whole string

-- how a program follows moves: it ends at a position, with its atom and the moves left, or it stops at a place
pub data Walk : Type 0 where
  ended : (k : ℕ) (atom : Atom) (left : List Move) → Walk
  stopped : (place : Place) → Walk

-- the walk by what the program does under the atom: at the end of the string, and before a move
abbrev pub at_end : Front → ℕ → Atom → Walk
at_end over k atom = ended k atom []
at_end (blocked path) k atom = stopped (Blocked k path)
at_end (acting path a rest) k atom = stopped (AtAction k path)

abbrev pub at_move : Front → ℕ → Atom → Move → List Move → (PlacedTree → Walk) → Walk
at_move over k atom m ms next = ended k atom (m ∷ ms)
at_move (blocked path) k atom m ms next = stopped (Blocked k path)
at_move (acting path a rest) k atom m ms next = if nat_eq m.act a then next rest else stopped (AtAction k path)

-- the walk of a program along moves: after each action its residual continues
abbrev pub walk : List Move → ℕ → Atom → PlacedTree → Walk
walk [] k atom f = at_end (front atom f) k atom
walk (m ∷ ms) k atom f = at_move (front atom f) k atom m ms (λ rest. walk ms (suc k) m.atom rest)

-- the place where a walk ends
abbrev pub place_reached : Walk → Place
place_reached (ended k atom left) = Ended k
place_reached (stopped place) = place

-- where the program is after the string
abbrev pub place_of : FlowTree → GuardedString → Place
place_of f x = place_reached (walk x.rest 0 x.first (placed [] 0 f))
