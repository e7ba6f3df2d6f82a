-- The laws of places. Each is the contract of a function of the crate that does nothing.
use Rattle.std.specs.Prelude.{◌≡◌, ◌↔◌, ◌≤◌, ℕ, zero, suc, List, [], ◌∷◌, length, slice_get, Option, Some, None, IsTrue}
use Rattle.kat_model.specs.Strings.{GuardedString, accepts}
use Rattle.while_lang.specs.Flows.{FlowTree, FlowStmt, empty, skip_then, abort_then, assert_then, act_then, branch_then, loop_then, skip, abort, assert, act, branch, loop}
use Rattle.while_lang.specs.Encoding.{encoded}
use Rattle.tool_explain.specs.declared.place.Place.{Place}
use Rattle.tool_explain.specs.declared.place.Place.TheVariants.{Ended, Blocked, AtAction}
use Rattle.tool_explain.specs.Places.{place_of}

-- a program has ended after all of a string if and only if its term accepts the string
abbrev pub AcceptedStringsEnd : Type 0
AcceptedStringsEnd = (f : FlowTree) (x : GuardedString) → (place_of f x ≡ Ended (length x.rest)) ↔ IsTrue (accepts (encoded f) x.first x.rest)

-- the statements of a list
abbrev pub statements_of : FlowTree → List FlowStmt
statements_of empty = []
statements_of (skip_then rest) = skip ∷ statements_of rest
statements_of (abort_then rest) = abort ∷ statements_of rest
statements_of (assert_then b rest) = assert b ∷ statements_of rest
statements_of (act_then a rest) = act a ∷ statements_of rest
statements_of (branch_then b f g rest) = branch b f g ∷ statements_of rest
statements_of (loop_then b f rest) = loop b f ∷ statements_of rest

-- the block of a statement with this number; empty if there is none
abbrev pub block_of : Option FlowStmt → ℕ → FlowTree
block_of (Some (branch b f g)) zero = f
block_of (Some (branch b f g)) (suc zero) = g
block_of (Some (loop b f)) zero = f
block_of _ _ = empty

-- the statement at a path
abbrev pub statement_at : List ℕ → FlowTree → Option FlowStmt
statement_at [] f = None
statement_at (k ∷ []) f = slice_get (statements_of f) k
statement_at (k ∷ block ∷ path) f = statement_at path (block_of (slice_get (statements_of f) k) block)

-- the statement can stop a run without an action
abbrev pub CanBlock : Option FlowStmt → Type 0
CanBlock (Some abort) = Unit {0}
CanBlock (Some (assert b)) = Unit {0}
CanBlock (Some (loop b f)) = Unit {0}
CanBlock _ = ⊥

abbrev pub IsAction : Option FlowStmt → Type 0
IsAction (Some (act a)) = Unit {0}
IsAction _ = ⊥

-- a place is a position of the string, and a statement of its kind
abbrev pub IsPlaceIn : FlowTree → GuardedString → Place → Type 0
IsPlaceIn f x (Ended k) = k ≤ length x.rest
IsPlaceIn f x (Blocked k path) = (k ≤ length x.rest) × CanBlock (statement_at path f)
IsPlaceIn f x (AtAction k path) = (k ≤ length x.rest) × IsAction (statement_at path f)

abbrev pub PlacesAreStatements : Type 0
PlacesAreStatements = (f : FlowTree) (x : GuardedString) → IsPlaceIn f x (place_of f x)
