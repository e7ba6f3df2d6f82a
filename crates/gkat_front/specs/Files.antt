-- The contents of a text, and the state after its items so far.
use Rattle.std.specs.Prelude.{ℕ, ◌+◌, if◌then◌else◌, nat_lt, Result, Ok, Err, List, Option, Some, None, nat_le}
use Rattle.std.specs.Option.{is_some}
use Rattle.kat_model.specs.declared.limits.TheConstants.{MAX_TESTS, MAX_ACTIONS, MAX_TERM_NODES}
use Rattle.text_parser.specs.declared.fault.TextFault.{TextFault}
use Rattle.text_parser.specs.declared.fault.TextFault.TheVariants.{DoubleName, TooMany, TooLarge, TwoGoals, NoGoal}
use Rattle.text_parser.specs.Parsed.{◌>>=◌}
use Rattle.text_parser.specs.declared.meaning.Meaning.TheVariants.{Test, Action}
use Rattle.text_parser.specs.ScopeParts.{ScopeParts, meaning, empty_scope, declared}
use Rattle.gkat_front.specs.Expressions.{GkatTree, gkat_size}

-- the contents of a text: its names, the numbers of tests and actions that it declares, and two expressions
pub record GkatFileParts : Type 0 where
  pub scope : ScopeParts
  pub tests : ℕ
  pub actions : ℕ
  pub left : GkatTree
  pub right : GkatTree

-- the state after the items so far
pub record GkatState : Type 0 where
  pub world : ScopeParts
  pub tests : ℕ
  pub actions : ℕ
  pub sides : Option (GkatTree × GkatTree)

abbrev pub start : GkatState
start = record { world = empty_scope; tests = 0; actions = 0; sides = None }

-- a declared name must be new
abbrev pub check_new : ScopeParts → ℕ → List ℕ → Result (Unit {0}) TextFault
check_new w at name = if is_some (meaning w name) then Err (DoubleName at) else Ok tt

-- declares a further test; there may be `MAX_TESTS` tests. The same for actions
abbrev pub declare_test : GkatState → ℕ → List ℕ → Result GkatState TextFault
declare_test s at name =
    check_new s.world at name >>= λ u.
    if nat_le MAX_TESTS s.tests then Err (TooMany at) else Ok (record s { world = declared s.world name (Test s.tests); tests = s.tests + 1 })

abbrev pub declare_action : GkatState → ℕ → List ℕ → Result GkatState TextFault
declare_action s at name =
    check_new s.world at name >>= λ u.
    if nat_le MAX_ACTIONS s.actions then Err (TooMany at) else Ok (record s { world = declared s.world name (Action s.actions); actions = s.actions + 1 })

-- `equal` may occur once
abbrev pub begin_equal : GkatState → ℕ → Result (Unit {0}) TextFault
begin_equal s at = if is_some s.sides then Err (TwoGoals at) else Ok tt

-- stores the two sides of an item that begins at the place; each may have `MAX_TERM_NODES` nodes
abbrev pub pose : GkatState → ℕ → GkatTree → GkatTree → Result GkatState TextFault
pose s at l r =
    if nat_lt MAX_TERM_NODES (gkat_size l) then Err (TooLarge at)
    else if nat_lt MAX_TERM_NODES (gkat_size r) then Err (TooLarge at)
    else Ok (record s { sides = Some (l, r) })

-- the file of a text that has an `equal`
abbrev pub file_with : GkatState → Option (GkatTree × GkatTree) → Result GkatFileParts TextFault
file_with s None = Err NoGoal
file_with s (Some x) = Ok (record { scope = s.world; tests = s.tests; actions = s.actions; left = x.0; right = x.1 })

abbrev pub file_of : GkatState → Result GkatFileParts TextFault
file_of s = file_with s s.sides
