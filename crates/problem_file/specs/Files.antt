-- The state that the items of a problem file have declared, defined and stated so far.
use Rattle.std.specs.Prelude.{ℕ, ◌+◌, List, [], ◌∷◌, ◌++◌, length, Bool, ◌||◌, if◌then◌else◌, nat_lt, nat_eq, Result, Ok, Err, Option, Some, None, unwrap_or, nat_le}
use Rattle.std.specs.Option.{is_some}
use Rattle.kat_model.specs.declared.limits.TheConstants.{MAX_TESTS, MAX_ACTIONS, MAX_VARS, MAX_ROUNDS, MAX_GOALS, MAX_TERM_NODES, MAX_TEXT_NODES}
use Rattle.kat_model.specs.Trees.{Term}
use Rattle.kat_model.specs.Expressions.{CondTree, test_without_comparisons}
use Rattle.kat_model.specs.declared.expression.Width.{Width}
use Rattle.kat_model.specs.declared.expression.Width.TheVariants.{W8, W16, W32, W64}
use Rattle.goal_forms.specs.Sides.{failing_run}
use Rattle.text_parser.specs.declared.fault.TextFault.{TextFault}
use Rattle.text_parser.specs.declared.fault.TextFault.TheVariants.{DoubleName, TooMany, TooLarge, TwoGoals, Sort}
use Rattle.text_parser.specs.declared.meaning.Meaning.TheVariants.{Test, Action, Var, Prog}
use Rattle.text_parser.specs.ScopeParts.{ScopeParts, meaning, empty_scope, declared, defined}
use Rattle.while_lang.specs.Programs.{ProgTree}
use Rattle.while_lang.specs.NamedProgs.{ProgParts}
use Rattle.problem_file.specs.declared.goal_limit.GoalLimit.{GoalLimit}
use Rattle.problem_file.specs.declared.goal_limit.GoalLimit.TheVariants.{One, Batch}
use Rattle.while_lang.specs.Files.{GoalTree, FileParts}

-- ---- states

-- the maximum number of goals
abbrev pub most_goals : GoalLimit → ℕ
most_goals One = 1
most_goals Batch = MAX_GOALS

-- the fault of a goal past the maximum, at its keyword
abbrev pub goal_fault : GoalLimit → ℕ → TextFault
goal_fault One at = TwoGoals at
goal_fault Batch at = TooMany at

-- the limit of goals, what the items so far have made, and their total number of nodes
pub record State : Type 0 where
  pub limit : GoalLimit
  pub world : ScopeParts
  pub tests : ℕ
  pub actions : ℕ
  pub vars : ℕ
  pub progs : List ProgParts
  pub prog_names : List (List ℕ)
  pub hyps : List Term
  pub rounds : Option ℕ
  pub width : Option Width
  pub goals : List GoalTree
  pub size : ℕ

abbrev pub start : GoalLimit → State
start limit = record {
  limit = limit;
  world = empty_scope;
  tests = 0;
  actions = 0;
  vars = 0;
  progs = [];
  prog_names = [];
  hyps = [];
  rounds = None;
  width = None;
  goals = [];
  size = 0;
}

-- the defaults: 1 for `rounds`, 64 for `width`
abbrev pub rounds_of : State → ℕ
rounds_of s = unwrap_or s.rounds 1

abbrev pub width_of : State → Width
width_of s = unwrap_or s.width W64

-- the file that the items make, with this goal
abbrev pub file_of : State → GoalTree → FileParts
file_of s goal = record {
  scope = s.world;
  tests = s.tests;
  actions = s.actions;
  vars = s.vars;
  terms = length s.world.terms;
  progs = s.progs;
  prog_names = s.prog_names;
  hyps = s.hyps;
  rounds = rounds_of s;
  goal = goal;
  width = width_of s;
}

-- ---- names

-- whether the name is declared
abbrev pub is_known : State → List ℕ → Bool
is_known s name = is_some (meaning s.world name)

-- an additional test, action or variable, within the limits
abbrev pub declare_test : State → ℕ → List ℕ → Result State TextFault
declare_test s at name =
    if is_known s name then Err (DoubleName at)
    else if nat_le MAX_TESTS s.tests then Err (TooMany at)
    else Ok (record s { world = declared s.world name (Test s.tests); tests = s.tests + 1 })

abbrev pub declare_action : State → ℕ → List ℕ → Result State TextFault
declare_action s at name =
    if is_known s name then Err (DoubleName at)
    else if nat_le MAX_ACTIONS s.actions then Err (TooMany at)
    else Ok (record s { world = declared s.world name (Action s.actions); actions = s.actions + 1 })

abbrev pub declare_var : State → ℕ → List ℕ → Result State TextFault
declare_var s at name =
    if is_known s name then Err (DoubleName at)
    else if nat_le MAX_VARS s.vars then Err (TooMany at)
    else Ok (record s { world = declared s.world name (Var s.vars); vars = s.vars + 1 })

-- a name that is defined must be new
abbrev pub check_new : State → ℕ → List ℕ → Result (Unit {0}) TextFault
check_new s at name = if is_known s name then Err (DoubleName at) else Ok tt

-- ---- rounds and width

-- whether a `var`, a `prog` or a `goal` precedes; `width` must come before these
abbrev pub has_begun : State → Bool
has_begun s = nat_lt 0 s.vars || (nat_lt 0 (length s.progs) || nat_lt 0 (length s.goals))

-- each may occur once
abbrev pub begin_rounds : State → ℕ → Result (Unit {0}) TextFault
begin_rounds s at = if is_some s.rounds then Err (DoubleName at) else Ok tt

abbrev pub begin_width : State → ℕ → Result (Unit {0}) TextFault
begin_width s at = if is_some s.width then Err (DoubleName at) else if has_begun s then Err (Sort at) else Ok tt

abbrev pub with_rounds : State → ℕ → State
with_rounds s n = record s { rounds = Some n }

abbrev pub with_width : State → Width → State
with_width s w = record s { width = Some w }

-- at most `MAX_ROUNDS` rounds; the number is at this place
abbrev pub set_rounds : State → ℕ → ℕ → Result State TextFault
set_rounds s at n = if nat_lt MAX_ROUNDS n then Err (TooMany at) else Ok (with_rounds s n)

-- the width of that many bits
abbrev pub width_with : ℕ → Option Width
width_with n =
    if nat_eq n 8 then Some W8
    else if nat_eq n 16 then Some W16
    else if nat_eq n 32 then Some W32
    else if nat_eq n 64 then Some W64
    else None

abbrev pub take_width : State → ℕ → Option Width → Result State TextFault
take_width s at None = Err (Sort at)
take_width s at (Some w) = Ok (with_width s w)

abbrev pub set_width : State → ℕ → ℕ → Result State TextFault
set_width s at n = take_width s at (width_with n)

-- ---- nodes

-- adds nodes to the total of the file, for an item that begins at this place
abbrev pub grow : State → ℕ → ℕ → Result State TextFault
grow s at nodes = if nat_lt MAX_TEXT_NODES (s.size + nodes) then Err (TooLarge at) else Ok (record s { size = s.size + nodes })

-- a separate item, or one part of a goal, has at most `MAX_TERM_NODES` nodes
abbrev pub check_size : ℕ → ℕ → Result (Unit {0}) TextFault
check_size at nodes = if nat_lt MAX_TERM_NODES nodes then Err (TooLarge at) else Ok tt

-- ---- definitions, hypotheses and goals

abbrev pub define : State → List ℕ → Term → ℕ → State
define s name tree nesting = record s { world = defined s.world name (record { tree = tree; nesting = nesting }) }

-- an additional program, with the next number
abbrev pub add_prog : State → List ℕ → ProgTree → ℕ → State
add_prog s name tree nesting = record s {
  world = declared s.world name (Prog (length s.progs));
  progs = s.progs ++ record { tree = tree; nesting = nesting } ∷ [];
  prog_names = s.prog_names ++ name ∷ [];
}

abbrev pub state_hyp : State → Term → State
state_hyp s tree = record s { hyps = s.hyps ++ tree ∷ [] }

abbrev pub state_goal : State → GoalTree → State
state_goal s goal = record s { goals = s.goals ++ goal ∷ [] }

-- the hypothesis that no run of the body from pre ends outside post
abbrev pub triple_term : CondTree → Term → CondTree → Term
triple_term pre body post = failing_run (test_without_comparisons pre) body (test_without_comparisons post)
