-- The state that each item of a problem file makes from the state before it.
use Rattle.std.specs.Prelude.{ℕ, ◌+◌, List, length, Bool, true, false, if◌then◌else◌, nat_lt, Result, Ok, Err, Option, Some, None, option_map, option_and_then, nat_le}
use Rattle.kat_model.specs.declared.limits.TheConstants.{MAX_HYPS}
use Rattle.kat_model.specs.Trees.{Term}
use Rattle.kat_model.specs.Expressions.{CondTree}
use Rattle.text_parser.specs.declared.fault.TextFault.{TextFault}
use Rattle.text_parser.specs.declared.fault.TextFault.TheVariants.{TooMany}
use Rattle.text_parser.specs.Lexemes.{Lexeme}
use Rattle.text_parser.specs.Parsed.{Parsed, ◌>>=◌}
use Rattle.text_parser.specs.Actions.{context}
use Rattle.text_parser.specs.Conds.{parse_cond, disjunction}
use Rattle.text_parser.specs.Terms.{parse_term, choice}
use Rattle.text_parser.specs.declared.extent.Extent.{Extent}
use Rattle.text_parser.specs.Building.{cond_trees, trees}
use Rattle.text_parser.specs.Measuring.{extents}
use Rattle.while_lang.specs.Programs.{ProgTree}
use Rattle.while_lang.specs.ProgramSizes.{prog_size}
use Rattle.while_lang.specs.NamedProgs.{ProgParts}
use Rattle.while_lang.specs.BlockMeasuring.{extent, block_extents}
use Rattle.while_lang.specs.BlockReadings.{built_block as block_tree}
use Rattle.problem_file.specs.declared.item_reading.Declared.{Declared}
use Rattle.problem_file.specs.declared.item_reading.Declared.TheVariants as what
use Rattle.problem_file.specs.declared.item_reading.Setting.{Setting}
use Rattle.problem_file.specs.declared.item_reading.Setting.TheVariants as setting
use Rattle.problem_file.specs.declared.item_reading.Comparison.{Comparison}
use Rattle.problem_file.specs.declared.item_reading.Comparison.TheVariants.{Equal, Below}
use Rattle.while_lang.specs.Files.{SideTree, term_side, prog_side, GoalTree, equal, below, triple, prog_named}
use Rattle.problem_file.specs.Files.{State, most_goals, goal_fault, width_of}
use Rattle.problem_file.specs.Files.{declare_test, declare_action, declare_var, check_new, begin_rounds, begin_width, set_rounds, set_width}
use Rattle.problem_file.specs.Files.{grow, check_size, define, add_prog, state_hyp, state_goal, triple_term}
use Rattle.problem_file.specs.Numbers.{check_numbers}
use Rattle.problem_file.specs.ItemActions.{Measurement, SidesMeasurement, TripleMeasurement, ItemActions}
use Rattle.problem_file.specs.Items.{lone_name, items_by}

-- ---- by cases

abbrev pub declare : Declared → State → ℕ → List ℕ → Result State TextFault
declare what.Test s at name = declare_test s at name
declare what.Action s at name = declare_action s at name
declare what.Var s at name = declare_var s at name

abbrev pub begin_setting : Setting → State → ℕ → Result (Unit {0}) TextFault
begin_setting setting.Rounds s at = begin_rounds s at
begin_setting setting.Width s at = begin_width s at

abbrev pub set : Setting → State → ℕ → ℕ → Result State TextFault
set setting.Rounds s at n = set_rounds s at n
set setting.Width s at n = set_width s at n

-- ---- the trees of phrases

abbrev pub built_term : State → List Lexeme → Parsed Term
built_term s ts = parse_term (trees s.world) choice (context 0 false false) ts

abbrev pub built_cond : State → Bool → List Lexeme → Parsed CondTree
built_cond s compares ts = parse_cond (cond_trees s.world) disjunction (context 1 false compares) ts

abbrev pub built_block : State → List Lexeme → Parsed ProgTree
built_block s ts = block_tree s.world s.progs 0 ts

-- the program that a side names, or its term
abbrev pub program_or : Option ProgParts → Parsed Term → Result SideTree TextFault
program_or (Some p) m = Ok (prog_side p.tree)
program_or None m = m >>= λ x. Ok (term_side x.0)

abbrev pub built_side : State → List Lexeme → Result SideTree TextFault
built_side s ts = program_or (option_and_then (prog_named s.world s.progs) (lone_name ts)) (built_term s ts)

-- the phrases of a stated triple, and of a triple that is a goal
abbrev pub built_triple : State → TripleMeasurement Extent → Result (CondTree × Term × CondTree) TextFault
built_triple s m =
    built_cond s false (m.pre).tokens >>= λ x. built_term s (m.body).tokens >>= λ y. built_cond s false (m.post).tokens >>= λ z.
    Ok (x.0, y.0, z.0)

abbrev pub built_goal : State → TripleMeasurement Extent → Result GoalTree TextFault
built_goal s m =
    built_cond s true (m.pre).tokens >>= λ x. built_side s (m.body).tokens >>= λ y. built_cond s true (m.post).tokens >>= λ z.
    Ok (triple x.0 y z.0)

-- ---- nodes

-- a program as a side counts its nodes
abbrev pub program_extent : ProgParts → Extent
program_extent p = extent (prog_size p.tree) p.nesting

-- counts the nodes of a separate item
abbrev pub count : State → ℕ → ℕ → Result State TextFault
count s at nodes = check_size at nodes >>= λ u. grow s at nodes

abbrev pub triple_nodes : TripleMeasurement Extent → ℕ
triple_nodes m = ((m.pre).measure).nodes + ((m.body).measure).nodes + ((m.post).measure).nodes

-- counts the nodes of a goal, each part of which has a limit
abbrev pub count_sides : State → ℕ → SidesMeasurement Extent → Result State TextFault
count_sides s at m =
    check_size at ((m.left).measure).nodes >>= λ u. check_size at ((m.right).measure).nodes >>= λ v.
    grow s at (((m.left).measure).nodes + ((m.right).measure).nodes)

abbrev pub count_parts : State → ℕ → TripleMeasurement Extent → Result State TextFault
count_parts s at m =
    check_size at ((m.pre).measure).nodes >>= λ u. check_size at ((m.body).measure).nodes >>= λ v.
    check_size at ((m.post).measure).nodes >>= λ w. grow s at (triple_nodes m)

-- ---- items

abbrev pub define_term : State → ℕ → List ℕ → Measurement Extent → Result State TextFault
define_term s at name m =
    count s at (m.measure).nodes >>= λ t. built_term t m.tokens >>= λ x. Ok (define t name x.0 (m.measure).nesting)

abbrev pub define_prog : State → ℕ → List ℕ → Measurement Extent → Result State TextFault
define_prog s at name m =
    count s at (m.measure).nodes >>= λ t. built_block t m.tokens >>= λ x. Ok (add_prog t name x.0 (m.measure).nesting)

-- at most `MAX_HYPS` hypotheses
abbrev pub begin_hyp : State → ℕ → Result (Unit {0}) TextFault
begin_hyp s at = if nat_le MAX_HYPS (length s.hyps) then Err (TooMany at) else Ok tt

abbrev pub state_zero : State → ℕ → Measurement Extent → Result State TextFault
state_zero s at m = count s at (m.measure).nodes >>= λ t. built_term t m.tokens >>= λ x. Ok (state_hyp t x.0)

abbrev pub state_triple : State → ℕ → TripleMeasurement Extent → Result State TextFault
state_triple s at m =
    count s at (triple_nodes m + 5) >>= λ t. built_triple t m >>= λ x. Ok (state_hyp t (triple_term x.0 x.1 x.2))

abbrev pub begin_goal : State → ℕ → Result (Unit {0}) TextFault
begin_goal s at = if nat_lt (length s.goals) (most_goals s.limit) then Ok tt else Err (goal_fault s.limit at)

abbrev pub compared : Comparison → SideTree → SideTree → GoalTree
compared Equal l r = equal l r
compared Below l r = below l r

abbrev pub pose_sides : Comparison → State → ℕ → SidesMeasurement Extent → Result State TextFault
pose_sides c s at m =
    count_sides s at m >>= λ t. built_side t (m.left).tokens >>= λ x. built_side t (m.right).tokens >>= λ y.
    Ok (state_goal t (compared c x y))

abbrev pub pose_triple : State → ℕ → TripleMeasurement Extent → Result State TextFault
pose_triple s at m = count_parts s at m >>= λ t. built_goal t m >>= λ x. Ok (state_goal t x)

abbrev pub making : ItemActions State Extent
making = record {
  phrases = λ s. extents s.world;
  blocks = λ s. block_extents s.world s.progs;
  program = λ s name. option_map program_extent (prog_named s.world s.progs name);
  declare = declare;
  check_new = check_new;
  define = define_term;
  define_prog = define_prog;
  begin_hyp = begin_hyp;
  state_zero = state_zero;
  state_triple = state_triple;
  begin_setting = begin_setting;
  set = set;
  begin_goal = begin_goal;
  check_numbers = λ s ts. check_numbers (width_of s) ts;
  pose_sides = pose_sides;
  pose_triple = pose_triple;
}

-- the state that all items make, or the first fault of the first item that has one
abbrev pub parse_items : State → List Lexeme → Result State TextFault
parse_items s ts = items_by making s ts
