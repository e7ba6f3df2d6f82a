-- The checks of tokens never fail with `NoMemory`.
use Rattle.std.proofs.Common.{ℕ, ◌+◌, List, length, nat_lt, Bool, true, false, Ok, Err, Option, Some, None, is_some, slice_get, ◌∷◌, [], nat_le}
use Rattle.std.specs.Option.{option_and_then}
use Rattle.kat_model.specs.declared.limits.TheConstants.{MAX_TESTS, MAX_ACTIONS, MAX_VARS, MAX_ROUNDS, MAX_TERM_NODES, MAX_TEXT_NODES, MAX_HYPS, MAX_OPEN}
use Rattle.text_parser.specs.declared.fault.TextFault.TheVariants.{Sort, TooDeep, DoubleName, TooMany, TooLarge, NumberTooWide}
use Rattle.text_parser.specs.declared.reading.Context.{Context}
use Rattle.text_parser.specs.declared.terminal.Terminal.TheVariants.{Number, WideNumber}
use Rattle.text_parser.specs.Lexemes.{Lexeme, lexeme}
use Rattle.text_parser.specs.Parsed.{Parsed}
use Rattle.text_parser.specs.Actions.{context}
use Rattle.text_parser.specs.Conds.{disjunction}
use Rattle.text_parser.specs.Terms.{choice}
use Rattle.text_parser.specs.Scans.{scanning}
use Rattle.text_parser.proofs.NamedFaults.{IsNamedFault, IsNamed, then_named, if_named, NameTerms, cond_named, term_named, change_named}
use Rattle.text_parser.specs.declared.meaning.Meaning.{Meaning}
use Rattle.text_parser.specs.declared.meaning.Meaning.TheVariants.{Test, Action, Var, Term as TermName, Prog}
use Rattle.text_parser.specs.declared.extent.Extent.{Extent}
use Rattle.text_parser.specs.ScopeParts.{Definition, ScopeParts, meaning}
use Rattle.text_parser.specs.Building.{cond_trees, trees}
use Rattle.text_parser.specs.Measuring.{number_extent, variable_extent, condition_extent, defined_extent, name_extent, extents}
use Rattle.kat_model.specs.Trees.{Term, is_test}
use Rattle.kat_model.specs.Stores.{modulus}
use Rattle.kat_model.specs.declared.expression.Width.{Width}
use Rattle.while_lang.specs.NamedProgs.{ProgParts}
use Rattle.while_lang.specs.Blocks.{block, parse_block}
use Rattle.while_lang.specs.Programs.{prog_of as prog_with}
use Rattle.while_lang.specs.BlockScans.{scanning_blocks}
use Rattle.while_lang.specs.BlockBuilding.{block_trees}
use Rattle.while_lang.specs.BlockMeasuring.{spliced_extent, named_extent, check_target, block_extents}
use Rattle.problem_file.specs.ItemActions.{SidesMeasurement, TripleMeasurement}
use Rattle.problem_file.specs.declared.goal_limit.GoalLimit.{GoalLimit}
use Rattle.problem_file.specs.declared.goal_limit.GoalLimit.TheVariants.{One, Batch}
use Rattle.problem_file.specs.declared.item_reading.Declared.{Declared}
use Rattle.problem_file.specs.declared.item_reading.Declared.TheVariants as what
use Rattle.problem_file.specs.declared.item_reading.Setting.{Setting}
use Rattle.problem_file.specs.declared.item_reading.Setting.TheVariants as setting
use Rattle.problem_file.specs.declared.item_reading.Comparison.{Comparison}
use Rattle.while_lang.specs.Files.{GoalTree, prog_named}
use Rattle.problem_file.specs.Files.{State, start, most_goals, goal_fault, is_known, has_begun, width_with, take_width, with_rounds, grow, check_size}
use Rattle.problem_file.specs.Numbers.{check_number, check_numbers}
use Rattle.problem_file.specs.Items.{lone_name}
use Rattle.problem_file.specs.Syntax.{checking, scan_file}
use Rattle.problem_file.specs.Making.{declare, begin_setting, set, built_term, built_cond, built_block, program_or, built_side, built_triple, built_goal, count, triple_nodes, count_sides, count_parts, pose_sides, pose_triple, making, parse_items}
use Rattle.problem_file.specs.Reads.{files_with, check_goal, tested}
use Rattle.problem_file.proofs.NamedBlocks.{NameBlocks, block_named}
use Rattle.problem_file.proofs.NamedItems.{NameItems, items_named}

-- ---- names in phrases

number_named : (c : Context) (at : ℕ) → IsNamed (number_extent c at)
number_named c at = if_named c.compares _ (Err (Sort at)) (λ e. tt) (λ e. tt)

variable_named : (c : Context) (at : ℕ) (o : Option Meaning) → IsNamed (variable_extent c at o)
variable_named c at None = tt
variable_named c at (Some (Var k)) = if_named c.compares _ (Err (Sort at)) (λ e. tt) (λ e. tt)
variable_named c at (Some m) = tt

condition_named : (at : ℕ) (o : Option Meaning) → IsNamed (condition_extent at o)
condition_named at None = tt
condition_named at (Some (Test k)) = tt
condition_named at (Some m) = tt

defined_named : (c : Context) (at : ℕ) (o : Option Definition) → IsNamed (defined_extent c at o)
defined_named c at None = tt
defined_named c at (Some d) =
    if_named c.negated _ _
    (λ e. if_named (is_test d.tree) _ (Err (Sort at)) (λ f. if_named (nat_lt MAX_OPEN (c.depth + d.nesting)) (Err (TooDeep at)) _ (λ h. tt) (λ h. tt)) (λ f. tt))
    (λ e. if_named (nat_lt MAX_OPEN (c.depth + d.nesting)) (Err (TooDeep at)) _ (λ h. tt) (λ h. tt))

name_named : (w : ScopeParts) (c : Context) (at : ℕ) (o : Option Meaning) → IsNamed (name_extent w c at o)
name_named w c at None = tt
name_named w c at (Some (Test k)) = tt
name_named w c at (Some (Action a)) = if_named c.negated (Err (Sort at)) _ (λ e. tt) (λ e. tt)
name_named w c at (Some (TermName i)) = defined_named c at (slice_get w.terms i)
name_named w c at (Some m) = tt

pub extents_named : (w : ScopeParts) → NameTerms (extents w)
extents_named w = record {
  conds = record {
    exprs = record { number = λ c at n. number_named c at; variable = λ c at text. variable_named c at (meaning w text) };
    named = λ c at text. condition_named at (meaning w text);
  };
  named = λ c at text. name_named w c at (meaning w text);
  starred = λ c at m. if_named c.negated (Err (Sort at)) _ (λ e. tt) (λ e. tt);
}

pub trees_named : (w : ScopeParts) → NameTerms (trees w)
trees_named w = record {
  conds = record { exprs = record { number = λ c at n. tt; variable = λ c at text. tt }; named = λ c at text. tt };
  named = λ c at text. tt;
  starred = λ c at e. tt;
}

pub scanning_named : NameTerms scanning
scanning_named = record {
  conds = record { exprs = record { number = λ c at n. tt; variable = λ c at text. tt }; named = λ c at text. tt };
  named = λ c at text. tt;
  starred = λ c at t. tt;
}

-- ---- names in blocks

spliced_named : (d at : ℕ) (o : Option ProgParts) (m : Extent) → IsNamed (spliced_extent d at o m)
spliced_named d at None m = tt
spliced_named d at (Some p) m = if_named (nat_lt MAX_OPEN (d + p.nesting)) (Err (TooDeep at)) _ (λ e. tt) (λ e. tt)

stmt_named : (ps : List ProgParts) (d at : ℕ) (o : Option Meaning) (m : Extent) → IsNamed (named_extent ps d at o m)
stmt_named ps d at None m = tt
stmt_named ps d at (Some (Action a)) m = tt
stmt_named ps d at (Some (Prog i)) m = spliced_named d at (slice_get ps i) m
stmt_named ps d at (Some n) m = tt

target_named : (at : ℕ) (o : Option Meaning) → IsNamed (check_target at o)
target_named at None = tt
target_named at (Some (Var k)) = tt
target_named at (Some m) = tt

block_extents_named : (w : ScopeParts) (ps : List ProgParts) → NameBlocks (block_extents w ps)
block_extents_named w ps = record { phrases = extents_named w; named = λ d at text m. stmt_named ps d at (meaning w text) m; target = λ at text. target_named at (meaning w text) }

block_trees_named : (w : ScopeParts) (ps : List ProgParts) → NameBlocks (block_trees w ps)
block_trees_named w ps = record { phrases = trees_named w; named = λ d at text m. tt; target = λ at text. tt }

scanning_blocks_named : NameBlocks scanning_blocks
scanning_blocks_named = record { phrases = scanning_named; named = λ d at text s. tt; target = λ at text. tt }

-- ---- items

checking_named : NameItems checking
checking_named = record {
  phrases = λ s. scanning_named;
  blocks = λ s. scanning_blocks_named;
  declare = λ what s at text. tt;
  check_new = λ s at text. tt;
  define = λ s at text m. tt;
  define_prog = λ s at text m. tt;
  begin_hyp = λ s at. tt;
  state_zero = λ s at m. tt;
  state_triple = λ s at m. tt;
  begin_setting = λ what s at. tt;
  set = λ what s at n. tt;
  check_numbers = λ s ts. tt;
  begin_goal = λ s at. tt;
  pose_sides = λ c s at m. tt;
  pose_triple = λ s at m. tt;
}

declared_named : (d : Declared) (s : State) (at : ℕ) (name : List ℕ) → IsNamed (declare d s at name)
declared_named what.Test s at name = if_named (is_known s name) (Err (DoubleName at)) _ (λ e. tt) (λ e. if_named (nat_le MAX_TESTS s.tests) (Err (TooMany at)) _ (λ f. tt) (λ f. tt))
declared_named what.Action s at name = if_named (is_known s name) (Err (DoubleName at)) _ (λ e. tt) (λ e. if_named (nat_le MAX_ACTIONS s.actions) (Err (TooMany at)) _ (λ f. tt) (λ f. tt))
declared_named what.Var s at name = if_named (is_known s name) (Err (DoubleName at)) _ (λ e. tt) (λ e. if_named (nat_le MAX_VARS s.vars) (Err (TooMany at)) _ (λ f. tt) (λ f. tt))

begin_named : (x : Setting) (s : State) (at : ℕ) → IsNamed (begin_setting x s at)
begin_named setting.Rounds s at = if_named (is_some s.rounds) (Err (DoubleName at)) (Ok tt) (λ e. tt) (λ e. tt)
begin_named setting.Width s at = if_named (is_some s.width) (Err (DoubleName at)) _ (λ e. tt) (λ e. if_named (has_begun s) (Err (Sort at)) (Ok tt) (λ f. tt) (λ f. tt))

width_named : (s : State) (at : ℕ) (w : Option Width) → IsNamed (take_width s at w)
width_named s at None = tt
width_named s at (Some w) = tt

set_named : (x : Setting) (s : State) (at n : ℕ) → IsNamed (set x s at n)
set_named setting.Rounds s at n = if_named (nat_lt MAX_ROUNDS n) (Err (TooMany at)) (Ok (with_rounds s n)) (λ e. tt) (λ e. tt)
set_named setting.Width s at n = width_named s at (width_with n)

number_checked : (w : Width) (t : Lexeme) → IsNamed (check_number w t)
number_checked w (lexeme (Number n) at text) = if_named (nat_lt n (modulus w)) (Ok tt) (Err (NumberTooWide at)) (λ e. tt) (λ e. tt)
number_checked w (lexeme WideNumber at text) = tt
number_checked w (lexeme _ at text) = tt

numbers_named : (w : Width) (ts : List Lexeme) → IsNamed (check_numbers w ts)
numbers_named w [] = tt
numbers_named w (t ∷ ts) = then_named (check_number w t) _ (number_checked w t) (λ u. numbers_named w ts)

goal_fault_named : (limit : GoalLimit) (at : ℕ) → IsNamedFault (goal_fault limit at)
goal_fault_named One at = tt
goal_fault_named Batch at = tt

size_named : (at nodes : ℕ) → IsNamed (check_size at nodes)
size_named at nodes = if_named (nat_lt MAX_TERM_NODES nodes) (Err (TooLarge at)) _ (λ e. tt) (λ e. tt)

grow_named : (s : State) (at nodes : ℕ) → IsNamed (grow s at nodes)
grow_named s at nodes = if_named (nat_lt MAX_TEXT_NODES (s.size + nodes)) (Err (TooLarge at)) _ (λ e. tt) (λ e. tt)

count_named : (s : State) (at nodes : ℕ) → IsNamed (count s at nodes)
count_named s at nodes = then_named (check_size at nodes) _ (size_named at nodes) (λ u. grow_named s at nodes)

built_named : (s : State) (ts : List Lexeme) → IsNamed (built_term s ts)
built_named s ts = term_named (trees s.world) (trees_named s.world) choice (context 0 false false) ts

built_cond_named : (s : State) (compares : Bool) (ts : List Lexeme) → IsNamed (built_cond s compares ts)
built_cond_named s compares ts = cond_named (cond_trees s.world) (trees_named s.world).conds disjunction (context 1 false compares) ts

built_block_named : (s : State) (ts : List Lexeme) → IsNamed (built_block s ts)
built_block_named s ts = change_named prog_with (parse_block (block_trees s.world s.progs) block 0 ts) (block_named (block_trees s.world s.progs) (block_trees_named s.world s.progs) block 0 ts)

program_or_named : (o : Option ProgParts) (m : Parsed Term) → IsNamed m → IsNamed (program_or o m)
program_or_named (Some p) m h = tt
program_or_named None m h = then_named m _ h (λ x. tt)

built_side_named : (s : State) (ts : List Lexeme) → IsNamed (built_side s ts)
built_side_named s ts = program_or_named (option_and_then (prog_named s.world s.progs) (lone_name ts)) (built_term s ts) (built_named s ts)

built_triple_named : (s : State) (m : TripleMeasurement Extent) → IsNamed (built_triple s m)
built_triple_named s m =
    then_named (built_cond s false (m.pre).tokens) _ (built_cond_named s false (m.pre).tokens)
    (λ x. then_named (built_term s (m.body).tokens) _ (built_named s (m.body).tokens)
    (λ y. then_named (built_cond s false (m.post).tokens) _ (built_cond_named s false (m.post).tokens) (λ z. tt)))

built_goal_named : (s : State) (m : TripleMeasurement Extent) → IsNamed (built_goal s m)
built_goal_named s m =
    then_named (built_cond s true (m.pre).tokens) _ (built_cond_named s true (m.pre).tokens)
    (λ x. then_named (built_side s (m.body).tokens) _ (built_side_named s (m.body).tokens)
    (λ y. then_named (built_cond s true (m.post).tokens) _ (built_cond_named s true (m.post).tokens) (λ z. tt)))

pose_sides_named : (c : Comparison) (s : State) (at : ℕ) (m : SidesMeasurement Extent) → IsNamed (pose_sides c s at m)
pose_sides_named c s at m =
    then_named (count_sides s at m) _ (then_named (check_size at ((m.left).measure).nodes) _ (size_named at ((m.left).measure).nodes) (λ u. then_named (check_size at ((m.right).measure).nodes) _ (size_named at ((m.right).measure).nodes) (λ v. grow_named s at (((m.left).measure).nodes + ((m.right).measure).nodes))))
    (λ t. then_named (built_side t (m.left).tokens) _ (built_side_named t (m.left).tokens) (λ x. then_named (built_side t (m.right).tokens) _ (built_side_named t (m.right).tokens) (λ y. tt)))

pose_triple_named : (s : State) (at : ℕ) (m : TripleMeasurement Extent) → IsNamed (pose_triple s at m)
pose_triple_named s at m =
    then_named (count_parts s at m) _ (then_named (check_size at ((m.pre).measure).nodes) _ (size_named at ((m.pre).measure).nodes) (λ u. then_named (check_size at ((m.body).measure).nodes) _ (size_named at ((m.body).measure).nodes)
    (λ v. then_named (check_size at ((m.post).measure).nodes) _ (size_named at ((m.post).measure).nodes) (λ w. grow_named s at (triple_nodes m)))))
    (λ t. then_named (built_goal t m) _ (built_goal_named t m) (λ x. tt))

making_named : NameItems making
making_named = record {
  phrases = λ s. extents_named s.world;
  blocks = λ s. block_extents_named s.world s.progs;
  declare = declared_named;
  check_new = λ s at text. if_named (is_known s text) (Err (DoubleName at)) _ (λ e. tt) (λ e. tt);
  define = λ s at text m. then_named (count s at (m.measure).nodes) _ (count_named s at (m.measure).nodes) (λ t. then_named (built_term t m.tokens) _ (built_named t m.tokens) (λ x. tt));
  define_prog = λ s at text m. then_named (count s at (m.measure).nodes) _ (count_named s at (m.measure).nodes) (λ t. then_named (built_block t m.tokens) _ (built_block_named t m.tokens) (λ x. tt));
  begin_hyp = λ s at. if_named (nat_le MAX_HYPS (length s.hyps)) (Err (TooMany at)) _ (λ e. tt) (λ e. tt);
  state_zero = λ s at m. then_named (count s at (m.measure).nodes) _ (count_named s at (m.measure).nodes) (λ t. then_named (built_term t m.tokens) _ (built_named t m.tokens) (λ x. tt));
  state_triple = λ s at m. then_named (count s at (triple_nodes m + 5)) _ (count_named s at (triple_nodes m + 5)) (λ t. then_named (built_triple t m) _ (built_triple_named t m) (λ x. tt));
  begin_setting = begin_named;
  set = set_named;
  check_numbers = λ s ts. numbers_named _ ts;
  begin_goal = λ s at. if_named (nat_lt (length s.goals) (most_goals s.limit)) (Ok tt) (Err (goal_fault s.limit at)) (λ e. tt) (λ e. goal_fault_named s.limit at);
  pose_sides = pose_sides_named;
  pose_triple = pose_triple_named;
}

-- ---- texts

files_with_named : (s : State) (o : Option GoalTree) → IsNamed (files_with s o)
files_with_named s None = tt
files_with_named s (Some goal) = tt

pub tested_named : (limit : GoalLimit) (ts : List Lexeme) → IsNamed (tested limit ts)
tested_named limit ts =
    then_named (scan_file ts) _ (items_named checking checking_named tt ts)
    (λ v. then_named (parse_items (start limit) ts) check_goal (items_named making making_named (start limit) ts) (λ s. files_with_named s (slice_get s.goals 0)))
