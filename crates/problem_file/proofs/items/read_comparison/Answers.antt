use Rattle.std.proofs.Common.{◌≡◌, ◌<◌, ◌≤◌, drop, length, Ok, Err, arith}
use Rattle.text_parser.specs.declared.terminal.Terminal.TheVariants.{Separator}
use Rattle.text_parser.specs.declared.terminal.Separator.TheVariants.{Semicolon}
use Rattle.text_parser.specs.Lexemes.{lexemes, is_terminal}
use Rattle.text_parser.specs.Parsed.{then_expects}
use Rattle.problem_file.specs.Items.{sides_by, comparison_by}
use Rattle.problem_file.specs.Numbers.{until}
use Rattle.problem_file.specs.Working.Walks.{sides_of}
use Rattle.problem_file.proofs.FollowedParts.{followed_reads}
use Rattle.problem_file.proofs.ReadFaults.{read_fault, check_fault, fault_ends, made_ends, made_within}
use Rattle.problem_file.proofs.ItemParts.{pose_unread, pose_wide, pose_ended}
use Rattle.problem_file.proofs.items.read_comparison.Goals as goal

pub returns-in_err-sides-clause-value : goal.returns-in_err-sides-clause-value
returns-in_err-sides-clause-value g c =
    let a = g.R.ItemReading.actions in
    let s = g.R.ItemReading.state c.args.reading.now in
    let all = lexemes c.args.toks.now in
    let ts = drop c.args.from all in
    let p = is_terminal (Separator Semicolon) in
    let m = sides_by a s ts in
    let e = c.in_err-sides.field-0.0 in
    let given = read_fault (sides_of all) all (then_expects p m) e (followed_reads (sides_of all) all p c.sides_at-sides.result (Err e) m c.sides_at-sides.ensures.value c.in_err-sides.ensures.value) in
    fault_ends g.R.ItemReading.memory all s (comparison_by a c.args.comparison s c.args.at ts) e c.from_residual.result c.from_residual.ensures.1 given.0 (pose_unread a s ts (a.pose_sides c.args.comparison s c.args.at) m e given.1)

pub returns-in_err-check_numbers-clause-value : goal.returns-in_err-check_numbers-clause-value
returns-in_err-check_numbers-clause-value g c =
    let a = g.R.ItemReading.actions in
    let s = g.R.ItemReading.state c.args.reading.now in
    let all = lexemes c.args.toks.now in
    let ts = drop c.args.from all in
    let p = is_terminal (Separator Semicolon) in
    let m = sides_by a s ts in
    let end = c.in_ok-sides.end in
    let x = sides_of all c.in_ok-sides.sides in
    let read : then_expects p m ≡ Ok (x, drop end all) = followed_reads (sides_of all) all p c.sides_at-sides.result (Ok (c.in_ok-sides.sides, end)) m c.sides_at-sides.ensures.value c.in_ok-sides.ensures.value in
    let given = check_fault (a.check_numbers s (until ts (drop end all))) c.in_err-check_numbers.field-0.0 c.in_err-check_numbers.ensures in
    fault_ends g.R.ItemReading.memory all s (comparison_by a c.args.comparison s c.args.at ts) c.in_err-check_numbers.field-0.0 c.from_residual-in_err-check_numbers.result c.from_residual-in_err-check_numbers.ensures.1 given.0
    (pose_wide a s ts (a.pose_sides c.args.comparison s c.args.at) m (x, drop end all) read c.in_err-check_numbers.field-0.0 given.1)

pub returns-clause-value : goal.returns-clause-value
returns-clause-value g c =
    let a = g.R.ItemReading.actions in
    let s = g.R.ItemReading.state c.args.reading.now in
    let all = lexemes c.args.toks.now in
    let ts = drop c.args.from all in
    let p = is_terminal (Separator Semicolon) in
    let m = sides_by a s ts in
    let end = c.in_ok-sides.end in
    let x = sides_of all c.in_ok-sides.sides in
    let read : then_expects p m ≡ Ok (x, drop end all) = followed_reads (sides_of all) all p c.sides_at-sides.result (Ok (c.in_ok-sides.sides, end)) m c.sides_at-sides.ensures.value c.in_ok-sides.ensures.value in
    made_ends g.R.ItemReading.memory all (g.R.ItemReading.state c.pose_sides.new.self) end c.pose_sides.result c.and.result (a.pose_sides c.args.comparison s c.args.at x) (comparison_by a c.args.comparison s c.args.at ts) c.and.ensures c.pose_sides.ensures
    (pose_ended a s ts (a.pose_sides c.args.comparison s c.args.at) m (x, drop end all) read c.in_ok-check_numbers.field-0 c.in_ok-check_numbers.ensures)

pub returns-clause-goes : goal.returns-clause-goes
returns-clause-goes g c =
    made_within (λ end. (c.args.from < end) × (end ≤ length c.args.toks.now)) c.in_ok-sides.end c.pose_sides.result c.and.result c.and.ensures (c.in_ok-sides.ensures.goes c.args.from c.sides_at-sides.ensures.goes)

pub check_numbers-requires-clause-ordered : goal.check_numbers-requires-clause-ordered
check_numbers-requires-clause-ordered g c =
    let ends = c.in_ok-sides.ensures.goes c.args.from c.sides_at-sides.ensures.goes in
    omega (arith, ends.0)

pub check_numbers-requires-clause-within : goal.check_numbers-requires-clause-within
check_numbers-requires-clause-within g c =
    let ends = c.in_ok-sides.ensures.goes c.args.from c.sides_at-sides.ensures.goes in
    ends.1
