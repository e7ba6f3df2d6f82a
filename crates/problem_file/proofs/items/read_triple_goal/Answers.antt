use Rattle.std.proofs.Common.{◌≡◌, ◌<◌, ◌≤◌, drop, true, length, Ok, Err, arith}
use Rattle.text_parser.specs.declared.terminal.Terminal.TheVariants.{Separator}
use Rattle.text_parser.specs.declared.terminal.Separator.TheVariants.{Semicolon}
use Rattle.text_parser.specs.Lexemes.{lexemes, is_terminal}
use Rattle.text_parser.specs.Parsed.{then_expects}
use Rattle.problem_file.specs.Items.{triple_by, triple_goal_by}
use Rattle.problem_file.specs.Numbers.{until}
use Rattle.problem_file.specs.Working.Walks.{triple_of}
use Rattle.problem_file.proofs.FollowedParts.{followed_reads}
use Rattle.problem_file.proofs.ReadFaults.{read_fault, check_fault, fault_ends, made_ends, made_within}
use Rattle.problem_file.proofs.ItemParts.{pose_unread, pose_wide, pose_ended}
use Rattle.problem_file.proofs.items.read_triple_goal.Goals as goal

pub returns-in_err-triple-clause-value : goal.returns-in_err-triple-clause-value
returns-in_err-triple-clause-value g c =
    let a = g.R.ItemReading.actions in
    let s = g.R.ItemReading.state c.args.reading.now in
    let all = lexemes c.args.toks.now in
    let ts = drop c.args.from all in
    let p = is_terminal (Separator Semicolon) in
    let m = triple_by a s true ts in
    let e = c.in_err-triple.field-0.0 in
    let given = read_fault (triple_of all) all (then_expects p m) e (followed_reads (triple_of all) all p c.triple_at-triple.result (Err e) m c.triple_at-triple.ensures.value c.in_err-triple.ensures.value) in
    fault_ends g.R.ItemReading.memory all s (triple_goal_by a s c.args.at ts) e c.from_residual.result c.from_residual.ensures.1 given.0 (pose_unread a s ts (a.pose_triple s c.args.at) m e given.1)

pub returns-in_err-check_numbers-clause-value : goal.returns-in_err-check_numbers-clause-value
returns-in_err-check_numbers-clause-value g c =
    let a = g.R.ItemReading.actions in
    let s = g.R.ItemReading.state c.args.reading.now in
    let all = lexemes c.args.toks.now in
    let ts = drop c.args.from all in
    let p = is_terminal (Separator Semicolon) in
    let m = triple_by a s true ts in
    let end = c.in_ok-triple.end in
    let x = triple_of all c.in_ok-triple.triple in
    let read : then_expects p m ≡ Ok (x, drop end all) = followed_reads (triple_of all) all p c.triple_at-triple.result (Ok (c.in_ok-triple.triple, end)) m c.triple_at-triple.ensures.value c.in_ok-triple.ensures.value in
    let given = check_fault (a.check_numbers s (until ts (drop end all))) c.in_err-check_numbers.field-0.0 c.in_err-check_numbers.ensures in
    fault_ends g.R.ItemReading.memory all s (triple_goal_by a s c.args.at ts) c.in_err-check_numbers.field-0.0 c.from_residual-in_err-check_numbers.result c.from_residual-in_err-check_numbers.ensures.1 given.0
    (pose_wide a s ts (a.pose_triple s c.args.at) m (x, drop end all) read c.in_err-check_numbers.field-0.0 given.1)

pub returns-clause-value : goal.returns-clause-value
returns-clause-value g c =
    let a = g.R.ItemReading.actions in
    let s = g.R.ItemReading.state c.args.reading.now in
    let all = lexemes c.args.toks.now in
    let ts = drop c.args.from all in
    let p = is_terminal (Separator Semicolon) in
    let m = triple_by a s true ts in
    let end = c.in_ok-triple.end in
    let x = triple_of all c.in_ok-triple.triple in
    let read : then_expects p m ≡ Ok (x, drop end all) = followed_reads (triple_of all) all p c.triple_at-triple.result (Ok (c.in_ok-triple.triple, end)) m c.triple_at-triple.ensures.value c.in_ok-triple.ensures.value in
    made_ends g.R.ItemReading.memory all (g.R.ItemReading.state c.pose_triple.new.self) end c.pose_triple.result c.and.result (a.pose_triple s c.args.at x) (triple_goal_by a s c.args.at ts) c.and.ensures c.pose_triple.ensures
    (pose_ended a s ts (a.pose_triple s c.args.at) m (x, drop end all) read c.in_ok-check_numbers.field-0 c.in_ok-check_numbers.ensures)

pub returns-clause-goes : goal.returns-clause-goes
returns-clause-goes g c =
    made_within (λ end. (c.args.from < end) × (end ≤ length c.args.toks.now)) c.in_ok-triple.end c.pose_triple.result c.and.result c.and.ensures (c.in_ok-triple.ensures.goes c.args.from c.triple_at-triple.ensures.goes)

pub check_numbers-requires-clause-ordered : goal.check_numbers-requires-clause-ordered
check_numbers-requires-clause-ordered g c =
    let ends = c.in_ok-triple.ensures.goes c.args.from c.triple_at-triple.ensures.goes in
    omega (arith, ends.0)

pub check_numbers-requires-clause-within : goal.check_numbers-requires-clause-within
check_numbers-requires-clause-within g c =
    let ends = c.in_ok-triple.ensures.goes c.args.from c.triple_at-triple.ensures.goes in
    ends.1
