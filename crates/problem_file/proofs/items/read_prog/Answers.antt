use Rattle.std.proofs.Common.{◌+◌, ◌<◌, ◌≤◌, drop, refl, length, arith}
use Rattle.text_parser.specs.Lexemes.{lexemes}
use Rattle.text_parser.proofs.TokenPlaces.{next_drop}
use Rattle.problem_file.specs.Items.{name_at, block_by, prog_by}
use Rattle.problem_file.specs.Numbers.{until}
use Rattle.problem_file.specs.Working.Walks.{measured_of}
use Rattle.problem_file.proofs.NameWalks.{name_at_named}
use Rattle.problem_file.proofs.ReadFaults.{named_fault, read_fault, check_fault, fault_ends, made_ends, made_within}
use Rattle.problem_file.proofs.ItemParts.{prog_old, prog_unmeasured, prog_wide, prog_ended}
use Rattle.problem_file.proofs.items.read_prog.Goals as goal

pub returns-in_err-name-clause-value : goal.returns-in_err-name-clause-value
returns-in_err-name-clause-value g c =
    let a = g.R.ItemReading.actions in
    let s = g.R.ItemReading.state c.args.reading.now in
    let all = lexemes c.args.toks.now in
    let ts = drop c.args.from all in
    let given = named_fault (name_at ts) c.in_err-name.field-0.0 (name_at_named ts) c.in_err-name.ensures.fault in
    fault_ends g.R.ItemReading.memory all s (prog_by a s c.args.at ts) c.in_err-name.field-0.0 c.from_residual.result c.from_residual.ensures.1 given.0 (rw (given.1) refl)

pub returns-in_err-check_new-clause-value : goal.returns-in_err-check_new-clause-value
returns-in_err-check_new-clause-value g c =
    let a = g.R.ItemReading.actions in
    let s = g.R.ItemReading.state c.args.reading.now in
    let all = lexemes c.args.toks.now in
    let ts = drop c.args.from all in
    let given = check_fault (a.check_new s c.in_ok-name.name.now.at c.in_ok-name.name.now.text.now) c.in_err-check_new.field-0.0 c.in_err-check_new.ensures in
    fault_ends g.R.ItemReading.memory all s (prog_by a s c.args.at ts) c.in_err-check_new.field-0.0 c.from_residual-in_err-check_new.result c.from_residual-in_err-check_new.ensures.1 given.0
    (prog_old a s c.args.at ts (drop (c.args.from + 1) all) (next_drop c.args.from all) (record { at = c.in_ok-name.name.now.at; text = c.in_ok-name.name.now.text.now }) c.in_ok-name.ensures.found c.in_err-check_new.field-0.0 given.1)

pub returns-in_err-block-clause-value : goal.returns-in_err-block-clause-value
returns-in_err-block-clause-value g c =
    let a = g.R.ItemReading.actions in
    let s = g.R.ItemReading.state c.args.reading.now in
    let all = lexemes c.args.toks.now in
    let ts = drop c.args.from all in
    let given = read_fault (measured_of all) all (block_by a s (drop (c.args.from + 1) all)) c.in_err-block.field-0.0 c.in_err-block.ensures.value in
    fault_ends g.R.ItemReading.memory all s (prog_by a s c.args.at ts) c.in_err-block.field-0.0 c.from_residual-in_err-block.result c.from_residual-in_err-block.ensures.1 given.0
    (prog_unmeasured a s c.args.at ts (drop (c.args.from + 1) all) (next_drop c.args.from all) (record { at = c.in_ok-name.name.now.at; text = c.in_ok-name.name.now.text.now }) c.in_ok-name.ensures.found c.in_ok-check_new.field-0 c.in_ok-check_new.ensures c.in_err-block.field-0.0 given.1)

pub returns-in_err-check_numbers-clause-value : goal.returns-in_err-check_numbers-clause-value
returns-in_err-check_numbers-clause-value g c =
    let a = g.R.ItemReading.actions in
    let s = g.R.ItemReading.state c.args.reading.now in
    let all = lexemes c.args.toks.now in
    let ts = drop c.args.from all in
    let given = check_fault (a.check_numbers s (until ts (drop c.in_ok-block.end all))) c.in_err-check_numbers.field-0.0 c.in_err-check_numbers.ensures in
    fault_ends g.R.ItemReading.memory all s (prog_by a s c.args.at ts) c.in_err-check_numbers.field-0.0 c.from_residual-in_err-check_numbers.result c.from_residual-in_err-check_numbers.ensures.1 given.0
    (prog_wide a s c.args.at ts (drop (c.args.from + 1) all) (next_drop c.args.from all) (record { at = c.in_ok-name.name.now.at; text = c.in_ok-name.name.now.text.now }) c.in_ok-name.ensures.found c.in_ok-check_new.field-0 c.in_ok-check_new.ensures
    (measured_of all c.in_ok-block.block, drop c.in_ok-block.end all) c.in_ok-block.ensures.value c.in_err-check_numbers.field-0.0 given.1)

pub returns-clause-value : goal.returns-clause-value
returns-clause-value g c =
    let a = g.R.ItemReading.actions in
    let s = g.R.ItemReading.state c.args.reading.now in
    let all = lexemes c.args.toks.now in
    let ts = drop c.args.from all in
    made_ends g.R.ItemReading.memory all (g.R.ItemReading.state c.define_prog.new.self) c.in_ok-block.end c.define_prog.result c.and.result (a.define_prog s c.args.at c.in_ok-name.name.now.text.now (measured_of all c.in_ok-block.block)) (prog_by a s c.args.at ts) c.and.ensures c.define_prog.ensures
    (prog_ended a s c.args.at ts (drop (c.args.from + 1) all) (next_drop c.args.from all) (record { at = c.in_ok-name.name.now.at; text = c.in_ok-name.name.now.text.now }) c.in_ok-name.ensures.found c.in_ok-check_new.field-0 c.in_ok-check_new.ensures
    (measured_of all c.in_ok-block.block, drop c.in_ok-block.end all) c.in_ok-block.ensures.value c.in_ok-check_numbers.field-0 c.in_ok-check_numbers.ensures)

pub returns-clause-goes : goal.returns-clause-goes
returns-clause-goes g c = made_within (λ end. (c.args.from < end) × (end ≤ length c.args.toks.now)) c.in_ok-block.end c.define_prog.result c.and.result c.and.ensures (omega (arith, c.in_ok-block.ensures.goes.0), c.in_ok-block.ensures.goes.1)
