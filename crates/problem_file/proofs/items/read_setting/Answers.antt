use Rattle.std.proofs.Common.{drop, refl}
use Rattle.text_parser.specs.declared.terminal.Terminal.TheVariants.{Separator}
use Rattle.text_parser.specs.declared.terminal.Separator.TheVariants.{Semicolon}
use Rattle.text_parser.specs.Lexemes.{lexemes, is_terminal}
use Rattle.problem_file.specs.Items.{at_number, setting_by}
use Rattle.problem_file.proofs.ReadFaults.{check_fault, fault_ends, step_ends, token_ends}
use Rattle.problem_file.proofs.items.read_setting.Goals as goal

pub returns-in_err-begin_setting-clause-value : goal.returns-in_err-begin_setting-clause-value
returns-in_err-begin_setting-clause-value g c =
    let a = g.R.ItemReading.actions in
    let s = g.R.ItemReading.state c.args.reading.now in
    let all = lexemes c.args.toks.now in
    let ts = drop c.args.from all in
    let given = check_fault (a.begin_setting c.args.what s c.args.at) c.in_err-begin_setting.field-0.0 c.in_err-begin_setting.ensures in
    fault_ends g.R.ItemReading.memory all s (setting_by a c.args.what s c.args.at ts) c.in_err-begin_setting.field-0.0 c.from_residual.result c.from_residual.ensures.1 given.0 (rw (given.1) refl)

pub returns-in_err-end-clause-value : goal.returns-in_err-end-clause-value
returns-in_err-end-clause-value g c =
    let a = g.R.ItemReading.actions in
    let s = g.R.ItemReading.state c.args.reading.now in
    let all = lexemes c.args.toks.now in
    let ts = drop c.args.from all in
    step_ends g.R.ItemReading.memory all (g.R.ItemReading.state c.read_number.new.reading) (setting_by a c.args.what s c.args.at ts) c.in_err-end.field-0.0 c.from_residual-in_err-end.result c.from_residual-in_err-end.ensures.1 (g.R.ItemReading.state c.read_number.new.reading)
    (at_number (a.set c.args.what s) ts) c.in_err-end.ensures.value (λ h. rw (c.in_ok-begin_setting.ensures, h) refl)

pub returns-clause-value : goal.returns-clause-value
returns-clause-value g c =
    let all = lexemes c.args.toks.now in
    rw (c.in_ok-begin_setting.ensures, c.in_ok-end.ensures.value)
    (token_ends g.R.ItemReading.memory all (g.R.ItemReading.state c.read_number.new.reading) (is_terminal (Separator Semicolon)) (drop c.in_ok-end.end all) c.expect.result c.expect.ensures.value)
