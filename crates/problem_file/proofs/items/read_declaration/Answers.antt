use Rattle.std.proofs.Common.{drop, refl}
use Rattle.text_parser.specs.declared.terminal.Terminal.TheVariants.{Separator}
use Rattle.text_parser.specs.declared.terminal.Separator.TheVariants.{Semicolon}
use Rattle.text_parser.specs.Lexemes.{lexemes, is_terminal}
use Rattle.problem_file.specs.Items.{over_names, declaration_by}
use Rattle.problem_file.proofs.ReadFaults.{step_ends, token_ends}
use Rattle.problem_file.proofs.items.read_declaration.Goals as goal

pub returns-in_err-end-clause-value : goal.returns-in_err-end-clause-value
returns-in_err-end-clause-value g c =
    let a = g.R.ItemReading.actions in
    let s = g.R.ItemReading.state c.args.reading.now in
    let all = lexemes c.args.toks.now in
    let ts = drop c.args.from all in
    step_ends g.R.ItemReading.memory all (g.R.ItemReading.state c.read_names.new.reading) (declaration_by (a.declare c.args.what) s ts) c.in_err-end.field-0.0 c.from_residual.result c.from_residual.ensures.1 (g.R.ItemReading.state c.read_names.new.reading)
    (over_names (a.declare c.args.what) s ts) c.in_err-end.ensures.value (λ h. rw (h) refl)

pub returns-clause-value : goal.returns-clause-value
returns-clause-value g c =
    let all = lexemes c.args.toks.now in
    rw (c.in_ok-end.ensures.value)
    (token_ends g.R.ItemReading.memory all (g.R.ItemReading.state c.read_names.new.reading) (is_terminal (Separator Semicolon)) (drop c.in_ok-end.end all) c.expect.result c.expect.ensures.value)
