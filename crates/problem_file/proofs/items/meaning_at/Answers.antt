use Rattle.std.proofs.Common.{drop, length, arith}
use Rattle.text_parser.specs.declared.terminal.Terminal.TheVariants.{Separator}
use Rattle.text_parser.specs.declared.terminal.Separator.TheVariants.{Semicolon}
use Rattle.text_parser.specs.Lexemes.{lexemes, is_terminal}
use Rattle.problem_file.specs.Items.{term_by}
use Rattle.problem_file.specs.Working.Walks.{measured_of}
use Rattle.problem_file.proofs.FollowedParts.{followed_reads, goes_from}
use Rattle.problem_file.proofs.items.meaning_at.Goals as goal

pub returns-clause-value : goal.returns-clause-value
returns-clause-value g c =
    let a = g.R.ItemReading.actions in
    let s = g.R.ItemReading.state c.args.reading.now in
    let all = lexemes c.args.toks.now in
    rw (c.in_ok-from.ensures.value) (followed_reads (measured_of all) all (is_terminal (Separator Semicolon)) c.term_at-term.result c.expect_after.result (term_by a s (drop c.in_ok-from.from all)) c.term_at-term.ensures.value c.expect_after.ensures.value)

pub returns-clause-goes : goal.returns-clause-goes
returns-clause-goes g c =
    let from = c.in_ok-from.from in
    goes_from c.expect_after.result c.args.from from (length c.args.toks.now) (omega (arith, c.in_ok-from.ensures.goes.0)) (c.expect_after.ensures.goes from c.term_at-term.ensures.goes)
