use Rattle.std.proofs.Common.{drop, Ok}
use Rattle.text_parser.specs.Lexemes.{lexemes}
use Rattle.text_parser.specs.Parsed.{change}
use Rattle.while_lang.specs.Blocks.{cond_by, then_semicolon}
use Rattle.while_lang.proofs.BlockFaults.{part_stops}
use Rattle.while_lang.proofs.BlockParts.{assert_unread, assert_ended, ended_appends}
use Rattle.while_lang.proofs.blocks.assertion.Goals as goal

pub returns-in_err-cond-clause-value : goal.returns-in_err-cond-clause-value
returns-in_err-cond-clause-value g c =
    let a = g.R.BlockReading.actions c.args.reading.now in
    let all = lexemes c.args.toks.now in
    let ts = drop c.args.from all in
    let s = g.R.BlockReading.stmts c.args.list.now in
    part_stops g.R.BlockReading.memory (g.R.BlockReading.stmts c.args.list.now) all (change (a.assert s) (then_semicolon (cond_by a c.args.depth ts))) c.in_err-cond.field-0.0 c.from_residual.result c.from_residual.ensures.1 g.R.BlockReading.cond (cond_by a c.args.depth ts) c.in_err-cond.ensures.value
    (assert_unread a c.args.depth ts s c.in_err-cond.field-0.0)

pub returns-clause-value : goal.returns-clause-value
returns-clause-value g c =
    let a = g.R.BlockReading.actions c.args.reading.now in
    let all = lexemes c.args.toks.now in
    let ts = drop c.args.from all in
    let s = g.R.BlockReading.stmts c.args.list.now in
    let b = g.R.BlockReading.cond c.in_ok-cond.cond in
    let us = drop c.in_ok-cond.end all in
    ended_appends g.R.BlockReading.memory (g.R.BlockReading.stmts c.assert.new.list) all us c.assert.result (Ok (a.assert s b)) c.ended.result (change (a.assert s) (then_semicolon (cond_by a c.args.depth ts))) c.ended.ensures.value c.assert.ensures
    (assert_ended a c.args.depth ts s (b, us) c.in_ok-cond.ensures.value)
