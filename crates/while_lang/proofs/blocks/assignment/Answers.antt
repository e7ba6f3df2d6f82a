use Rattle.std.proofs.Common.{drop, Ok}
use Rattle.text_parser.specs.Lexemes.{lexemes}
use Rattle.while_lang.specs.Blocks.{expr_by, assign_by}
use Rattle.while_lang.proofs.BlockFaults.{part_stops, action_stops}
use Rattle.while_lang.proofs.BlockParts.{assign_target, assign_unread, assign_ended, ended_appends}
use Rattle.while_lang.proofs.blocks.assignment.Goals as goal

pub returns-in_err-check_target-clause-value : goal.returns-in_err-check_target-clause-value
returns-in_err-check_target-clause-value g c =
    let a = g.R.BlockReading.actions c.args.reading.now in
    let all = lexemes c.args.toks.now in
    let ts = drop c.args.from all in
    let s = g.R.BlockReading.stmts c.args.list.now in
    action_stops g.R.BlockReading.memory (g.R.BlockReading.stmts c.args.list.now) all (assign_by a s c.args.depth c.args.at c.args.name.now ts) c.in_err-check_target.field-0.0 c.from_residual.result c.from_residual.ensures.1 (λ u. u) (a.target c.args.at c.args.name.now) c.in_err-check_target.ensures
    (assign_target a c.args.depth ts s c.args.at c.args.name.now c.in_err-check_target.field-0.0)

pub returns-in_err-expr-clause-value : goal.returns-in_err-expr-clause-value
returns-in_err-expr-clause-value g c =
    let a = g.R.BlockReading.actions c.args.reading.now in
    let all = lexemes c.args.toks.now in
    let ts = drop c.args.from all in
    let s = g.R.BlockReading.stmts c.args.list.now in
    part_stops g.R.BlockReading.memory (g.R.BlockReading.stmts c.args.list.now) all (assign_by a s c.args.depth c.args.at c.args.name.now ts) c.in_err-expr.field-0.0 c.from_residual-in_err-expr.result c.from_residual-in_err-expr.ensures.1 g.R.BlockReading.expr (expr_by a c.args.depth ts) c.in_err-expr.ensures.value
    (assign_unread a c.args.depth ts s c.args.at c.args.name.now c.in_ok-check_target.field-0 c.in_ok-check_target.ensures c.in_err-expr.field-0.0)

pub returns-clause-value : goal.returns-clause-value
returns-clause-value g c =
    let a = g.R.BlockReading.actions c.args.reading.now in
    let all = lexemes c.args.toks.now in
    let ts = drop c.args.from all in
    let s = g.R.BlockReading.stmts c.args.list.now in
    let x = g.R.BlockReading.expr c.in_ok-expr.expr in
    let us = drop c.in_ok-expr.end all in
    ended_appends g.R.BlockReading.memory (g.R.BlockReading.stmts c.assign.new.list) all us c.assign.result (Ok (a.assign s c.args.name.now x)) c.ended.result (assign_by a s c.args.depth c.args.at c.args.name.now ts) c.ended.ensures.value c.assign.ensures
    (assign_ended a c.args.depth ts s c.args.at c.args.name.now c.in_ok-check_target.field-0 c.in_ok-check_target.ensures (x, us) c.in_ok-expr.ensures.value)
