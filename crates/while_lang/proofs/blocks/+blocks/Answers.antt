use Rattle.std.proofs.Common.{◌≡◌, ◌+◌, ◌<◌, ◌≤◌, [], length, drop, Ok, Err, refl, sym, subst, arith}
use Rattle.text_parser.specs.declared.terminal.Terminal.TheVariants.{Separator}
use Rattle.text_parser.specs.declared.terminal.Keyword.TheVariants as word
use Rattle.text_parser.specs.declared.terminal.Separator.TheVariants.{CurlyOpen}
use Rattle.text_parser.specs.Lexemes.{lexemes, text_at, is_terminal}
use Rattle.text_parser.specs.Parsed.{Reads, expects, place_of}
use Rattle.text_parser.proofs.NamedFaults.{expects_named}
use Rattle.text_parser.proofs.TokenPlaces.{next_drop}
use Rattle.while_lang.specs.Blocks.{enter, block, stmts_after, stmt_after, branch_after, cond_by, loop_by, else_by, parse_block}
use Rattle.while_lang.specs.Working.Appending.{Appends}
use Rattle.while_lang.proofs.BlockSteps.{stmt_after_step}
use Rattle.while_lang.proofs.BlockFaults.{enter_named, entered, part_fails, append_fails, check_fails, part_stops}
use Rattle.while_lang.proofs.BlockParts.{next_two, block_closed, block_deep, block_fails, block_made, stmts_end, stmts_fail, stmts_go, skip_seen, abort_seen, assert_seen, if_seen, while_seen, name_seen, else_none, else_block, else_deep, else_fails, else_made, branch_unread, branch_first, branch_second, branch_made, loop_unread, loop_fails, loop_made, passed, no_index, no_end, goes_before, ends_before, made_appends, ended_appends}
use Rattle.while_lang.proofs.blocks.+blocks.Goals as goal

pub read_block-returns-in_err-next-clause-value : goal.read_block-returns-in_err-next-clause-value
read_block-returns-in_err-next-clause-value g t c =
    let a = g.R.BlockReading.actions c.args.reading.now in
    let all = lexemes c.args.toks.now in
    let ts = drop c.args.from all in
    let p = is_terminal (Separator CurlyOpen) in
    check_fails g.R.BlockReading.memory g.R.BlockReading.stmts all (parse_block a block c.args.depth ts) c.in_err-next.field-0.0 c.from_residual.result c.from_residual.ensures.1 (expects p ts) (expects_named p ts) c.in_err-next.ensures.value
    (block_closed a c.args.depth ts c.in_err-next.field-0.0 c.in_err-next.ensures.value)

pub read_block-returns-in_err-inside-clause-value : goal.read_block-returns-in_err-inside-clause-value
read_block-returns-in_err-inside-clause-value g t c =
    let a = g.R.BlockReading.actions c.args.reading.now in
    let all = lexemes c.args.toks.now in
    let ts = drop c.args.from all in
    let given = entered c.args.depth (place_of ts) c.place_at.result (Err c.in_err-inside.field-0.0) c.place_at.ensures c.in_err-inside.ensures in
    check_fails g.R.BlockReading.memory g.R.BlockReading.stmts all (parse_block a block c.args.depth ts) c.in_err-inside.field-0.0 c.from_residual-in_err-inside.result c.from_residual-in_err-inside.ensures.1 (enter c.args.depth (place_of ts)) (enter_named c.args.depth (place_of ts)) given
    (block_deep a c.args.depth ts (drop c.in_ok-next.next all) c.in_ok-next.ensures.value c.in_err-inside.field-0.0 given)

pub read_block-returns-in_err-list-clause-value : goal.read_block-returns-in_err-list-clause-value
read_block-returns-in_err-list-clause-value g t c =
    let a = g.R.BlockReading.actions c.args.reading.now in
    let all = lexemes c.args.toks.now in
    let ts = drop c.args.from all in
    let us = drop c.in_ok-next.next all in
    let inside = entered c.args.depth (place_of ts) c.place_at.result (Ok c.in_ok-inside.inside) c.place_at.ensures c.in_ok-inside.ensures in
    part_fails g.R.BlockReading.memory g.R.BlockReading.stmts all (parse_block a block c.args.depth ts) c.in_err-list.field-0.0 c.from_residual-in_err-list.result c.from_residual-in_err-list.ensures.1 g.R.BlockReading.stmts (parse_block a (stmts_after a.none) c.in_ok-inside.inside us) c.in_err-list.ensures.value
    (block_fails a c.args.depth ts us c.in_ok-next.ensures.value c.in_ok-inside.inside inside c.in_err-list.field-0.0)

pub read_block-returns-clause-value : goal.read_block-returns-clause-value
read_block-returns-clause-value g t c =
    let a = g.R.BlockReading.actions c.args.reading.now in
    let all = lexemes c.args.toks.now in
    let ts = drop c.args.from all in
    let us = drop c.in_ok-next.next all in
    let inside = entered c.args.depth (place_of ts) c.place_at.result (Ok c.in_ok-inside.inside) c.place_at.ensures c.in_ok-inside.ensures in
    rw (c.braced.ensures)
    (block_made a c.args.depth ts us c.in_ok-next.ensures.value c.in_ok-inside.inside inside (g.R.BlockReading.stmts c.in_ok-list.list, drop c.in_ok-list.end all) c.in_ok-list.ensures.value)

pub stmts-stmts-init : goal.stmts-stmts-init
stmts-stmts-init g t c =
    record { place = omega arith; value = rw (c.none-list.ensures) refl }

pub stmts-returns-in_err-at-clause-value : goal.stmts-returns-in_err-at-clause-value
stmts-returns-in_err-at-clause-value g t c =
    let a = g.R.BlockReading.actions c.args.reading.now in
    let all = lexemes c.args.toks.now in
    let us = drop c.stmts.at all in
    let s = g.R.BlockReading.stmts c.stmts.list in
    let whole = parse_block a (stmts_after a.none) c.args.depth (drop c.args.from all) in
    append_fails g.R.BlockReading.memory g.R.BlockReading.stmts all whole c.in_err-at.field-0.0 c.from_residual.result c.from_residual.ensures.1 (g.R.BlockReading.stmts c.stmt.new.list) (parse_block a (stmt_after s) c.args.depth us) c.in_err-at.ensures.value
    (stmts_fail a c.args.depth us s whole c.stmts.invariant.value (sym c.stmts-test.ensures.value) c.in_err-at.field-0.0)

pub stmts-stmts-preserved : goal.stmts-stmts-preserved
stmts-stmts-preserved g t c =
    let a = g.R.BlockReading.actions c.args.reading.now in
    let all = lexemes c.args.toks.now in
    let us = drop c.stmts.at all in
    let s = g.R.BlockReading.stmts c.stmts.list in
    let whole = parse_block a (stmts_after a.none) c.args.depth (drop c.args.from all) in
    record {
      place = omega (arith, c.stmts.invariant.place, c.in_ok-at.ensures.goes.0);
      value = stmts_go a c.args.depth us s whole c.stmts.invariant.value (sym c.stmts-test.ensures.value) (g.R.BlockReading.stmts c.stmt.new.list, drop c.in_ok-at.at all) c.in_ok-at.ensures.value;
    }

pub stmts-returns-clause-value : goal.stmts-returns-clause-value
stmts-returns-clause-value g t c =
    let a = g.R.BlockReading.actions c.args.reading.now in
    let all = lexemes c.args.toks.now in
    let us = drop c.stmts.at all in
    let s = g.R.BlockReading.stmts c.stmts.list in
    let whole = parse_block a (stmts_after a.none) c.args.depth (drop c.args.from all) in
    stmts_end a c.args.depth us s whole c.stmts.invariant.value (sym c.stmts-test.ensures.value) (drop (c.stmts.at + 1) all) (next_drop c.stmts.at all)

pub branch-returns-in_err-cond-clause-value : goal.branch-returns-in_err-cond-clause-value
branch-returns-in_err-cond-clause-value g t c =
    let a = g.R.BlockReading.actions c.args.reading.now in
    let all = lexemes c.args.toks.now in
    let ts = drop c.args.from all in
    let s = g.R.BlockReading.stmts c.args.list.now in
    part_stops g.R.BlockReading.memory (g.R.BlockReading.stmts c.args.list.now) all (parse_block a (branch_after s) c.args.depth ts) c.in_err-cond.field-0.0 c.from_residual.result c.from_residual.ensures.1 g.R.BlockReading.cond (cond_by a c.args.depth ts) c.in_err-cond.ensures.value
    (branch_unread a c.args.depth ts s c.in_err-cond.field-0.0)

pub branch-returns-in_err-first-clause-value : goal.branch-returns-in_err-first-clause-value
branch-returns-in_err-first-clause-value g t c =
    let a = g.R.BlockReading.actions c.args.reading.now in
    let all = lexemes c.args.toks.now in
    let ts = drop c.args.from all in
    let s = g.R.BlockReading.stmts c.args.list.now in
    part_stops g.R.BlockReading.memory (g.R.BlockReading.stmts c.args.list.now) all (parse_block a (branch_after s) c.args.depth ts) c.in_err-first.field-0.0 c.from_residual-in_err-first.result c.from_residual-in_err-first.ensures.1 g.R.BlockReading.stmts (parse_block a block c.args.depth (drop c.in_ok-cond.end all)) c.in_err-first.ensures.value
    (branch_first a c.args.depth ts s (g.R.BlockReading.cond c.in_ok-cond.cond, drop c.in_ok-cond.end all) c.in_ok-cond.ensures.value c.in_err-first.field-0.0)

pub branch-returns-in_err-second-clause-value : goal.branch-returns-in_err-second-clause-value
branch-returns-in_err-second-clause-value g t c =
    let a = g.R.BlockReading.actions c.args.reading.now in
    let all = lexemes c.args.toks.now in
    let ts = drop c.args.from all in
    let s = g.R.BlockReading.stmts c.args.list.now in
    part_stops g.R.BlockReading.memory (g.R.BlockReading.stmts c.args.list.now) all (parse_block a (branch_after s) c.args.depth ts) c.in_err-second.field-0.0 c.from_residual-in_err-second.result c.from_residual-in_err-second.ensures.1 g.R.BlockReading.stmts (else_by a (parse_block a) c.args.depth (drop c.in_ok-first.end all)) c.in_err-second.ensures.value
    (branch_second a c.args.depth ts s (g.R.BlockReading.cond c.in_ok-cond.cond, drop c.in_ok-cond.end all) c.in_ok-cond.ensures.value (g.R.BlockReading.stmts c.in_ok-first.first, drop c.in_ok-first.end all) c.in_ok-first.ensures.value c.in_err-second.field-0.0)

pub branch-returns-clause-value : goal.branch-returns-clause-value
branch-returns-clause-value g t c =
    let a = g.R.BlockReading.actions c.args.reading.now in
    let all = lexemes c.args.toks.now in
    let ts = drop c.args.from all in
    let s = g.R.BlockReading.stmts c.args.list.now in
    let b = g.R.BlockReading.cond c.in_ok-cond.cond in
    let first = g.R.BlockReading.stmts c.in_ok-first.first in
    let second = g.R.BlockReading.stmts c.in_ok-second.second in
    made_appends g.R.BlockReading.memory (g.R.BlockReading.stmts c.branch-reading.new.list) (a.branch s b first second) all c.in_ok-second.end c.branch-reading.result c.and.result (parse_block a (branch_after s) c.args.depth ts) c.and.ensures c.branch-reading.ensures
    (branch_made a c.args.depth ts s (b, drop c.in_ok-cond.end all) c.in_ok-cond.ensures.value (first, drop c.in_ok-first.end all) c.in_ok-first.ensures.value (second, drop c.in_ok-second.end all) c.in_ok-second.ensures.value)

pub branch-returns-clause-goes : goal.branch-returns-clause-goes
branch-returns-clause-goes g t c =
    passed (λ end. (c.args.from < end) × (end ≤ length c.args.toks.now)) c.branch-reading.result (Ok c.in_ok-second.end) c.and.result c.and.ensures (omega (arith, c.in_ok-cond.ensures.goes.0, c.in_ok-first.ensures.goes.0, c.in_ok-second.ensures.goes), c.in_ok-second.ensures.within c.in_ok-first.ensures.goes.1)

pub otherwise-returns-then-not-is_at-clause-value : goal.otherwise-returns-then-not-is_at-clause-value
otherwise-returns-then-not-is_at-clause-value g t c =
    let a = g.R.BlockReading.actions c.args.reading.now in
    let all = lexemes c.args.toks.now in
    let ts = drop c.args.from all in
    rw (c.none.ensures) (else_none a c.args.depth ts (sym c.if-not-is_at.ensures.value))

pub otherwise-returns-then-not-is_at-2-clause-value : goal.otherwise-returns-then-not-is_at-2-clause-value
otherwise-returns-then-not-is_at-2-clause-value g t c =
    let a = g.R.BlockReading.actions c.args.reading.now in
    let all = lexemes c.args.toks.now in
    let ts = drop c.args.from all in
    let us = drop (c.args.from + 1) all in
    subst (λ m. Reads g.R.BlockReading.memory g.R.BlockReading.stmts all c.read_block.result m) (sym (else_block a c.args.depth ts (sym c.if-not-is_at.ensures.value) us (next_drop c.args.from all) (sym c.if-not-is_at-2.ensures.value))) c.read_block.ensures.value

pub otherwise-returns-in_err-inside-clause-value : goal.otherwise-returns-in_err-inside-clause-value
otherwise-returns-in_err-inside-clause-value g t c =
    let a = g.R.BlockReading.actions c.args.reading.now in
    let all = lexemes c.args.toks.now in
    let ts = drop c.args.from all in
    let us = drop (c.args.from + 1) all in
    let given = entered c.args.depth (place_of us) c.place_at.result (Err c.in_err-inside.field-0.0) c.place_at.ensures c.in_err-inside.ensures in
    check_fails g.R.BlockReading.memory g.R.BlockReading.stmts all (else_by a (parse_block a) c.args.depth ts) c.in_err-inside.field-0.0 c.from_residual.result c.from_residual.ensures.1 (enter c.args.depth (place_of us)) (enter_named c.args.depth (place_of us)) given
    (else_deep a c.args.depth ts (sym c.if-not-is_at.ensures.value) us (next_drop c.args.from all) (sym c.if-not-is_at-2.ensures.value) c.in_err-inside.field-0.0 given)

pub otherwise-returns-in_err-end-clause-value : goal.otherwise-returns-in_err-end-clause-value
otherwise-returns-in_err-end-clause-value g t c =
    let a = g.R.BlockReading.actions c.args.reading.now in
    let all = lexemes c.args.toks.now in
    let ts = drop c.args.from all in
    let us = drop (c.args.from + 1) all in
    let inside = entered c.args.depth (place_of us) c.place_at.result (Ok c.in_ok-inside.inside) c.place_at.ensures c.in_ok-inside.ensures in
    let s = g.R.BlockReading.stmts c.none-list.result in
    append_fails g.R.BlockReading.memory g.R.BlockReading.stmts all (else_by a (parse_block a) c.args.depth ts) c.in_err-end.field-0.0 c.from_residual-in_err-end.result c.from_residual-in_err-end.ensures.1 (g.R.BlockReading.stmts c.branch-reading.new.list) (parse_block a (branch_after s) c.in_ok-inside.inside (drop (c.args.from + 2) all)) c.in_err-end.ensures.value
    (else_fails a c.args.depth ts (sym c.if-not-is_at.ensures.value) us (next_drop c.args.from all) (sym c.if-not-is_at-2.ensures.value) c.in_ok-inside.inside inside (drop (c.args.from + 2) all) (next_two c.args.from all) s c.none-list.ensures c.in_err-end.field-0.0)

pub otherwise-returns-clause-value : goal.otherwise-returns-clause-value
otherwise-returns-clause-value g t c =
    let a = g.R.BlockReading.actions c.args.reading.now in
    let all = lexemes c.args.toks.now in
    let ts = drop c.args.from all in
    let us = drop (c.args.from + 1) all in
    let inside = entered c.args.depth (place_of us) c.place_at.result (Ok c.in_ok-inside.inside) c.place_at.ensures c.in_ok-inside.ensures in
    let s = g.R.BlockReading.stmts c.none-list.result in
    rw (c.chained.ensures)
    (else_made a c.args.depth ts (sym c.if-not-is_at.ensures.value) us (next_drop c.args.from all) (sym c.if-not-is_at-2.ensures.value) c.in_ok-inside.inside inside (drop (c.args.from + 2) all) (next_two c.args.from all) s c.none-list.ensures (g.R.BlockReading.stmts c.branch-reading.new.list, drop c.in_ok-end.end all) c.in_ok-end.ensures.value)

pub turn-returns-in_err-cond-clause-value : goal.turn-returns-in_err-cond-clause-value
turn-returns-in_err-cond-clause-value g t c =
    let a = g.R.BlockReading.actions c.args.reading.now in
    let all = lexemes c.args.toks.now in
    let ts = drop c.args.from all in
    let s = g.R.BlockReading.stmts c.args.list.now in
    part_stops g.R.BlockReading.memory (g.R.BlockReading.stmts c.args.list.now) all (loop_by a (parse_block a) s c.args.depth ts) c.in_err-cond.field-0.0 c.from_residual.result c.from_residual.ensures.1 g.R.BlockReading.cond (cond_by a c.args.depth ts) c.in_err-cond.ensures.value
    (loop_unread a c.args.depth ts s c.in_err-cond.field-0.0)

pub turn-returns-in_err-body-clause-value : goal.turn-returns-in_err-body-clause-value
turn-returns-in_err-body-clause-value g t c =
    let a = g.R.BlockReading.actions c.args.reading.now in
    let all = lexemes c.args.toks.now in
    let ts = drop c.args.from all in
    let s = g.R.BlockReading.stmts c.args.list.now in
    part_stops g.R.BlockReading.memory (g.R.BlockReading.stmts c.args.list.now) all (loop_by a (parse_block a) s c.args.depth ts) c.in_err-body.field-0.0 c.from_residual-in_err-body.result c.from_residual-in_err-body.ensures.1 g.R.BlockReading.stmts (parse_block a block c.args.depth (drop c.in_ok-cond.end all)) c.in_err-body.ensures.value
    (loop_fails a c.args.depth ts s (g.R.BlockReading.cond c.in_ok-cond.cond, drop c.in_ok-cond.end all) c.in_ok-cond.ensures.value c.in_err-body.field-0.0)

pub turn-returns-clause-value : goal.turn-returns-clause-value
turn-returns-clause-value g t c =
    let a = g.R.BlockReading.actions c.args.reading.now in
    let all = lexemes c.args.toks.now in
    let ts = drop c.args.from all in
    let s = g.R.BlockReading.stmts c.args.list.now in
    let b = g.R.BlockReading.cond c.in_ok-cond.cond in
    let body = g.R.BlockReading.stmts c.in_ok-body.body in
    made_appends g.R.BlockReading.memory (g.R.BlockReading.stmts c.turn.new.list) (a.turn s b body) all c.in_ok-body.end c.turn.result c.and.result (loop_by a (parse_block a) s c.args.depth ts) c.and.ensures c.turn.ensures
    (loop_made a c.args.depth ts s (b, drop c.in_ok-cond.end all) c.in_ok-cond.ensures.value (body, drop c.in_ok-body.end all) c.in_ok-body.ensures.value)

pub turn-returns-clause-goes : goal.turn-returns-clause-goes
turn-returns-clause-goes g t c =
    passed (λ end. (c.args.from < end) × (end ≤ length c.args.toks.now)) c.turn.result (Ok c.in_ok-body.end) c.and.result c.and.ensures (omega (arith, c.in_ok-cond.ensures.goes.0, c.in_ok-body.ensures.goes.0), c.in_ok-body.ensures.goes.1)

pub stmt-returns-in_default-clause-value : goal.stmt-returns-in_default-clause-value
stmt-returns-in_default-clause-value g t c =
    rw (c.syntax_fault_at.ensures, c.in_default.ensures.0) (stmt_after_step (g.R.BlockReading.actions c.args.reading.now) (g.R.BlockReading.stmts c.args.list.now) c.args.depth [])

pub stmt-returns-in-Keyword-Assert-clause-value : goal.stmt-returns-in-Keyword-Assert-clause-value
stmt-returns-in-Keyword-Assert-clause-value g t c =
    let a = g.R.BlockReading.actions c.args.reading.now in
    let all = lexemes c.args.toks.now in
    let ts = drop c.args.from all in
    let us = drop (c.args.from + 1) all in
    let s = g.R.BlockReading.stmts c.args.list.now in
    let k : c.in-Keyword-Assert.field-0 ≡ word.Assert = rw (c.in-Keyword-Assert.is) at c.in-Keyword-Assert.field-0-is in
    subst (λ m. Appends g.R.BlockReading.memory (g.R.BlockReading.stmts c.assertion.new.list) all c.assertion.result m) (sym (assert_seen a c.args.depth ts s c.in-Some.at (text_at c.args.toks.now c.args.from) us c.in-Some.terminal c.in-Some.ensures.0 c.in-Keyword-Assert.field-0 c.in-Keyword-Assert.is k)) c.assertion.ensures.value

pub stmt-returns-in-Keyword-If-clause-value : goal.stmt-returns-in-Keyword-If-clause-value
stmt-returns-in-Keyword-If-clause-value g t c =
    let a = g.R.BlockReading.actions c.args.reading.now in
    let all = lexemes c.args.toks.now in
    let ts = drop c.args.from all in
    let us = drop (c.args.from + 1) all in
    let s = g.R.BlockReading.stmts c.args.list.now in
    let k : c.in-Keyword-If.field-0 ≡ word.If = rw (c.in-Keyword-If.is) at c.in-Keyword-If.field-0-is in
    subst (λ m. Appends g.R.BlockReading.memory (g.R.BlockReading.stmts c.branch-reading.new.list) all c.branch-reading.result m) (sym (if_seen a c.args.depth ts s c.in-Some.at (text_at c.args.toks.now c.args.from) us c.in-Some.terminal c.in-Some.ensures.0 c.in-Keyword-If.field-0 c.in-Keyword-If.is k)) c.branch-reading.ensures.value

pub stmt-returns-in-Keyword-While-clause-value : goal.stmt-returns-in-Keyword-While-clause-value
stmt-returns-in-Keyword-While-clause-value g t c =
    let a = g.R.BlockReading.actions c.args.reading.now in
    let all = lexemes c.args.toks.now in
    let ts = drop c.args.from all in
    let us = drop (c.args.from + 1) all in
    let s = g.R.BlockReading.stmts c.args.list.now in
    let k : c.in-Keyword-While.field-0 ≡ word.While = rw (c.in-Keyword-While.is) at c.in-Keyword-While.field-0-is in
    subst (λ m. Appends g.R.BlockReading.memory (g.R.BlockReading.stmts c.turn.new.list) all c.turn.result m) (sym (while_seen a c.args.depth ts s c.in-Some.at (text_at c.args.toks.now c.args.from) us c.in-Some.terminal c.in-Some.ensures.0 c.in-Keyword-While.field-0 c.in-Keyword-While.is k)) c.turn.ensures.value

pub stmt-returns-in-Name-clause-value : goal.stmt-returns-in-Name-clause-value
stmt-returns-in-Name-clause-value g t c =
    let a = g.R.BlockReading.actions c.args.reading.now in
    let all = lexemes c.args.toks.now in
    let ts = drop c.args.from all in
    let us = drop (c.args.from + 1) all in
    let s = g.R.BlockReading.stmts c.args.list.now in
    subst (λ m. Appends g.R.BlockReading.memory (g.R.BlockReading.stmts c.name_statement.new.list) all c.name_statement.result m) (sym (name_seen a c.args.depth ts s c.in-Some.at (text_at c.args.toks.now c.args.from) us c.in-Some.terminal c.in-Some.ensures.0 c.in-Name.is c.text_at.result.now c.text_at.ensures)) c.name_statement.ensures.value

pub stmt-returns-in_default-terminal-clause-value : goal.stmt-returns-in_default-terminal-clause-value
stmt-returns-in_default-terminal-clause-value g t c = grind (arith, stmt_after_step, next_drop)

pub stmt-returns-in-Keyword-Skip-clause-value : goal.stmt-returns-in-Keyword-Skip-clause-value
stmt-returns-in-Keyword-Skip-clause-value g t c =
    let a = g.R.BlockReading.actions c.args.reading.now in
    let all = lexemes c.args.toks.now in
    let ts = drop c.args.from all in
    let us = drop (c.args.from + 1) all in
    let s = g.R.BlockReading.stmts c.args.list.now in
    let k : c.in-Keyword-Skip.field-0 ≡ word.Skip = rw (c.in-Keyword-Skip.is) at c.in-Keyword-Skip.field-0-is in
    ended_appends g.R.BlockReading.memory (g.R.BlockReading.stmts c.skip.new.list) all us c.skip.result (Ok (a.skip s)) c.ended.result (parse_block a (stmt_after s) c.args.depth ts) c.ended.ensures.value c.skip.ensures
    (skip_seen a c.args.depth ts s c.in-Some.at (text_at c.args.toks.now c.args.from) us c.in-Some.terminal c.in-Some.ensures.0 c.in-Keyword-Skip.field-0 c.in-Keyword-Skip.is k)

pub stmt-returns-in-Keyword-Abort-clause-value : goal.stmt-returns-in-Keyword-Abort-clause-value
stmt-returns-in-Keyword-Abort-clause-value g t c =
    let a = g.R.BlockReading.actions c.args.reading.now in
    let all = lexemes c.args.toks.now in
    let ts = drop c.args.from all in
    let us = drop (c.args.from + 1) all in
    let s = g.R.BlockReading.stmts c.args.list.now in
    let k : c.in-Keyword-Abort.field-0 ≡ word.Abort = rw (c.in-Keyword-Abort.is) at c.in-Keyword-Abort.field-0-is in
    ended_appends g.R.BlockReading.memory (g.R.BlockReading.stmts c.abort.new.list) all us c.abort.result (Ok (a.abort s)) c.ended-in-Keyword-Abort.result (parse_block a (stmt_after s) c.args.depth ts) c.ended-in-Keyword-Abort.ensures.value c.abort.ensures
    (abort_seen a c.args.depth ts s c.in-Some.at (text_at c.args.toks.now c.args.from) us c.in-Some.terminal c.in-Some.ensures.0 c.in-Keyword-Abort.field-0 c.in-Keyword-Abort.is k)

pub stmt-returns-in_default-terminal-2-clause-value : goal.stmt-returns-in_default-terminal-2-clause-value
stmt-returns-in_default-terminal-2-clause-value g t c = grind (arith, stmt_after_step, next_drop)

pub read_block-returns-in_err-next-clause-goes : goal.read_block-returns-in_err-next-clause-goes
read_block-returns-in_err-next-clause-goes g t c = no_end c.args.from (length c.args.toks.now) c.from_residual.result c.in_err-next.field-0.0 c.from_residual.ensures.1

pub read_block-returns-in_err-inside-clause-goes : goal.read_block-returns-in_err-inside-clause-goes
read_block-returns-in_err-inside-clause-goes g t c = no_end c.args.from (length c.args.toks.now) c.from_residual-in_err-inside.result c.in_err-inside.field-0.0 c.from_residual-in_err-inside.ensures.1

pub read_block-returns-in_err-list-clause-goes : goal.read_block-returns-in_err-list-clause-goes
read_block-returns-in_err-list-clause-goes g t c = no_end c.args.from (length c.args.toks.now) c.from_residual-in_err-list.result c.in_err-list.field-0.0 c.from_residual-in_err-list.ensures.1

pub read_block-returns-clause-goes : goal.read_block-returns-clause-goes
read_block-returns-clause-goes g t c = (omega (arith, c.in_ok-next.ensures.goes.0, c.in_ok-list.ensures.goes.0), c.in_ok-list.ensures.goes.1)

pub stmts-returns-in_err-at-clause-goes : goal.stmts-returns-in_err-at-clause-goes
stmts-returns-in_err-at-clause-goes g t c = no_end c.args.from (length c.args.toks.now) c.from_residual.result c.in_err-at.field-0.0 c.from_residual.ensures.1

pub turn-returns-in_err-cond-clause-goes : goal.turn-returns-in_err-cond-clause-goes
turn-returns-in_err-cond-clause-goes g t c = no_index (λ end. (c.args.from < end) × (end ≤ length c.args.toks.now)) c.from_residual.result c.in_err-cond.field-0.0 c.from_residual.ensures.1

pub turn-returns-in_err-body-clause-goes : goal.turn-returns-in_err-body-clause-goes
turn-returns-in_err-body-clause-goes g t c = no_index (λ end. (c.args.from < end) × (end ≤ length c.args.toks.now)) c.from_residual-in_err-body.result c.in_err-body.field-0.0 c.from_residual-in_err-body.ensures.1

pub branch-returns-in_err-cond-clause-goes : goal.branch-returns-in_err-cond-clause-goes
branch-returns-in_err-cond-clause-goes g t c = no_index (λ end. (c.args.from < end) × (end ≤ length c.args.toks.now)) c.from_residual.result c.in_err-cond.field-0.0 c.from_residual.ensures.1

pub branch-returns-in_err-first-clause-goes : goal.branch-returns-in_err-first-clause-goes
branch-returns-in_err-first-clause-goes g t c = no_index (λ end. (c.args.from < end) × (end ≤ length c.args.toks.now)) c.from_residual-in_err-first.result c.in_err-first.field-0.0 c.from_residual-in_err-first.ensures.1

pub branch-returns-in_err-second-clause-goes : goal.branch-returns-in_err-second-clause-goes
branch-returns-in_err-second-clause-goes g t c = no_index (λ end. (c.args.from < end) × (end ≤ length c.args.toks.now)) c.from_residual-in_err-second.result c.in_err-second.field-0.0 c.from_residual-in_err-second.ensures.1

pub stmt-returns-in-Keyword-Assert-clause-goes : goal.stmt-returns-in-Keyword-Assert-clause-goes
stmt-returns-in-Keyword-Assert-clause-goes g t c = goes_before c.args.from (c.args.from + 1) (length c.args.toks.now) c.assertion.result (omega arith) c.assertion.ensures.goes

pub stmt-returns-in-Keyword-If-clause-goes : goal.stmt-returns-in-Keyword-If-clause-goes
stmt-returns-in-Keyword-If-clause-goes g t c = goes_before c.args.from (c.args.from + 1) (length c.args.toks.now) c.branch-reading.result (omega arith) c.branch-reading.ensures.goes

pub stmt-returns-in-Keyword-While-clause-goes : goal.stmt-returns-in-Keyword-While-clause-goes
stmt-returns-in-Keyword-While-clause-goes g t c = goes_before c.args.from (c.args.from + 1) (length c.args.toks.now) c.turn.result (omega arith) c.turn.ensures.goes

pub stmt-returns-in-Name-clause-goes : goal.stmt-returns-in-Name-clause-goes
stmt-returns-in-Name-clause-goes g t c = goes_before c.args.from (c.args.from + 1) (length c.args.toks.now) c.name_statement.result (omega arith) c.name_statement.ensures.goes

pub stmt-returns-in-Keyword-Skip-clause-goes : goal.stmt-returns-in-Keyword-Skip-clause-goes
stmt-returns-in-Keyword-Skip-clause-goes g t c = ends_before c.args.from (c.args.from + 1) (length c.args.toks.now) c.ended.result (omega arith) c.ended.ensures.goes

pub stmt-returns-in-Keyword-Abort-clause-goes : goal.stmt-returns-in-Keyword-Abort-clause-goes
stmt-returns-in-Keyword-Abort-clause-goes g t c = ends_before c.args.from (c.args.from + 1) (length c.args.toks.now) c.ended-in-Keyword-Abort.result (omega arith) c.ended-in-Keyword-Abort.ensures.goes

pub otherwise-returns-in_err-inside-clause-goes : goal.otherwise-returns-in_err-inside-clause-goes
otherwise-returns-in_err-inside-clause-goes g t c = no_index (λ x. c.args.from ≤ x.1) c.from_residual.result c.in_err-inside.field-0.0 c.from_residual.ensures.1

pub otherwise-returns-in_err-inside-clause-within : goal.otherwise-returns-in_err-inside-clause-within
otherwise-returns-in_err-inside-clause-within g t c h = no_index (λ x. x.1 ≤ length c.args.toks.now) c.from_residual.result c.in_err-inside.field-0.0 c.from_residual.ensures.1

pub otherwise-returns-in_err-end-clause-goes : goal.otherwise-returns-in_err-end-clause-goes
otherwise-returns-in_err-end-clause-goes g t c = no_index (λ x. c.args.from ≤ x.1) c.from_residual-in_err-end.result c.in_err-end.field-0.0 c.from_residual-in_err-end.ensures.1

pub otherwise-returns-in_err-end-clause-within : goal.otherwise-returns-in_err-end-clause-within
otherwise-returns-in_err-end-clause-within g t c h = no_index (λ x. x.1 ≤ length c.args.toks.now) c.from_residual-in_err-end.result c.in_err-end.field-0.0 c.from_residual-in_err-end.ensures.1

pub branch-read_cond-requires : goal.branch-read_cond-requires
branch-read_cond-requires g t c κs = λ within. within

pub branch-branch-reading-requires : goal.branch-branch-reading-requires
branch-branch-reading-requires g t c κs = λ within. within

pub otherwise-none-requires : goal.otherwise-none-requires
otherwise-none-requires g t c κs = λ within. within

pub otherwise-none-list-requires : goal.otherwise-none-list-requires
otherwise-none-list-requires g t c κs = λ within. within

pub otherwise-chained-requires : goal.otherwise-chained-requires
otherwise-chained-requires g t c κs = λ within. within

pub read_block-braced-requires : goal.read_block-braced-requires
read_block-braced-requires g t c κs = λ within. within

pub stmt-skip-requires : goal.stmt-skip-requires
stmt-skip-requires g t c κs = λ within. within

pub stmt-abort-requires : goal.stmt-abort-requires
stmt-abort-requires g t c κs = λ within. within

pub stmt-assertion-requires : goal.stmt-assertion-requires
stmt-assertion-requires g t c κs = λ within. within

pub stmts-none-list-requires : goal.stmts-none-list-requires
stmts-none-list-requires g t c κs = λ within. within

pub turn-read_cond-requires : goal.turn-read_cond-requires
turn-read_cond-requires g t c κs = λ within. within

pub turn-turn-requires : goal.turn-turn-requires
turn-turn-requires g t c κs = λ within. within

pub branch-read_block-requires : goal.branch-read_block-requires
branch-read_block-requires g t c κs within = (omega (arith, c.in_ok-cond.ensures.goes.0, c.in_ok-cond.ensures.goes.1), within)

pub branch-otherwise-requires : goal.branch-otherwise-requires
branch-otherwise-requires g t c κs within = (omega (arith, c.in_ok-cond.ensures.goes.0, c.in_ok-first.ensures.goes.0, c.in_ok-first.ensures.goes.1), within)

pub read_block-stmts-requires : goal.read_block-stmts-requires
read_block-stmts-requires g t c κs within = (omega (arith, c.in_ok-next.ensures.goes.0, c.in_ok-next.ensures.goes.1), within)

pub stmt-branch-reading-requires : goal.stmt-branch-reading-requires
stmt-branch-reading-requires g t c κs within = (omega (arith, c.in-Some.ensures.1), within)

pub stmt-turn-requires : goal.stmt-turn-requires
stmt-turn-requires g t c κs within = (omega (arith, c.in-Some.ensures.1), within)

pub turn-read_block-requires : goal.turn-read_block-requires
turn-read_block-requires g t c κs within = (omega (arith, c.in_ok-cond.ensures.goes.0, c.in_ok-cond.ensures.goes.1), within)

pub stmts-stmts-smaller : goal.stmts-stmts-smaller
stmts-stmts-smaller g t c = omega (arith, c.in_ok-at.ensures.goes.0, c.in_ok-at.ensures.goes.1)
