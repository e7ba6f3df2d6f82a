use Rattle.std.proofs.Common.{drop, Ok, Err, refl}
use Rattle.text_parser.specs.declared.terminal.Terminal.TheVariants.{SquareOpen, SquareClose}
use Rattle.text_parser.specs.Lexemes.{lexemes, is_terminal}
use Rattle.text_parser.specs.Parsed.{expects, place_of}
use Rattle.text_parser.proofs.NamedFaults.{expects_named}
use Rattle.while_lang.specs.Blocks.{enter}
use Rattle.while_lang.proofs.BlockFaults.{enter_named, entered, part_fails, check_fails}
use Rattle.gkat_front.specs.GkatWalks.{guard_by}
use Rattle.gkat_front.proofs.walk.guard.Goals as goal

pub returns-in_err-next-clause-value : goal.returns-in_err-next-clause-value
returns-in_err-next-clause-value g c =
    let a = g.R.GkatReading.actions c.args.reading.now in
    let all = lexemes c.args.toks.now in
    let ts = drop c.args.from all in
    check_fails g.R.GkatReading.memory g.R.GkatReading.guard all (guard_by a c.args.depth ts) c.in_err-next.field-0.0 c.from_residual.result c.from_residual.ensures.1 (expects (is_terminal SquareOpen) ts) (expects_named (is_terminal SquareOpen) ts) c.in_err-next.ensures.value (rw (c.in_err-next.ensures.value) refl)

pub returns-in_err-inside-clause-value : goal.returns-in_err-inside-clause-value
returns-in_err-inside-clause-value g c =
    let a = g.R.GkatReading.actions c.args.reading.now in
    let all = lexemes c.args.toks.now in
    let ts = drop c.args.from all in
    let given = entered c.args.depth (place_of ts) c.place_at.result (Err c.in_err-inside.field-0.0) c.place_at.ensures c.in_err-inside.ensures in
    check_fails g.R.GkatReading.memory g.R.GkatReading.guard all (guard_by a c.args.depth ts) c.in_err-inside.field-0.0 c.from_residual-in_err-inside.result c.from_residual-in_err-inside.ensures.1 (enter c.args.depth (place_of ts)) (enter_named c.args.depth (place_of ts)) given (rw (c.in_ok-next.ensures.value, given) refl)

pub returns-in_err-cond-clause-value : goal.returns-in_err-cond-clause-value
returns-in_err-cond-clause-value g c =
    let a = g.R.GkatReading.actions c.args.reading.now in
    let all = lexemes c.args.toks.now in
    let ts = drop c.args.from all in
    let inside = entered c.args.depth (place_of ts) c.place_at.result (Ok c.in_ok-inside.inside) c.place_at.ensures c.in_ok-inside.ensures in
    part_fails g.R.GkatReading.memory g.R.GkatReading.guard all (guard_by a c.args.depth ts) c.in_err-cond.field-0.0 c.from_residual-in_err-cond.result c.from_residual-in_err-cond.ensures.1 g.R.GkatReading.guard (a.cond c.in_ok-inside.inside (drop c.in_ok-next.next all)) c.in_err-cond.ensures.value (λ h. rw (c.in_ok-next.ensures.value, inside, h) refl)

pub returns-in_err-end-clause-value : goal.returns-in_err-end-clause-value
returns-in_err-end-clause-value g c =
    let a = g.R.GkatReading.actions c.args.reading.now in
    let all = lexemes c.args.toks.now in
    let ts = drop c.args.from all in
    let inside = entered c.args.depth (place_of ts) c.place_at.result (Ok c.in_ok-inside.inside) c.place_at.ensures c.in_ok-inside.ensures in
    let us = drop c.in_ok-cond.end all in
    check_fails g.R.GkatReading.memory g.R.GkatReading.guard all (guard_by a c.args.depth ts) c.in_err-end.field-0.0 c.from_residual-in_err-end.result c.from_residual-in_err-end.ensures.1 (expects (is_terminal SquareClose) us) (expects_named (is_terminal SquareClose) us) c.in_err-end.ensures.value (rw (c.in_ok-next.ensures.value, inside, c.in_ok-cond.ensures.value, c.in_err-end.ensures.value) refl)

pub returns-clause-value : goal.returns-clause-value
returns-clause-value g c =
    let all = lexemes c.args.toks.now in
    let ts = drop c.args.from all in
    let inside = entered c.args.depth (place_of ts) c.place_at.result (Ok c.in_ok-inside.inside) c.place_at.ensures c.in_ok-inside.ensures in
    rw (c.in_ok-next.ensures.value, inside, c.in_ok-cond.ensures.value, c.in_ok-end.ensures.value) refl
