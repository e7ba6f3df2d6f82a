use Rattle.std.proofs.Common.{drop, Ok, refl}
use Rattle.text_parser.specs.Lexemes.{lexemes, is_terminal}
use Rattle.text_parser.specs.Parsed.{then_expects}
use Rattle.text_parser.proofs.PartFaults.{fault_known, expects_keeps_memory}
use Rattle.text_parser.proofs.terminal.then_expect.Goals as goal

pub returns-in_err-end-clause-value : goal.returns-in_err-end-clause-value
returns-in_err-end-clause-value g c =
    let ts = lexemes c.args.toks.now in
    let us = drop c.args.i ts in
    let p = is_terminal c.args.terminal in
    let missing = c.in_err-end.ensures.value in
    fault_known ⊥ (λ v. v) ts c.from_residual.result c.in_err-end.field-0.0 (then_expects p (Ok (c.args.value, us))) c.from_residual.ensures.1 (expects_keeps_memory p us c.in_err-end.field-0.0 missing) (rw missing refl)

pub returns-clause-value : goal.returns-clause-value
returns-clause-value g c = rw (c.in_ok-end.ensures.value) refl
