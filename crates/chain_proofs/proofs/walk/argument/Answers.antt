use Rattle.std.proofs.Common.{◌+◌, drop}
use Rattle.text_parser.specs.Lexemes.{lexemes}
use Rattle.text_parser.proofs.TokenPlaces.{next_drop}
use Rattle.chain_proofs.specs.ChainWalks.{argument}
use Rattle.chain_proofs.proofs.ChainParts.{number_fails, argument_none, argument_fails, argument_made}
use Rattle.chain_proofs.proofs.walk.argument.Goals as goal

pub returns-then-not-has_number-clause-value : goal.returns-then-not-has_number-clause-value
returns-then-not-has_number-clause-value c = argument_none c.args.name.now (drop c.args.from (lexemes c.args.toks.now)) c.if-not-has_number.ensures

pub returns-in_err-number-clause-value : goal.returns-in_err-number-clause-value
returns-in_err-number-clause-value c =
    let all = lexemes c.args.toks.now in
    let ts = drop c.args.from all in
    let name = c.args.name.now in
    number_fails ⊥ (λ n. n) all (argument name ts) c.in_err-number.field-0.0 c.from_residual.result c.from_residual.ensures.1 ts c.in_err-number.ensures.value
    (argument_fails name ts c.if-not-has_number.ensures c.in_err-number.field-0.0 c.in_err-number.ensures.value)

pub returns-clause-value : goal.returns-clause-value
returns-clause-value c =
    let all = lexemes c.args.toks.now in
    argument_made c.args.name.now (drop c.args.from all) c.if-not-has_number.ensures c.in_ok-number.number c.in_ok-number.ensures.value (drop (c.args.from + 1) all) (next_drop c.args.from all)
