use Rattle.std.proofs.Common.{◌+◌, drop, arith}
use Rattle.text_parser.specs.Lexemes.{lexemes}
use Rattle.text_parser.proofs.TokenPlaces.{next_drop}
use Rattle.chain_proofs.specs.ChainWalks.{parts_by}
use Rattle.chain_proofs.proofs.PathSteps.{second_drop}
use Rattle.chain_proofs.proofs.ChainParts.{number_fails, accepted_fails, parts_end, parts_fail, parts_go}
use Rattle.chain_proofs.proofs.walk.parts.Goals as goal

pub parts-preserved : goal.parts-preserved
parts-preserved g c =
    let a = g.R.ChainReading.actions c.args.reading.now in
    let all = lexemes c.args.toks.now in
    let us = drop c.parts.at all in
    let p = g.R.ChainReading.path c.parts.path in
    let next = drop (c.parts.at + 1) all in
    let whole = parts_by a (g.R.ChainReading.path c.args.so_far) (drop c.args.from all) in
    record {
      place = omega (arith, c.parts.invariant.place);
      within = λ inside. omega (arith, c.in_ok-number.ensures.within);
      value = parts_go a us p c.parts-test.ensures.value next (next_drop c.parts.at all) c.in_ok-number.number c.in_ok-number.ensures.value (drop (c.parts.at + 2) all) (second_drop c.parts.at all) (g.R.ChainReading.path c.in_ok-path.path) c.in_ok-path.ensures whole c.parts.invariant.value;
    }

pub returns-in_err-number-clause-value : goal.returns-in_err-number-clause-value
returns-in_err-number-clause-value g c =
    let a = g.R.ChainReading.actions c.args.reading.now in
    let all = lexemes c.args.toks.now in
    let us = drop c.parts.at all in
    let p = g.R.ChainReading.path c.parts.path in
    let next = drop (c.parts.at + 1) all in
    let whole = parts_by a (g.R.ChainReading.path c.args.so_far) (drop c.args.from all) in
    number_fails g.R.ChainReading.memory g.R.ChainReading.path all whole c.in_err-number.field-0.0 c.from_residual.result c.from_residual.ensures.1 next c.in_err-number.ensures.value
    (parts_fail a us p c.parts-test.ensures.value next (next_drop c.parts.at all) c.in_err-number.field-0.0 c.in_err-number.ensures.value whole c.parts.invariant.value)

pub returns-in_err-path-clause-value : goal.returns-in_err-path-clause-value
returns-in_err-path-clause-value g c =
    let a = g.R.ChainReading.actions c.args.reading.now in
    let all = lexemes c.args.toks.now in
    accepted_fails g.R.ChainReading.memory g.R.ChainReading.path all (parts_by a (g.R.ChainReading.path c.args.so_far) (drop c.args.from all)) c.in_err-path.field-0.0 c.from_residual-in_err-path.result c.from_residual-in_err-path.ensures.1 g.R.ChainReading.path (a.part (g.R.ChainReading.path c.parts.path) c.in_ok-number.number) c.in_err-path.ensures

pub returns-clause-value : goal.returns-clause-value
returns-clause-value g c =
    let a = g.R.ChainReading.actions c.args.reading.now in
    let all = lexemes c.args.toks.now in
    parts_end a (drop c.parts.at all) (g.R.ChainReading.path c.parts.path) c.parts-test.ensures.value (parts_by a (g.R.ChainReading.path c.args.so_far) (drop c.args.from all)) c.parts.invariant.value
