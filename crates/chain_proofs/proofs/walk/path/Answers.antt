use Rattle.std.proofs.Common.{◌+◌, drop, subst}
use Rattle.text_parser.specs.Lexemes.{lexemes}
use Rattle.text_parser.specs.Parsed.{Reads}
use Rattle.text_parser.proofs.TokenPlaces.{next_drop}
use Rattle.chain_proofs.specs.ChainWalks.{path_by}
use Rattle.chain_proofs.proofs.PathSteps.{second_drop}
use Rattle.chain_proofs.proofs.ChainParts.{number_fails, accepted_fails, path_none, path_fails, path_goes}
use Rattle.chain_proofs.proofs.walk.path.Goals as goal

pub returns-then-not-is_word_at-clause-value : goal.returns-then-not-is_word_at-clause-value
returns-then-not-is_word_at-clause-value g c =
    path_none (g.R.ChainReading.actions c.args.reading.now) (drop c.args.from (lexemes c.args.toks.now)) c.if-not-is_word_at.ensures.value (g.R.ChainReading.path c.whole.result) c.whole.ensures

pub returns-in_err-first-clause-value : goal.returns-in_err-first-clause-value
returns-in_err-first-clause-value g c =
    let a = g.R.ChainReading.actions c.args.reading.now in
    let all = lexemes c.args.toks.now in
    let ts = drop c.args.from all in
    let us = drop (c.args.from + 1) all in
    number_fails g.R.ChainReading.memory g.R.ChainReading.path all (path_by a ts) c.in_err-first.field-0.0 c.from_residual.result c.from_residual.ensures.1 us c.in_err-first.ensures.value
    (path_fails a ts c.if-not-is_word_at.ensures.value us (next_drop c.args.from all) c.in_err-first.field-0.0 c.in_err-first.ensures.value)

pub returns-in_err-path-clause-value : goal.returns-in_err-path-clause-value
returns-in_err-path-clause-value g c =
    let a = g.R.ChainReading.actions c.args.reading.now in
    let all = lexemes c.args.toks.now in
    accepted_fails g.R.ChainReading.memory g.R.ChainReading.path all (path_by a (drop c.args.from all)) c.in_err-path.field-0.0 c.from_residual-in_err-path.result c.from_residual-in_err-path.ensures.1 g.R.ChainReading.path (a.part (g.R.ChainReading.path c.whole-whole.result) c.in_ok-first.first) c.in_err-path.ensures

pub returns-clause-value : goal.returns-clause-value
returns-clause-value g c =
    let a = g.R.ChainReading.actions c.args.reading.now in
    let all = lexemes c.args.toks.now in
    let ts = drop c.args.from all in
    subst (λ m. Reads g.R.ChainReading.memory g.R.ChainReading.path all c.parts.result m)
    (path_goes a ts c.if-not-is_word_at.ensures.value (drop (c.args.from + 1) all) (next_drop c.args.from all) c.in_ok-first.first c.in_ok-first.ensures.value (drop (c.args.from + 2) all) (second_drop c.args.from all)
    (g.R.ChainReading.path c.whole-whole.result) (g.R.ChainReading.path c.in_ok-path.path) c.whole-whole.ensures c.in_ok-path.ensures)
    c.parts.ensures.value
