use Rattle.std.proofs.Common.{◌+◌, ℕ, List, Bor, drop}
use Rattle.text_parser.specs.Lexemes.{lexemes}
use Rattle.text_parser.proofs.TokenPlaces.{next_drop}
use Rattle.while_lang.proofs.BlockFaults.{part_fails}
use Rattle.chain_proofs.specs.ChainWalks.{rule_name, argument, path_by, rule_by}
use Rattle.chain_proofs.specs.Working.Reading.{reason_of}
use Rattle.chain_proofs.proofs.ChainParts.{action_fails, parser_fails, rule_unnamed, rule_unnumbered, rule_unknown, rule_unplaced, rule_made}
use Rattle.chain_proofs.proofs.walk.rule_and_place.Goals as goal

pub returns-in_err-at-clause-value : goal.returns-in_err-at-clause-value
returns-in_err-at-clause-value g c =
    let a = g.R.ChainReading.actions c.args.reading.now in
    let all = lexemes c.args.toks.now in
    let ts = drop c.args.from all in
    let us = drop (c.args.from + 1) all in
    action_fails g.R.ChainReading.memory (reason_of g.R.ChainReading.rule g.R.ChainReading.path) all (rule_by a ts) c.in_err-at.field-0.0 c.from_residual.result c.from_residual.ensures.1 ⊥ (λ x. absurd x) (λ (x : ℕ × Bor (List ℕ)). (x.0, x.1.now)) (rule_name ts) c.in_err-at.ensures.value (rule_unnamed a ts c.in_err-at.field-0.0)

pub returns-in_err-number-clause-value : goal.returns-in_err-number-clause-value
returns-in_err-number-clause-value g c =
    let a = g.R.ChainReading.actions c.args.reading.now in
    let all = lexemes c.args.toks.now in
    let ts = drop c.args.from all in
    let us = drop (c.args.from + 1) all in
    parser_fails g.R.ChainReading.memory (reason_of g.R.ChainReading.rule g.R.ChainReading.path) all (rule_by a ts) c.in_err-number.field-0.0 c.from_residual-in_err-number.result c.from_residual-in_err-number.ensures.1 (λ (n : ℕ). n) (argument c.in_ok-at.name.now us) c.in_err-number.ensures.value
    (rule_unnumbered a ts (c.in_ok-at.at, c.in_ok-at.name.now) c.in_ok-at.ensures.value us (next_drop c.args.from all) c.in_err-number.field-0.0)

pub returns-in_err-rule-clause-value : goal.returns-in_err-rule-clause-value
returns-in_err-rule-clause-value g c =
    let a = g.R.ChainReading.actions c.args.reading.now in
    let all = lexemes c.args.toks.now in
    let ts = drop c.args.from all in
    let us = drop (c.args.from + 1) all in
    action_fails g.R.ChainReading.memory (reason_of g.R.ChainReading.rule g.R.ChainReading.path) all (rule_by a ts) c.in_err-rule.field-0.0 c.from_residual-in_err-rule.result c.from_residual-in_err-rule.ensures.1 g.R.ChainReading.memory (λ x. x) g.R.ChainReading.rule (a.rule c.in_ok-at.at c.in_ok-at.name.now c.in_ok-number.number) c.in_err-rule.ensures
    (rule_unknown a ts (c.in_ok-at.at, c.in_ok-at.name.now) c.in_ok-at.ensures.value us (next_drop c.args.from all) (c.in_ok-number.number, drop c.in_ok-number.end all) c.in_ok-number.ensures.value c.in_err-rule.field-0.0)

pub returns-in_err-path-clause-value : goal.returns-in_err-path-clause-value
returns-in_err-path-clause-value g c =
    let a = g.R.ChainReading.actions c.args.reading.now in
    let all = lexemes c.args.toks.now in
    let ts = drop c.args.from all in
    let us = drop (c.args.from + 1) all in
    part_fails g.R.ChainReading.memory (reason_of g.R.ChainReading.rule g.R.ChainReading.path) all (rule_by a ts) c.in_err-path.field-0.0 c.from_residual-in_err-path.result c.from_residual-in_err-path.ensures.1 g.R.ChainReading.path (path_by a (drop c.in_ok-number.end all)) c.in_err-path.ensures.value
    (rule_unplaced a ts (c.in_ok-at.at, c.in_ok-at.name.now) c.in_ok-at.ensures.value us (next_drop c.args.from all) (c.in_ok-number.number, drop c.in_ok-number.end all) c.in_ok-number.ensures.value (g.R.ChainReading.rule c.in_ok-rule.rule) c.in_ok-rule.ensures c.in_err-path.field-0.0)

pub returns-clause-value : goal.returns-clause-value
returns-clause-value g c =
    let a = g.R.ChainReading.actions c.args.reading.now in
    let all = lexemes c.args.toks.now in
    let ts = drop c.args.from all in
    let us = drop (c.args.from + 1) all in
    rule_made a ts (c.in_ok-at.at, c.in_ok-at.name.now) c.in_ok-at.ensures.value us (next_drop c.args.from all) (c.in_ok-number.number, drop c.in_ok-number.end all) c.in_ok-number.ensures.value (g.R.ChainReading.rule c.in_ok-rule.rule) c.in_ok-rule.ensures (g.R.ChainReading.path c.in_ok-path.path, drop c.in_ok-path.end all) c.in_ok-path.ensures.value c.has_inner-inner.result c.has_inner-inner.ensures
