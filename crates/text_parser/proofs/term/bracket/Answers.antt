use Rattle.std.proofs.Common.{◌+◌, drop, sym, nat_lt, Ok, refl}
use Rattle.kat_model.specs.declared.limits.TheConstants.{MAX_OPEN}
use Rattle.text_parser.specs.declared.terminal.Terminal.TheVariants.{SquareClose}
use Rattle.text_parser.specs.Lexemes.{lexemes, is_terminal}
use Rattle.text_parser.specs.Actions.{context}
use Rattle.text_parser.specs.Conds.{parse_cond, disjunction}
use Rattle.text_parser.specs.Terms.{bracket}
use Rattle.text_parser.proofs.PartFaults.{end_made, fault_read, fault_known, enter_keeps_memory, expects_keeps_memory}
use Rattle.text_parser.proofs.TermSteps.{bracket_refused, bracket_fault, bracket_open, bracket_closed}
use Rattle.text_parser.proofs.term.bracket.Goals as goal

pub returns-in_err-inside-clause-value : goal.returns-in_err-inside-clause-value
returns-in_err-inside-clause-value g c =
    let x = g.R.Reading.actions c.args.reading.now in
    let ts = lexemes c.args.toks.now in
    let us = drop c.args.from ts in
    let k = c.args.context in
    let refused = sym c.in_err-inside.ensures in
    fault_known g.R.Reading.memory g.R.Reading.term ts c.from_residual.result c.in_err-inside.field-0.0 (bracket x k c.args.at us) c.from_residual.ensures.1 (enter_keeps_memory (nat_lt k.depth MAX_OPEN) (context (k.depth + 1) k.negated k.compares) c.args.at c.in_err-inside.field-0.0 refused)
    (bracket_refused x k c.args.at us c.in_err-inside.field-0.0 refused)

pub returns-in_err-cond-clause-value : goal.returns-in_err-cond-clause-value
returns-in_err-cond-clause-value g c =
    let x = g.R.Reading.actions c.args.reading.now in
    let ts = lexemes c.args.toks.now in
    let us = drop c.args.from ts in
    fault_read g.R.Reading.memory g.R.Reading.cond g.R.Reading.term ts c.from_residual-in_err-cond.result c.in_err-cond.field-0.0 (parse_cond x.conds disjunction c.in_ok-inside.inside us) (bracket x c.args.context c.args.at us) c.from_residual-in_err-cond.ensures.1 c.in_err-cond.ensures.value
    (bracket_fault x c.args.context c.in_ok-inside.inside c.args.at us c.in_err-cond.field-0.0 (sym c.in_ok-inside.ensures))

pub returns-in_err-end-clause-value : goal.returns-in_err-end-clause-value
returns-in_err-end-clause-value g c =
    let x = g.R.Reading.actions c.args.reading.now in
    let ts = lexemes c.args.toks.now in
    let us = drop c.args.from ts in
    let missing = c.in_err-end.ensures.value in
    fault_known g.R.Reading.memory g.R.Reading.term ts c.from_residual-in_err-end.result c.in_err-end.field-0.0 (bracket x c.args.context c.args.at us) c.from_residual-in_err-end.ensures.1 (expects_keeps_memory (is_terminal SquareClose) (drop c.in_ok-cond.end ts) c.in_err-end.field-0.0 missing)
    (bracket_open x c.args.context c.in_ok-inside.inside c.args.at us (g.R.Reading.cond c.in_ok-cond.cond, drop c.in_ok-cond.end ts) c.in_err-end.field-0.0 (sym c.in_ok-inside.ensures) c.in_ok-cond.ensures.value missing)

pub returns-clause-value : goal.returns-clause-value
returns-clause-value g c =
    let x = g.R.Reading.actions c.args.reading.now in
    let ts = lexemes c.args.toks.now in
    let us = drop c.args.from ts in
    let cond = g.R.Reading.cond c.in_ok-cond.cond in
    end_made g.R.Reading.memory g.R.Reading.term ts c.in_ok-end.end c.with_end.result c.tested.result (Ok (x.tested cond)) (bracket x c.args.context c.args.at us) c.with_end.ensures c.tested.ensures
    (bracket_closed x c.args.context c.in_ok-inside.inside c.args.at us (cond, drop c.in_ok-cond.end ts) (drop c.in_ok-end.end ts) (x.tested cond) (sym c.in_ok-inside.ensures) c.in_ok-cond.ensures.value c.in_ok-end.ensures.value refl)
