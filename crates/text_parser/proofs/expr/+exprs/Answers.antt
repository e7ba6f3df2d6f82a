use Rattle.std.proofs.Common.{◌+◌, drop, Ok, ap, sym, subst, ◌∙◌, nat_lt, arith}
use Rattle.kat_model.specs.declared.limits.TheConstants.{MAX_OPEN}
use Rattle.text_parser.specs.declared.reading.Operator.TheVariants.{Multiply}
use Rattle.text_parser.specs.declared.terminal.Terminal.TheVariants.{RoundOpen, RoundClose, Zero, One, Number, WideNumber, Name}
use Rattle.text_parser.specs.Lexemes.{lexemes, text_at, is_terminal}
use Rattle.text_parser.specs.Parsed.{Parsed, place_of, before, Reads}
use Rattle.text_parser.specs.Actions.{context}
use Rattle.text_parser.specs.Exprs.{parse_expr, sums, products, factor, parenthesis}
use Rattle.text_parser.proofs.PartFaults.{closed_read, closed_goes, end_made, goes_later, fault_goes, fault_read, memory_lacks, fault_known, syntax_read, enter_keeps_memory}
use Rattle.text_parser.proofs.ExprSteps.{sums_first, sums_fault, sums_next, sums_next_fault, sums_end, products_first, products_fault, products_next, products_next_fault, products_end, factor_none, factor_seen, factor_other, parenthesis_refused, parenthesis_fault, parenthesis_read}
use Rattle.text_parser.proofs.expr.+exprs.Goals as goal

pub factor-returns-in_default-clause-value : goal.factor-returns-in_default-clause-value
factor-returns-in_default-clause-value g t c =
    let x = (g.R.Reading.actions c.args.reading.now).conds.exprs in
    let ts = lexemes c.args.toks.now in
    let us = drop c.args.from ts in
    let at_end = factor_none x c.args.context us c.in_default.ensures.0 in
    syntax_read g.R.Reading.memory g.R.Reading.expr ts c.syntax_fault_at.result (place_of us) (parse_expr x factor c.args.context us) c.syntax_fault_at.ensures at_end

pub factor-returns-in-Zero-clause-value : goal.factor-returns-in-Zero-clause-value
factor-returns-in-Zero-clause-value g t c =
    let x = (g.R.Reading.actions c.args.reading.now).conds.exprs in
    let ts = lexemes c.args.toks.now in
    let us = drop c.args.from ts in
    let next = drop (c.args.from + 1) ts in
    let seen = factor_seen x c.args.context us c.in-Some.terminal Zero c.in-Some.at (text_at c.args.toks.now c.args.from) next c.in-Some.ensures.0 c.in-Zero.is in
    end_made g.R.Reading.memory g.R.Reading.expr ts (c.args.from + 1) c.with_end.result c.number.result (x.number c.args.context c.in-Some.at 0) (parse_expr x factor c.args.context us) c.with_end.ensures c.number.ensures seen

pub factor-returns-in-One-clause-value : goal.factor-returns-in-One-clause-value
factor-returns-in-One-clause-value g t c =
    let x = (g.R.Reading.actions c.args.reading.now).conds.exprs in
    let ts = lexemes c.args.toks.now in
    let us = drop c.args.from ts in
    let next = drop (c.args.from + 1) ts in
    let seen = factor_seen x c.args.context us c.in-Some.terminal One c.in-Some.at (text_at c.args.toks.now c.args.from) next c.in-Some.ensures.0 c.in-One.is in
    end_made g.R.Reading.memory g.R.Reading.expr ts (c.args.from + 1) c.with_end-in-One.result c.number-in-One.result (x.number c.args.context c.in-Some.at 1) (parse_expr x factor c.args.context us) c.with_end-in-One.ensures c.number-in-One.ensures seen

pub factor-returns-in-Number-clause-value : goal.factor-returns-in-Number-clause-value
factor-returns-in-Number-clause-value g t c =
    let x = (g.R.Reading.actions c.args.reading.now).conds.exprs in
    let ts = lexemes c.args.toks.now in
    let us = drop c.args.from ts in
    let next = drop (c.args.from + 1) ts in
    let seen = factor_seen x c.args.context us c.in-Some.terminal (Number c.in-Number.n) c.in-Some.at (text_at c.args.toks.now c.args.from) next c.in-Some.ensures.0 c.in-Number.is in
    end_made g.R.Reading.memory g.R.Reading.expr ts (c.args.from + 1) c.with_end-in-Number.result c.number-in-Number.result (x.number c.args.context c.in-Some.at c.in-Number.n) (parse_expr x factor c.args.context us) c.with_end-in-Number.ensures c.number-in-Number.ensures seen

pub factor-returns-in-Name-clause-value : goal.factor-returns-in-Name-clause-value
factor-returns-in-Name-clause-value g t c =
    let x = (g.R.Reading.actions c.args.reading.now).conds.exprs in
    let ts = lexemes c.args.toks.now in
    let us = drop c.args.from ts in
    let next = drop (c.args.from + 1) ts in
    let seen = factor_seen x c.args.context us c.in-Some.terminal Name c.in-Some.at (text_at c.args.toks.now c.args.from) next c.in-Some.ensures.0 c.in-Name.is in
    end_made g.R.Reading.memory g.R.Reading.expr ts (c.args.from + 1) c.with_end-in-Name.result c.variable.result (x.variable c.args.context c.in-Some.at c.text_at.result.now) (parse_expr x factor c.args.context us) c.with_end-in-Name.ensures c.variable.ensures
    (seen ∙ ap (λ name. before next (x.variable c.args.context c.in-Some.at name)) (sym c.text_at.ensures))

pub factor-returns-in-WideNumber-clause-value : goal.factor-returns-in-WideNumber-clause-value
factor-returns-in-WideNumber-clause-value g t c =
    let x = (g.R.Reading.actions c.args.reading.now).conds.exprs in
    let ts = lexemes c.args.toks.now in
    let us = drop c.args.from ts in
    factor_seen x c.args.context us c.in-Some.terminal WideNumber c.in-Some.at (text_at c.args.toks.now c.args.from) (drop (c.args.from + 1) ts) c.in-Some.ensures.0 c.in-WideNumber.is

pub factor-returns-in-RoundOpen-clause-value : goal.factor-returns-in-RoundOpen-clause-value
factor-returns-in-RoundOpen-clause-value g t c =
    let x = (g.R.Reading.actions c.args.reading.now).conds.exprs in
    let ts = lexemes c.args.toks.now in
    let us = drop c.args.from ts in
    let seen = factor_seen x c.args.context us c.in-Some.terminal RoundOpen c.in-Some.at (text_at c.args.toks.now c.args.from) (drop (c.args.from + 1) ts) c.in-Some.ensures.0 c.in-RoundOpen.is in
    subst (λ (m : Parsed _). Reads g.R.Reading.memory g.R.Reading.expr ts c.parenthesis.result m) (sym seen) c.parenthesis.ensures.value

pub factor-returns-in_default-terminal-clause-value : goal.factor-returns-in_default-terminal-clause-value
factor-returns-in_default-terminal-clause-value g t c =
    let x = (g.R.Reading.actions c.args.reading.now).conds.exprs in
    let ts = lexemes c.args.toks.now in
    let us = drop c.args.from ts in
    let other = c.in_default-terminal in
    factor_other x c.args.context us c.in-Some.terminal c.in-Some.at (text_at c.args.toks.now c.args.from) (drop (c.args.from + 1) ts) c.in-Some.ensures.0 other.not-RoundOpen other.not-Zero other.not-One other.not-Number other.not-WideNumber other.not-Name

pub product-returns-in_err-first-clause-value : goal.product-returns-in_err-first-clause-value
product-returns-in_err-first-clause-value g t c =
    let x = (g.R.Reading.actions c.args.reading.now).conds.exprs in
    let ts = lexemes c.args.toks.now in
    let us = drop c.args.from ts in
    fault_read g.R.Reading.memory g.R.Reading.expr g.R.Reading.expr ts c.from_residual.result c.in_err-first.field-0.0 (parse_expr x factor c.args.context us) (parse_expr x products c.args.context us) c.from_residual.ensures.1 c.in_err-first.ensures.value
    (products_fault x c.args.context us c.in_err-first.field-0.0)

pub product-returns-in_err-first-clause-goes : goal.product-returns-in_err-first-clause-goes
product-returns-in_err-first-clause-goes g t c = fault_goes c.args.from _ c.from_residual.result c.in_err-first.field-0.0 c.from_residual.ensures.1

pub product-parts-init : goal.product-parts-init
product-parts-init g t c =
    let x = (g.R.Reading.actions c.args.reading.now).conds.exprs in
    let ts = lexemes c.args.toks.now in
    record {
      place = c.in_ok-first.ensures.goes;
      value = products_first x c.args.context (drop c.args.from ts) (g.R.Reading.expr c.in_ok-first.first, drop c.in_ok-first.next ts) c.in_ok-first.ensures.value;
    }

pub product-returns-in_err-more-clause-value : goal.product-returns-in_err-more-clause-value
product-returns-in_err-more-clause-value g t c =
    let x = (g.R.Reading.actions c.args.reading.now).conds.exprs in
    let ts = lexemes c.args.toks.now in
    let us = drop c.args.from ts in
    fault_read g.R.Reading.memory g.R.Reading.expr g.R.Reading.expr ts c.from_residual-in_err-more.result c.in_err-more.field-0.0 (parse_expr x factor c.args.context (drop (c.parts.at + 1) ts)) (parse_expr x products c.args.context us) c.from_residual-in_err-more.ensures.1 c.in_err-more.ensures.value
    (λ h. sym c.parts.invariant.value ∙ products_next_fault x (g.R.Reading.expr c.parts.all) c.args.context c.parts.at ts c.in_err-more.field-0.0 (sym c.is_at.ensures.value ∙ c.parts-test.true) h)

pub product-returns-in_err-more-clause-goes : goal.product-returns-in_err-more-clause-goes
product-returns-in_err-more-clause-goes g t c = fault_goes c.args.from _ c.from_residual-in_err-more.result c.in_err-more.field-0.0 c.from_residual-in_err-more.ensures.1

pub product-returns-in_err-all-clause-value : goal.product-returns-in_err-all-clause-value
product-returns-in_err-all-clause-value g t c =
    let x = (g.R.Reading.actions c.args.reading.now).conds.exprs in
    let ts = lexemes c.args.toks.now in
    memory_lacks g.R.Reading.memory g.R.Reading.expr g.R.Reading.expr ts c.from_residual-in_err-all.result c.in_err-all.field-0.0 (x.join Multiply (g.R.Reading.expr c.parts.all) (g.R.Reading.expr c.in_ok-more.more)) (parse_expr x products c.args.context (drop c.args.from ts)) c.from_residual-in_err-all.ensures.1 c.in_err-all.ensures

pub product-returns-in_err-all-clause-goes : goal.product-returns-in_err-all-clause-goes
product-returns-in_err-all-clause-goes g t c = fault_goes c.args.from _ c.from_residual-in_err-all.result c.in_err-all.field-0.0 c.from_residual-in_err-all.ensures.1

pub product-parts-preserved : goal.product-parts-preserved
product-parts-preserved g t c =
    let x = (g.R.Reading.actions c.args.reading.now).conds.exprs in
    let ts = lexemes c.args.toks.now in
    let place = c.in_ok-more.ensures.goes in
    record {
      place = (omega (arith, c.parts.invariant.place.0, place.0), place.1);
      value = products_next x (g.R.Reading.expr c.parts.all) c.args.context c.parts.at ts (g.R.Reading.expr c.in_ok-more.more, drop c.in_ok-more.next ts) (g.R.Reading.expr c.in_ok-all.all) (sym c.is_at.ensures.value ∙ c.parts-test.true) c.in_ok-more.ensures.value (c.in_ok-all.ensures) ∙ c.parts.invariant.value;
    }

pub product-returns-clause-value : goal.product-returns-clause-value
product-returns-clause-value g t c =
    let x = (g.R.Reading.actions c.args.reading.now).conds.exprs in
    let ts = lexemes c.args.toks.now in
    sym c.parts.invariant.value ∙ products_end x (g.R.Reading.expr c.parts.all) c.args.context (drop c.parts.at ts) (sym c.is_at.ensures.value ∙ c.parts-test.false)

pub parse_expr-returns-in_err-first-clause-value : goal.parse_expr-returns-in_err-first-clause-value
parse_expr-returns-in_err-first-clause-value g t c =
    let x = (g.R.Reading.actions c.args.reading.now).conds.exprs in
    let ts = lexemes c.args.toks.now in
    let us = drop c.args.from ts in
    fault_read g.R.Reading.memory g.R.Reading.expr g.R.Reading.expr ts c.from_residual.result c.in_err-first.field-0.0 (parse_expr x products c.args.context us) (parse_expr x sums c.args.context us) c.from_residual.ensures.1 c.in_err-first.ensures.value
    (sums_fault x c.args.context us c.in_err-first.field-0.0)

pub parse_expr-returns-in_err-first-clause-goes : goal.parse_expr-returns-in_err-first-clause-goes
parse_expr-returns-in_err-first-clause-goes g t c = fault_goes c.args.from _ c.from_residual.result c.in_err-first.field-0.0 c.from_residual.ensures.1

pub parse_expr-parts-init : goal.parse_expr-parts-init
parse_expr-parts-init g t c =
    let x = (g.R.Reading.actions c.args.reading.now).conds.exprs in
    let ts = lexemes c.args.toks.now in
    record {
      place = c.in_ok-first.ensures.goes;
      value = sums_first x c.args.context (drop c.args.from ts) (g.R.Reading.expr c.in_ok-first.first, drop c.in_ok-first.next ts) c.in_ok-first.ensures.value;
    }

pub parse_expr-returns-in_err-more-clause-value : goal.parse_expr-returns-in_err-more-clause-value
parse_expr-returns-in_err-more-clause-value g t c =
    let x = (g.R.Reading.actions c.args.reading.now).conds.exprs in
    let ts = lexemes c.args.toks.now in
    let us = drop c.args.from ts in
    fault_read g.R.Reading.memory g.R.Reading.expr g.R.Reading.expr ts c.from_residual-in_err-more.result c.in_err-more.field-0.0 (parse_expr x products c.args.context (drop (c.parts.at + 1) ts)) (parse_expr x sums c.args.context us) c.from_residual-in_err-more.ensures.1 c.in_err-more.ensures.value
    (λ h. sym c.parts.invariant.value ∙ sums_next_fault x (g.R.Reading.expr c.parts.all) c.args.context c.parts.at ts c.in_err-more.field-0.0 (sym c.is_sum_at.ensures.value ∙ c.parts-test.true) h)

pub parse_expr-returns-in_err-more-clause-goes : goal.parse_expr-returns-in_err-more-clause-goes
parse_expr-returns-in_err-more-clause-goes g t c = fault_goes c.args.from _ c.from_residual-in_err-more.result c.in_err-more.field-0.0 c.from_residual-in_err-more.ensures.1

pub parse_expr-returns-in_err-all-clause-value : goal.parse_expr-returns-in_err-all-clause-value
parse_expr-returns-in_err-all-clause-value g t c =
    let x = (g.R.Reading.actions c.args.reading.now).conds.exprs in
    let ts = lexemes c.args.toks.now in
    memory_lacks g.R.Reading.memory g.R.Reading.expr g.R.Reading.expr ts c.from_residual-in_err-all.result c.in_err-all.field-0.0 (x.join c.operator_at-operator.result (g.R.Reading.expr c.parts.all) (g.R.Reading.expr c.in_ok-more.more)) (parse_expr x sums c.args.context (drop c.args.from ts)) c.from_residual-in_err-all.ensures.1 c.in_err-all.ensures

pub parse_expr-returns-in_err-all-clause-goes : goal.parse_expr-returns-in_err-all-clause-goes
parse_expr-returns-in_err-all-clause-goes g t c = fault_goes c.args.from _ c.from_residual-in_err-all.result c.in_err-all.field-0.0 c.from_residual-in_err-all.ensures.1

pub parse_expr-parts-preserved : goal.parse_expr-parts-preserved
parse_expr-parts-preserved g t c =
    let x = (g.R.Reading.actions c.args.reading.now).conds.exprs in
    let ts = lexemes c.args.toks.now in
    let place = c.in_ok-more.ensures.goes in
    record {
      place = (omega (arith, c.parts.invariant.place.0, place.0), place.1);
      value = sums_next x (g.R.Reading.expr c.parts.all) c.args.context c.parts.at ts (g.R.Reading.expr c.in_ok-more.more, drop c.in_ok-more.next ts) (g.R.Reading.expr c.in_ok-all.all) (sym c.is_sum_at.ensures.value ∙ c.parts-test.true) c.in_ok-more.ensures.value (ap (λ o. Ok (x.join o (g.R.Reading.expr c.parts.all) (g.R.Reading.expr c.in_ok-more.more))) (sym c.operator_at-operator.ensures) ∙ c.in_ok-all.ensures) ∙ c.parts.invariant.value;
    }

pub parse_expr-returns-clause-value : goal.parse_expr-returns-clause-value
parse_expr-returns-clause-value g t c =
    let x = (g.R.Reading.actions c.args.reading.now).conds.exprs in
    let ts = lexemes c.args.toks.now in
    sym c.parts.invariant.value ∙ sums_end x (g.R.Reading.expr c.parts.all) c.args.context (drop c.parts.at ts) (sym c.is_sum_at.ensures.value ∙ c.parts-test.false)

pub parenthesis-returns-in_err-inside-clause-value : goal.parenthesis-returns-in_err-inside-clause-value
parenthesis-returns-in_err-inside-clause-value g t c =
    let x = (g.R.Reading.actions c.args.reading.now).conds.exprs in
    let ts = lexemes c.args.toks.now in
    let us = drop c.args.from ts in
    let refused = sym c.in_err-inside.ensures in
    let k = c.args.context in
    fault_known g.R.Reading.memory g.R.Reading.expr ts c.from_residual.result c.in_err-inside.field-0.0 (parenthesis x (parse_expr x) c.args.context c.args.at us) c.from_residual.ensures.1 (enter_keeps_memory (nat_lt k.depth MAX_OPEN) (context (k.depth + 1) k.negated k.compares) c.args.at c.in_err-inside.field-0.0 refused)
    (parenthesis_refused x (parse_expr x) k c.args.at us c.in_err-inside.field-0.0 refused)

pub parenthesis-returns-in_err-inside-clause-goes : goal.parenthesis-returns-in_err-inside-clause-goes
parenthesis-returns-in_err-inside-clause-goes g t c = fault_goes c.args.from _ c.from_residual.result c.in_err-inside.field-0.0 c.from_residual.ensures.1

pub parenthesis-returns-in_err-expr-clause-value : goal.parenthesis-returns-in_err-expr-clause-value
parenthesis-returns-in_err-expr-clause-value g t c =
    let x = (g.R.Reading.actions c.args.reading.now).conds.exprs in
    let ts = lexemes c.args.toks.now in
    let us = drop c.args.from ts in
    fault_read g.R.Reading.memory g.R.Reading.expr g.R.Reading.expr ts c.from_residual-in_err-expr.result c.in_err-expr.field-0.0 (parse_expr x sums c.in_ok-inside.inside us) (parenthesis x (parse_expr x) c.args.context c.args.at us) c.from_residual-in_err-expr.ensures.1 c.in_err-expr.ensures.value
    (parenthesis_fault x (parse_expr x) c.args.context c.in_ok-inside.inside c.args.at us c.in_err-expr.field-0.0 (sym c.in_ok-inside.ensures))

pub parenthesis-returns-in_err-expr-clause-goes : goal.parenthesis-returns-in_err-expr-clause-goes
parenthesis-returns-in_err-expr-clause-goes g t c = fault_goes c.args.from _ c.from_residual-in_err-expr.result c.in_err-expr.field-0.0 c.from_residual-in_err-expr.ensures.1

pub parenthesis-returns-clause-value : goal.parenthesis-returns-clause-value
parenthesis-returns-clause-value g t c =
    let x = (g.R.Reading.actions c.args.reading.now).conds.exprs in
    let ts = lexemes c.args.toks.now in
    let us = drop c.args.from ts in
    let inside = g.R.Reading.expr c.in_ok-expr.expr in
    closed_read g.R.Reading.memory g.R.Reading.expr ts (drop c.in_ok-expr.end ts) (is_terminal RoundClose) c.then_expect.result c.enclosed_expr.result (x.enclosed inside) (parenthesis x (parse_expr x) c.args.context c.args.at us) c.then_expect.ensures.value c.enclosed_expr.ensures
    (parenthesis_read x (parse_expr x) c.args.context c.in_ok-inside.inside c.args.at us (inside, drop c.in_ok-expr.end ts) (sym c.in_ok-inside.ensures) c.in_ok-expr.ensures.value)

pub parenthesis-returns-clause-goes : goal.parenthesis-returns-clause-goes
parenthesis-returns-clause-goes g t c = closed_goes c.args.from _ c.in_ok-expr.end c.then_expect.result c.in_ok-expr.ensures.goes.0 c.then_expect.ensures.goes

pub factor-returns-in-RoundOpen-clause-goes : goal.factor-returns-in-RoundOpen-clause-goes
factor-returns-in-RoundOpen-clause-goes g t c = goes_later c.args.from _ c.parenthesis.result c.parenthesis.ensures.goes

pub factor-parenthesis-requires : goal.factor-parenthesis-requires
factor-parenthesis-requires g t c κs within = (omega (arith, c.in-Some.ensures.1), within)

pub parenthesis-parse_expr-requires : goal.parenthesis-parse_expr-requires
parenthesis-parse_expr-requires g t c κs within = (omega arith, within)

pub product-factor-requires : goal.product-factor-requires
product-factor-requires g t c κs within = (omega arith, within)

pub product-factor-requires-in-parts : goal.product-factor-requires-in-parts
product-factor-requires-in-parts g t c κs within = (omega (arith, c.parts.invariant.place.0), within)

pub parse_expr-product-requires : goal.parse_expr-product-requires
parse_expr-product-requires g t c κs within = (omega arith, within)

pub parse_expr-product-requires-in-parts : goal.parse_expr-product-requires-in-parts
parse_expr-product-requires-in-parts g t c κs within = (omega (arith, c.parts.invariant.place.0), within)

pub factor-number-requires : goal.factor-number-requires
factor-number-requires g t c κs = λ within. within

pub factor-number-requires-in-One : goal.factor-number-requires-in-One
factor-number-requires-in-One g t c κs = λ within. within

pub factor-number-requires-in-Number : goal.factor-number-requires-in-Number
factor-number-requires-in-Number g t c κs = λ within. within

pub parenthesis-enclosed_expr-requires : goal.parenthesis-enclosed_expr-requires
parenthesis-enclosed_expr-requires g t c κs = λ within. within

pub product-join-requires : goal.product-join-requires
product-join-requires g t c κs = λ within. within

pub parse_expr-join-requires : goal.parse_expr-join-requires
parse_expr-join-requires g t c κs = λ within. within
