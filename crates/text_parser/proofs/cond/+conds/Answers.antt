use Rattle.std.proofs.Common.{◌+◌, drop, true, Ok, ap, sym, subst, ◌∙◌, nat_lt, arith, refl}
use Rattle.kat_model.specs.declared.limits.TheConstants.{MAX_OPEN}
use Rattle.text_parser.specs.declared.terminal.Terminal.TheVariants.{RoundClose, Bang, True, False}
use Rattle.text_parser.specs.Lexemes.{lexemes, text_at, is_terminal}
use Rattle.text_parser.specs.Parsed.{Parsed, place_of, before, Reads}
use Rattle.text_parser.specs.Actions.{context}
use Rattle.text_parser.specs.Conds.{begins_expr, disjunction, conjunction, literal, parse_cond, negation, parenthesis}
use Rattle.text_parser.proofs.PartFaults.{closed_read, closed_goes, end_made, end_goes, goes_later, fault_goes, fault_read, memory_lacks, fault_known, syntax_read, enter_keeps_memory}
use Rattle.text_parser.proofs.CondSteps.{disjunction_first, disjunction_fault, disjunction_next, disjunction_next_fault, disjunction_end, conjunction_first, conjunction_fault, conjunction_next, conjunction_next_fault, conjunction_end, literal_none, literal_seen, literal_other, name_compared, name_alone, round_compared, round_alone, number_compared, negation_refused, negation_fault, negation_made, parenthesis_refused, parenthesis_fault, parenthesis_read}
use Rattle.text_parser.proofs.cond.+conds.Goals as goal

pub literal-returns-in_default-clause-value : goal.literal-returns-in_default-clause-value
literal-returns-in_default-clause-value g t c =
    let x = (g.R.Reading.actions c.args.reading.now).conds in
    let ts = lexemes c.args.toks.now in
    let us = drop c.args.from ts in
    let at_end = literal_none x c.args.context us c.in_default.ensures.0 in
    syntax_read g.R.Reading.memory g.R.Reading.cond ts c.syntax_fault_at.result (place_of us) (parse_cond x literal c.args.context us) c.syntax_fault_at.ensures at_end

pub literal-returns-in-True-clause-value : goal.literal-returns-in-True-clause-value
literal-returns-in-True-clause-value g t c =
    let x = (g.R.Reading.actions c.args.reading.now).conds in
    let ts = lexemes c.args.toks.now in
    let us = drop c.args.from ts in
    let seen = literal_seen x c.args.context us c.in-Some.terminal True c.in-Some.at (text_at c.args.toks.now c.args.from) (drop (c.args.from + 1) ts) c.in-Some.ensures.0 c.in-True.is in
    seen ∙ ap (λ v. Ok (v, (drop (c.args.from + 1) ts))) (sym c.always.ensures)

pub literal-returns-in-False-clause-value : goal.literal-returns-in-False-clause-value
literal-returns-in-False-clause-value g t c =
    let x = (g.R.Reading.actions c.args.reading.now).conds in
    let ts = lexemes c.args.toks.now in
    let us = drop c.args.from ts in
    let seen = literal_seen x c.args.context us c.in-Some.terminal False c.in-Some.at (text_at c.args.toks.now c.args.from) (drop (c.args.from + 1) ts) c.in-Some.ensures.0 c.in-False.is in
    seen ∙ ap (λ v. Ok (v, (drop (c.args.from + 1) ts))) (sym c.never.ensures)

pub literal-returns-in-Bang-clause-value : goal.literal-returns-in-Bang-clause-value
literal-returns-in-Bang-clause-value g t c =
    let x = (g.R.Reading.actions c.args.reading.now).conds in
    let ts = lexemes c.args.toks.now in
    let us = drop c.args.from ts in
    let seen = literal_seen x c.args.context us c.in-Some.terminal Bang c.in-Some.at (text_at c.args.toks.now c.args.from) (drop (c.args.from + 1) ts) c.in-Some.ensures.0 c.in-Bang.is in
    subst (λ (m : Parsed _). Reads g.R.Reading.memory g.R.Reading.cond ts c.negation.result m) (sym seen) c.negation.ensures.value

pub literal-returns-then-begins_expr-clause-value : goal.literal-returns-then-begins_expr-clause-value
literal-returns-then-begins_expr-clause-value g t c =
    let x = (g.R.Reading.actions c.args.reading.now).conds in
    let ts = lexemes c.args.toks.now in
    let us = drop c.args.from ts in
    subst (λ (m : Parsed _). Reads g.R.Reading.memory g.R.Reading.cond ts c.comparison.result m) (sym (name_compared x c.args.context us c.in-Some.terminal c.in-Some.at (text_at c.args.toks.now c.args.from) (drop (c.args.from + 1) ts) c.in-Some.ensures.0 c.in-Name.is (sym c.begins_expr.ensures ∙ c.if-begins_expr.true))) c.comparison.ensures.value

pub literal-returns-else-begins_expr-clause-value : goal.literal-returns-else-begins_expr-clause-value
literal-returns-else-begins_expr-clause-value g t c =
    let x = (g.R.Reading.actions c.args.reading.now).conds in
    let ts = lexemes c.args.toks.now in
    let us = drop c.args.from ts in
    let next = drop (c.args.from + 1) ts in
    let seen = name_alone x c.args.context us c.in-Some.terminal c.in-Some.at (text_at c.args.toks.now c.args.from) next c.in-Some.ensures.0 c.in-Name.is (sym c.begins_expr.ensures ∙ c.if-begins_expr.false) in
    end_made g.R.Reading.memory g.R.Reading.cond ts (c.args.from + 1) c.with_end.result c.named_cond.result (x.named c.args.context c.in-Some.at c.text_at.result.now) (parse_cond x literal c.args.context us) c.with_end.ensures c.named_cond.ensures
    (seen ∙ ap (λ name. before next (x.named c.args.context c.in-Some.at name)) (sym c.text_at.ensures))

pub literal-returns-then-begins_expr-2-clause-value : goal.literal-returns-then-begins_expr-2-clause-value
literal-returns-then-begins_expr-2-clause-value g t c =
    let x = (g.R.Reading.actions c.args.reading.now).conds in
    let ts = lexemes c.args.toks.now in
    let us = drop c.args.from ts in
    subst (λ (m : Parsed _). Reads g.R.Reading.memory g.R.Reading.cond ts c.comparison-then-begins_expr-2.result m) (sym (round_compared x c.args.context us c.in-Some.terminal c.in-Some.at (text_at c.args.toks.now c.args.from) (drop (c.args.from + 1) ts) c.in-Some.ensures.0 c.in-RoundOpen.is (ap begins_expr (sym c.index_after_matching.ensures) ∙ sym c.begins_expr-in-RoundOpen.ensures ∙ c.if-begins_expr-2.true))) c.comparison-then-begins_expr-2.ensures.value

pub literal-returns-else-begins_expr-2-clause-value : goal.literal-returns-else-begins_expr-2-clause-value
literal-returns-else-begins_expr-2-clause-value g t c =
    let x = (g.R.Reading.actions c.args.reading.now).conds in
    let ts = lexemes c.args.toks.now in
    let us = drop c.args.from ts in
    subst (λ (m : Parsed _). Reads g.R.Reading.memory g.R.Reading.cond ts c.parenthesis.result m) (sym (round_alone x c.args.context us c.in-Some.terminal c.in-Some.at (text_at c.args.toks.now c.args.from) (drop (c.args.from + 1) ts) c.in-Some.ensures.0 c.in-RoundOpen.is (ap begins_expr (sym c.index_after_matching.ensures) ∙ sym c.begins_expr-in-RoundOpen.ensures ∙ c.if-begins_expr-2.false))) c.parenthesis.ensures.value

pub literal-returns-in-Zero-clause-value : goal.literal-returns-in-Zero-clause-value
literal-returns-in-Zero-clause-value g t c =
    let x = (g.R.Reading.actions c.args.reading.now).conds in
    let ts = lexemes c.args.toks.now in
    let us = drop c.args.from ts in
    subst (λ (m : Parsed _). Reads g.R.Reading.memory g.R.Reading.cond ts c.comparison-in-Zero.result m) (sym (number_compared x c.args.context us c.in-Some.terminal c.in-Some.at (text_at c.args.toks.now c.args.from) (drop (c.args.from + 1) ts) c.in-Some.ensures.0 c.in-Zero.is)) c.comparison-in-Zero.ensures.value

pub literal-returns-in_default-terminal-clause-value : goal.literal-returns-in_default-terminal-clause-value
literal-returns-in_default-terminal-clause-value g t c =
    let x = (g.R.Reading.actions c.args.reading.now).conds in
    let ts = lexemes c.args.toks.now in
    let us = drop c.args.from ts in
    let other = c.in_default-terminal in
    literal_other x c.args.context us c.in-Some.terminal c.in-Some.at (text_at c.args.toks.now c.args.from) (drop (c.args.from + 1) ts) c.in-Some.ensures.0 other.not-RoundOpen other.not-Bang other.not-Zero other.not-One other.not-Number other.not-WideNumber other.not-True other.not-False other.not-Name

pub conjunction-returns-in_err-first-clause-value : goal.conjunction-returns-in_err-first-clause-value
conjunction-returns-in_err-first-clause-value g t c =
    let x = (g.R.Reading.actions c.args.reading.now).conds in
    let ts = lexemes c.args.toks.now in
    let us = drop c.args.from ts in
    fault_read g.R.Reading.memory g.R.Reading.cond g.R.Reading.cond ts c.from_residual.result c.in_err-first.field-0.0 (parse_cond x literal c.args.context us) (parse_cond x conjunction c.args.context us) c.from_residual.ensures.1 c.in_err-first.ensures.value
    (conjunction_fault x c.args.context us c.in_err-first.field-0.0)

pub conjunction-returns-in_err-first-clause-goes : goal.conjunction-returns-in_err-first-clause-goes
conjunction-returns-in_err-first-clause-goes g t c = fault_goes c.args.from _ c.from_residual.result c.in_err-first.field-0.0 c.from_residual.ensures.1

pub conjunction-returns-in_err-list-clause-value : goal.conjunction-returns-in_err-list-clause-value
conjunction-returns-in_err-list-clause-value g t c =
    let x = (g.R.Reading.actions c.args.reading.now).conds in
    let ts = lexemes c.args.toks.now in
    let us = drop c.args.from ts in
    memory_lacks g.R.Reading.memory g.R.Reading.conds g.R.Reading.cond ts c.from_residual-in_err-list.result c.in_err-list.field-0.0 (x.one_of (g.R.Reading.cond c.in_ok-first.first)) (parse_cond x conjunction c.args.context us) c.from_residual-in_err-list.ensures.1 c.in_err-list.ensures

pub conjunction-returns-in_err-list-clause-goes : goal.conjunction-returns-in_err-list-clause-goes
conjunction-returns-in_err-list-clause-goes g t c = fault_goes c.args.from _ c.from_residual-in_err-list.result c.in_err-list.field-0.0 c.from_residual-in_err-list.ensures.1

pub conjunction-returns-in_err-more-clause-value : goal.conjunction-returns-in_err-more-clause-value
conjunction-returns-in_err-more-clause-value g t c =
    let x = (g.R.Reading.actions c.args.reading.now).conds in
    let ts = lexemes c.args.toks.now in
    let us = drop c.args.from ts in
    fault_read g.R.Reading.memory g.R.Reading.cond g.R.Reading.cond ts c.from_residual-in_err-more.result c.in_err-more.field-0.0 (parse_cond x literal c.args.context (drop (c.parts.at + 1) ts)) (parse_cond x conjunction c.args.context us) c.from_residual-in_err-more.ensures.1 c.in_err-more.ensures.value
    (λ h. sym c.parts.invariant.value ∙ conjunction_next_fault x (g.R.Reading.conds c.parts.list) c.args.context c.parts.at ts c.in_err-more.field-0.0 (sym c.is_at.ensures.value ∙ c.parts-test.true) h)

pub conjunction-returns-in_err-more-clause-goes : goal.conjunction-returns-in_err-more-clause-goes
conjunction-returns-in_err-more-clause-goes g t c = fault_goes c.args.from _ c.from_residual-in_err-more.result c.in_err-more.field-0.0 c.from_residual-in_err-more.ensures.1

pub conjunction-returns-in_err-list-2-clause-value : goal.conjunction-returns-in_err-list-2-clause-value
conjunction-returns-in_err-list-2-clause-value g t c =
    let x = (g.R.Reading.actions c.args.reading.now).conds in
    let ts = lexemes c.args.toks.now in
    let us = drop c.args.from ts in
    memory_lacks g.R.Reading.memory g.R.Reading.conds g.R.Reading.cond ts c.from_residual-in_err-list-2.result c.in_err-list-2.field-0.0 (x.more (g.R.Reading.conds c.parts.list) (g.R.Reading.cond c.in_ok-more.more)) (parse_cond x conjunction c.args.context us) c.from_residual-in_err-list-2.ensures.1 c.in_err-list-2.ensures

pub conjunction-returns-in_err-list-2-clause-goes : goal.conjunction-returns-in_err-list-2-clause-goes
conjunction-returns-in_err-list-2-clause-goes g t c = fault_goes c.args.from _ c.from_residual-in_err-list-2.result c.in_err-list-2.field-0.0 c.from_residual-in_err-list-2.ensures.1

pub conjunction-returns-clause-value : goal.conjunction-returns-clause-value
conjunction-returns-clause-value g t c =
    let x = (g.R.Reading.actions c.args.reading.now).conds in
    let ts = lexemes c.args.toks.now in
    let us = drop c.args.from ts in
    let list = g.R.Reading.conds c.parts.list in
    end_made g.R.Reading.memory g.R.Reading.cond ts c.parts.at c.with_end.result c.all.result (Ok (x.all list)) (parse_cond x conjunction c.args.context us) c.with_end.ensures c.all.ensures
    (sym c.parts.invariant.value ∙ conjunction_end x list c.args.context (drop c.parts.at ts) (x.all list) (sym c.is_at.ensures.value ∙ c.parts-test.false) refl)

pub conjunction-returns-clause-goes : goal.conjunction-returns-clause-goes
conjunction-returns-clause-goes g t c =
    let place = c.parts.invariant.place in
    end_goes c.args.from _ c.parts.at c.with_end.result c.all.result c.with_end.ensures place.0 place.1

pub conjunction-parts-init : goal.conjunction-parts-init
conjunction-parts-init g t c =
    let x = (g.R.Reading.actions c.args.reading.now).conds in
    let ts = lexemes c.args.toks.now in
    record {
      place = c.in_ok-first.ensures.goes;
      value = conjunction_first x c.args.context (drop c.args.from ts) (g.R.Reading.cond c.in_ok-first.first, drop c.in_ok-first.next ts) (g.R.Reading.conds c.in_ok-list.list) c.in_ok-first.ensures.value c.in_ok-list.ensures;
    }

pub conjunction-parts-preserved : goal.conjunction-parts-preserved
conjunction-parts-preserved g t c =
    let x = (g.R.Reading.actions c.args.reading.now).conds in
    let ts = lexemes c.args.toks.now in
    let place = c.in_ok-more.ensures.goes in
    record {
      place = (omega (arith, c.parts.invariant.place.0, place.0), place.1);
      value = conjunction_next x (g.R.Reading.conds c.parts.list) c.args.context c.parts.at ts (g.R.Reading.cond c.in_ok-more.more, drop c.in_ok-more.next ts) (g.R.Reading.conds c.in_ok-list-2.list) (sym c.is_at.ensures.value ∙ c.parts-test.true) c.in_ok-more.ensures.value c.in_ok-list-2.ensures ∙ c.parts.invariant.value;
    }

pub parse_cond-returns-in_err-first-clause-value : goal.parse_cond-returns-in_err-first-clause-value
parse_cond-returns-in_err-first-clause-value g t c =
    let x = (g.R.Reading.actions c.args.reading.now).conds in
    let ts = lexemes c.args.toks.now in
    let us = drop c.args.from ts in
    fault_read g.R.Reading.memory g.R.Reading.cond g.R.Reading.cond ts c.from_residual.result c.in_err-first.field-0.0 (parse_cond x conjunction c.args.context us) (parse_cond x disjunction c.args.context us) c.from_residual.ensures.1 c.in_err-first.ensures.value
    (disjunction_fault x c.args.context us c.in_err-first.field-0.0)

pub parse_cond-returns-in_err-first-clause-goes : goal.parse_cond-returns-in_err-first-clause-goes
parse_cond-returns-in_err-first-clause-goes g t c = fault_goes c.args.from _ c.from_residual.result c.in_err-first.field-0.0 c.from_residual.ensures.1

pub parse_cond-returns-in_err-list-clause-value : goal.parse_cond-returns-in_err-list-clause-value
parse_cond-returns-in_err-list-clause-value g t c =
    let x = (g.R.Reading.actions c.args.reading.now).conds in
    let ts = lexemes c.args.toks.now in
    let us = drop c.args.from ts in
    memory_lacks g.R.Reading.memory g.R.Reading.conds g.R.Reading.cond ts c.from_residual-in_err-list.result c.in_err-list.field-0.0 (x.one_of (g.R.Reading.cond c.in_ok-first.first)) (parse_cond x disjunction c.args.context us) c.from_residual-in_err-list.ensures.1 c.in_err-list.ensures

pub parse_cond-returns-in_err-list-clause-goes : goal.parse_cond-returns-in_err-list-clause-goes
parse_cond-returns-in_err-list-clause-goes g t c = fault_goes c.args.from _ c.from_residual-in_err-list.result c.in_err-list.field-0.0 c.from_residual-in_err-list.ensures.1

pub parse_cond-returns-in_err-more-clause-value : goal.parse_cond-returns-in_err-more-clause-value
parse_cond-returns-in_err-more-clause-value g t c =
    let x = (g.R.Reading.actions c.args.reading.now).conds in
    let ts = lexemes c.args.toks.now in
    let us = drop c.args.from ts in
    fault_read g.R.Reading.memory g.R.Reading.cond g.R.Reading.cond ts c.from_residual-in_err-more.result c.in_err-more.field-0.0 (parse_cond x conjunction c.args.context (drop (c.parts.at + 1) ts)) (parse_cond x disjunction c.args.context us) c.from_residual-in_err-more.ensures.1 c.in_err-more.ensures.value
    (λ h. sym c.parts.invariant.value ∙ disjunction_next_fault x (g.R.Reading.conds c.parts.list) c.args.context c.parts.at ts c.in_err-more.field-0.0 (sym c.is_at.ensures.value ∙ c.parts-test.true) h)

pub parse_cond-returns-in_err-more-clause-goes : goal.parse_cond-returns-in_err-more-clause-goes
parse_cond-returns-in_err-more-clause-goes g t c = fault_goes c.args.from _ c.from_residual-in_err-more.result c.in_err-more.field-0.0 c.from_residual-in_err-more.ensures.1

pub parse_cond-returns-in_err-list-2-clause-value : goal.parse_cond-returns-in_err-list-2-clause-value
parse_cond-returns-in_err-list-2-clause-value g t c =
    let x = (g.R.Reading.actions c.args.reading.now).conds in
    let ts = lexemes c.args.toks.now in
    let us = drop c.args.from ts in
    memory_lacks g.R.Reading.memory g.R.Reading.conds g.R.Reading.cond ts c.from_residual-in_err-list-2.result c.in_err-list-2.field-0.0 (x.more (g.R.Reading.conds c.parts.list) (g.R.Reading.cond c.in_ok-more.more)) (parse_cond x disjunction c.args.context us) c.from_residual-in_err-list-2.ensures.1 c.in_err-list-2.ensures

pub parse_cond-returns-in_err-list-2-clause-goes : goal.parse_cond-returns-in_err-list-2-clause-goes
parse_cond-returns-in_err-list-2-clause-goes g t c = fault_goes c.args.from _ c.from_residual-in_err-list-2.result c.in_err-list-2.field-0.0 c.from_residual-in_err-list-2.ensures.1

pub parse_cond-returns-clause-value : goal.parse_cond-returns-clause-value
parse_cond-returns-clause-value g t c =
    let x = (g.R.Reading.actions c.args.reading.now).conds in
    let ts = lexemes c.args.toks.now in
    let us = drop c.args.from ts in
    let list = g.R.Reading.conds c.parts.list in
    end_made g.R.Reading.memory g.R.Reading.cond ts c.parts.at c.with_end.result c.any.result (Ok (x.any list)) (parse_cond x disjunction c.args.context us) c.with_end.ensures c.any.ensures
    (sym c.parts.invariant.value ∙ disjunction_end x list c.args.context (drop c.parts.at ts) (x.any list) (sym c.is_at.ensures.value ∙ c.parts-test.false) refl)

pub parse_cond-returns-clause-goes : goal.parse_cond-returns-clause-goes
parse_cond-returns-clause-goes g t c =
    let place = c.parts.invariant.place in
    end_goes c.args.from _ c.parts.at c.with_end.result c.any.result c.with_end.ensures place.0 place.1

pub parse_cond-parts-init : goal.parse_cond-parts-init
parse_cond-parts-init g t c =
    let x = (g.R.Reading.actions c.args.reading.now).conds in
    let ts = lexemes c.args.toks.now in
    record {
      place = c.in_ok-first.ensures.goes;
      value = disjunction_first x c.args.context (drop c.args.from ts) (g.R.Reading.cond c.in_ok-first.first, drop c.in_ok-first.next ts) (g.R.Reading.conds c.in_ok-list.list) c.in_ok-first.ensures.value c.in_ok-list.ensures;
    }

pub parse_cond-parts-preserved : goal.parse_cond-parts-preserved
parse_cond-parts-preserved g t c =
    let x = (g.R.Reading.actions c.args.reading.now).conds in
    let ts = lexemes c.args.toks.now in
    let place = c.in_ok-more.ensures.goes in
    record {
      place = (omega (arith, c.parts.invariant.place.0, place.0), place.1);
      value = disjunction_next x (g.R.Reading.conds c.parts.list) c.args.context c.parts.at ts (g.R.Reading.cond c.in_ok-more.more, drop c.in_ok-more.next ts) (g.R.Reading.conds c.in_ok-list-2.list) (sym c.is_at.ensures.value ∙ c.parts-test.true) c.in_ok-more.ensures.value c.in_ok-list-2.ensures ∙ c.parts.invariant.value;
    }

pub negation-returns-in_err-inside-clause-value : goal.negation-returns-in_err-inside-clause-value
negation-returns-in_err-inside-clause-value g t c =
    let x = (g.R.Reading.actions c.args.reading.now).conds in
    let ts = lexemes c.args.toks.now in
    let us = drop c.args.from ts in
    let refused = sym c.in_err-inside.ensures in
    let k = c.args.context in
    fault_known g.R.Reading.memory g.R.Reading.cond ts c.from_residual.result c.in_err-inside.field-0.0 (negation x (parse_cond x) c.args.context c.args.at us) c.from_residual.ensures.1 (enter_keeps_memory (nat_lt k.depth MAX_OPEN) (context (k.depth + 1) true k.compares) c.args.at c.in_err-inside.field-0.0 refused)
    (negation_refused x (parse_cond x) k c.args.at us c.in_err-inside.field-0.0 refused)

pub negation-returns-in_err-inside-clause-goes : goal.negation-returns-in_err-inside-clause-goes
negation-returns-in_err-inside-clause-goes g t c = fault_goes c.args.from _ c.from_residual.result c.in_err-inside.field-0.0 c.from_residual.ensures.1

pub negation-returns-in_err-operand-clause-value : goal.negation-returns-in_err-operand-clause-value
negation-returns-in_err-operand-clause-value g t c =
    let x = (g.R.Reading.actions c.args.reading.now).conds in
    let ts = lexemes c.args.toks.now in
    let us = drop c.args.from ts in
    fault_read g.R.Reading.memory g.R.Reading.cond g.R.Reading.cond ts c.from_residual-in_err-operand.result c.in_err-operand.field-0.0 (parse_cond x literal c.in_ok-inside.inside us) (negation x (parse_cond x) c.args.context c.args.at us) c.from_residual-in_err-operand.ensures.1 c.in_err-operand.ensures.value
    (negation_fault x (parse_cond x) c.args.context c.in_ok-inside.inside c.args.at us c.in_err-operand.field-0.0 (sym c.in_ok-inside.ensures))

pub negation-returns-in_err-operand-clause-goes : goal.negation-returns-in_err-operand-clause-goes
negation-returns-in_err-operand-clause-goes g t c = fault_goes c.args.from _ c.from_residual-in_err-operand.result c.in_err-operand.field-0.0 c.from_residual-in_err-operand.ensures.1

pub negation-returns-clause-value : goal.negation-returns-clause-value
negation-returns-clause-value g t c =
    let x = (g.R.Reading.actions c.args.reading.now).conds in
    let ts = lexemes c.args.toks.now in
    let us = drop c.args.from ts in
    let operand = g.R.Reading.cond c.in_ok-operand.operand in
    end_made g.R.Reading.memory g.R.Reading.cond ts c.in_ok-operand.end c.with_end.result c.negated_cond.result (Ok (x.negated operand)) (negation x (parse_cond x) c.args.context c.args.at us) c.with_end.ensures c.negated_cond.ensures
    (negation_made x (parse_cond x) c.args.context c.in_ok-inside.inside c.args.at us (operand, drop c.in_ok-operand.end ts) (x.negated operand) (sym c.in_ok-inside.ensures) c.in_ok-operand.ensures.value refl)

pub negation-returns-clause-goes : goal.negation-returns-clause-goes
negation-returns-clause-goes g t c =
    let place = c.in_ok-operand.ensures.goes in
    end_goes c.args.from _ c.in_ok-operand.end c.with_end.result c.negated_cond.result c.with_end.ensures place.0 place.1

pub parenthesis-returns-in_err-inside-clause-value : goal.parenthesis-returns-in_err-inside-clause-value
parenthesis-returns-in_err-inside-clause-value g t c =
    let x = (g.R.Reading.actions c.args.reading.now).conds in
    let ts = lexemes c.args.toks.now in
    let us = drop c.args.from ts in
    let refused = sym c.in_err-inside.ensures in
    let k = c.args.context in
    fault_known g.R.Reading.memory g.R.Reading.cond ts c.from_residual.result c.in_err-inside.field-0.0 (parenthesis x (parse_cond x) c.args.context c.args.at us) c.from_residual.ensures.1 (enter_keeps_memory (nat_lt k.depth MAX_OPEN) (context (k.depth + 1) k.negated k.compares) c.args.at c.in_err-inside.field-0.0 refused)
    (parenthesis_refused x (parse_cond x) k c.args.at us c.in_err-inside.field-0.0 refused)

pub parenthesis-returns-in_err-inside-clause-goes : goal.parenthesis-returns-in_err-inside-clause-goes
parenthesis-returns-in_err-inside-clause-goes g t c = fault_goes c.args.from _ c.from_residual.result c.in_err-inside.field-0.0 c.from_residual.ensures.1

pub parenthesis-returns-in_err-cond-clause-value : goal.parenthesis-returns-in_err-cond-clause-value
parenthesis-returns-in_err-cond-clause-value g t c =
    let x = (g.R.Reading.actions c.args.reading.now).conds in
    let ts = lexemes c.args.toks.now in
    let us = drop c.args.from ts in
    fault_read g.R.Reading.memory g.R.Reading.cond g.R.Reading.cond ts c.from_residual-in_err-cond.result c.in_err-cond.field-0.0 (parse_cond x disjunction c.in_ok-inside.inside us) (parenthesis x (parse_cond x) c.args.context c.args.at us) c.from_residual-in_err-cond.ensures.1 c.in_err-cond.ensures.value
    (parenthesis_fault x (parse_cond x) c.args.context c.in_ok-inside.inside c.args.at us c.in_err-cond.field-0.0 (sym c.in_ok-inside.ensures))

pub parenthesis-returns-in_err-cond-clause-goes : goal.parenthesis-returns-in_err-cond-clause-goes
parenthesis-returns-in_err-cond-clause-goes g t c = fault_goes c.args.from _ c.from_residual-in_err-cond.result c.in_err-cond.field-0.0 c.from_residual-in_err-cond.ensures.1

pub parenthesis-returns-clause-value : goal.parenthesis-returns-clause-value
parenthesis-returns-clause-value g t c =
    let x = (g.R.Reading.actions c.args.reading.now).conds in
    let ts = lexemes c.args.toks.now in
    let us = drop c.args.from ts in
    let inside = g.R.Reading.cond c.in_ok-cond.cond in
    closed_read g.R.Reading.memory g.R.Reading.cond ts (drop c.in_ok-cond.end ts) (is_terminal RoundClose) c.then_expect.result c.enclosed_cond.result (x.enclosed inside) (parenthesis x (parse_cond x) c.args.context c.args.at us) c.then_expect.ensures.value c.enclosed_cond.ensures
    (parenthesis_read x (parse_cond x) c.args.context c.in_ok-inside.inside c.args.at us (inside, drop c.in_ok-cond.end ts) (sym c.in_ok-inside.ensures) c.in_ok-cond.ensures.value)

pub parenthesis-returns-clause-goes : goal.parenthesis-returns-clause-goes
parenthesis-returns-clause-goes g t c = closed_goes c.args.from _ c.in_ok-cond.end c.then_expect.result c.in_ok-cond.ensures.goes.0 c.then_expect.ensures.goes

pub literal-returns-then-begins_expr-clause-goes : goal.literal-returns-then-begins_expr-clause-goes
literal-returns-then-begins_expr-clause-goes g t c = c.comparison.ensures.goes

pub literal-returns-then-begins_expr-2-clause-goes : goal.literal-returns-then-begins_expr-2-clause-goes
literal-returns-then-begins_expr-2-clause-goes g t c = c.comparison-then-begins_expr-2.ensures.goes

pub literal-returns-in-Zero-clause-goes : goal.literal-returns-in-Zero-clause-goes
literal-returns-in-Zero-clause-goes g t c = c.comparison-in-Zero.ensures.goes

pub literal-returns-in-Bang-clause-goes : goal.literal-returns-in-Bang-clause-goes
literal-returns-in-Bang-clause-goes g t c = goes_later c.args.from _ c.negation.result c.negation.ensures.goes

pub literal-returns-else-begins_expr-2-clause-goes : goal.literal-returns-else-begins_expr-2-clause-goes
literal-returns-else-begins_expr-2-clause-goes g t c = goes_later c.args.from _ c.parenthesis.result c.parenthesis.ensures.goes

pub literal-negation-requires : goal.literal-negation-requires
literal-negation-requires g t c κs within = (omega (arith, c.in-Some.ensures.1), within)

pub literal-parenthesis-requires : goal.literal-parenthesis-requires
literal-parenthesis-requires g t c κs within = (omega (arith, c.in-Some.ensures.1), within)

pub negation-literal-requires : goal.negation-literal-requires
negation-literal-requires g t c κs within = (omega arith, within)

pub parenthesis-parse_cond-requires : goal.parenthesis-parse_cond-requires
parenthesis-parse_cond-requires g t c κs within = (omega arith, within)

pub conjunction-literal-requires : goal.conjunction-literal-requires
conjunction-literal-requires g t c κs within = (omega arith, within)

pub conjunction-literal-requires-in-parts : goal.conjunction-literal-requires-in-parts
conjunction-literal-requires-in-parts g t c κs within = (omega (arith, c.parts.invariant.place.0), within)

pub parse_cond-conjunction-requires : goal.parse_cond-conjunction-requires
parse_cond-conjunction-requires g t c κs within = (omega arith, within)

pub parse_cond-conjunction-requires-in-parts : goal.parse_cond-conjunction-requires-in-parts
parse_cond-conjunction-requires-in-parts g t c κs within = (omega (arith, c.parts.invariant.place.0), within)

pub literal-always-requires : goal.literal-always-requires
literal-always-requires g t c κs = λ within. within

pub literal-never-requires : goal.literal-never-requires
literal-never-requires g t c κs = λ within. within

pub literal-comparison-requires : goal.literal-comparison-requires
literal-comparison-requires g t c κs = λ within. within

pub literal-comparison-requires-then-begins_expr-2 : goal.literal-comparison-requires-then-begins_expr-2
literal-comparison-requires-then-begins_expr-2 g t c κs = λ within. within

pub literal-comparison-requires-in-Zero : goal.literal-comparison-requires-in-Zero
literal-comparison-requires-in-Zero g t c κs = λ within. within

pub negation-negated_cond-requires : goal.negation-negated_cond-requires
negation-negated_cond-requires g t c κs = λ within. within

pub parenthesis-enclosed_cond-requires : goal.parenthesis-enclosed_cond-requires
parenthesis-enclosed_cond-requires g t c κs = λ within. within

pub conjunction-one_cond-requires : goal.conjunction-one_cond-requires
conjunction-one_cond-requires g t c κs = λ within. within

pub conjunction-more_conds-requires : goal.conjunction-more_conds-requires
conjunction-more_conds-requires g t c κs = λ within. within

pub conjunction-all-requires : goal.conjunction-all-requires
conjunction-all-requires g t c κs = λ within. within

pub parse_cond-one_cond-requires : goal.parse_cond-one_cond-requires
parse_cond-one_cond-requires g t c κs = λ within. within

pub parse_cond-more_conds-requires : goal.parse_cond-more_conds-requires
parse_cond-more_conds-requires g t c κs = λ within. within

pub parse_cond-any-requires : goal.parse_cond-any-requires
parse_cond-any-requires g t c κs = λ within. within
