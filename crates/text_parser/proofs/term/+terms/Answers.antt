use Rattle.std.proofs.Common.{◌+◌, drop, true, Ok, ap, sym, subst, ◌∙◌, nat_lt, arith, refl}
use Rattle.kat_model.specs.declared.limits.TheConstants.{MAX_OPEN}
use Rattle.text_parser.specs.declared.terminal.Terminal.TheVariants.{RoundOpen, RoundClose, SquareOpen, Bang, Zero, One, Name}
use Rattle.text_parser.specs.Lexemes.{lexemes, text_at, is_terminal}
use Rattle.text_parser.specs.Parsed.{Parsed, place_of, before, Reads}
use Rattle.text_parser.specs.Actions.{context}
use Rattle.text_parser.specs.Terms.{choice, sequence, unit, parse_term, star_or_not, negation, parenthesis}
use Rattle.text_parser.proofs.PartFaults.{closed_read, closed_goes, end_made, end_goes, goes_later, fault_goes, fault_read, memory_lacks, fault_known, syntax_read, enter_keeps_memory}
use Rattle.text_parser.proofs.TermSteps.{choice_first, choice_fault, choice_next, choice_next_fault, choice_end, sequence_first, sequence_fault, sequence_star_fault, sequence_next, sequence_next_fault, sequence_next_star_fault, sequence_end, unit_none, unit_seen, unit_other, negation_refused, negation_fault, negation_made, parenthesis_refused, parenthesis_fault, parenthesis_read}
use Rattle.text_parser.proofs.term.+terms.Goals as goal

pub unit-returns-in_default-clause-value : goal.unit-returns-in_default-clause-value
unit-returns-in_default-clause-value g t c =
    let x = (g.R.Reading.actions c.args.reading.now) in
    let ts = lexemes c.args.toks.now in
    let us = drop c.args.from ts in
    let at_end = unit_none x c.args.context us c.in_default.ensures.0 in
    syntax_read g.R.Reading.memory g.R.Reading.term ts c.syntax_fault_at.result (place_of us) (parse_term x unit c.args.context us) c.syntax_fault_at.ensures at_end

pub unit-returns-in-Zero-clause-value : goal.unit-returns-in-Zero-clause-value
unit-returns-in-Zero-clause-value g t c =
    let x = (g.R.Reading.actions c.args.reading.now) in
    let ts = lexemes c.args.toks.now in
    let us = drop c.args.from ts in
    let seen = unit_seen x c.args.context us c.in-Some.terminal Zero c.in-Some.at (text_at c.args.toks.now c.args.from) (drop (c.args.from + 1) ts) c.in-Some.ensures.0 c.in-Zero.is in
    seen ∙ ap (λ v. Ok (v, (drop (c.args.from + 1) ts))) (sym c.zero.ensures)

pub unit-returns-in-One-clause-value : goal.unit-returns-in-One-clause-value
unit-returns-in-One-clause-value g t c =
    let x = (g.R.Reading.actions c.args.reading.now) in
    let ts = lexemes c.args.toks.now in
    let us = drop c.args.from ts in
    let seen = unit_seen x c.args.context us c.in-Some.terminal One c.in-Some.at (text_at c.args.toks.now c.args.from) (drop (c.args.from + 1) ts) c.in-Some.ensures.0 c.in-One.is in
    seen ∙ ap (λ v. Ok (v, (drop (c.args.from + 1) ts))) (sym c.one.ensures)

pub unit-returns-in-Bang-clause-value : goal.unit-returns-in-Bang-clause-value
unit-returns-in-Bang-clause-value g t c =
    let x = (g.R.Reading.actions c.args.reading.now) in
    let ts = lexemes c.args.toks.now in
    let us = drop c.args.from ts in
    let seen = unit_seen x c.args.context us c.in-Some.terminal Bang c.in-Some.at (text_at c.args.toks.now c.args.from) (drop (c.args.from + 1) ts) c.in-Some.ensures.0 c.in-Bang.is in
    subst (λ (m : Parsed _). Reads g.R.Reading.memory g.R.Reading.term ts c.negation.result m) (sym seen) c.negation.ensures.value

pub unit-returns-in-SquareOpen-clause-value : goal.unit-returns-in-SquareOpen-clause-value
unit-returns-in-SquareOpen-clause-value g t c =
    let x = (g.R.Reading.actions c.args.reading.now) in
    let ts = lexemes c.args.toks.now in
    let us = drop c.args.from ts in
    let seen = unit_seen x c.args.context us c.in-Some.terminal SquareOpen c.in-Some.at (text_at c.args.toks.now c.args.from) (drop (c.args.from + 1) ts) c.in-Some.ensures.0 c.in-SquareOpen.is in
    subst (λ (m : Parsed _). Reads g.R.Reading.memory g.R.Reading.term ts c.bracket.result m) (sym seen) c.bracket.ensures.value

pub unit-returns-in-RoundOpen-clause-value : goal.unit-returns-in-RoundOpen-clause-value
unit-returns-in-RoundOpen-clause-value g t c =
    let x = (g.R.Reading.actions c.args.reading.now) in
    let ts = lexemes c.args.toks.now in
    let us = drop c.args.from ts in
    let seen = unit_seen x c.args.context us c.in-Some.terminal RoundOpen c.in-Some.at (text_at c.args.toks.now c.args.from) (drop (c.args.from + 1) ts) c.in-Some.ensures.0 c.in-RoundOpen.is in
    subst (λ (m : Parsed _). Reads g.R.Reading.memory g.R.Reading.term ts c.parenthesis.result m) (sym seen) c.parenthesis.ensures.value

pub unit-returns-in-Name-clause-value : goal.unit-returns-in-Name-clause-value
unit-returns-in-Name-clause-value g t c =
    let x = (g.R.Reading.actions c.args.reading.now) in
    let ts = lexemes c.args.toks.now in
    let us = drop c.args.from ts in
    let next = drop (c.args.from + 1) ts in
    let seen = unit_seen x c.args.context us c.in-Some.terminal Name c.in-Some.at (text_at c.args.toks.now c.args.from) next c.in-Some.ensures.0 c.in-Name.is in
    end_made g.R.Reading.memory g.R.Reading.term ts (c.args.from + 1) c.with_end.result c.named_term.result (x.named c.args.context c.in-Some.at c.text_at.result.now) (parse_term x unit c.args.context us) c.with_end.ensures c.named_term.ensures
    (seen ∙ ap (λ name. before next (x.named c.args.context c.in-Some.at name)) (sym c.text_at.ensures))

pub unit-returns-in_default-terminal-clause-value : goal.unit-returns-in_default-terminal-clause-value
unit-returns-in_default-terminal-clause-value g t c =
    let x = (g.R.Reading.actions c.args.reading.now) in
    let ts = lexemes c.args.toks.now in
    let us = drop c.args.from ts in
    let other = c.in_default-terminal in
    unit_other x c.args.context us c.in-Some.terminal c.in-Some.at (text_at c.args.toks.now c.args.from) (drop (c.args.from + 1) ts) c.in-Some.ensures.0 other.not-RoundOpen other.not-SquareOpen other.not-Bang other.not-Zero other.not-One other.not-Name

pub parse_term-returns-in_err-first-clause-value : goal.parse_term-returns-in_err-first-clause-value
parse_term-returns-in_err-first-clause-value g t c =
    let x = (g.R.Reading.actions c.args.reading.now) in
    let ts = lexemes c.args.toks.now in
    let us = drop c.args.from ts in
    fault_read g.R.Reading.memory g.R.Reading.term g.R.Reading.term ts c.from_residual.result c.in_err-first.field-0.0 (parse_term x sequence c.args.context us) (parse_term x choice c.args.context us) c.from_residual.ensures.1 c.in_err-first.ensures.value
    (choice_fault x c.args.context us c.in_err-first.field-0.0)

pub parse_term-returns-in_err-first-clause-goes : goal.parse_term-returns-in_err-first-clause-goes
parse_term-returns-in_err-first-clause-goes g t c = fault_goes c.args.from _ c.from_residual.result c.in_err-first.field-0.0 c.from_residual.ensures.1

pub parse_term-returns-in_err-list-clause-value : goal.parse_term-returns-in_err-list-clause-value
parse_term-returns-in_err-list-clause-value g t c =
    let x = (g.R.Reading.actions c.args.reading.now) in
    let ts = lexemes c.args.toks.now in
    let us = drop c.args.from ts in
    memory_lacks g.R.Reading.memory g.R.Reading.terms g.R.Reading.term ts c.from_residual-in_err-list.result c.in_err-list.field-0.0 (x.one_of (g.R.Reading.term c.in_ok-first.first)) (parse_term x choice c.args.context us) c.from_residual-in_err-list.ensures.1 c.in_err-list.ensures

pub parse_term-returns-in_err-list-clause-goes : goal.parse_term-returns-in_err-list-clause-goes
parse_term-returns-in_err-list-clause-goes g t c = fault_goes c.args.from _ c.from_residual-in_err-list.result c.in_err-list.field-0.0 c.from_residual-in_err-list.ensures.1

pub parse_term-returns-in_err-more-clause-value : goal.parse_term-returns-in_err-more-clause-value
parse_term-returns-in_err-more-clause-value g t c =
    let x = (g.R.Reading.actions c.args.reading.now) in
    let ts = lexemes c.args.toks.now in
    let us = drop c.args.from ts in
    fault_read g.R.Reading.memory g.R.Reading.term g.R.Reading.term ts c.from_residual-in_err-more.result c.in_err-more.field-0.0 (parse_term x sequence c.args.context (drop (c.parts.at + 1) ts)) (parse_term x choice c.args.context us) c.from_residual-in_err-more.ensures.1 c.in_err-more.ensures.value
    (λ h. sym c.parts.invariant.value ∙ choice_next_fault x (g.R.Reading.terms c.parts.list) c.args.context c.parts.at ts c.in_err-more.field-0.0 (sym c.is_at.ensures.value ∙ c.parts-test.true) h)

pub parse_term-returns-in_err-more-clause-goes : goal.parse_term-returns-in_err-more-clause-goes
parse_term-returns-in_err-more-clause-goes g t c = fault_goes c.args.from _ c.from_residual-in_err-more.result c.in_err-more.field-0.0 c.from_residual-in_err-more.ensures.1

pub parse_term-returns-in_err-list-2-clause-value : goal.parse_term-returns-in_err-list-2-clause-value
parse_term-returns-in_err-list-2-clause-value g t c =
    let x = (g.R.Reading.actions c.args.reading.now) in
    let ts = lexemes c.args.toks.now in
    let us = drop c.args.from ts in
    memory_lacks g.R.Reading.memory g.R.Reading.terms g.R.Reading.term ts c.from_residual-in_err-list-2.result c.in_err-list-2.field-0.0 (x.more (g.R.Reading.terms c.parts.list) (g.R.Reading.term c.in_ok-more.more)) (parse_term x choice c.args.context us) c.from_residual-in_err-list-2.ensures.1 c.in_err-list-2.ensures

pub parse_term-returns-in_err-list-2-clause-goes : goal.parse_term-returns-in_err-list-2-clause-goes
parse_term-returns-in_err-list-2-clause-goes g t c = fault_goes c.args.from _ c.from_residual-in_err-list-2.result c.in_err-list-2.field-0.0 c.from_residual-in_err-list-2.ensures.1

pub parse_term-returns-clause-value : goal.parse_term-returns-clause-value
parse_term-returns-clause-value g t c =
    let x = (g.R.Reading.actions c.args.reading.now) in
    let ts = lexemes c.args.toks.now in
    let us = drop c.args.from ts in
    let list = g.R.Reading.terms c.parts.list in
    end_made g.R.Reading.memory g.R.Reading.term ts c.parts.at c.with_end.result c.sum.result (Ok (x.sum list)) (parse_term x choice c.args.context us) c.with_end.ensures c.sum.ensures
    (sym c.parts.invariant.value ∙ choice_end x list c.args.context (drop c.parts.at ts) (x.sum list) (sym c.is_at.ensures.value ∙ c.parts-test.false) refl)

pub parse_term-returns-clause-goes : goal.parse_term-returns-clause-goes
parse_term-returns-clause-goes g t c =
    let place = c.parts.invariant.place in
    end_goes c.args.from _ c.parts.at c.with_end.result c.sum.result c.with_end.ensures place.0 place.1

pub parse_term-parts-init : goal.parse_term-parts-init
parse_term-parts-init g t c =
    let x = (g.R.Reading.actions c.args.reading.now) in
    let ts = lexemes c.args.toks.now in
    record {
      place = c.in_ok-first.ensures.goes;
      value = choice_first x c.args.context (drop c.args.from ts) (g.R.Reading.term c.in_ok-first.first, drop c.in_ok-first.next ts) (g.R.Reading.terms c.in_ok-list.list) c.in_ok-first.ensures.value c.in_ok-list.ensures;
    }

pub parse_term-parts-preserved : goal.parse_term-parts-preserved
parse_term-parts-preserved g t c =
    let x = (g.R.Reading.actions c.args.reading.now) in
    let ts = lexemes c.args.toks.now in
    let place = c.in_ok-more.ensures.goes in
    record {
      place = (omega (arith, c.parts.invariant.place.0, place.0), place.1);
      value = choice_next x (g.R.Reading.terms c.parts.list) c.args.context c.parts.at ts (g.R.Reading.term c.in_ok-more.more, drop c.in_ok-more.next ts) (g.R.Reading.terms c.in_ok-list-2.list) (sym c.is_at.ensures.value ∙ c.parts-test.true) c.in_ok-more.ensures.value c.in_ok-list-2.ensures ∙ c.parts.invariant.value;
    }

pub sequence-returns-in_err-first-clause-value : goal.sequence-returns-in_err-first-clause-value
sequence-returns-in_err-first-clause-value g t c =
    let x = (g.R.Reading.actions c.args.reading.now) in
    let ts = lexemes c.args.toks.now in
    let us = drop c.args.from ts in
    fault_read g.R.Reading.memory g.R.Reading.term g.R.Reading.term ts c.from_residual.result c.in_err-first.field-0.0 (parse_term x unit c.args.context us) (parse_term x sequence c.args.context us) c.from_residual.ensures.1 c.in_err-first.ensures.value
    (sequence_fault x c.args.context us c.in_err-first.field-0.0)

pub sequence-returns-in_err-first-clause-goes : goal.sequence-returns-in_err-first-clause-goes
sequence-returns-in_err-first-clause-goes g t c = fault_goes c.args.from _ c.from_residual.result c.in_err-first.field-0.0 c.from_residual.ensures.1

pub sequence-returns-in_err-more-clause-value : goal.sequence-returns-in_err-more-clause-value
sequence-returns-in_err-more-clause-value g t c =
    let x = (g.R.Reading.actions c.args.reading.now) in
    let ts = lexemes c.args.toks.now in
    let us = drop c.args.from ts in
    fault_read g.R.Reading.memory g.R.Reading.term g.R.Reading.term ts c.from_residual-in_err-more.result c.in_err-more.field-0.0 (parse_term x unit c.args.context (drop (c.parts.at + 1) ts)) (parse_term x sequence c.args.context us) c.from_residual-in_err-more.ensures.1 c.in_err-more.ensures.value
    (λ h. sym c.parts.invariant.value ∙ sequence_next_fault x (g.R.Reading.terms c.parts.list) c.args.context c.parts.at ts c.in_err-more.field-0.0 (sym c.is_at.ensures.value ∙ c.parts-test.true) h)

pub sequence-returns-in_err-more-clause-goes : goal.sequence-returns-in_err-more-clause-goes
sequence-returns-in_err-more-clause-goes g t c = fault_goes c.args.from _ c.from_residual-in_err-more.result c.in_err-more.field-0.0 c.from_residual-in_err-more.ensures.1

pub sequence-returns-in_err-list-clause-value : goal.sequence-returns-in_err-list-clause-value
sequence-returns-in_err-list-clause-value g t c =
    let x = (g.R.Reading.actions c.args.reading.now) in
    let ts = lexemes c.args.toks.now in
    let us = drop c.args.from ts in
    memory_lacks g.R.Reading.memory g.R.Reading.terms g.R.Reading.term ts c.from_residual-in_err-list.result c.in_err-list.field-0.0 (x.one_of (g.R.Reading.term c.in_ok-first-2.first)) (parse_term x sequence c.args.context us) c.from_residual-in_err-list.ensures.1 c.in_err-list.ensures

pub sequence-returns-in_err-list-clause-goes : goal.sequence-returns-in_err-list-clause-goes
sequence-returns-in_err-list-clause-goes g t c = fault_goes c.args.from _ c.from_residual-in_err-list.result c.in_err-list.field-0.0 c.from_residual-in_err-list.ensures.1

pub sequence-returns-in_err-list-2-clause-value : goal.sequence-returns-in_err-list-2-clause-value
sequence-returns-in_err-list-2-clause-value g t c =
    let x = (g.R.Reading.actions c.args.reading.now) in
    let ts = lexemes c.args.toks.now in
    let us = drop c.args.from ts in
    memory_lacks g.R.Reading.memory g.R.Reading.terms g.R.Reading.term ts c.from_residual-in_err-list-2.result c.in_err-list-2.field-0.0 (x.more (g.R.Reading.terms c.parts.list) (g.R.Reading.term c.in_ok-more-2.more)) (parse_term x sequence c.args.context us) c.from_residual-in_err-list-2.ensures.1 c.in_err-list-2.ensures

pub sequence-returns-in_err-list-2-clause-goes : goal.sequence-returns-in_err-list-2-clause-goes
sequence-returns-in_err-list-2-clause-goes g t c = fault_goes c.args.from _ c.from_residual-in_err-list-2.result c.in_err-list-2.field-0.0 c.from_residual-in_err-list-2.ensures.1

pub sequence-returns-clause-value : goal.sequence-returns-clause-value
sequence-returns-clause-value g t c =
    let x = (g.R.Reading.actions c.args.reading.now) in
    let ts = lexemes c.args.toks.now in
    let us = drop c.args.from ts in
    let list = g.R.Reading.terms c.parts.list in
    end_made g.R.Reading.memory g.R.Reading.term ts c.parts.at c.with_end.result c.product.result (Ok (x.product list)) (parse_term x sequence c.args.context us) c.with_end.ensures c.product.ensures
    (sym c.parts.invariant.value ∙ sequence_end x list c.args.context (drop c.parts.at ts) (x.product list) (sym c.is_at.ensures.value ∙ c.parts-test.false) refl)

pub sequence-returns-clause-goes : goal.sequence-returns-clause-goes
sequence-returns-clause-goes g t c =
    let place = c.parts.invariant.place in
    end_goes c.args.from _ c.parts.at c.with_end.result c.product.result c.with_end.ensures place.0 place.1

pub sequence-returns-in_err-first-2-clause-value : goal.sequence-returns-in_err-first-2-clause-value
sequence-returns-in_err-first-2-clause-value g t c =
    let x = (g.R.Reading.actions c.args.reading.now) in
    let ts = lexemes c.args.toks.now in
    let us = drop c.args.from ts in
    fault_read g.R.Reading.memory g.R.Reading.term g.R.Reading.term ts c.from_residual-in_err-first-2.result c.in_err-first-2.field-0.0 (star_or_not x c.args.context (g.R.Reading.term c.in_ok-first.first) (drop c.in_ok-first.next ts)) (parse_term x sequence c.args.context us) c.from_residual-in_err-first-2.ensures.1 c.in_err-first-2.ensures.value
    (sequence_star_fault x c.args.context us (g.R.Reading.term c.in_ok-first.first, drop c.in_ok-first.next ts) c.in_err-first-2.field-0.0 c.in_ok-first.ensures.value)

pub sequence-returns-in_err-first-2-clause-goes : goal.sequence-returns-in_err-first-2-clause-goes
sequence-returns-in_err-first-2-clause-goes g t c = fault_goes c.args.from _ c.from_residual-in_err-first-2.result c.in_err-first-2.field-0.0 c.from_residual-in_err-first-2.ensures.1

pub sequence-returns-in_err-more-2-clause-value : goal.sequence-returns-in_err-more-2-clause-value
sequence-returns-in_err-more-2-clause-value g t c =
    let x = (g.R.Reading.actions c.args.reading.now) in
    let ts = lexemes c.args.toks.now in
    let us = drop c.args.from ts in
    fault_read g.R.Reading.memory g.R.Reading.term g.R.Reading.term ts c.from_residual-in_err-more-2.result c.in_err-more-2.field-0.0 (star_or_not x c.args.context (g.R.Reading.term c.in_ok-more.more) (drop c.in_ok-more.next ts)) (parse_term x sequence c.args.context us) c.from_residual-in_err-more-2.ensures.1 c.in_err-more-2.ensures.value
    (λ h. sym c.parts.invariant.value ∙ sequence_next_star_fault x (g.R.Reading.terms c.parts.list) c.args.context c.parts.at ts (g.R.Reading.term c.in_ok-more.more, drop c.in_ok-more.next ts) c.in_err-more-2.field-0.0 (sym c.is_at.ensures.value ∙ c.parts-test.true) c.in_ok-more.ensures.value h)

pub sequence-returns-in_err-more-2-clause-goes : goal.sequence-returns-in_err-more-2-clause-goes
sequence-returns-in_err-more-2-clause-goes g t c = fault_goes c.args.from _ c.from_residual-in_err-more-2.result c.in_err-more-2.field-0.0 c.from_residual-in_err-more-2.ensures.1

pub sequence-parts-init : goal.sequence-parts-init
sequence-parts-init g t c =
    let x = (g.R.Reading.actions c.args.reading.now) in
    let ts = lexemes c.args.toks.now in
    let place = c.in_ok-first.ensures.goes in
    record {
      place = (omega (arith, place.0, c.in_ok-first-2.ensures.goes), c.in_ok-first-2.ensures.within place.1);
      value = sequence_first x c.args.context (drop c.args.from ts) (g.R.Reading.term c.in_ok-first.first, drop c.in_ok-first.next ts) (g.R.Reading.term c.in_ok-first-2.first, drop c.in_ok-first-2.next ts) (g.R.Reading.terms c.in_ok-list.list) c.in_ok-first.ensures.value c.in_ok-first-2.ensures.value c.in_ok-list.ensures;
    }

pub sequence-parts-preserved : goal.sequence-parts-preserved
sequence-parts-preserved g t c =
    let x = (g.R.Reading.actions c.args.reading.now) in
    let ts = lexemes c.args.toks.now in
    let place = c.in_ok-more.ensures.goes in
    record {
      place = (omega (arith, c.parts.invariant.place.0, place.0, c.in_ok-more-2.ensures.goes), c.in_ok-more-2.ensures.within place.1);
      value = sequence_next x (g.R.Reading.terms c.parts.list) c.args.context c.parts.at ts (g.R.Reading.term c.in_ok-more.more, drop c.in_ok-more.next ts) (g.R.Reading.term c.in_ok-more-2.more, drop c.in_ok-more-2.next ts) (g.R.Reading.terms c.in_ok-list-2.list) (sym c.is_at.ensures.value ∙ c.parts-test.true) c.in_ok-more.ensures.value c.in_ok-more-2.ensures.value c.in_ok-list-2.ensures ∙ c.parts.invariant.value;
    }

pub negation-returns-in_err-inside-clause-value : goal.negation-returns-in_err-inside-clause-value
negation-returns-in_err-inside-clause-value g t c =
    let x = (g.R.Reading.actions c.args.reading.now) in
    let ts = lexemes c.args.toks.now in
    let us = drop c.args.from ts in
    let refused = sym c.in_err-inside.ensures in
    let k = c.args.context in
    fault_known g.R.Reading.memory g.R.Reading.term ts c.from_residual.result c.in_err-inside.field-0.0 (negation x (parse_term x) c.args.context c.args.at us) c.from_residual.ensures.1 (enter_keeps_memory (nat_lt k.depth MAX_OPEN) (context (k.depth + 1) true k.compares) c.args.at c.in_err-inside.field-0.0 refused)
    (negation_refused x (parse_term x) k c.args.at us c.in_err-inside.field-0.0 refused)

pub negation-returns-in_err-inside-clause-goes : goal.negation-returns-in_err-inside-clause-goes
negation-returns-in_err-inside-clause-goes g t c = fault_goes c.args.from _ c.from_residual.result c.in_err-inside.field-0.0 c.from_residual.ensures.1

pub negation-returns-in_err-operand-clause-value : goal.negation-returns-in_err-operand-clause-value
negation-returns-in_err-operand-clause-value g t c =
    let x = (g.R.Reading.actions c.args.reading.now) in
    let ts = lexemes c.args.toks.now in
    let us = drop c.args.from ts in
    fault_read g.R.Reading.memory g.R.Reading.term g.R.Reading.term ts c.from_residual-in_err-operand.result c.in_err-operand.field-0.0 (parse_term x unit c.in_ok-inside.inside us) (negation x (parse_term x) c.args.context c.args.at us) c.from_residual-in_err-operand.ensures.1 c.in_err-operand.ensures.value
    (negation_fault x (parse_term x) c.args.context c.in_ok-inside.inside c.args.at us c.in_err-operand.field-0.0 (sym c.in_ok-inside.ensures))

pub negation-returns-in_err-operand-clause-goes : goal.negation-returns-in_err-operand-clause-goes
negation-returns-in_err-operand-clause-goes g t c = fault_goes c.args.from _ c.from_residual-in_err-operand.result c.in_err-operand.field-0.0 c.from_residual-in_err-operand.ensures.1

pub negation-returns-clause-value : goal.negation-returns-clause-value
negation-returns-clause-value g t c =
    let x = (g.R.Reading.actions c.args.reading.now) in
    let ts = lexemes c.args.toks.now in
    let us = drop c.args.from ts in
    let operand = g.R.Reading.term c.in_ok-operand.operand in
    end_made g.R.Reading.memory g.R.Reading.term ts c.in_ok-operand.end c.with_end.result c.negated_term.result (Ok (x.negated operand)) (negation x (parse_term x) c.args.context c.args.at us) c.with_end.ensures c.negated_term.ensures
    (negation_made x (parse_term x) c.args.context c.in_ok-inside.inside c.args.at us (operand, drop c.in_ok-operand.end ts) (x.negated operand) (sym c.in_ok-inside.ensures) c.in_ok-operand.ensures.value refl)

pub negation-returns-clause-goes : goal.negation-returns-clause-goes
negation-returns-clause-goes g t c =
    let place = c.in_ok-operand.ensures.goes in
    end_goes c.args.from _ c.in_ok-operand.end c.with_end.result c.negated_term.result c.with_end.ensures place.0 place.1

pub parenthesis-returns-in_err-inside-clause-value : goal.parenthesis-returns-in_err-inside-clause-value
parenthesis-returns-in_err-inside-clause-value g t c =
    let x = (g.R.Reading.actions c.args.reading.now) in
    let ts = lexemes c.args.toks.now in
    let us = drop c.args.from ts in
    let refused = sym c.in_err-inside.ensures in
    let k = c.args.context in
    fault_known g.R.Reading.memory g.R.Reading.term ts c.from_residual.result c.in_err-inside.field-0.0 (parenthesis x (parse_term x) c.args.context c.args.at us) c.from_residual.ensures.1 (enter_keeps_memory (nat_lt k.depth MAX_OPEN) (context (k.depth + 1) k.negated k.compares) c.args.at c.in_err-inside.field-0.0 refused)
    (parenthesis_refused x (parse_term x) k c.args.at us c.in_err-inside.field-0.0 refused)

pub parenthesis-returns-in_err-inside-clause-goes : goal.parenthesis-returns-in_err-inside-clause-goes
parenthesis-returns-in_err-inside-clause-goes g t c = fault_goes c.args.from _ c.from_residual.result c.in_err-inside.field-0.0 c.from_residual.ensures.1

pub parenthesis-returns-in_err-term-clause-value : goal.parenthesis-returns-in_err-term-clause-value
parenthesis-returns-in_err-term-clause-value g t c =
    let x = (g.R.Reading.actions c.args.reading.now) in
    let ts = lexemes c.args.toks.now in
    let us = drop c.args.from ts in
    fault_read g.R.Reading.memory g.R.Reading.term g.R.Reading.term ts c.from_residual-in_err-term.result c.in_err-term.field-0.0 (parse_term x choice c.in_ok-inside.inside us) (parenthesis x (parse_term x) c.args.context c.args.at us) c.from_residual-in_err-term.ensures.1 c.in_err-term.ensures.value
    (parenthesis_fault x (parse_term x) c.args.context c.in_ok-inside.inside c.args.at us c.in_err-term.field-0.0 (sym c.in_ok-inside.ensures))

pub parenthesis-returns-in_err-term-clause-goes : goal.parenthesis-returns-in_err-term-clause-goes
parenthesis-returns-in_err-term-clause-goes g t c = fault_goes c.args.from _ c.from_residual-in_err-term.result c.in_err-term.field-0.0 c.from_residual-in_err-term.ensures.1

pub parenthesis-returns-clause-value : goal.parenthesis-returns-clause-value
parenthesis-returns-clause-value g t c =
    let x = (g.R.Reading.actions c.args.reading.now) in
    let ts = lexemes c.args.toks.now in
    let us = drop c.args.from ts in
    let inside = g.R.Reading.term c.in_ok-term.term in
    closed_read g.R.Reading.memory g.R.Reading.term ts (drop c.in_ok-term.end ts) (is_terminal RoundClose) c.then_expect.result c.enclosed_term.result (x.enclosed inside) (parenthesis x (parse_term x) c.args.context c.args.at us) c.then_expect.ensures.value c.enclosed_term.ensures
    (parenthesis_read x (parse_term x) c.args.context c.in_ok-inside.inside c.args.at us (inside, drop c.in_ok-term.end ts) (sym c.in_ok-inside.ensures) c.in_ok-term.ensures.value)

pub parenthesis-returns-clause-goes : goal.parenthesis-returns-clause-goes
parenthesis-returns-clause-goes g t c = closed_goes c.args.from _ c.in_ok-term.end c.then_expect.result c.in_ok-term.ensures.goes.0 c.then_expect.ensures.goes

pub unit-returns-in-Bang-clause-goes : goal.unit-returns-in-Bang-clause-goes
unit-returns-in-Bang-clause-goes g t c = goes_later c.args.from _ c.negation.result c.negation.ensures.goes

pub unit-returns-in-SquareOpen-clause-goes : goal.unit-returns-in-SquareOpen-clause-goes
unit-returns-in-SquareOpen-clause-goes g t c = goes_later c.args.from _ c.bracket.result c.bracket.ensures.goes

pub unit-returns-in-RoundOpen-clause-goes : goal.unit-returns-in-RoundOpen-clause-goes
unit-returns-in-RoundOpen-clause-goes g t c = goes_later c.args.from _ c.parenthesis.result c.parenthesis.ensures.goes

pub unit-negation-requires : goal.unit-negation-requires
unit-negation-requires g t c κs within = (omega (arith, c.in-Some.ensures.1), within)

pub unit-parenthesis-requires : goal.unit-parenthesis-requires
unit-parenthesis-requires g t c κs within = (omega (arith, c.in-Some.ensures.1), within)

pub negation-unit-requires : goal.negation-unit-requires
negation-unit-requires g t c κs within = (omega arith, within)

pub parenthesis-parse_term-requires : goal.parenthesis-parse_term-requires
parenthesis-parse_term-requires g t c κs within = (omega arith, within)

pub sequence-unit-requires : goal.sequence-unit-requires
sequence-unit-requires g t c κs within = (omega arith, within)

pub sequence-unit-requires-in-parts : goal.sequence-unit-requires-in-parts
sequence-unit-requires-in-parts g t c κs within = (omega (arith, c.parts.invariant.place.0), within)

pub parse_term-sequence-requires : goal.parse_term-sequence-requires
parse_term-sequence-requires g t c κs within = (omega arith, within)

pub parse_term-sequence-requires-in-parts : goal.parse_term-sequence-requires-in-parts
parse_term-sequence-requires-in-parts g t c κs within = (omega (arith, c.parts.invariant.place.0), within)

pub unit-zero-requires : goal.unit-zero-requires
unit-zero-requires g t c κs = λ within. within

pub unit-one-requires : goal.unit-one-requires
unit-one-requires g t c κs = λ within. within

pub unit-bracket-requires : goal.unit-bracket-requires
unit-bracket-requires g t c κs = λ within. within

pub negation-negated_term-requires : goal.negation-negated_term-requires
negation-negated_term-requires g t c κs = λ within. within

pub parenthesis-enclosed_term-requires : goal.parenthesis-enclosed_term-requires
parenthesis-enclosed_term-requires g t c κs = λ within. within

pub sequence-star_or_not-requires : goal.sequence-star_or_not-requires
sequence-star_or_not-requires g t c κs = λ within. within

pub sequence-star_or_not-requires-in-parts : goal.sequence-star_or_not-requires-in-parts
sequence-star_or_not-requires-in-parts g t c κs = λ within. within

pub sequence-one_term-requires : goal.sequence-one_term-requires
sequence-one_term-requires g t c κs = λ within. within

pub sequence-more_terms-requires : goal.sequence-more_terms-requires
sequence-more_terms-requires g t c κs = λ within. within

pub sequence-product-requires : goal.sequence-product-requires
sequence-product-requires g t c κs = λ within. within

pub parse_term-one_term-requires : goal.parse_term-one_term-requires
parse_term-one_term-requires g t c κs = λ within. within

pub parse_term-more_terms-requires : goal.parse_term-more_terms-requires
parse_term-more_terms-requires g t c κs = λ within. within

pub parse_term-sum-requires : goal.parse_term-sum-requires
parse_term-sum-requires g t c κs = λ within. within
