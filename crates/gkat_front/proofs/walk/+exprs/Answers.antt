use Rattle.std.proofs.Common.{◌≡◌, ◌+◌, length, drop, Ok, Err, refl, sym, subst, arith}
use Rattle.text_parser.specs.declared.terminal.Terminal.TheVariants.{RoundOpen, RoundClose}
use Rattle.text_parser.specs.Lexemes.{lexemes, is_terminal}
use Rattle.text_parser.specs.Parsed.{Reads, expects, place_of}
use Rattle.text_parser.proofs.NamedFaults.{expects_named}
use Rattle.text_parser.proofs.PartFaults.{end_made, end_goes, memory_lacks}
use Rattle.text_parser.proofs.TokenPlaces.{next_drop}
use Rattle.while_lang.specs.Blocks.{enter}
use Rattle.while_lang.proofs.BlockFaults.{enter_named, entered, part_fails, check_fails}
use Rattle.gkat_front.specs.GkatWalks.{whole, guard_by, tested_by, round_by, unit_by, factor_by, product_by, parse_gkat}
use Rattle.gkat_front.proofs.GkatSteps.{whole_step, factors_after_step}
use Rattle.gkat_front.proofs.walk.+exprs.Goals as goal

pub round-returns-in_err-next-clause-value : goal.round-returns-in_err-next-clause-value
round-returns-in_err-next-clause-value g t c =
    let a = g.R.GkatReading.actions c.args.reading.now in
    let all = lexemes c.args.toks.now in
    let ts = drop c.args.from all in
    check_fails g.R.GkatReading.memory g.R.GkatReading.expr all (round_by (parse_gkat a) c.args.depth ts) c.in_err-next.field-0.0 c.from_residual.result c.from_residual.ensures.1 (expects (is_terminal RoundOpen) ts) (expects_named (is_terminal RoundOpen) ts) c.in_err-next.ensures.value (rw (c.in_err-next.ensures.value) refl)

pub round-returns-in_err-inside-clause-value : goal.round-returns-in_err-inside-clause-value
round-returns-in_err-inside-clause-value g t c =
    let a = g.R.GkatReading.actions c.args.reading.now in
    let all = lexemes c.args.toks.now in
    let ts = drop c.args.from all in
    let given = entered c.args.depth (place_of ts) c.place_at.result (Err c.in_err-inside.field-0.0) c.place_at.ensures c.in_err-inside.ensures in
    check_fails g.R.GkatReading.memory g.R.GkatReading.expr all (round_by (parse_gkat a) c.args.depth ts) c.in_err-inside.field-0.0 c.from_residual-in_err-inside.result c.from_residual-in_err-inside.ensures.1 (enter c.args.depth (place_of ts)) (enter_named c.args.depth (place_of ts)) given (rw (c.in_ok-next.ensures.value, given) refl)

pub round-returns-in_err-expr-clause-value : goal.round-returns-in_err-expr-clause-value
round-returns-in_err-expr-clause-value g t c =
    let a = g.R.GkatReading.actions c.args.reading.now in
    let all = lexemes c.args.toks.now in
    let ts = drop c.args.from all in
    let inside = entered c.args.depth (place_of ts) c.place_at.result (Ok c.in_ok-inside.inside) c.place_at.ensures c.in_ok-inside.ensures in
    part_fails g.R.GkatReading.memory g.R.GkatReading.expr all (round_by (parse_gkat a) c.args.depth ts) c.in_err-expr.field-0.0 c.from_residual-in_err-expr.result c.from_residual-in_err-expr.ensures.1 g.R.GkatReading.expr (parse_gkat a whole c.in_ok-inside.inside (drop c.in_ok-next.next all)) c.in_err-expr.ensures.value (λ h. rw (c.in_ok-next.ensures.value, inside, h) refl)

pub round-returns-in_err-end-clause-value : goal.round-returns-in_err-end-clause-value
round-returns-in_err-end-clause-value g t c =
    let a = g.R.GkatReading.actions c.args.reading.now in
    let all = lexemes c.args.toks.now in
    let ts = drop c.args.from all in
    let inside = entered c.args.depth (place_of ts) c.place_at.result (Ok c.in_ok-inside.inside) c.place_at.ensures c.in_ok-inside.ensures in
    let us = drop c.in_ok-expr.end all in
    check_fails g.R.GkatReading.memory g.R.GkatReading.expr all (round_by (parse_gkat a) c.args.depth ts) c.in_err-end.field-0.0 c.from_residual-in_err-end.result c.from_residual-in_err-end.ensures.1 (expects (is_terminal RoundClose) us) (expects_named (is_terminal RoundClose) us) c.in_err-end.ensures.value (rw (c.in_ok-next.ensures.value, inside, c.in_ok-expr.ensures.value, c.in_err-end.ensures.value) refl)

pub round-returns-clause-value : goal.round-returns-clause-value
round-returns-clause-value g t c =
    let a = g.R.GkatReading.actions c.args.reading.now in
    let all = lexemes c.args.toks.now in
    let ts = drop c.args.from all in
    let inside = entered c.args.depth (place_of ts) c.place_at.result (Ok c.in_ok-inside.inside) c.place_at.ensures c.in_ok-inside.ensures in
    rw (c.in_ok-next.ensures.value, inside, c.in_ok-expr.ensures.value, c.in_ok-end.ensures.value) refl

pub unit-returns-in_default-clause-value : goal.unit-returns-in_default-clause-value
unit-returns-in_default-clause-value g t c =
    rw (c.syntax_fault_at.ensures, c.in_default.ensures.0) refl

pub unit-returns-in-Zero-clause-value : goal.unit-returns-in-Zero-clause-value
unit-returns-in-Zero-clause-value g t c =
    rw (c.in-Some.ensures.0, c.in-Zero.is, c.never.ensures) refl

pub unit-returns-in-One-clause-value : goal.unit-returns-in-One-clause-value
unit-returns-in-One-clause-value g t c =
    rw (c.in-Some.ensures.0, c.in-One.is, c.always.ensures) refl

pub unit-returns-in-SquareOpen-clause-value : goal.unit-returns-in-SquareOpen-clause-value
unit-returns-in-SquareOpen-clause-value g t c =
    let a = g.R.GkatReading.actions c.args.reading.now in
    let all = lexemes c.args.toks.now in
    let ts = drop c.args.from all in
    let same : unit_by a (parse_gkat a) c.args.depth ts ≡ tested_by a c.args.depth ts = rw (c.in-Some.ensures.0, c.in-SquareOpen.is) refl in
    subst (λ m. Reads g.R.GkatReading.memory g.R.GkatReading.expr all c.tested.result m) (sym same) c.tested.ensures.value

pub unit-returns-in-RoundOpen-clause-value : goal.unit-returns-in-RoundOpen-clause-value
unit-returns-in-RoundOpen-clause-value g t c =
    let a = g.R.GkatReading.actions c.args.reading.now in
    let all = lexemes c.args.toks.now in
    let ts = drop c.args.from all in
    let same : unit_by a (parse_gkat a) c.args.depth ts ≡ round_by (parse_gkat a) c.args.depth ts = rw (c.in-Some.ensures.0, c.in-RoundOpen.is) refl in
    subst (λ m. Reads g.R.GkatReading.memory g.R.GkatReading.expr all c.round.result m) (sym same) c.round.ensures.value

pub unit-returns-in_default-terminal-clause-value : goal.unit-returns-in_default-terminal-clause-value
unit-returns-in_default-terminal-clause-value g t c = grind (arith, next_drop)

pub factor-returns-in_err-body-clause-value : goal.factor-returns-in_err-body-clause-value
factor-returns-in_err-body-clause-value g t c =
    let a = g.R.GkatReading.actions c.args.reading.now in
    let all = lexemes c.args.toks.now in
    let ts = drop c.args.from all in
    part_fails g.R.GkatReading.memory g.R.GkatReading.expr all (factor_by a (parse_gkat a) c.args.depth ts) c.in_err-body.field-0.0 c.from_residual.result c.from_residual.ensures.1 g.R.GkatReading.expr (unit_by a (parse_gkat a) c.args.depth ts) c.in_err-body.ensures.value (λ h. rw (h) refl)

pub factor-returns-then-not-is_at-clause-value : goal.factor-returns-then-not-is_at-clause-value
factor-returns-then-not-is_at-clause-value g t c =
    rw (c.in_ok-body.ensures.value, ← c.if-not-is_at.ensures.value) refl

pub factor-returns-in_err-cond-clause-value : goal.factor-returns-in_err-cond-clause-value
factor-returns-in_err-cond-clause-value g t c =
    let a = g.R.GkatReading.actions c.args.reading.now in
    let all = lexemes c.args.toks.now in
    let ts = drop c.args.from all in
    part_fails g.R.GkatReading.memory g.R.GkatReading.expr all (factor_by a (parse_gkat a) c.args.depth ts) c.in_err-cond.field-0.0 c.from_residual-in_err-cond.result c.from_residual-in_err-cond.ensures.1 g.R.GkatReading.guard (guard_by a c.args.depth (drop (c.in_ok-body.end + 1) all)) c.in_err-cond.ensures.value
    (λ h. rw (c.in_ok-body.ensures.value, ← c.if-not-is_at.ensures.value, next_drop c.in_ok-body.end all, h) refl)

pub product-returns-in_err-only-clause-value : goal.product-returns-in_err-only-clause-value
product-returns-in_err-only-clause-value g t c =
    let a = g.R.GkatReading.actions c.args.reading.now in
    let all = lexemes c.args.toks.now in
    let ts = drop c.args.from all in
    part_fails g.R.GkatReading.memory g.R.GkatReading.expr all (product_by a (parse_gkat a) c.args.depth ts) c.in_err-only.field-0.0 c.from_residual.result c.from_residual.ensures.1 g.R.GkatReading.expr (factor_by a (parse_gkat a) c.args.depth ts) c.in_err-only.ensures.value (λ h. rw (h) refl)

pub product-returns-in_err-list-clause-value : goal.product-returns-in_err-list-clause-value
product-returns-in_err-list-clause-value g t c =
    let a = g.R.GkatReading.actions c.args.reading.now in
    let all = lexemes c.args.toks.now in
    let ts = drop c.args.from all in
    memory_lacks g.R.GkatReading.memory g.R.GkatReading.factors g.R.GkatReading.expr all c.from_residual-in_err-list.result c.in_err-list.field-0.0 (a.first (g.R.GkatReading.expr c.in_ok-only.only)) (product_by a (parse_gkat a) c.args.depth ts) c.from_residual-in_err-list.ensures.1 c.in_err-list.ensures

pub product-returns-in_err-more-clause-value : goal.product-returns-in_err-more-clause-value
product-returns-in_err-more-clause-value g t c = grind (arith, factors_after_step, next_drop)

pub product-returns-in_err-list-2-clause-value : goal.product-returns-in_err-list-2-clause-value
product-returns-in_err-list-2-clause-value g t c =
    let a = g.R.GkatReading.actions c.args.reading.now in
    let all = lexemes c.args.toks.now in
    let ts = drop c.args.from all in
    memory_lacks g.R.GkatReading.memory g.R.GkatReading.factors g.R.GkatReading.expr all c.from_residual-in_err-list-2.result c.in_err-list-2.field-0.0 (a.more (g.R.GkatReading.factors c.factors.list) (g.R.GkatReading.expr c.in_ok-more.more)) (product_by a (parse_gkat a) c.args.depth ts) c.from_residual-in_err-list-2.ensures.1 c.in_err-list-2.ensures

pub product-factors-init : goal.product-factors-init
product-factors-init g t c = grind (arith, factors_after_step, next_drop)

pub product-factors-preserved : goal.product-factors-preserved
product-factors-preserved g t c = grind (arith, factors_after_step, next_drop)

pub read_expr-returns-in_err-left-clause-value : goal.read_expr-returns-in_err-left-clause-value
read_expr-returns-in_err-left-clause-value g t c =
    let a = g.R.GkatReading.actions c.args.reading.now in
    let all = lexemes c.args.toks.now in
    let ts = drop c.args.from all in
    part_fails g.R.GkatReading.memory g.R.GkatReading.expr all (parse_gkat a whole c.args.depth ts) c.in_err-left.field-0.0 c.from_residual.result c.from_residual.ensures.1 g.R.GkatReading.expr (product_by a (parse_gkat a) c.args.depth ts) c.in_err-left.ensures.value (λ h. rw (whole_step a c.args.depth ts, h) refl)

pub read_expr-returns-then-not-is_at-clause-value : goal.read_expr-returns-then-not-is_at-clause-value
read_expr-returns-then-not-is_at-clause-value g t c =
    let a = g.R.GkatReading.actions c.args.reading.now in
    let all = lexemes c.args.toks.now in
    let ts = drop c.args.from all in
    rw (whole_step a c.args.depth ts, c.in_ok-left.ensures.value, ← c.if-not-is_at.ensures.value) refl

pub read_expr-returns-in_err-cond-clause-value : goal.read_expr-returns-in_err-cond-clause-value
read_expr-returns-in_err-cond-clause-value g t c =
    let a = g.R.GkatReading.actions c.args.reading.now in
    let all = lexemes c.args.toks.now in
    let ts = drop c.args.from all in
    part_fails g.R.GkatReading.memory g.R.GkatReading.expr all (parse_gkat a whole c.args.depth ts) c.in_err-cond.field-0.0 c.from_residual-in_err-cond.result c.from_residual-in_err-cond.ensures.1 g.R.GkatReading.guard (guard_by a c.args.depth (drop (c.in_ok-left.end + 1) all)) c.in_err-cond.ensures.value
    (λ h. rw (whole_step a c.args.depth ts, c.in_ok-left.ensures.value, ← c.if-not-is_at.ensures.value, next_drop c.in_ok-left.end all, h) refl)

pub read_expr-returns-in_err-right-clause-value : goal.read_expr-returns-in_err-right-clause-value
read_expr-returns-in_err-right-clause-value g t c =
    let a = g.R.GkatReading.actions c.args.reading.now in
    let all = lexemes c.args.toks.now in
    let ts = drop c.args.from all in
    part_fails g.R.GkatReading.memory g.R.GkatReading.expr all (parse_gkat a whole c.args.depth ts) c.in_err-right.field-0.0 c.from_residual-in_err-right.result c.from_residual-in_err-right.ensures.1 g.R.GkatReading.expr (product_by a (parse_gkat a) c.args.depth (drop c.in_ok-cond.end all)) c.in_err-right.ensures.value
    (λ h. rw (whole_step a c.args.depth ts, c.in_ok-left.ensures.value, ← c.if-not-is_at.ensures.value, next_drop c.in_ok-left.end all, c.in_ok-cond.ensures.value, h) refl)

pub unit-returns-in-Name-clause-value : goal.unit-returns-in-Name-clause-value
unit-returns-in-Name-clause-value g t c =
    let a = g.R.GkatReading.actions c.args.reading.now in
    let all = lexemes c.args.toks.now in
    let ts = drop c.args.from all in
    end_made g.R.GkatReading.memory g.R.GkatReading.expr all (c.args.from + 1) c.with_end.result c.named.result (a.name c.in-Some.at c.text_at.result.now) (unit_by a (parse_gkat a) c.args.depth ts) c.with_end.ensures c.named.ensures
    (rw (c.in-Some.ensures.0, c.in-Name.is, c.text_at.ensures) refl)

pub unit-returns-in-Name-clause-goes : goal.unit-returns-in-Name-clause-goes
unit-returns-in-Name-clause-goes g t c =
    end_goes c.args.from (length c.args.toks.now) (c.args.from + 1) c.with_end.result c.named.result c.with_end.ensures (omega arith) (grind arith)

pub factor-returns-clause-value : goal.factor-returns-clause-value
factor-returns-clause-value g t c =
    let a = g.R.GkatReading.actions c.args.reading.now in
    let all = lexemes c.args.toks.now in
    let ts = drop c.args.from all in
    end_made g.R.GkatReading.memory g.R.GkatReading.expr all c.in_ok-cond.end c.with_end.result c.repeat.result (Ok (a.loop (g.R.GkatReading.guard c.in_ok-cond.cond) (g.R.GkatReading.expr c.in_ok-body.body))) (factor_by a (parse_gkat a) c.args.depth ts) c.with_end.ensures c.repeat.ensures
    (rw (c.in_ok-body.ensures.value, ← c.if-not-is_at.ensures.value, next_drop c.in_ok-body.end all, c.in_ok-cond.ensures.value) refl)

pub factor-returns-clause-goes : goal.factor-returns-clause-goes
factor-returns-clause-goes g t c =
    end_goes c.args.from (length c.args.toks.now) c.in_ok-cond.end c.with_end.result c.repeat.result c.with_end.ensures (omega (arith, c.in_ok-body.ensures.goes.0, c.in_ok-cond.ensures.goes.0)) (c.in_ok-cond.ensures.goes.1)

pub product-returns-clause-value : goal.product-returns-clause-value
product-returns-clause-value g t c =
    let a = g.R.GkatReading.actions c.args.reading.now in
    let all = lexemes c.args.toks.now in
    let ts = drop c.args.from all in
    end_made g.R.GkatReading.memory g.R.GkatReading.expr all c.factors.at c.with_end.result c.product.result (Ok (a.product (g.R.GkatReading.factors c.factors.list))) (product_by a (parse_gkat a) c.args.depth ts) c.with_end.ensures c.product.ensures
    (grind (arith, factors_after_step, next_drop))

pub product-returns-clause-goes : goal.product-returns-clause-goes
product-returns-clause-goes g t c =
    end_goes c.args.from (length c.args.toks.now) c.factors.at c.with_end.result c.product.result c.with_end.ensures (c.factors.invariant.place) (c.factors.invariant.within)

pub read_expr-returns-clause-value : goal.read_expr-returns-clause-value
read_expr-returns-clause-value g t c =
    let a = g.R.GkatReading.actions c.args.reading.now in
    let all = lexemes c.args.toks.now in
    let ts = drop c.args.from all in
    end_made g.R.GkatReading.memory g.R.GkatReading.expr all c.in_ok-right.end c.with_end.result c.choice.result (Ok (a.choice (g.R.GkatReading.guard c.in_ok-cond.cond) (g.R.GkatReading.expr c.in_ok-left.left) (g.R.GkatReading.expr c.in_ok-right.right))) (parse_gkat a whole c.args.depth ts) c.with_end.ensures c.choice.ensures
    (rw (whole_step a c.args.depth ts, c.in_ok-left.ensures.value, ← c.if-not-is_at.ensures.value, next_drop c.in_ok-left.end all, c.in_ok-cond.ensures.value, c.in_ok-right.ensures.value) refl)

pub read_expr-returns-clause-goes : goal.read_expr-returns-clause-goes
read_expr-returns-clause-goes g t c =
    end_goes c.args.from (length c.args.toks.now) c.in_ok-right.end c.with_end.result c.choice.result c.with_end.ensures (omega (arith, c.in_ok-left.ensures.goes.0, c.in_ok-cond.ensures.goes.0, c.in_ok-right.ensures.goes.0)) (c.in_ok-right.ensures.goes.1)
