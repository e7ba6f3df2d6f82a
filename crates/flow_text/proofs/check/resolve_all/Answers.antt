use Rattle.std.proofs.Common.{◌≡◌, ◌+◌, ◌-◌, List, length, take, drop, get_or, Err, sym, ap, subst, ◌∙◌}
use Rattle.std.specs.Prelude.{Vec}
use Rattle.std.specs.declared.alloc.Global.{Global}
use Rattle.std.proofs.lemmas.Result.{err_from_is_err_and}
use Rattle.text_parser.specs.declared.fault.TextFault.{TextFault}
use Rattle.kat_model.specs.declared.expression.Width.TheVariants.{W8}
use Rattle.flow_model.specs.declared.sort.Sort.TheVariants.{Number}
use Rattle.flow_model.specs.declared.graph.ExprNode.{ExprNode}
use Rattle.flow_text.specs.Trees.{expr_of, values_of}
use Rattle.flow_text.specs.Resolving.{expression_of}
use Rattle.flow_text.specs.Checking.{expressions_after, expressions_of}
use Rattle.flow_text.specs.ScopeViews.{sight_parts}
use Rattle.flow_syntax.specs.SyntaxViews.{expr_syntax, exprs_syntax}
use Rattle.flow_text.proofs.ProgramResults.{fault_seen}
use Rattle.flow_text.proofs.Checked.{expression_turn, expression_fault, no_more, no_sort}
use Rattle.flow_text.proofs.check.resolve_all.Goals as goal

pub loop-sort-preserved : goal.loop-sort-preserved
loop-sort-preserved c =
    let s = sight_parts c.args.visible_names.now in
    let sorts = c.args.sorts.now in
    let i = c.loop-sort.sort-index in
    let made = c.loop-sort.values.items in
    let rest = c.loop-sort.rest.now in
    let whole = expressions_of s sorts (exprs_syntax c.args.exprs.now) in
    subst (λ (l : List (Vec ExprNode Global)). expressions_after s (values_of l) (drop (i + 1) sorts) (exprs_syntax (take (length rest - 1) rest)) ≡ whole) (sym c.in_ok-append.ensures)
    (expression_turn s made sorts i (Number W8) rest c.in-Some.field-0-1.now c.in-Some.expr.now c.in_ok-value.value whole c.loop-sort-test.true c.in-Some.ensures.cases.0
    (ap (λ l. expression_of s (get_or sorts i (Number W8)) (expr_syntax l)) (sym c.deref.ensures.value) ∙ c.in_ok-value.ensures) c.loop-sort.invariant)

pub returns-in_err-value : goal.returns-in_err-value
returns-in_err-value c =
    let s = sight_parts c.args.visible_names.now in
    let sorts = c.args.sorts.now in
    let i = c.loop-sort.sort-index in
    let made = values_of c.loop-sort.values.items in
    let rest = c.loop-sort.rest.now in
    let fault = c.in_err-value.field-0.0 in
    let whole = expressions_of s sorts (exprs_syntax c.args.exprs.now) in
    let answer = err_from_is_err_and c.from_residual.result c.from_residual.ensures.1 in
    fault_seen (λ (v : Vec (Vec ExprNode Global) Global). values_of v.items) (λ (v : Vec ExprNode Global). expr_of v.items) c.from_residual.result fault (expression_of s (get_or sorts i (Number W8)) (expr_syntax c.deref.result.now)) whole (answer.1 ∙ ap (λ (f : TextFault). Err f) answer.2) c.in_err-value.ensures
    (λ fails. expression_fault s made sorts i (Number W8) rest c.in-Some.field-0-1.now c.in-Some.expr.now fault whole c.loop-sort-test.true c.in-Some.ensures.cases.0 c.loop-sort.invariant
    (ap (λ l. expression_of s (get_or sorts i (Number W8)) (expr_syntax l)) (sym c.deref.ensures.value) ∙ fails))

pub returns-in_default : goal.returns-in_default
returns-in_default c =
    let s = sight_parts c.args.visible_names.now in
    no_more s (values_of c.loop-sort.values.items) (drop c.loop-sort.sort-index c.args.sorts.now) c.loop-sort.rest.now (expressions_of s c.args.sorts.now (exprs_syntax c.args.exprs.now)) c.in_default.ensures.cases c.loop-sort.invariant

pub returns : goal.returns
returns c =
    let s = sight_parts c.args.visible_names.now in
    no_sort s (values_of c.loop-sort.values.items) c.args.sorts.now c.loop-sort.sort-index c.loop-sort.rest.now (expressions_of s c.args.sorts.now (exprs_syntax c.args.exprs.now)) c.loop-sort-test.false c.loop-sort.invariant
