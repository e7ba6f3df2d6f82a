use Rattle.std.proofs.Common.{drop}
use Rattle.text_parser.specs.Lexemes.{lexemes}
use Rattle.text_parser.specs.Exprs.{parse_expr, sums}
use Rattle.text_parser.specs.Conds.{relation, comparison}
use Rattle.text_parser.proofs.PartFaults.{fault_read, fault_given}
use Rattle.text_parser.proofs.CondSteps.{comparison_left, comparison_relation, comparison_right, comparison_made}
use Rattle.text_parser.proofs.cond.comparison.Goals as goal

pub returns-in_err-left-clause-value : goal.returns-in_err-left-clause-value
returns-in_err-left-clause-value g c =
    let x = (g.R.Reading.actions c.args.reading.now).conds in
    let ts = lexemes c.args.toks.now in
    let us = drop c.args.from ts in
    fault_read g.R.Reading.memory g.R.Reading.expr g.R.Reading.cond ts c.from_residual.result c.in_err-left.field-0.0 (parse_expr x.exprs sums c.args.context us) (comparison x c.args.context us) c.from_residual.ensures.1 c.in_err-left.ensures.value
    (comparison_left x c.args.context us c.in_err-left.field-0.0)

pub returns-in_err-relation-clause-value : goal.returns-in_err-relation-clause-value
returns-in_err-relation-clause-value g c =
    let x = (g.R.Reading.actions c.args.reading.now).conds in
    let ts = lexemes c.args.toks.now in
    let us = drop c.args.from ts in
    fault_given g.R.Reading.memory (λ r. r) g.R.Reading.cond ts c.from_residual-in_err-relation.result c.in_err-relation.field-0.0 (relation (drop c.in_ok-left.next ts)) (comparison x c.args.context us) c.from_residual-in_err-relation.ensures.1 c.in_err-relation.ensures.value
    (comparison_relation x c.args.context us (g.R.Reading.expr c.in_ok-left.left, drop c.in_ok-left.next ts) c.in_err-relation.field-0.0 c.in_ok-left.ensures.value)

pub returns-in_err-right-clause-value : goal.returns-in_err-right-clause-value
returns-in_err-right-clause-value g c =
    let x = (g.R.Reading.actions c.args.reading.now).conds in
    let ts = lexemes c.args.toks.now in
    let us = drop c.args.from ts in
    fault_read g.R.Reading.memory g.R.Reading.expr g.R.Reading.cond ts c.from_residual-in_err-right.result c.in_err-right.field-0.0 (parse_expr x.exprs sums c.args.context (drop c.in_ok-relation.next ts)) (comparison x c.args.context us) c.from_residual-in_err-right.ensures.1 c.in_err-right.ensures.value
    (comparison_right x c.args.context us (g.R.Reading.expr c.in_ok-left.left, drop c.in_ok-left.next ts) (c.in_ok-relation.relation, drop c.in_ok-relation.next ts) c.in_err-right.field-0.0 c.in_ok-left.ensures.value c.in_ok-relation.ensures.value)

pub returns-clause-value : goal.returns-clause-value
returns-clause-value g c =
    let x = (g.R.Reading.actions c.args.reading.now).conds in
    let ts = lexemes c.args.toks.now in
    comparison_made x c.args.context (drop c.args.from ts) (g.R.Reading.expr c.in_ok-left.left, drop c.in_ok-left.next ts) (c.in_ok-relation.relation, drop c.in_ok-relation.next ts) (g.R.Reading.expr c.in_ok-right.right, drop c.in_ok-right.end ts) (g.R.Reading.cond c.compare.result) c.in_ok-left.ensures.value c.in_ok-relation.ensures.value c.in_ok-right.ensures.value c.compare.ensures
