use Rattle.std.proofs.Common.{◌≡◌, subst, map, None, IfOk}
use Rattle.flow_text.specs.Checking.{ResultSorts, known_sorts, shared_results}
use Rattle.flow_text.specs.ScopeViews.{scope_parts}
use Rattle.flow_text.specs.KnownViews.{graph_syntax}
use Rattle.flow_text.specs.ResultViews.{result_sorts}
use Rattle.flow_text.proofs.ResultSteps.{shared_more, shared_all}
use Rattle.flow_text.proofs.reading.shared_sorts.Goals as goal

pub loop-number-preserved : goal.loop-number-preserved
loop-number-preserved c =
    let s = scope_parts c.args.scope.now in
    shared_more s c.args.goal (result_sorts c.loop-number.results) (result_sorts c.add_named.new.self) c.args.graphs.now c.loop-number.number c.index-graphs-number.result (shared_results s c.args.goal None 0 (map graph_syntax c.args.graphs.now))
    c.loop-number-test.true c.index-graphs-number.is c.in_ok-add_named.ensures c.loop-number.invariant

pub returns : goal.returns
returns c =
    let s = scope_parts c.args.scope.now in
    subst (λ (xs : ResultSorts). IfOk c.known.result (λ v. v.items ≡ known_sorts xs))
    (shared_all s c.args.goal (result_sorts c.loop-number.results) c.args.graphs.now c.loop-number.number (shared_results s c.args.goal None 0 (map graph_syntax c.args.graphs.now)) c.loop-number-test.false c.loop-number.invariant)
    c.known.ensures
