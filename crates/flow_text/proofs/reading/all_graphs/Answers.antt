use Rattle.std.proofs.Common.{◌≡◌, ◌+◌, List, [], length, drop, map, Err, sym, ap, subst, ◌∙◌, arith}
use Rattle.std.specs.Prelude.{Vec}
use Rattle.std.specs.declared.alloc.Global.{Global}
use Rattle.std.proofs.lemmas.Result.{err_from_is_err_and}
use Rattle.text_parser.specs.declared.fault.TextFault.{TextFault}
use Rattle.flow_model.specs.declared.graph.Block.{Block}
use Rattle.flow_text.specs.Trees.{graph_of}
use Rattle.flow_text.specs.Checking.{next_graph, graphs_after}
use Rattle.flow_text.specs.ScopeViews.{scope_parts}
use Rattle.flow_text.specs.KnownViews.{graph_syntax}
use Rattle.flow_text.specs.FileViews.{graphs_of}
use Rattle.flow_text.proofs.ProgramResults.{fault_seen}
use Rattle.flow_text.proofs.FileSteps.{graph_turn, graph_fault, no_graph}
use Rattle.flow_text.proofs.reading.all_graphs.Goals as goal

pub loop-graph-preserved : goal.loop-graph-preserved
loop-graph-preserved c =
    let s = scope_parts c.args.scope.now in
    let gs = c.args.graphs.now in
    let i = c.loop-graph.graph-index in
    let made = c.loop-graph.all.items in
    let whole = graphs_after s c.args.goal c.args.shared.now [] (map graph_syntax gs) in
    let count : length made ≡ c.len.result = omega (arith, c.len.ensures, c.loop-graph.all.ok.0) in
    subst (λ (l : List (Vec Block Global)). graphs_after s c.args.goal c.args.shared.now (graphs_of l) (map graph_syntax (drop (i + 1) gs)) ≡ whole) (sym c.in_ok-append.ensures)
    (graph_turn s c.args.goal c.args.shared.now made c.len.result gs i c.graph-item.result c.in_ok-whole.whole whole count c.loop-graph-test.true c.graph-item.is c.in_ok-whole.ensures c.loop-graph.invariant)

pub returns-in_err-whole : goal.returns-in_err-whole
returns-in_err-whole c =
    let s = scope_parts c.args.scope.now in
    let gs = c.args.graphs.now in
    let made = c.loop-graph.all.items in
    let fault = c.in_err-whole.field-0.0 in
    let whole = graphs_after s c.args.goal c.args.shared.now [] (map graph_syntax gs) in
    let count : length made ≡ c.len.result = omega (arith, c.len.ensures, c.loop-graph.all.ok.0) in
    let answer = err_from_is_err_and c.from_residual.result c.from_residual.ensures.1 in
    fault_seen (λ (v : Vec (Vec Block Global) Global). graphs_of v.items) (λ (v : Vec Block Global). graph_of v.items) c.from_residual.result fault (next_graph s c.args.goal c.args.shared.now c.len.result (graph_syntax c.graph-item.result)) whole (answer.1 ∙ ap (λ (f : TextFault). Err f) answer.2) c.in_err-whole.ensures
    (graph_fault s c.args.goal c.args.shared.now made c.len.result gs c.loop-graph.graph-index c.graph-item.result fault whole count c.loop-graph-test.true c.graph-item.is c.loop-graph.invariant)

pub returns : goal.returns
returns c =
    let s = scope_parts c.args.scope.now in
    no_graph s c.args.goal c.args.shared.now c.loop-graph.all.items c.args.graphs.now c.loop-graph.graph-index (graphs_after s c.args.goal c.args.shared.now [] (map graph_syntax c.args.graphs.now)) c.loop-graph-test.false c.loop-graph.invariant
