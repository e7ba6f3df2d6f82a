use Rattle.std.proofs.Common.{◌≡◌, [], drop, map}
use Rattle.flow_text.specs.Checking.{graphs_after}
use Rattle.flow_text.specs.ScopeViews.{scope_parts}
use Rattle.flow_text.specs.KnownViews.{graph_syntax}
use Rattle.flow_text.specs.FileViews.{graphs_of}
use Rattle.flow_text.proofs.reading.all_graphs.Given as goal

-- the graphs so far, and those that are left
abbrev pub invariant-loop-graph : goal.invariant-loop-graph
invariant-loop-graph l = graphs_after (scope_parts l.scope) l.goal l.shared (graphs_of l.all.items) (map graph_syntax (drop l.graph-index l.graphs)) ≡ graphs_after (scope_parts l.scope) l.goal l.shared [] (map graph_syntax l.graphs)
