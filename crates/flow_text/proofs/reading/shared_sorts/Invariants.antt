use Rattle.std.proofs.Common.{◌≡◌, drop, map, None}
use Rattle.flow_text.specs.Checking.{shared_results}
use Rattle.flow_text.specs.ScopeViews.{scope_parts}
use Rattle.flow_text.specs.KnownViews.{graph_syntax}
use Rattle.flow_text.specs.ResultViews.{result_sorts}
use Rattle.flow_text.proofs.reading.shared_sorts.Given as goal

-- the results so far, and those of the graphs that are left
abbrev pub invariant-loop-number : goal.invariant-loop-number
invariant-loop-number l = shared_results (scope_parts l.scope) l.goal (result_sorts l.results) l.number (map graph_syntax (drop l.number l.graphs)) ≡ shared_results (scope_parts l.scope) l.goal None 0 (map graph_syntax l.graphs)
