use Rattle.std.proofs.Common.{◌≡◌, length}
use Rattle.flow_text.specs.Checking.{with_all_results}
use Rattle.flow_text.specs.ScopeViews.{sight_parts}
use Rattle.flow_text.specs.ResultViews.{result_sorts}
use Rattle.flow_syntax.specs.SyntaxViews.{blocks_syntax}
use Rattle.flow_text.proofs.results.Results.add_blocks.Given as goal

-- the results so far, and those of the blocks that are left
abbrev pub invariant-each : goal.invariant-each
invariant-each l = with_all_results (sight_parts l.visible_names) (result_sorts l.self) (blocks_syntax l.rest) ≡ with_all_results (sight_parts l.visible_names) (result_sorts l.initial.self) (blocks_syntax l.fn.blocks)

abbrev pub decreases-each : goal.decreases-each
decreases-each l = length l.rest
