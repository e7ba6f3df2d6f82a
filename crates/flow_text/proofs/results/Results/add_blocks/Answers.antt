use Rattle.std.proofs.Common.{sym}
use Rattle.flow_text.specs.Checking.{with_all_results}
use Rattle.flow_text.specs.ScopeViews.{sight_parts}
use Rattle.flow_text.specs.ResultViews.{result_sorts}
use Rattle.flow_syntax.specs.SyntaxViews.{blocks_syntax}
use Rattle.flow_syntax.proofs.Stacked.{blocks_none}
use Rattle.flow_text.proofs.LastTaken.{kept, ended}
use Rattle.flow_text.proofs.ResultSteps.{results_more}
use Rattle.flow_text.proofs.results.Results.add_blocks.Goals as goal

pub each-preserved : goal.each-preserved
each-preserved c =
    let s = sight_parts c.args.visible_names.now in
    let xs = result_sorts c.each.self in
    let now = result_sorts c.add_block.new.self in
    let before = c.in-Some.field-0-1.now in
    kept (with_all_results s) blocks_syntax xs now c.each.rest.now before c.in-Some.block.now (with_all_results s (result_sorts c.args.self.now) (blocks_syntax c.args.blocks.now)) c.in-Some.ensures.cases.0
    (results_more s xs now before c.in-Some.block.now c.in_ok-add_block.ensures) c.each.invariant

pub returns : goal.returns
returns c =
    let s = sight_parts c.args.visible_names.now in
    sym (ended (with_all_results s) blocks_syntax (result_sorts c.each.self) c.each.rest.now (with_all_results s (result_sorts c.args.self.now) (blocks_syntax c.args.blocks.now)) c.in_default.ensures.cases blocks_none c.each.invariant)
