use Rattle.std.proofs.Common.{◌∷◌, [], ◌++◌, ◌∙◌, false, ap, map, length}
use mathlib.Core.Path.{ap₂}
use Rattle.flow_model.specs.Graphs.{return}
use Rattle.flow_model.specs.Polish.{statement_of, graph_of}
use Rattle.flow_pieces.specs.PieceGraphs.{mark}
use Rattle.flow_matches.specs.Working.SideViews.{leave_tree, leave_blocks}
use Rattle.flow_matches.specs.Working.WholeSides.{are_whole_statements, is_whole_leave}
use Rattle.flow_matches.proofs.WholeParts.{all_item}
use Rattle.flow_matches.proofs.SideSteps.{leave_next, leave_end}
use Rattle.flow_matches.proofs.SideGraphs.{made_block}
use Rattle.flow_matches.proofs.side.push_arrival.Goals as goal

pub loop-leave-preserved : goal.loop-leave-preserved
loop-leave-preserved c =
    let old = graph_of c.loop-leave.list.items in
    record {
      added = leave_next leave_tree (mark c.args.otherwise ∷ []) c.args.leaves.now c.loop-leave.leave-index c.leave-item.result old (graph_of c.push_leave.new.list.items) _ c.loop-leave-test.true
          (c.in_ok-push_leave.ensures.added ∙ ap (λ l. old ++ leave_blocks (length old) (leave_tree l)) c.leave-item.is)
          c.loop-leave.invariant.added;
      whole = λ leaves first.
          c.in_ok-push_leave.ensures.whole (all_item is_whole_leave c.args.leaves.now c.loop-leave.leave-index c.leave-item.result c.loop-leave-test.true c.leave-item.is leaves) (c.loop-leave.invariant.whole leaves first);
    }

pub returns-clause-added : goal.returns-clause-added
returns-clause-added c =
    let old = graph_of c.loop-leave.list.items in
    leave_end leave_tree (mark c.args.otherwise ∷ []) c.args.leaves.now c.loop-leave.leave-index old (graph_of c.push_block.new.list.items) _ c.loop-leave-test.false
    (c.in_ok-push_block.ensures.added ∙ ap₂ (λ ss vs. old ++ made_block false ss (return vs) ∷ []) (ap (map statement_of) c.new.ensures.items) c.in_ok-values.ensures.trees)
    c.loop-leave.invariant.added

pub returns-clause-whole : goal.returns-clause-whole
returns-clause-whole c = λ leaves old. c.in_ok-push_block.ensures.whole (ap are_whole_statements c.new.ensures.items) c.in_ok-values.ensures.whole (c.loop-leave.invariant.whole leaves old)
