use Rattle.std.proofs.Common.{map, refl}
use Rattle.std.specs.List.{enumerate_from}
use Rattle.problem_file.specs.CommentedTexts.{comments_text}
use Rattle.flow_edges.specs.EdgeViews.{flow_action}
use Rattle.flow_print.specs.NameTables.{names_of}
use Rattle.flow_print.specs.FlowTexts.{action_comment}
use Rattle.flow_print.proofs.WrittenLists.{all_written, comment_written}
use Rattle.flow_print.proofs.rows.put_action_comments.Goals as goal

pub loop-number-preserved : goal.loop-number-preserved
loop-number-preserved c =
    let names = names_of c.args.names.now.variables.now c.args.names.now.sorts.now c.args.names.now.functions.now in
    comment_written flow_action (action_comment names) c.args.actions.now c.loop-number.number c.index-actions-number.result c.loop-number.out.items c.put_action_comment.new.out.items _
    c.loop-number-test.true c.index-actions-number.is c.in_ok-put_action_comment.ensures c.loop-number.invariant

pub returns : goal.returns
returns c =
    let names = names_of c.args.names.now.variables.now c.args.names.now.sorts.now c.args.names.now.functions.now in
    all_written flow_action (λ ys. comments_text (map (action_comment names) (enumerate_from c.loop-number.number ys))) refl c.args.actions.now c.loop-number.number c.loop-number.out.items _ c.loop-number-test.false c.loop-number.invariant
