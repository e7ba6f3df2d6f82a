use Rattle.std.proofs.Common.{◌≡◌, ◌++◌, map, drop}
use Rattle.std.specs.List.{enumerate_from}
use Rattle.problem_file.specs.CommentedTexts.{comments_text}
use Rattle.flow_edges.specs.EdgeViews.{flow_action}
use Rattle.flow_print.specs.NameTables.{names_of}
use Rattle.flow_print.specs.FlowTexts.{action_comment}
use Rattle.flow_print.proofs.rows.put_action_comments.Given as goal

-- the text written so far, and the remaining comments
abbrev pub invariant-loop-number : goal.invariant-loop-number
invariant-loop-number l =
    l.out.items ++ comments_text (map (action_comment (names_of l.names.variables.now l.names.sorts.now l.names.functions.now)) (enumerate_from l.number (map flow_action (drop l.number l.actions))))
    ≡ l.initial.out.items ++ comments_text (map (action_comment (names_of l.names.variables.now l.names.sorts.now l.names.functions.now)) (enumerate_from 0 (map flow_action l.actions)))
