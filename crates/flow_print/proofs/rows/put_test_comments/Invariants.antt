use Rattle.std.proofs.Common.{◌≡◌, ◌++◌, map, drop}
use Rattle.std.specs.List.{enumerate_from}
use Rattle.problem_file.specs.CommentedTexts.{comments_text}
use Rattle.flow_forms.specs.Comparisons.{comparison_tree}
use Rattle.flow_print.specs.NameTables.{names_of}
use Rattle.flow_print.specs.FlowTexts.{test_comment}
use Rattle.flow_print.proofs.rows.put_test_comments.Given as goal

-- the text written so far, and the remaining comments
abbrev pub invariant-loop-number : goal.invariant-loop-number
invariant-loop-number l =
    l.out.items ++ comments_text (map (test_comment (names_of l.names.variables.now l.names.sorts.now l.names.functions.now)) (enumerate_from l.number (map comparison_tree (drop l.number l.tests))))
    ≡ l.initial.out.items ++ comments_text (map (test_comment (names_of l.names.variables.now l.names.sorts.now l.names.functions.now)) (enumerate_from 0 (map comparison_tree l.tests)))
