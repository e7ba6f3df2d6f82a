use Rattle.std.proofs.Common.{◌≡◌, ◌++◌, drop}
use Rattle.std.specs.Prelude.{flat_map}
use Rattle.std.specs.List.{enumerate_from}
use Rattle.text_print.specs.Printing.{name_of}
use Rattle.kat_report.specs.Shows.{test_comment}
use Rattle.kat_report.proofs.rows.put_test_comments.Given as goal

-- the text written so far, and the remaining comments
abbrev pub invariant-loop-k : goal.invariant-loop-k
invariant-loop-k l =
    l.out.items ++ flat_map (test_comment (name_of l.scope)) (enumerate_from l.k (drop l.k l.rows))
    ≡ l.initial.out.items ++ flat_map (test_comment (name_of l.scope)) (enumerate_from 0 l.rows)
