use Rattle.std.proofs.Common.{◌≡◌, ◌++◌, map}
use Rattle.kat_model.specs.Trees.{kat_tree}
use Rattle.tool_explain.specs.Used.{marked}
use Rattle.tool_explain.proofs.used.marked_hyps.Given as goal

-- the hypotheses collected so far, and the marked ones of the rest
abbrev pub invariant-loop-mark : goal.invariant-loop-mark
invariant-loop-mark l =
    map kat_tree l.kept.items ++ marked l.mark-iterator.a.rest.now (map kat_tree l.mark-iterator.b.rest.now) ≡ marked l.marks l.problem.hyps
