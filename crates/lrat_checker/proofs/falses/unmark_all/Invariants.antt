use Rattle.std.proofs.Common.{◌≡◌, drop}
use Rattle.lrat_checker.specs.Working.Marks.{without_marks}
use Rattle.lrat_checker.proofs.falses.unmark_all.Given as goal

abbrev pub invariant-loop-literal : goal.invariant-loop-literal
invariant-loop-literal l = without_marks l.marks.items (drop l.literal-index l.literals) ≡ without_marks l.initial.marks.items l.literals
