use Rattle.std.proofs.Common.{map}
use Rattle.kat_model.specs.Trees.{kat_tree}
use Rattle.string_tables.proofs.FirstBreaks.{NoneBreaks}
use Rattle.string_tables.proofs.broken.first_broken.Given as goal

abbrev pub invariant-loop-h : goal.invariant-loop-h
invariant-loop-h l = NoneBreaks l.string (map kat_tree l.hyps) l.h
