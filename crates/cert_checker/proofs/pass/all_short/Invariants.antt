use Rattle.std.proofs.Common.{map, drop}
use Rattle.kat_model.specs.Trees.{kat_tree}
use Rattle.cert_checker.proofs.RootRanges.{AreShorts}
use Rattle.cert_checker.proofs.pass.all_short.Given as goal

abbrev pub invariant-loop-hyp : goal.invariant-loop-hyp
invariant-loop-hyp l = AreShorts l.initial.tables l.tables l.numbers.items (map kat_tree (drop l.hyp-index l.hyp-items)) (map kat_tree l.hyp-items)
