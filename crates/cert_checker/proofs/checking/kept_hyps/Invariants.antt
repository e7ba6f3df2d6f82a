use Rattle.std.proofs.Common.{map, drop}
use Rattle.kat_model.specs.Trees.{kat_tree}
use Rattle.cert_checker.proofs.FewerHyps.{AreKept}
use Rattle.cert_checker.proofs.checking.kept_hyps.Given as goal

abbrev pub invariant-loop-hyp : goal.invariant-loop-hyp
invariant-loop-hyp l = AreKept (map kat_tree l.hyps.items) (map kat_tree (drop l.hyp-index l.hyp-items)) (map kat_tree l.hyp-items)
