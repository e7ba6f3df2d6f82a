use Rattle.std.proofs.Common.{◌≡◌, length}
use Rattle.cert_checker.proofs.NeededTerms.{AreGathered}
use Rattle.cert_checker.proofs.pass.needed_terms.Given as goal

abbrev pub invariant-loop-pair : goal.invariant-loop-pair
invariant-loop-pair l = record {
  count : length l.marks.items ≡ length l.tables.terms;
  gathered : AreGathered l.shorts l.cert.pairs l.pair-index l.marks.items;
}
