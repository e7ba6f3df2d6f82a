use Rattle.kat_model.specs.Problems.{ProblemParts}
use Rattle.kat_model.specs.Relations.{Same}
use Rattle.kat_model.specs.Pairs.{plain, up_to}
use Rattle.kat_model.specs.Degrees.{short_hyps, long_hyps}
use Rattle.kat_model.proofs.Splits.{split_by_degree}
use Rattle.kat_model.proofs.Sameness.{accepted_same, accepted_under_same}
use Rattle.certificate.specs.declared.nodes.Style.{Style}
use Rattle.certificate.specs.declared.nodes.Style.TheVariants.{Plain, UpTo, Under}
use Rattle.certificate.specs.Certs.{CertParts}
use Rattle.certificate.specs.Accepted.{ShowsSame, set_pairs, tested_pairs}
use Rattle.certificate.proofs.laws.accepted_are_same.Goals as goal

shown_same : (style : Style) (q : ProblemParts) (c : CertParts) → ShowsSame style q c → Same q
shown_same Plain q c shown = accepted_same plain q (set_pairs c) shown
shown_same UpTo q c shown = accepted_same up_to q (set_pairs c) shown
shown_same Under q c shown = accepted_under_same q (short_hyps q) (long_hyps q) (tested_pairs c) (split_by_degree q) shown

pub returns : goal.returns
returns c q cert accepted = shown_same cert.style q cert accepted.pairs
