-- How many pairs a certificate has that `decide` prints.
use Rattle.std.specs.Prelude.{◌≡◌, ◌≤◌, ◌+◌, ◌*◌, [], length}
use Rattle.kat_model.specs.Trees.{acts}
use Rattle.kat_model.specs.Problems.{ProblemParts}
use Rattle.kat_model.specs.Guarded.{IsGuarded}
use Rattle.kat_model.specs.Degrees.{long_hyps}
use Rattle.certificate.specs.declared.nodes.Style.TheVariants.{Under}
use Rattle.certificate.specs.Certs.{CertParts}
use Rattle.certificate.specs.Decisions.{pair_limit}

-- The certificate has no more pairs than there are pairs of sets of terms. There is a second bound if both sides are guarded
-- and there is no hypothesis; if its pairs are under tests, short hypotheses do not count.
pub record IsSmallCert (q : ProblemParts) (c : CertParts) : Type 0 where
  pub pairs : length c.pairs ≤ pair_limit q
  pub guarded : q.hyps ≡ [] → IsGuarded q.left → IsGuarded q.right → length c.pairs ≤ (acts q.left + 2) * (acts q.right + 2)
  pub guarded_under : c.style ≡ Under → long_hyps q ≡ [] → IsGuarded q.left → IsGuarded q.right → length c.pairs ≤ (acts q.left + 2) * (acts q.right + 2)
