-- Properties of each certificate that the prover returns, with or without tests.
use Rattle.std.proofs.Common.{◌≡◌, ◌+◌, ◌*◌, ◌≤◌, ⊎_elim, [], length, subst}
use Rattle.std.specs.Bool.{IsTrue}
use Rattle.std.specs.List.{list_any}
use Rattle.std.proofs.lemmas.Bool.{false≢true}
use Rattle.kat_model.specs.Trees.{acts}
use Rattle.kat_model.specs.Problems.{ProblemParts}
use Rattle.kat_model.specs.Guarded.{IsGuarded}
use Rattle.kat_model.specs.Degrees.{is_short}
use Rattle.certificate.specs.Certs.{CertParts}
use Rattle.certificate.specs.Accepted.{set_pairs, IsAccepted}
use Rattle.certificate.specs.Decisions.{has_short, IsUntestedAnswer, IsTestedAnswer, IsAnswerCert}
use Rattle.walk_up_to.proofs.Concise.{concise_few}

module _ (q : ProblemParts) (c : CertParts) where
  pub answer_accepted : IsAnswerCert q c → IsAccepted q c
  answer_accepted a = ⊎_elim (λ (u : IsUntestedAnswer q c). u.concise.accepted) (λ (t : IsTestedAnswer q c). t.concise.accepted) a

  -- without hypotheses there is no short one
  none_is_short : q.hyps ≡ [] → IsTrue (has_short q) → ⊥
  none_is_short none short = false≢true (subst (λ hs. IsTrue (list_any is_short hs)) none short)

  pub answer_few : IsAnswerCert q c → q.hyps ≡ [] → IsGuarded q.left → IsGuarded q.right → length (set_pairs c) ≤ (acts q.left + 2) * (acts q.right + 2)
  answer_few a none left right =
      ⊎_elim
      (λ (u : IsUntestedAnswer q c). concise_few q c u.concise none left right)
      (λ (t : IsTestedAnswer q c). absurd (none_is_short none t.short))
      a
