-- What the headline of `decide` allows, the headline of `check` accepts.
use Rattle.std.proofs.Common.{⊎_elim, sym, ◌∙◌}
use Rattle.kat_tool.specs.HeadlineAgreement.{HeadlinesAgree}

pub headlines_agree : HeadlinesAgree
headlines_agree q status reply output printed d c =
    ⊎_elim
    (λ zero. let cert = d.certificate zero in c.answers.equal.1 (cert.0, cert.3, cert.1) ∙ sym zero)
    (λ one. let string = d.string one in c.answers.different.1 (string.0, string.3, string.1.refutes) ∙ sym one)
    d.answers
