use Rattle.std.proofs.Common.{sym, subst}
use Rattle.std.specs.Option.{MatchOption}
use Rattle.string_tables.specs.Tables.{Refutes}
use Rattle.certificate.specs.declared.evidence.Evidence.TheVariants.{Different}
use Rattle.cert_checker.specs.Answers.{IsFoundBy}
use Rattle.cert_checker.proofs.OneAnswer.{string_given}
use Rattle.cert_checker.proofs.checking.first_reason.Goals as goal

pub returns-in_ok-verdict-in-Different : goal.returns-in_ok-verdict-in-Different
returns-in_ok-verdict-in-Different c =
    let q = c.args.problem.now in
    let x = c.in-Different.string in
    rw c.in-Different.is
    (subst (λ o. MatchOption o (Refutes q x) (λ r. IsFoundBy q (Different x) r)) (sym c.string_reason.ensures) (string_given q x c.in_ok-verdict-in-Different.field-0 c.in_ok-verdict-in-Different.ensures))
