use Rattle.std.proofs.Common.{ap, subst}
use Rattle.kat_model.specs.Problems.{ProblemParts}
use Rattle.abstraction.specs.Abstracts.{AbstractParts}
use Rattle.certificate.specs.declared.evidence.Evidence.TheVariants.{Different}
use Rattle.cert_checker.specs.Answers.{IsAnswer}
use Rattle.tool_try.proofs.try_with.evidence_reply.Goals as goal

pub checked_reply-requires-clause-answer : goal.checked_reply-requires-clause-answer
checked_reply-requires-clause-answer c =
    subst (λ (q : ProblemParts). IsAnswer q (Different c.in-Different.string) c.in_ok-answer-in-Different.answer) (ap (λ (a : AbstractParts). a.problem) c.shown.view_is)
    (rw c.in-Different.is at c.in_ok-answer-in-Different.ensures.answer)
