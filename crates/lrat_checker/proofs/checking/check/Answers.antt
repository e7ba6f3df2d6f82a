use Rattle.std.proofs.Common.{◌∙◌, subst}
use Rattle.lrat_checker.specs.Answers.{Answers}
use Rattle.lrat_checker.proofs.WholeProofs.{accepted_exactly, accepted_sound}
use Rattle.lrat_checker.proofs.checking.check.Goals as goal

pub returns-clause-accepted : goal.returns-clause-accepted
returns-clause-accepted c =
    let answer = c.in_ok-answer.answer in
    accepted_exactly c.args.clauses.now c.args.proof.now answer (subst (λ lines. Answers c.args.clauses.now lines answer) (c.deref.ensures.value ∙ c.proof.view_is) c.in_ok-answer.ensures)

pub returns-clause-sound : goal.returns-clause-sound
returns-clause-sound c =
    let answer = c.in_ok-answer.answer in
    accepted_sound c.args.clauses.now c.args.proof.now answer (subst (λ lines. Answers c.args.clauses.now lines answer) (c.deref.ensures.value ∙ c.proof.view_is) c.in_ok-answer.ensures)
