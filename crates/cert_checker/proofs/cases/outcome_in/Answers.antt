use Rattle.std.proofs.Common.{Bool, List, Option, Vec, Global, IfOk, ap, subst}
use Rattle.cert_checker.specs.Questions.{MatchAt}
use Rattle.cert_checker.specs.Working.Outcomes.{IsOutcome}
use Rattle.cert_checker.proofs.cases.outcome_in.Goals as goal

pub evaluate-requires-clause-question : goal.evaluate-requires-clause-question
evaluate-requires-clause-question c = c.requires.question

pub evaluate-requires-clause-decided : goal.evaluate-requires-clause-decided
evaluate-requires-clause-decided c = c.requires.decided

pub outcome_of-requires-clause-question : goal.outcome_of-requires-clause-question
outcome_of-requires-clause-question c = c.requires.question

pub outcome_of-requires-clause-case : goal.outcome_of-requires-clause-case
outcome_of-requires-clause-case c = c.in_ok-evaluate.ensures.known

pub returns-in_err-evaluate-clause-decided : goal.returns-in_err-evaluate-clause-decided
returns-in_err-evaluate-clause-decided c = c.evaluate.ensures.decided

pub returns-clause-outcome : goal.returns-clause-outcome
returns-clause-outcome c =
    let q = c.args.question.now in
    subst (λ (l : List (Option Bool)). IfOk c.outcome_of.result (IsOutcome (MatchAt q.tables q) l)) (ap (λ (v : Vec (Option Bool) Global). v.items) c.evaluate.ensures.decided) c.outcome_of.ensures

pub returns-clause-decided : goal.returns-clause-decided
returns-clause-decided c = c.evaluate.ensures.decided
