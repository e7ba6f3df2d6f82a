use Rattle.goal_forms.proofs.LeastHypotheses.{not_simple_least, not_simple_none}
use Rattle.goal_forms.proofs.simple.not_simple.Goals as goal

pub returns-clause-least : goal.returns-clause-least
returns-clause-least c = not_simple_least c.hyps.result.now c.args.problem.now.hyps c.first_not_simple.result c.hyps.ensures.value c.first_not_simple.ensures

pub returns-clause-none : goal.returns-clause-none
returns-clause-none c = not_simple_none c.hyps.result.now c.args.problem.now.hyps c.first_not_simple.result c.hyps.ensures.value c.first_not_simple.ensures
