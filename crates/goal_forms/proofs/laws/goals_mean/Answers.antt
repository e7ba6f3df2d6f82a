use Rattle.goal_forms.proofs.Meanings.{goals_mean_lem}
use Rattle.goal_forms.proofs.laws.goals_mean.Goals as goal

pub returns : goal.returns
returns c = goals_mean_lem
