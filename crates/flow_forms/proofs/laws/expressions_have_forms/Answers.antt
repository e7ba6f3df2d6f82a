use Rattle.std.proofs.Common.{false}
use Rattle.flow_forms.proofs.ExpressionValues.{kept}
use Rattle.flow_forms.proofs.laws.expressions_have_forms.Goals as goal

pub returns : goal.returns
returns c I s sorts env t h e o = kept I s sorts env t h false e o
