use Rattle.flow_forms.proofs.expression.+take.Given as goal

abbrev pub decreases-take : goal.decreases-take
decreases-take l = l.count
