use Rattle.partial_derivs.proofs.forms.+diagram_of.Given as goal

-- parts have smaller ids
abbrev pub decreases-diagram_of : goal.decreases-diagram_of
decreases-diagram_of l = l.test
