use Rattle.test_diagrams.proofs.diagrams.Diagrams.+value_at.Given as goal

abbrev pub decreases-value_at : goal.decreases-value_at
decreases-value_at l = l.a
