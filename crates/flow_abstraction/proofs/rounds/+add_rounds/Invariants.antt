use Rattle.flow_abstraction.proofs.rounds.+add_rounds.Given as goal

abbrev pub decreases-add_rounds : goal.decreases-add_rounds
decreases-add_rounds l = l.rounds
