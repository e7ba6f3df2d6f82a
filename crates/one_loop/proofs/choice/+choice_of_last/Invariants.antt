use Rattle.one_loop.proofs.choice.+choice_of_last.Given as goal

abbrev pub decreases-choice_of_last : goal.decreases-choice_of_last
decreases-choice_of_last l = l.count
