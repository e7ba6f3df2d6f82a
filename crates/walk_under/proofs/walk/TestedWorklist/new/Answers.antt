use Rattle.walk_under.proofs.walk.TestedWorklist.new.Goals as goal

pub returns-clause-right : goal.returns-clause-right
returns-clause-right c store = c.new-derivatives.ensures store c.in_ok-diagrams.diagrams
