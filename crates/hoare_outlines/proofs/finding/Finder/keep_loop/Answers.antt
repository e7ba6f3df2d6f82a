use Rattle.std.proofs.Common.{nat_eq}
use Rattle.std.proofs.lemmas.Bool.{eqb-true}
use Rattle.hoare_outlines.proofs.KeptLoops.{loops_with}
use Rattle.hoare_outlines.proofs.finding.Finder.keep_loop.Goals as goal

pub returns-clause-loops : goal.returns-clause-loops
returns-clause-loops c q d turns are own =
    loops_with nat_eq eqb-true q d turns c.args.self.now.loops.entries c.insert.new.self.entries c.args.place (record { entry = c.args.entry; invariant = c.args.invariant }) c.in_ok-insert.ensures.entries are own
