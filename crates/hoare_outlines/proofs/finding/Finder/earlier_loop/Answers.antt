use Rattle.std.proofs.Common.{◌∙◌, nat_eq}
use Rattle.std.proofs.lemmas.Bool.{eqb-true}
use Rattle.hoare_outlines.proofs.KeptLoops.{found_earlier}
use Rattle.hoare_outlines.proofs.finding.Finder.earlier_loop.Goals as goal

pub returns : goal.returns
returns c = found_earlier nat_eq eqb-true c.args.self.now.loops.entries c.args.place c.copied.result (c.copied.ensures ∙ c.get.ensures.value)
