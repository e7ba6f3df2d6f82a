use Rattle.walk_under.proofs.Uncounted.{set_no_more, set_keeps}
use Rattle.walk_under.proofs.counting.count_if.Goals as goal

pub returns-clause-fewer : goal.returns-clause-fewer
returns-clause-fewer c = set_no_more c.args.counts.now c.args.place

pub returns-clause-kept : goal.returns-clause-kept
returns-clause-kept c = set_keeps c.args.counts.now c.args.place
