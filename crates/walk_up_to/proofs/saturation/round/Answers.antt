use Rattle.std.proofs.Common.{subst}
use Rattle.std.specs.Prelude.{IfOk, OnOk}
use Rattle.walk_up_to.specs.Marks.{IsMade, IsMore, MarkSetParts}
use Rattle.walk_up_to.proofs.saturation.round.Goals as goal

pub returns-clause-made : goal.returns-clause-made
returns-clause-made c =
    subst (λ (m : MarkSetParts). OnOk c.add_all.result (IsMade c.args.listed.now.pairs m.marks c.add_all.new.marked.marks)) c.spend.ensures c.add_all.ensures.made

pub returns-clause-more : goal.returns-clause-more
returns-clause-more c = subst (λ (m : MarkSetParts). IfOk c.add_all.result (IsMore m c.add_all.new.marked)) c.spend.ensures c.add_all.ensures.more
