use Rattle.std.proofs.Common.{length, ap, refl, subst, take_all}
use Rattle.flow_model.specs.Matches.{Match}
use Rattle.flow_model.specs.declared.block_match.BlockMatch.{BlockMatch}
use Rattle.flow_matches.proofs.MarkedBlocks.{AreSet, set_next, all_set}
use Rattle.flow_matches.proofs.tables.marks_after.Goals as goal

pub loop-one-preserved : goal.loop-one-preserved
loop-one-preserved c =
    set_next (λ (m : BlockMatch). m.after) (length c.args.blocks.now) c.args.matches.now c.loop-one.one-index c.one-item.result _ _ _
    c.loop-one-test.true c.loop-one.invariant c.mark.ensures (ap (λ (m : BlockMatch). m.after) c.one-item.is)

pub returns : goal.returns
returns c =
    all_set (λ (m : BlockMatch). m.after) (λ (m : Match). m.after) (λ m. refl) (length c.args.blocks.now) c.loop-one.marks.items c.args.matches.now
    (subst (AreSet (λ (m : BlockMatch). m.after) (length c.args.blocks.now) c.loop-one.marks.items) (take_all c.loop-one.one-index c.args.matches.now c.loop-one-test.false) c.loop-one.invariant) c.requires
