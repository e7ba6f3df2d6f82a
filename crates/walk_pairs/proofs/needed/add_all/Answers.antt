use Rattle.walk_pairs.proofs.KeySets.{adds_next, inserted_kept}
use Rattle.walk_pairs.proofs.needed.add_all.Goals as goal

pub loop-term-preserved : goal.loop-term-preserved
loop-term-preserved c =
    record {
      added = adds_next c.args.set.now.keys c.loop-term.set.keys c.insert.new.self.keys c.args.terms.now c.loop-term.term-index c.term-item.result c.loop-term-test.true c.term-item.is c.in_ok-insert.ensures.keys c.loop-term.invariant.added;
      kept = inserted_kept c.args.set.now.keys c.loop-term.set.keys c.insert.new.self.keys c.term-item.result c.in_ok-insert.ensures.keys c.loop-term.invariant.kept;
    }
