use Rattle.test_diagrams.proofs.Kept.{KeepsFunctions-itself, KeepsFunctions-trans}
use Rattle.walk_regions.proofs.Marking.{read_entry}
use Rattle.walk_regions.proofs.reaching.add_pairs.Goals as goal

pub add_pair-requires-clause-test : goal.add_pair-requires-clause-test
add_pair-requires-clause-test c = c.loop-entry.invariant.kept.ids c.entry-item.result.test (c.requires.tests c.entry-item.result (read_entry c.args.entries.now c.loop-entry.entry-index c.entry-item.result c.loop-entry-test.true c.entry-item.is))

pub loop-entry-preserved : goal.loop-entry-preserved
loop-entry-preserved c =
    let before = c.loop-entry.invariant in
    record {
      kept = KeepsFunctions-trans c.args.diagrams.now c.loop-entry.diagrams c.add_pair.new.diagrams before.kept c.in_ok-add_pair.ensures.kept;
      ids = c.in_ok-add_pair.ensures.ids;
      marks = λ all m. c.in_ok-add_pair.ensures.marks c.args.entries.now all (before.marks all m) (read_entry c.args.entries.now c.loop-entry.entry-index c.entry-item.result c.loop-entry-test.true c.entry-item.is);
    }

pub loop-entry-init : goal.loop-entry-init
loop-entry-init c = record { kept = KeepsFunctions-itself c.args.diagrams.now; ids = c.requires.marks; marks = λ all m. m }

pub returns-in_err-add_pair-clause-kept : goal.returns-in_err-add_pair-clause-kept
returns-in_err-add_pair-clause-kept c = KeepsFunctions-trans _ _ _ c.loop-entry.invariant.kept c.in_err-add_pair.ensures.kept
