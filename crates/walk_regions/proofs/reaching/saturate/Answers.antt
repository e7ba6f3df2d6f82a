use Rattle.test_diagrams.proofs.Kept.{KeepsFunctions-itself, KeepsFunctions-trans}
use Rattle.walk_regions.proofs.reaching.saturate.Goals as goal

pub loop-init : goal.loop-init
loop-init c = record { kept = KeepsFunctions-itself c.args.diagrams.now; ids = c.requires.marks; marks = λ all m. m }

pub add_pairs-requires-clause-tests : goal.add_pairs-requires-clause-tests
add_pairs-requires-clause-tests c e h = c.loop.invariant.kept.ids e.test (c.requires.tests e h)

pub returns-in_err-add_pairs-clause-kept : goal.returns-in_err-add_pairs-clause-kept
returns-in_err-add_pairs-clause-kept c = KeepsFunctions-trans _ _ _ c.loop.invariant.kept c.in_err-add_pairs.ensures.kept

pub loop-preserved : goal.loop-preserved
loop-preserved c =
    let before = c.loop.invariant in
    record {
      kept = KeepsFunctions-trans _ _ _ before.kept c.in_ok-add_pairs.ensures.kept;
      ids = c.in_ok-add_pairs.ensures.ids;
      marks = λ all m. c.in_ok-add_pairs.ensures.marks all (before.marks all m);
    }
