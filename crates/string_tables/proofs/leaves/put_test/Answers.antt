use Rattle.std.proofs.Common.{◌<◌, length, ap, ◌∙◌, subst}
use Rattle.kat_model.specs.Trees.{test_tree}
use Rattle.kat_model.specs.Problems.{IsTestInRange}
use Rattle.kat_model.specs.Relations.{Table}
use Rattle.string_tables.proofs.Readings.{atom_read}
use Rattle.string_tables.proofs.leaves.put_test.Goals as goal

pub truth_at-requires : goal.truth_at-requires
truth_at-requires c =
    let shown = c.as_slice-truths.ensures ∙ ap (λ (t : Table). t.truths) c.table.view_is in
    let within : c.loop-i.i < c.args.table.now.states = subst (λ n. c.loop-i.i < n) (ap (λ (t : Table). t.states) c.table.view_is) c.loop-i-test.true in
    let atom = atom_read c.args.table.now c.requires.whole _ c.loop-i.i _ _ within shown c.index-truths-i.is c.as_slice.ensures in
    subst (λ a. IsTestInRange (length a) (test_tree c.args.test.now)) atom (c.requires.tests c.loop-i.i within)
