use Rattle.std.proofs.Common.{◌<◌, length, ap, ◌∙◌, subst}
use Rattle.kat_model.specs.Trees.{test_tree}
use Rattle.kat_model.specs.Problems.{IsTestInRange}
use Rattle.kat_model.specs.Relations.{Table}
use Rattle.string_tables.proofs.Readings.{atom_read}
use Rattle.string_tables.proofs.leaves.keep_true.Goals as goal

pub truth_at-requires : goal.truth_at-requires
truth_at-requires c =
    let shown = c.as_slice-truths.ensures ∙ ap (λ (t : Table). t.truths) c.table.view_is in
    let within : c.loop-j.j < c.args.table.now.states = subst (λ n. c.loop-j.j < n) (ap (λ (t : Table). t.states) c.table.view_is) c.loop-j-test.true in
    let atom = atom_read c.args.table.now c.requires.whole _ c.loop-j.j _ _ within shown c.index-truths-j.is c.as_slice.ensures in
    subst (λ a. IsTestInRange (length a) (test_tree c.args.test.now)) atom (c.requires.tests c.loop-j.j within)
