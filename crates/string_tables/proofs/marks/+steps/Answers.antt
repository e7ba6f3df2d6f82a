use Rattle.std.proofs.Common.{◌≡◌, refl, sym, ap, ◌∙◌}
use Rattle.kat_model.specs.Trees.{kat_tree, sum, product, star, term_height}
use Rattle.string_tables.specs.Working.Marks.{mark_tree}
use Rattle.string_tables.proofs.MarkedTerms.{rests, stays}
use Rattle.string_tables.proofs.StepMeasures.{parts_fall, body_falls, first_falls, second_falls, both_fall}
use Rattle.string_tables.proofs.marks.+steps.Goals as goal

pub step-returns-then-is_nowhere-clause-end : goal.step-returns-then-is_nowhere-clause-end
step-returns-then-is_nowhere-clause-end t c = rests c.args.atom.now (kat_tree c.args.term.now) (mark_tree c.args.marks.now) c.args.begins c.if-not-begins.true (sym c.is_nowhere.ensures ∙ c.if-is_nowhere.true)

pub step-returns-then-is_nowhere-clause-marks : goal.step-returns-then-is_nowhere-clause-marks
step-returns-then-is_nowhere-clause-marks t c = stays c.args.atom.now (kat_tree c.args.term.now) (mark_tree c.args.marks.now) c.args.begins c.args.act c.if-not-begins.true (sym c.is_nowhere.ensures ∙ c.if-is_nowhere.true)

pub step-step_parts-requires : goal.step-step_parts-requires
step-step_parts-requires t c =
    let tree : kat_tree c.args.term.now ≡ sum (kat_tree c.deref.result.now) (kat_tree c.deref-in-Sum.result.now) = rw (c.in-Sum.is, c.deref.ensures, c.deref-in-Sum.ensures) refl in
    (parts_fall _ _ _ t c.decreases (ap term_height tree), rw tree at c.requires)

pub step-step_parts-requires-in-Seq : goal.step-step_parts-requires-in-Seq
step-step_parts-requires-in-Seq t c =
    let tree : kat_tree c.args.term.now ≡ product (kat_tree c.deref-in-Seq.result.now) (kat_tree c.deref-in-Seq-2.result.now) = rw (c.in-Seq.is, c.deref-in-Seq.ensures, c.deref-in-Seq-2.ensures) refl in
    (parts_fall _ _ _ t c.decreases (ap term_height tree), rw tree at c.requires)

pub step-step-requires : goal.step-step-requires
step-step-requires t c =
    let tree : kat_tree c.args.term.now ≡ star (kat_tree c.deref-in-Star.result.now) = rw (c.in-Star.is, c.deref-in-Star.ensures) refl in
    (body_falls _ _ t c.decreases (ap term_height tree), rw tree at c.requires)

pub step-reach-starts-requires : goal.step-reach-starts-requires
step-reach-starts-requires t c =
    let tree : kat_tree c.args.term.now ≡ star (kat_tree c.deref-else-begins-2.result.now) = rw (c.in-Star.is, c.deref-else-begins-2.ensures) refl in
    rw tree at c.requires

pub step-reach-ends-requires : goal.step-reach-ends-requires
step-reach-ends-requires t c = c.requires

pub step_both-step-requires : goal.step_both-step-requires
step_both-step-requires t c = (first_falls _ _ t c.decreases, c.requires.first)

pub step_both-step-requires-then-chained : goal.step_both-step-requires-then-chained
step_both-step-requires-then-chained t c = (second_falls _ _ t c.decreases, c.requires.second)

pub step_both-step-requires-2 : goal.step_both-step-requires-2
step_both-step-requires-2 t c = (second_falls _ _ t c.decreases, c.requires.second)

pub step_parts-step_both-requires : goal.step_parts-step_both-requires
step_parts-step_both-requires t c = (both_fall _ _ t c.decreases, (c.requires.first, c.requires.second))

pub step_parts-step_both-requires-in-Nowhere : goal.step_parts-step_both-requires-in-Nowhere
step_parts-step_both-requires-in-Nowhere t c = (both_fall _ _ t c.decreases, (c.requires.first, c.requires.second))
