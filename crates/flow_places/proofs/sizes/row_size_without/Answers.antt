use Rattle.std.proofs.Common.{◌∙◌, ap, map}
use mathlib.Core.Path.{ap₂}
use Rattle.kat_model.specs.Trees.{kat_tree}
use Rattle.flow_places.specs.Elimination.{repeated}
use Rattle.flow_places.specs.Rows.{first_step, later_steps}
use Rattle.flow_places.specs.Shapes.{shape_of, ways_size}
use Rattle.flow_places.proofs.TermShapes.{row-sizes}
use Rattle.flow_places.proofs.sizes.row_size_without.Goals as goal

pub returns : goal.returns
returns c =
    c.saturating_add.ensures
    ∙ row-sizes (first_step (map kat_tree c.args.row.now.steps.items)) (repeated (first_step (map kat_tree c.args.last.now.steps.items)))
    (kat_tree c.args.row.now.end) (kat_tree c.args.last.now.end)
    (later_steps (map kat_tree c.args.row.now.steps.items)) (later_steps (map kat_tree c.args.last.now.steps.items))
    c.steps_size-steps.result c.way_size-end.result c.first_shape-to.result c.args.around
    (c.first_shape-to.ensures ∙ ap (λ xs. shape_of (first_step (map kat_tree xs))) c.deref.ensures.value)
    c.requires
    (c.steps_size-steps.ensures
    ∙ ap₂ (λ xs ys. ways_size c.first_shape-to.result c.args.around xs ys)
    (c.later_steps.ensures ∙ ap (λ xs. later_steps (map kat_tree xs)) c.deref-2.ensures.value)
    (c.later_steps-2.ensures ∙ ap (λ xs. later_steps (map kat_tree xs)) c.deref-3.ensures.value))
    c.way_size-end.ensures
