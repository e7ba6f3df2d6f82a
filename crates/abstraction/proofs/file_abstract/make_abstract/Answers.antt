use Rattle.std.proofs.Common.{◌≡◌, ◌∙◌, ap, map, subst, refl}
use Rattle.kat_model.specs.Trees.{kat_tree}
use Rattle.goal_forms.specs.Sides.{side_trees}
use Rattle.while_lang.specs.Trees.{goal_tree}
use Rattle.abstraction.specs.Rounds.{tables_of}
use Rattle.abstraction.specs.Goals.{goal_sides}
use Rattle.abstraction.specs.Derived.{hypotheses}
use Rattle.abstraction.specs.Abstracts.{with_goal, abstract_parts}
use Rattle.abstraction.specs.Working.FileTables.{parts_with, IsWithinLimits}
use Rattle.abstraction.proofs.WholeAbstracts.{whole}
use Rattle.abstraction.proofs.file_abstract.make_abstract.Goals as goal

pub returns : goal.returns
returns c =
    let f = with_goal c.args.file.now (goal_tree c.args.goal.now) in
    let made = c.in_ok-tables.ensures in
    let tables : c.in_ok-tables.tables ≡ tables_of f = made.0 in
    let terms : map kat_tree c.deref.result.now ≡ f.hyps = ap (map kat_tree) c.deref.ensures.value ∙ ap (λ g. g.hyps) c.file.view_is in
    let hyps : c.in_ok-hyps.hyps.items ≡ hypotheses (tables_of f) f.hyps = c.in_ok-hyps.ensures ∙ rw (tables, terms) refl in
    let sides : side_trees c.in_ok-sides.sides ≡ goal_sides (tables_of f) f.goal = c.in_ok-sides.ensures ∙ ap (λ t. goal_sides t f.goal) tables in
    let same : parts_with c.in_ok-tables.tables (side_trees c.in_ok-sides.sides) c.in_ok-hyps.hyps.items ≡ abstract_parts f =
    ap (λ t. parts_with t (side_trees c.in_ok-sides.sides) c.in_ok-hyps.hyps.items) tables ∙ ap (λ s. parts_with (tables_of f) s c.in_ok-hyps.hyps.items) sides
    ∙ ap (parts_with (tables_of f) (goal_sides (tables_of f) f.goal)) hyps in
    whole f c.requires.numbers made.1 made.2 c.abstract_with.result (subst (λ a. IsWithinLimits a c.abstract_with.result) same c.abstract_with.ensures)
