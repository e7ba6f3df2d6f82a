use Rattle.std.proofs.Common.{[], ◌∷◌, ap, ◌∙◌}
use Rattle.kat_model.specs.Trees.{kat_tree}
use Rattle.kat_model.specs.Strings.{Move, accepts}
use Rattle.walk_under.proofs.counting.breaks_on.Goals as goal

pub returns : goal.returns
returns c =
    let h = kat_tree c.args.hyp.now in
    c.accepts_move.ensures ∙ ap (λ a. accepts h c.args.from.now (record { act = c.m.inside.act; atom = a } ∷ [])) c.as_slice.ensures ∙ ap (λ (m : Move). accepts h c.args.from.now (m ∷ [])) c.m.view_is
