use Rattle.std.proofs.Common.{ap, ◌∙◌}
use Rattle.kat_model.specs.Strings.{Move}
use Rattle.walk_under.proofs.counting.atom_after.Goals as goal

pub returns : goal.returns
returns c = c.as_slice.ensures ∙ ap (λ (m : Move). m.atom) c.m.view_is
