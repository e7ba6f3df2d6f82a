use Rattle.std.proofs.Common.{refl, ◌∙◌}
use Rattle.cert_checker.proofs.places.place_of.Goals as goal

pub returns : goal.returns
returns c = (refl, refl, c.in_ok-atom.ensures.items_if_clones_equal (λ a b e. e) ∙ c.split_at.ensures.front, c.in_ok-to.ensures.items_if_clones_equal (λ a b e. e) ∙ c.split_at.ensures.back)
