use Rattle.std.proofs.Common.{refl, ◌∙◌}
use Rattle.std.proofs.lemmas.Option.{none-some}
use Rattle.term_nodes.proofs.Growing.{Grows-trans}
use Rattle.walk_under.proofs.deciding.own_sides.Goals as goal

pub returns-clause-ids : goal.returns-clause-ids
returns-clause-ids c =
    let grows = c.in_ok-right.ensures.grows in
    let left = c.in_ok-left.ensures in
    let right = c.in_ok-right.ensures in
    record {
      left_id = grows.term_numbers c.in_ok-left.left left.is_id;
      left = grows.trees c.in_ok-left.left left.is_id ∙ left.tree ∙ c.left.ensures.value;
      right_id = right.is_id;
      right = right.tree ∙ c.right.ensures.value;
      universal_id = λ u e. absurd (none-some u e);
      universal = refl;
    }

pub returns-in_err-right-clause-kept : goal.returns-in_err-right-clause-kept
returns-in_err-right-clause-kept c = Grows-trans _ _ _ c.in_ok-left.ensures.grows c.in_err-right.ensures.grows

pub returns-clause-kept : goal.returns-clause-kept
returns-clause-kept c = Grows-trans _ _ _ c.in_ok-left.ensures.grows c.in_ok-right.ensures.grows

pub returns-in_err-left-clause-kept : goal.returns-in_err-left-clause-kept
returns-in_err-left-clause-kept c = c.in_err-left.ensures.grows
