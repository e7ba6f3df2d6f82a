use Rattle.std.proofs.Common.{ap, ◌∙◌}
use Rattle.while_lang.specs.Trees.{goal_tree}
use Rattle.store_trials.specs.Numbers.{tried, AreTriedNumbers}
use Rattle.store_trials.proofs.StoreBounds.{are_tried, numbers_within, some_number}
use Rattle.store_trials.proofs.numbers.tried_numbers.Goals as goal

pub returns : goal.returns
returns c =
    let g = goal_tree c.args.goal.now in
    let are : AreTriedNumbers c.args.width g c.ascending.result.items =
    are_tried c.args.width g c.in_ok-numbers.numbers.items c.in_ok-near.near.items c.ascending.result.items c.in_ok-numbers.ensures (c.in_ok-near.ensures ∙ ap (tried c.args.width) c.deref.ensures.value) c.ascending.ensures.ascending c.ascending.ensures.members in
    record { numbers = are; some = some_number c.args.width g c.ascending.result.items are; within = numbers_within c.args.width g c.ascending.result.items are }
