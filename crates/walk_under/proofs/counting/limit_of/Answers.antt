use Rattle.std.proofs.Common.{true, false, ◌∙◌}
use Rattle.std.proofs.lemmas.List.{get_or_default}
use Rattle.walk_under.proofs.Uncounted.{some_uncounted}
use Rattle.walk_under.proofs.counting.limit_of.Goals as goal

pub returns-then-not-counted : goal.returns-then-not-counted
returns-then-not-counted c =
    let counts = c.args.counts.now in
    let k = c.loop-counted.counted-index in
    some_uncounted counts k (get_or_default counts k true false c.loop-counted-test.true ∙ c.if-not-counted.true)
