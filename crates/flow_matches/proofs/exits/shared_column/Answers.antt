use Rattle.std.proofs.Common.{◌∙◌}
use Rattle.flow_matches.proofs.SharedColumns.{not_ambiguous_past, not_ambiguous_here, places_share}
use Rattle.flow_matches.proofs.exits.shared_column.Goals as goal

pub returns-in-Some : goal.returns-in-Some
returns-in-Some c = λ matches.
    places_share matches c.args.exits.now c.loop-place.place c.index-exits-place.result c.loop-place-test.true c.index-exits-place.is c.in-Some.other (c.in-Some.ensures matches)

pub loop-place-preserved : goal.loop-place-preserved
loop-place-preserved c = λ matches.
    c.loop-place.invariant matches ∙ not_ambiguous_here matches c.args.exits.now c.loop-place.place c.index-exits-place.result c.loop-place-test.true c.index-exits-place.is (c.in_default.ensures matches)

pub returns : goal.returns
returns c = λ matches. c.loop-place.invariant matches ∙ not_ambiguous_past matches c.args.exits.now c.loop-place.place c.loop-place-test.false
