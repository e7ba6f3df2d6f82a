use Rattle.std.proofs.Common.{refl, length, arith}
use Rattle.flow_syntax.proofs.ValuesMade.{taken_fits}
use Rattle.flow_syntax.proofs.building.build.Goals as goal

pub take_back-requires : goal.take_back-requires
take_back-requires g c κs =
    let fits = taken_fits c.args.steps.now c.steps.left c.steps.at (length c.args.toks.now) _ c.steps-test.true c.steps.invariant.left c.steps.invariant.place c.requires.taken in
    ((refl, tt), (fits, omega (arith, c.steps.invariant.place)))
