use Rattle.outline_rules.proofs.Images.{image_tail}
use Rattle.outline_rules.proofs.steps.StepDiagrams.image.Goals as goal

pub returns-clause-image : goal.returns-clause-image
returns-clause-image c =
    image_tail c.moved_before.result c.args.self.now c.from_some.new.self c.moved_before.new.self c.args.relation c.in_ok-ends.ends c.in_ok-ends.ensures.kept c.moved_before.ensures.kept c.in_ok-ends.ensures.function c.moved_before.ensures.function
