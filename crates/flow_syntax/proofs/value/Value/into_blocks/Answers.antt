use Rattle.std.proofs.Common.{ap, ◌∙◌}
use Rattle.flow_syntax.specs.SyntaxViews.{blocks_syntax}
use Rattle.flow_syntax.proofs.Stacked.{blocks_none}
use Rattle.flow_syntax.proofs.Taken.{blocks_held, no_blocks_held}
use Rattle.flow_syntax.proofs.value.Value.into_blocks.Goals as goal

pub returns-in-Blocks : goal.returns-in-Blocks
returns-in-Blocks c = blocks_held c.args.self c.in-Blocks.blocks c.in-Blocks.is

pub returns : goal.returns
returns c = ap blocks_syntax c.new.ensures.items ∙ blocks_none ∙ no_blocks_held c.args.self c.in_default.not-Blocks
