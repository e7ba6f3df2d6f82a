use Rattle.std.proofs.Common.{ap, ◌∙◌}
use Rattle.flow_syntax.specs.SyntaxViews.{items_syntax}
use Rattle.flow_syntax.proofs.Stacked.{items_none}
use Rattle.flow_syntax.proofs.Taken.{items_held, no_items_held}
use Rattle.flow_syntax.proofs.value.Value.into_items.Goals as goal

pub returns-in-Items : goal.returns-in-Items
returns-in-Items c = items_held c.args.self c.in-Items.items c.in-Items.is

pub returns : goal.returns
returns c = ap items_syntax c.new.ensures.items ∙ items_none ∙ no_items_held c.args.self c.in_default.not-Items
