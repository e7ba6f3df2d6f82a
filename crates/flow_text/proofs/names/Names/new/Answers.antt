use Rattle.std.proofs.Common.{rules}
use Rattle.flow_text.specs.ScopeViews.{names_of}
use Rattle.flow_text.proofs.names.Names.new.Goals as goal

pub returns : goal.returns
unfolding names_of
returns c = search rules
