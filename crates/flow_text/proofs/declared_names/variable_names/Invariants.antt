use Rattle.std.proofs.Common.{◌≡◌, [], length}
use Rattle.flow_syntax.specs.SyntaxViews.{items_syntax}
use Rattle.flow_text.proofs.NameSteps.{with_variables}
use Rattle.flow_text.proofs.declared_names.variable_names.Given as goal

-- the names so far, and those of the items that are left
abbrev pub invariant-items : goal.invariant-items
invariant-items l = with_variables l.names.items (items_syntax l.rest) ≡ with_variables [] (items_syntax l.fn.items)

abbrev pub decreases-items : goal.decreases-items
decreases-items l = length l.rest
