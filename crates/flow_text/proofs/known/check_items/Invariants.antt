use Rattle.std.proofs.Common.{◌≡◌, length}
use Rattle.flow_text.specs.Checking.{nothing_known, items_known}
use Rattle.flow_text.specs.KnownViews.{known_parts}
use Rattle.flow_syntax.specs.SyntaxViews.{items_syntax}
use Rattle.flow_text.proofs.known.check_items.Given as goal

-- what is known so far, and the items that are left
abbrev pub invariant-items : goal.invariant-items
invariant-items l = items_known (known_parts l.known) (items_syntax l.items.items) ≡ items_known nothing_known (items_syntax l.initial.items.items)

abbrev pub decreases-items : goal.decreases-items
decreases-items l = length l.items.items
