use Rattle.std.proofs.Common.{ℕ, List, ◌∙◌}
use mathlib.Core.Path.{ap₂}
use Rattle.walk_regions.specs.Entries.{EntryParts}
use Rattle.walk_under.specs.Working.Walking.{first_ids}
use Rattle.walk_under.proofs.walk.first_entry.Goals as goal

abbrev with_sets : EntryParts → List ℕ → List ℕ → EntryParts
with_sets e left right = record { left = left; right = right; test = e.test; level = e.level; origin = e.origin }

pub returns : goal.returns
returns c = ap₂ (λ l r. with_sets (first_ids c.args.sides.now c.args.test) l r) (c.of.ensures ∙ c.in_ok-left.ensures.items) (c.of-2.ensures ∙ c.in_ok-right.ensures.items)
