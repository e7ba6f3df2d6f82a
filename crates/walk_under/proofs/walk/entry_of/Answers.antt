use Rattle.std.proofs.Common.{ℕ, List, ◌∙◌}
use mathlib.Core.Path.{ap₂}
use Rattle.walk_regions.specs.Entries.{EntryParts}
use Rattle.walk_under.specs.Working.Walking.{new_ids}
use Rattle.walk_under.proofs.walk.entry_of.Goals as goal

abbrev with_sets : EntryParts → List ℕ → List ℕ → EntryParts
with_sets e left right = record { left = left; right = right; test = e.test; level = e.level; origin = e.origin }

pub returns : goal.returns
returns c =
    ap₂ (λ l r. with_sets (new_ids c.args.source.now c.args.part.now c.args.test) l r)
    (c.of.ensures ∙ c.in_ok-left.ensures.items ∙ c.deref.ensures.value)
    (c.of-2.ensures ∙ c.in_ok-right.ensures.items ∙ c.deref-2.ensures.value)
