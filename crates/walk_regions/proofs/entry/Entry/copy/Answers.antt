use Rattle.std.proofs.Common.{ℕ, List, ◌∙◌}
use mathlib.Core.Path.{ap₂}
use Rattle.walk_regions.specs.Entries.{EntryParts}
use Rattle.walk_regions.proofs.entry.Entry.copy.Goals as goal

abbrev with_sets : EntryParts → List ℕ → List ℕ → EntryParts
with_sets e left right = record { left = left; right = right; test = e.test; level = e.level; origin = e.origin }

pub returns : goal.returns
returns c =
    let own : EntryParts = record { left = c.self.inside.left; right = c.self.inside.right; test = c.self.inside.test; level = c.self.inside.level; origin = c.self.inside.origin } in
    ap₂ (λ l r. with_sets own l r) (c.of.ensures ∙ c.in_ok-left.ensures.items ∙ c.as_slice.ensures) (c.of-2.ensures ∙ c.in_ok-right.ensures.items ∙ c.as_slice-2.ensures) ∙ c.self.view_is
