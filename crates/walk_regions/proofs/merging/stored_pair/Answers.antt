use Rattle.std.proofs.Common.{refl, ap, ◌∙◌}
use Rattle.walk_regions.specs.Entries.{EntryParts}
use Rattle.walk_regions.proofs.merging.stored_pair.Goals as goal

pub returns : goal.returns
returns c = (
  c.of.ensures ∙ c.in_ok-left.ensures.items ∙ c.as_slice.ensures ∙ ap (λ (e : EntryParts). e.left) c.entry.view_is,
  c.of-2.ensures ∙ c.in_ok-right.ensures.items ∙ c.as_slice-2.ensures ∙ ap (λ (e : EntryParts). e.right) c.entry.view_is,
  refl,
)
