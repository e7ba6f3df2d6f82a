use Rattle.std.proofs.Common.{refl, ap, ◌∙◌}
use Rattle.walk_regions.specs.Parts.{with_if}
use Rattle.walk_regions.proofs.parts.part_at.Goals as goal

pub returns : goal.returns
returns c = (
  refl,
  c.in_ok-left.ensures ∙ ap (λ ts. with_if c.args.left ts c.args.item.now.target) c.deref.ensures.value,
  c.in_ok-right.ensures ∙ ap (λ ts. with_if c.args.right ts c.args.item.now.target) c.deref-2.ensures.value,
)
