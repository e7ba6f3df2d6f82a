use Rattle.std.proofs.Common.{◌≡◌, sym, ap, ◌∙◌}
use Rattle.std.proofs.lemmas.Bool.{eqb-true}
use Rattle.walk_regions.specs.Entries.{EntryParts}
use Rattle.walk_regions.proofs.listing.is_with.Goals as goal

pub returns-then-same_level : goal.returns-then-same_level
returns-then-same_level c =
    let level : c.args.entry.now.level ≡ c.args.pair.now.level =
    sym (ap (λ (e : EntryParts). e.level) c.entry.view_is) ∙ c.if-same_level.true ∙ ap (λ (e : EntryParts). e.level) c.pair.view_is in
    let left : c.as_slice.result.now ≡ c.args.pair.now.left = c.as_slice.ensures ∙ ap (λ (e : EntryParts). e.left) c.pair.view_is in
    let right : c.as_slice-then-same_level.result.now ≡ c.args.pair.now.right = c.as_slice-then-same_level.ensures ∙ ap (λ (e : EntryParts). e.right) c.pair.view_is in (
      (λ h. let s = c.has_sets.ensures.0 h in record { left = s.0 ∙ left; right = s.1 ∙ right; level = level }),
      (λ is. c.has_sets.ensures.1 (is.left ∙ sym left, is.right ∙ sym right)),
    )

pub returns-else-same_level : goal.returns-else-same_level
returns-else-same_level c = (
  (λ h. absurd (c.if-same_level.false (eqb-true c.entry.inside.level c.pair.inside.level h))),
  (λ is. absurd (c.if-same_level.false (ap (λ (e : EntryParts). e.level) c.entry.view_is ∙ is.level ∙ sym (ap (λ (e : EntryParts). e.level) c.pair.view_is)))),
)
