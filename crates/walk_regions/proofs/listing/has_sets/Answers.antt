use Rattle.std.proofs.Common.{◌≡◌, sym, ap, ◌∙◌}
use Rattle.std.proofs.lemmas.Bool.{both_ways}
use Rattle.walk_regions.specs.Entries.{EntryParts}
use Rattle.walk_regions.proofs.listing.has_sets.Goals as goal

pub returns-then-same_left : goal.returns-then-same_left
returns-then-same_left c =
    let left : c.as_slice-own_left.result.now ≡ c.args.entry.now.left = c.as_slice-own_left.ensures ∙ ap (λ (e : EntryParts). e.left) c.entry.view_is in
    let right : c.as_slice-own_right.result.now ≡ c.args.entry.now.right = c.as_slice-own_right.ensures ∙ ap (λ (e : EntryParts). e.right) c.entry.view_is in (
      (λ h. (sym left ∙ c.are_same-same_left.ensures.0 c.if-same_left.true, sym right ∙ c.are_same-same_right.ensures.0 h)),
      (λ p. c.are_same-same_right.ensures.1 (right ∙ p.1)),
    )

pub returns-else-same_left : goal.returns-else-same_left
returns-else-same_left c =
    let left : c.as_slice-own_left.result.now ≡ c.args.entry.now.left = c.as_slice-own_left.ensures ∙ ap (λ (e : EntryParts). e.left) c.entry.view_is in (
      (λ h. absurd (both_ways c.are_same-same_left.result c.if-same_left.false h)),
      (λ p. absurd (both_ways c.are_same-same_left.result c.if-same_left.false (c.are_same-same_left.ensures.1 (left ∙ p.0)))),
    )
