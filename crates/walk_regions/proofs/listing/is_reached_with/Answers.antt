use Rattle.std.proofs.Common.{◌≡◌, sym, ap, ◌∙◌}
use Rattle.std.proofs.lemmas.Bool.{both_ways}
use Rattle.test_diagrams.specs.Functions.{value_of}
use Rattle.walk_regions.specs.Entries.{EntryParts}
use Rattle.walk_regions.proofs.listing.is_reached_with.Goals as goal

pub returns-then-same : goal.returns-then-same
returns-then-same c =
    let value : c.value_at.result ≡ value_of c.args.diagrams.now c.args.entry.now.test c.args.atom.now =
    c.value_at.ensures.value ∙ ap (λ (e : EntryParts). value_of c.args.diagrams.now e.test c.args.atom.now) c.entry.view_is in (
      (λ h. (c.is_with-same.ensures.0 c.if-same.true, sym value ∙ h)),
      (λ p. value ∙ p.1),
    )

pub returns-else-same : goal.returns-else-same
returns-else-same c = ((λ h. absurd (both_ways c.is_with-same.result c.if-same.false h)), (λ p. absurd (both_ways c.is_with-same.result c.if-same.false (c.is_with-same.ensures.1 p.0))))
