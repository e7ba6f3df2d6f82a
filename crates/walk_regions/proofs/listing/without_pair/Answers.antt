use Rattle.std.proofs.Common.{◌≡◌, sym, subst, IfOk}
use Rattle.std.proofs.lemmas.Bool.{both_ways}
use Rattle.std.proofs.lemmas.Result.{IfOk-weaker}
use Rattle.test_diagrams.proofs.Kept.{KeepsFunctions-itself}
use Rattle.walk_regions.specs.Entries.{EntryParts}
use Rattle.walk_regions.specs.Listings.{IsWithoutPair}
use Rattle.walk_regions.proofs.PartCases.{always_ok}
use Rattle.walk_regions.proofs.FreshParts.{with_other, without_same}
use Rattle.walk_regions.proofs.listing.without_pair.Goals as goal

pub returns-then-same-clause-without : goal.returns-then-same-clause-without
returns-then-same-clause-without c =
    let left = c.args.left.now in
    let right = c.args.right.now in
    let e : EntryParts = record { left = c.entry.inside.left; right = c.entry.inside.right; test = c.entry.inside.test; level = c.entry.inside.level; origin = c.entry.inside.origin } in
    let same : (e.left ≡ left) × (e.right ≡ right) = subst (λ (x : EntryParts). (x.left ≡ left) × (x.right ≡ right)) (sym c.entry.view_is) (c.has_sets-same.ensures.0 c.if-same.true) in
    subst (λ (x : EntryParts). IfOk c.and_not.result (IsWithoutPair c.args.diagrams.now c.and_not.new.diagrams x left right c.args.id)) c.entry.view_is
    (IfOk-weaker c.and_not.result _ _ (λ id is. without_same c.args.diagrams.now c.and_not.new.diagrams e left right c.args.id id same is) c.and_not.ensures.function)

pub returns-then-same-clause-kept : goal.returns-then-same-clause-kept
returns-then-same-clause-kept c = always_ok c.and_not.result c.and_not.ensures.kept

pub returns-clause-without : goal.returns-clause-without
returns-clause-without c =
    with_other c.args.diagrams.now c.args.entry.now c.args.left.now c.args.right.now c.args.id c.requires.id
    (λ p. both_ways c.has_sets-same.result c.if-same.false (c.has_sets-same.ensures.1 p))

pub returns-clause-kept : goal.returns-clause-kept
returns-clause-kept c = KeepsFunctions-itself c.args.diagrams.now
