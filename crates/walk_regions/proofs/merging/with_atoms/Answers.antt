use Rattle.std.proofs.Common.{◌≡◌, ◌++◌, ◌∷◌, [], List, sym, subst, IfOk}
use Rattle.std.proofs.lemmas.Bool.{both_ways}
use Rattle.std.proofs.lemmas.Result.{IfOk-weaker}
use Rattle.test_diagrams.proofs.Kept.{KeepsFunctions-itself}
use Rattle.test_diagrams.specs.Functions.{DiagramsParts, IsDiagramId, KeepsFunctions}
use Rattle.walk_regions.specs.Entries.{EntryParts}
use Rattle.walk_regions.specs.Merging.{AreAtomsOf}
use Rattle.walk_regions.proofs.MergedIds.{atoms_same, atoms_more}
use Rattle.walk_regions.proofs.merging.with_atoms.Goals as goal

pub returns-then-same-clause-atoms : goal.returns-then-same-clause-atoms
returns-then-same-clause-atoms c =
    let old = c.args.diagrams.now in
    let new = c.or.new.self in
    let left = c.args.left.now in
    let right = c.args.right.now in
    let e : EntryParts = record { left = c.entry.inside.left; right = c.entry.inside.right; test = c.entry.inside.test; level = c.entry.inside.level; origin = c.entry.inside.origin } in
    let same : (e.left ≡ left) × (e.right ≡ right) = subst (λ (x : EntryParts). (x.left ≡ left) × (x.right ≡ right)) (sym c.entry.view_is) (c.has_sets-same.ensures.0 c.if-same.true) in
    subst (λ (x : EntryParts). IfOk c.or.result (λ id. (d : DiagramsParts) (es : List EntryParts) → KeepsFunctions d old → IsDiagramId d x.test → AreAtomsOf d old es left right c.args.id → AreAtomsOf d new (es ++ x ∷ []) left right id)) c.entry.view_is
    (IfOk-weaker c.or.result _ _ (λ id is d es kept own a. atoms_more d old new es e left right c.args.id id kept c.or.ensures.kept own same is a) c.or.ensures.function)

pub returns-clause-atoms : goal.returns-clause-atoms
returns-clause-atoms c d es kept own a =
    atoms_same d c.args.diagrams.now es c.args.entry.now c.args.left.now c.args.right.now c.args.id (λ is. both_ways c.has_sets-same.result c.if-same.false (c.has_sets-same.ensures.1 is)) a

pub returns-clause-kept : goal.returns-clause-kept
returns-clause-kept c = KeepsFunctions-itself c.args.diagrams.now
