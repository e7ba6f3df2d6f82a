use Rattle.std.proofs.Common.{◌++◌, ◌∷◌, [], List, sym, subst, IfOk}
use Rattle.std.proofs.lemmas.Bool.{both_ways}
use Rattle.std.proofs.lemmas.Result.{IfOk-weaker}
use Rattle.kat_model.specs.Members.{Has}
use Rattle.test_diagrams.proofs.Kept.{KeepsFunctions-itself}
use Rattle.test_diagrams.specs.Functions.{IsDiagramId}
use Rattle.walk_regions.specs.Entries.{EntryParts}
use Rattle.walk_regions.specs.Listings.{IsWith, AreLevelAtoms}
use Rattle.walk_regions.proofs.LevelAtoms.{level_other, level_more}
use Rattle.walk_regions.proofs.listing.with_entry.Goals as goal

pub returns-then-same-clause-atoms : goal.returns-then-same-clause-atoms
returns-then-same-clause-atoms c =
    let old = c.args.diagrams.now in
    let new = c.or.new.self in
    let other : EntryParts = c.args.pair.now in
    let e : EntryParts = record { left = c.entry.inside.left; right = c.entry.inside.right; test = c.entry.inside.test; level = c.entry.inside.level; origin = c.entry.inside.origin } in
    let same : IsWith e other = subst (λ (x : EntryParts). IsWith x other) (sym c.entry.view_is) (c.is_with-same.ensures.0 c.if-same.true) in
    let own : IsDiagramId old e.test = subst (λ (x : EntryParts). IsDiagramId old x.test) (sym c.entry.view_is) c.requires.test in
    subst (λ (x : EntryParts). IfOk c.or.result (λ id. (es : List EntryParts) → ((f : EntryParts) → Has es f → IsDiagramId old f.test) → AreLevelAtoms old es other c.args.id → AreLevelAtoms new (es ++ x ∷ []) other id)) c.entry.view_is
    (IfOk-weaker c.or.result _ _ (λ id is es tests a. level_more old new c.or.ensures.kept es tests e other c.args.id id own same is a) c.or.ensures.function)

pub returns-clause-atoms : goal.returns-clause-atoms
returns-clause-atoms c es tests a =
    level_other c.args.diagrams.now es c.args.entry.now c.args.pair.now c.args.id (λ is. both_ways c.is_with-same.result c.if-same.false (c.is_with-same.ensures.1 is)) a

pub returns-clause-kept : goal.returns-clause-kept
returns-clause-kept c = KeepsFunctions-itself c.args.diagrams.now
