use Rattle.std.proofs.Common.{sym, subst}
use Rattle.kat_model.specs.Members.{Has}
use Rattle.test_diagrams.specs.Functions.{IsDiagramId}
use Rattle.test_diagrams.proofs.Kept.{KeepsFunctions-trans}
use Rattle.walk_regions.specs.Entries.{EntryParts}
use Rattle.walk_regions.proofs.Marking.{pair_marked}
use Rattle.walk_regions.proofs.reaching.add_pair.Goals as goal

pub marked_at-requires-clause-within : goal.marked_at-requires-clause-within
marked_at-requires-clause-within c = subst (λ (e : EntryParts). IsDiagramId c.args.diagrams.now e.test) (sym c.entry.view_is) c.requires.test

pub mark_all-requires-clause-marks : goal.mark_all-requires-clause-marks
mark_all-requires-clause-marks c id h = c.in_ok-with_left.ensures.kept.ids id (c.requires.marks id h)

pub mark_all-requires-clause-test : goal.mark_all-requires-clause-test
mark_all-requires-clause-test c = c.in_ok-with_left.ensures.part.is_id

pub marked_at-requires-2-clause-marks : goal.marked_at-requires-2-clause-marks
marked_at-requires-2-clause-marks c = c.in_ok-grew_right.ensures.ids

pub marked_at-requires-2-clause-within : goal.marked_at-requires-2-clause-within
marked_at-requires-2-clause-within c = c.in_ok-grew_right.ensures.kept.ids _ (c.in_ok-with_left.ensures.kept.ids _ (subst (λ (e : EntryParts). IsDiagramId c.args.diagrams.now e.test) (sym c.entry.view_is) c.requires.test))

pub mark_all-requires-2-clause-marks : goal.mark_all-requires-2-clause-marks
mark_all-requires-2-clause-marks c id h = c.in_ok-with_right.ensures.kept.ids id (c.in_ok-grew_right.ensures.ids id h)

pub mark_all-requires-2-clause-test : goal.mark_all-requires-2-clause-test
mark_all-requires-2-clause-test c = c.in_ok-with_right.ensures.part.is_id

pub returns-in_err-grew_right-clause-kept : goal.returns-in_err-grew_right-clause-kept
returns-in_err-grew_right-clause-kept c = KeepsFunctions-trans _ _ _ c.in_ok-with_left.ensures.kept c.in_err-grew_right.ensures.kept

pub returns-in_err-with_right-clause-kept : goal.returns-in_err-with_right-clause-kept
returns-in_err-with_right-clause-kept c = KeepsFunctions-trans _ _ _ c.in_ok-with_left.ensures.kept (KeepsFunctions-trans _ _ _ c.in_ok-grew_right.ensures.kept c.in_err-with_right.ensures.kept)

pub returns-in_err-grew_left-clause-kept : goal.returns-in_err-grew_left-clause-kept
returns-in_err-grew_left-clause-kept c = KeepsFunctions-trans _ _ _ c.in_ok-with_left.ensures.kept (KeepsFunctions-trans _ _ _ c.in_ok-grew_right.ensures.kept (KeepsFunctions-trans _ _ _ c.in_ok-with_right.ensures.kept c.in_err-grew_left.ensures.kept))

pub returns-clause-marks : goal.returns-clause-marks
returns-clause-marks c es all m listed =
    let e : EntryParts = record { left = c.entry.inside.left; right = c.entry.inside.right; test = c.entry.inside.test; level = c.entry.inside.level; origin = c.entry.inside.origin } in
    pair_marked c.args.diagrams.now c.marked_at.new.diagrams c.mark_all.new.diagrams c.marked_at-2.new.diagrams c.mark_all-2.new.diagrams
    c.in_ok-with_left.ensures.kept c.in_ok-with_right.ensures.kept es all c.args.marks.now c.mark_all.new.marks c.mark_all-2.new.marks e (subst (Has es) (sym c.entry.view_is) listed) c.as_slice-left.result.now c.as_slice-right.result.now c.as_slice-left.ensures c.as_slice-right.ensures c.in_ok-with_left.with_left c.in_ok-with_right.with_right
    c.in_ok-with_left.ensures.part (c.in_ok-with_left.ensures.brings es all) (c.in_ok-grew_right.ensures.marks es all) c.in_ok-with_right.ensures.part (c.in_ok-with_right.ensures.brings es all) (c.in_ok-grew_left.ensures.marks es all) m

pub returns-clause-ids : goal.returns-clause-ids
returns-clause-ids c = c.in_ok-grew_left.ensures.ids

pub returns-clause-kept : goal.returns-clause-kept
returns-clause-kept c = KeepsFunctions-trans _ _ _ c.in_ok-with_left.ensures.kept (KeepsFunctions-trans _ _ _ c.in_ok-grew_right.ensures.kept (KeepsFunctions-trans _ _ _ c.in_ok-with_right.ensures.kept c.in_ok-grew_left.ensures.kept))
