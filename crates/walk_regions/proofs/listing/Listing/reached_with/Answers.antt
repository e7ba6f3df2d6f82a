use Rattle.std.proofs.Common.{◌≡◌, ℕ, List, sym, subst}
use Rattle.std.proofs.lemmas.Result.{IfOk-weaker}
use Rattle.kat_model.specs.Members.{Has}
use Rattle.test_diagrams.proofs.Kept.{KeepsFunctions-trans}
use Rattle.walk_regions.specs.Entries.{EntryParts}
use Rattle.walk_regions.specs.Reaching.{AreMarks}
use Rattle.walk_regions.proofs.Marking.{brings_own}
use Rattle.walk_regions.proofs.listing.Listing.reached_with.Goals as goal

pub returns-clause-reached : goal.returns-clause-reached
returns-clause-reached c =
    let d = c.args.diagrams.now in
    let es : List EntryParts = c.args.self.now.entries.items in
    let set : List ℕ = c.args.set.now in
    let same : c.as_slice.result.now ≡ es = c.as_slice.ensures in
    IfOk-weaker c.reached_at.result _ _
    (λ id reached first.
    let own = c.in_ok-mark_all.ensures.marks es set first (brings_own d es set c.args.within) in
    let full = c.in_ok-saturate.ensures.marks set (subst (λ l. AreMarks c.mark_all.new.diagrams l set c.mark_all.new.marks) (sym same) own) in
    reached es set (subst (λ l. AreMarks c.saturate.new.diagrams l set c.saturate.new.marks) same full))
    c.reached_at.ensures.reached

pub returns-in_err-saturate-clause-kept : goal.returns-in_err-saturate-clause-kept
returns-in_err-saturate-clause-kept c = KeepsFunctions-trans _ _ _ c.in_ok-mark_all.ensures.kept c.in_err-saturate.ensures.kept

pub returns-clause-kept : goal.returns-clause-kept
returns-clause-kept c = KeepsFunctions-trans _ _ _ c.in_ok-mark_all.ensures.kept (KeepsFunctions-trans _ _ _ c.in_ok-saturate.ensures.kept c.reached_at.ensures.kept)

pub saturate-requires-clause-tests : goal.saturate-requires-clause-tests
saturate-requires-clause-tests c e h = c.in_ok-mark_all.ensures.kept.ids e.test (c.requires.tests e (subst (λ (l : List EntryParts). Has l e) c.as_slice.ensures h))

pub reached_at-requires-clause-within : goal.reached_at-requires-clause-within
reached_at-requires-clause-within c = c.in_ok-saturate.ensures.kept.ids c.args.within (c.in_ok-mark_all.ensures.kept.ids c.args.within c.requires.within)

pub mark_all-requires-clause-marks : goal.mark_all-requires-clause-marks
mark_all-requires-clause-marks c = c.requires.marks

pub mark_all-requires-clause-test : goal.mark_all-requires-clause-test
mark_all-requires-clause-test c = c.requires.within

pub returns-in_err-mark_all-clause-kept : goal.returns-in_err-mark_all-clause-kept
returns-in_err-mark_all-clause-kept c = c.in_err-mark_all.ensures.kept

pub saturate-requires-clause-marks : goal.saturate-requires-clause-marks
saturate-requires-clause-marks c = c.in_ok-mark_all.ensures.ids

pub reached_at-requires-clause-marks : goal.reached_at-requires-clause-marks
reached_at-requires-clause-marks c = c.in_ok-saturate.ensures.ids
