use Rattle.std.proofs.Common.{◌≡◌, ap, ◌∙◌, subst}
use Rattle.std.proofs.lemmas.Result.{on_ok_weaker}
use Rattle.walk_up_to.specs.Listings.{IdEntry}
use Rattle.walk_up_to.specs.Marks.{AllMarked}
use Rattle.walk_up_to.proofs.listed.note_pair.Goals as goal

pub returns-in_err-note_all-clause-places : goal.returns-in_err-note_all-clause-places
returns-in_err-note_all-clause-places c = record { apart = λ s h. h; under = λ t s h. h }

pub returns-in_err-note_all-2-clause-marks : goal.returns-in_err-note_all-2-clause-marks
returns-in_err-note_all-2-clause-marks c = λ j e. c.in_err-note_all-2.ensures.kept j (c.in_ok-note_all.ensures.kept j e)

pub returns-in_err-note_all-2-clause-places : goal.returns-in_err-note_all-2-clause-places
returns-in_err-note_all-2-clause-places c = record { apart = λ s h. h; under = λ t s h. h }

pub returns-clause-noted : goal.returns-clause-noted
returns-clause-noted c =
    let own : IdEntry = c.args.pair.now in
    let left : c.as_slice.result.now ≡ own.left = c.as_slice.ensures ∙ ap (λ (p : IdEntry). p.left) c.pair.view_is in
    let right : c.as_slice-2.result.now ≡ own.right = c.as_slice-2.ensures ∙ ap (λ (p : IdEntry). p.right) c.pair.view_is in
    on_ok_weaker c.add.result
    (λ _. (
      (λ k h. c.in_ok-note_all-2.ensures.kept k (subst (AllMarked c.note_all.new.marks.items) left c.in_ok-note_all.ensures.noted k h)),
      subst (AllMarked c.note_all-2.new.marks.items) right c.in_ok-note_all-2.ensures.noted,
    ))
    c.add.ensures.left

pub returns-clause-marks : goal.returns-clause-marks
returns-clause-marks c = λ j e. c.in_ok-note_all-2.ensures.kept j (c.in_ok-note_all.ensures.kept j e)
