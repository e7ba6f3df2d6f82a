use Rattle.std.proofs.Common.{List, ◌∙◌, subst}
use Rattle.std.proofs.lemmas.Bool.{both_ways}
use Rattle.std.proofs.lemmas.Result.{IfOk-weaker}
use Rattle.kat_model.specs.Members.{Has}
use Rattle.test_diagrams.specs.Functions.{value_of, IsDiagramId}
use Rattle.test_diagrams.proofs.Kept.{KeepsFunctions-itself}
use Rattle.walk_regions.specs.Entries.{EntryParts}
use Rattle.walk_regions.proofs.Marking.{replicate_has, first_marks}
use Rattle.walk_regions.proofs.listing.Listing.reached.Goals as goal

pub reached_with-requires-clause-marks : goal.reached_with-requires-clause-marks
reached_with-requires-clause-marks c id h =
    let d = c.args.diagrams.now in
    subst (IsDiagramId d) (replicate_has c.args.self.now.count c.constant-never.result id (subst (λ l. Has l id) (c.as_mut_slice.ensures.value ∙ c.in_ok-marks.ensures.items_if_clones_equal (λ y e. e)) h)) c.constant-never.ensures.function.in_range

pub returns-clause-reached : goal.returns-clause-reached
returns-clause-reached c =
    let es : List EntryParts = c.args.self.now.entries.items in
    let first = first_marks c.args.diagrams.now es c.requires.tests c.args.set.now c.args.self.now.count c.constant-never.result c.as_mut_slice.result.now c.in_ok-marks.marks.items c.constant-never.ensures.function c.as_mut_slice.ensures.value (c.in_ok-marks.ensures.items_if_clones_equal (λ y e. e)) in
    IfOk-weaker c.reached_with.result _ _ (λ id reached. reached first) c.reached_with.ensures.reached

pub returns-then-eq-clause-part : goal.returns-then-eq-clause-part
returns-then-eq-clause-part c = record { is_id = c.constant-never.ensures.function.in_range; within = λ atom fits h. absurd (both_ways (value_of c.args.diagrams.now c.constant-never.result atom) (c.constant-never.ensures.function.value atom fits) h) }

pub returns-then-eq-clause-reached : goal.returns-then-eq-clause-reached
returns-then-eq-clause-reached c = record { at = λ atom fits h. absurd (both_ways (value_of c.args.diagrams.now c.constant-never.result atom) (c.constant-never.ensures.function.value atom fits) h) }

pub returns-then-eq-clause-kept : goal.returns-then-eq-clause-kept
returns-then-eq-clause-kept c = KeepsFunctions-itself c.args.diagrams.now

pub returns-then-is_empty-clause-part : goal.returns-then-is_empty-clause-part
returns-then-is_empty-clause-part c = record { is_id = c.requires.within; within = λ atom fits h. h }

pub returns-then-is_empty-clause-kept : goal.returns-then-is_empty-clause-kept
returns-then-is_empty-clause-kept c = KeepsFunctions-itself c.args.diagrams.now

pub returns-in_err-marks-clause-kept : goal.returns-in_err-marks-clause-kept
returns-in_err-marks-clause-kept c = KeepsFunctions-itself c.args.diagrams.now

pub reached_with-requires-clause-tests : goal.reached_with-requires-clause-tests
reached_with-requires-clause-tests c = c.requires.tests

pub reached_with-requires-clause-within : goal.reached_with-requires-clause-within
reached_with-requires-clause-within c = c.requires.within

pub returns-clause-part : goal.returns-clause-part
returns-clause-part c = c.reached_with.ensures.part

pub returns-clause-kept : goal.returns-clause-kept
returns-clause-kept c = c.reached_with.ensures.kept
