use Rattle.std.proofs.Common.{subst}
use Rattle.std.proofs.lemmas.Result.{err_from_is_err_and}
use Rattle.piece_evidence.specs.Faults.{sections_of}
use Rattle.piece_evidence.specs.Working.Drafts.{draft_read, IsAt}
use Rattle.piece_evidence.proofs.CutLines.{cut_text}
use Rattle.piece_evidence.proofs.ReadSteps.{fault_given}
use Rattle.piece_evidence.proofs.reading.read_sections.Goals as goal

pub add-requires : goal.add-requires
add-requires c = subst (IsAt c.loop-line.draft) (cut_text c.loop-line.rest.now c.in-Some.line.now c.in-Some.after.now c.in-Some.ensures.line.parts) c.loop-line.invariant.at

pub returns-in_err-add : goal.returns-in_err-add
returns-in_err-add c =
    let answer = err_from_is_err_and c.from_residual.result c.from_residual.ensures.1 in
    rw (answer.1, answer.2)
    (fault_given (draft_read c.loop-line.draft) c.loop-line.number c.loop-line.rest.now c.in-Some.line.now c.in-Some.after.now c.in-Some.ensures.line.parts (sections_of c.args.bytes.now) c.in_err-add.field-0.0 _ _ c.loop-line.invariant.read c.in_err-add.ensures.read)
