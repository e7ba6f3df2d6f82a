-- Notes with a reason against them do not follow.
use Rattle.std.proofs.Common.{sym, ◌∙◌, arith}
use Rattle.kat_model.specs.Problems.{ProblemParts}
use Rattle.kat_model.proofs.Places.{has_at}
use Rattle.outline_rules.specs.NoteLists.{NotesParts}
use Rattle.outline_rules.specs.declared.notes.NoteNode.TheVariants.{Branch}
use Rattle.outline_rules.specs.declared.answer.NoteReason.{NoteReason}
use Rattle.outline_rules.specs.declared.answer.NoteReason.TheVariants.{Range, Count, Step}
use Rattle.outline_rules.specs.Tasks.{TaskParts}
use Rattle.outline_rules.specs.Follows.{Follows}
use Rattle.outline_rules.specs.Reasons.{IsFirstReason}

pub reasons_against : (q : ProblemParts) (t : TaskParts) (ns : NotesParts) (reason : NoteReason) → IsFirstReason q t ns reason → Follows q t ns → ⊥
reasons_against q t ns (Range n) out follows =
    let lt = follows.tests out.test out.low out.high (has_at ns.nodes n (Branch out.test out.low out.high) out.node) in
    omega (arith, lt, out.out)
reasons_against q t ns (Count n) h follows = h.2 (follows.count ∙ sym h.1)
reasons_against q t ns (Step k) h follows = h.2.fails (follows.met h.2.unmet h.2.has)
