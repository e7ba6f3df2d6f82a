-- The laws of outlines. Each law is the contract of a function that does nothing.
use Rattle.kat_model.specs.Problems.{ProblemParts}
use Rattle.kat_model.specs.Relations.{Same}
use Rattle.outline_rules.specs.NoteLists.{NotesParts}
use Rattle.outline_rules.specs.declared.answer.NoteReason.{NoteReason}
use Rattle.outline_rules.specs.Tasks.{TaskParts, IsTripleOf}
use Rattle.outline_rules.specs.Follows.{Follows}
use Rattle.outline_rules.specs.Reasons.{IsFirstReason}

-- notes that follow prove the triple, whatever their origin
abbrev pub FollowsIsSame : Type 0
FollowsIsSame = (q : ProblemParts) (t : TaskParts) (ns : NotesParts) → IsTripleOf q t → Follows q t ns → Same q

-- notes that follow have no reason against them
abbrev pub ReasonsAreAgainst : Type 0
ReasonsAreAgainst = (q : ProblemParts) (t : TaskParts) (ns : NotesParts) (reason : NoteReason) → IsFirstReason q t ns reason → Follows q t ns → ⊥
