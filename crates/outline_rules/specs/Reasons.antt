-- The first reason why notes do not follow.
use Rattle.std.specs.Prelude.{◌≡◌, ◌≢◌, ◌<◌, ◌≤◌, ℕ, Bool, List, length, Some, slice_get}
use Rattle.kat_model.specs.Members.{Has}
use Rattle.kat_model.specs.Problems.{ProblemParts}
use Rattle.kat_model.specs.Steps.{Atom}
use Rattle.outline_rules.specs.declared.notes.NoteNode.{NoteNode}
use Rattle.outline_rules.specs.declared.notes.NoteNode.TheVariants.{Branch}
use Rattle.outline_rules.specs.NoteLists.{NotesParts, note_holds}
use Rattle.outline_rules.specs.declared.answer.NoteReason.{NoteReason}
use Rattle.outline_rules.specs.declared.answer.NoteReason.TheVariants.{Range, Count, Step}
use Rattle.outline_rules.specs.declared.answer.NoteAnswer.{NoteAnswer}
use Rattle.outline_rules.specs.declared.answer.NoteAnswer.TheVariants.{Accepted, Rejected}
use Rattle.outline_rules.specs.Tasks.{TaskParts}
use Rattle.outline_rules.specs.Places.{places}
use Rattle.outline_rules.specs.Follows.{Condition, conditions, target, IsMet, HasTests, Follows}

-- the least node whose test is out of range
pub record IsOutOfRange (tests : ℕ) (nodes : List NoteNode) (n : ℕ) : Type 0 where
  pub test : ℕ
  pub low : ℕ
  pub high : ℕ
  pub node : slice_get nodes n ≡ Some (Branch test low high)
  pub out : tests ≤ test
  pub least : (m test low high : ℕ) → m < n → slice_get nodes m ≡ Some (Branch test low high) → test < tests

-- the number is the least target of an unmet condition of the list
pub record IsLeastUnmet (q : ProblemParts) (note : ℕ → Atom → Bool) (cs : List Condition) (k : ℕ) : Type 0 where
  pub unmet : Condition
  pub has : Has cs unmet
  pub fails : IsMet q note unmet → ⊥
  pub is_target : target unmet ≡ k
  pub least : (c : Condition) → Has cs c → target c < k → IsMet q note c

-- the first reason, in the order of the cases
abbrev pub IsFirstReason : ProblemParts → TaskParts → NotesParts → NoteReason → Type 0
IsFirstReason q t ns (Range n) = IsOutOfRange q.tests ns.nodes n
IsFirstReason q t ns (Count n) = HasTests q.tests ns.nodes × (n ≡ places t.flow) × (length ns.notes ≢ n)
IsFirstReason q t ns (Step k) = HasTests q.tests ns.nodes × (length ns.notes ≡ places t.flow) × IsLeastUnmet q (note_holds ns) (conditions t) k

-- the notes are accepted if they follow, else rejected for the first reason
abbrev pub IsNoteAnswer : ProblemParts → TaskParts → NotesParts → NoteAnswer → Type 0
IsNoteAnswer q t ns Accepted = Follows q t ns
IsNoteAnswer q t ns (Rejected reason) = IsFirstReason q t ns reason
