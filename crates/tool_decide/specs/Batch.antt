-- `batch`: each goal of a text is answered as `decide` answers the file with only that goal. Its reply, and what it
-- says about the goals.
use Rattle.std.specs.Prelude.{◌≡◌, ◌⊎◌, ◌↔◌, ℕ, ◌+◌, max, List, [], ◌∷◌, ◌++◌, map, Ok, codes}
use Rattle.std.specs.Fmt.{decimal}
use Rattle.kat_model.specs.Members.{Has}
use Rattle.kat_model.specs.Relations.{Same}
use Rattle.while_lang.specs.Files.{GoalTree, FileParts}
use Rattle.problem_file.specs.Reads.{ReadsAll, FirstFaultOfAll}
use Rattle.problem_file.specs.Laws.{ReadsBoth}
use Rattle.while_lang.specs.Concrete.{IsConcrete, Agrees}
use Rattle.abstraction.specs.Abstracts.{AbstractParts, abstract_of, with_goal}
use Rattle.abstraction.specs.Readings.{Reading, KeepsStated, GoalHoldsBy}
use Rattle.tool_inputs.specs.TextProblem.{IsFaultOf, HasNoAbstraction}
use Rattle.tool_inputs.specs.Steps.{ReplySpec, IsRefusal, ReadsAs}
use Rattle.tool_decide.specs.Decide.{IsDecided}

-- the file with only one goal, for each goal of the text
abbrev pub with_each : FileParts → List GoalTree → List FileParts
with_each f more = f ∷ map (with_goal f) more

-- the file asks a question
abbrev pub PosesSome : FileParts → Type 0
PosesSome f = (a : AbstractParts) × (abstract_of f ≡ Ok a)

-- the file asks a question, and both sides of it are the same
abbrev pub PosesSame : FileParts → Type 0
PosesSame f = (a : AbstractParts) × (abstract_of f ≡ Ok a) × Same a.problem

-- the line before the answer to goal `k`
abbrev pub goal_line : ℕ → List ℕ
goal_line k = codes "goal " ++ decimal k ++ codes "\n"

-- a possible reply of `decide` to a file with only this goal
abbrev pub IsGoalAnswer : FileParts → ReplySpec
IsGoalAnswer f status output = (a : AbstractParts) × (abstract_of f ≡ Ok a) × IsDecided a.problem status output

-- The goal of the file has the number `k` and is answered, and the reply to the later goals satisfies `GoesOn`. The
-- status is the maximum of both.
pub record AnswersGoal (k : ℕ) (f : FileParts) (GoesOn : ReplySpec) (status : ℕ) (output : List ℕ) : Type 0 where
  pub first : ℕ
  pub text : List ℕ
  pub answer : IsGoalAnswer f first text
  pub later : ℕ
  pub others : List ℕ
  pub goes_on : GoesOn later others
  pub has_status : status ≡ max first later
  pub printed : output ≡ goal_line k ++ text ++ others

-- the goals of these files are answered; the first has the number `k`
abbrev pub AnswersFrom : ℕ → List FileParts → ReplySpec
AnswersFrom k [] status output = (status ≡ 0) × (output ≡ [])
AnswersFrom k (f ∷ fs) status output = AnswersGoal k f (AnswersFrom (k + 1) fs) status output

-- this line refuses the first of the files that asks no question
abbrev pub IsFirstRefused : List FileParts → List ℕ → Type 0
IsFirstRefused [] output = ⊥
IsFirstRefused (f ∷ fs) output = HasNoAbstraction f output ⊎ (PosesSome f × IsFirstRefused fs output)

-- the reply to all goals of a text: only the line of the first refused goal, or an answer to each goal
abbrev pub AnswersAll : FileParts → List GoalTree → ReplySpec
AnswersAll f more status output = IsRefusal (IsFirstRefused (with_each f more)) status output ⊎ AnswersFrom 0 (with_each f more) status output

-- the steps of the reply to a text
abbrev pub AnswersText : List ℕ → ReplySpec
AnswersText text = ReadsAs (FirstFaultOfAll text) (ReadsBoth text) (λ x. AnswersAll x.0 x.1)

-- The status is 0 exactly when both sides of each goal denote one relation, 1 exactly when each goal asks a question
-- and the sides of some goal do not denote one relation, and 2 exactly when some goal asks no question. With 0 and 1,
-- each goal has its answer. If the status is 0, the goals of a concrete file hold for all its stores, and the goals of
-- any file hold for them under every reading of its declared tests and actions that satisfies its stated hypotheses.
pub record BatchHeadline (f : FileParts) (more : List GoalTree) (status : ℕ) (output : List ℕ) : Type 0 where
  pub answers : (status ≡ 0) ⊎ ((status ≡ 1) ⊎ (status ≡ 2))
  pub equal : (status ≡ 0) ↔ ((g : FileParts) → Has (with_each f more) g → PosesSame g)
  pub different : (status ≡ 1) ↔ (((g : FileParts) → Has (with_each f more) g → PosesSome g) × (((g : FileParts) → Has (with_each f more) g → PosesSame g) → ⊥))
  pub refused : (status ≡ 2) ↔ ((line : List ℕ) × IsFirstRefused (with_each f more) line)
  pub refused_line : (line : List ℕ) → IsFirstRefused (with_each f more) line → output ≡ line
  pub answered : (status ≡ 0) ⊎ (status ≡ 1) → AnswersFrom 0 (with_each f more) status output
  pub stores : status ≡ 0 → (g : FileParts) → Has (with_each f more) g → IsConcrete g → Agrees g
  pub readings : status ≡ 0 → (g : FileParts) → Has (with_each f more) g → (a : AbstractParts) (r : Reading) → abstract_of g ≡ Ok a → KeepsStated g a r → GoalHoldsBy g a r g.goal

-- What a reply of `batch` says about its text. The headline holds for its goals. A text with a first fault is refused
-- with the line of the fault.
pub record BatchReply (text : List ℕ) (status : ℕ) (output : List ℕ) : Type 0 where
  pub replies : AnswersText text status output
  pub headline : (f : FileParts) (more : List GoalTree) → ReadsAll text f more → BatchHeadline f more status output
  pub declined : (line : List ℕ) → IsFaultOf (FirstFaultOfAll text) line → (status ≡ 2) × (output ≡ line)
