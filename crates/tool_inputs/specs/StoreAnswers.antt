-- What the plainest texts of goals about programs say of stores, and their abstractions.
use Rattle.std.specs.Prelude.{◌≡◌, ◌⊎◌, ◌↔◌, ℕ, List, [], length, true, Result, Ok}
use Rattle.kat_model.specs.declared.expression.Width.{Width}
use Rattle.kat_model.specs.Expressions.{CondTree}
use Rattle.kat_model.specs.Problems.{ProblemParts}
use Rattle.kat_model.specs.Stores.{Store, IsStore, holds}
use Rattle.text_parser.specs.ScopeParts.{empty_scope}
use Rattle.while_lang.specs.Programs.{ProgTree}
use Rattle.while_lang.specs.Runs.{Ends}
use Rattle.while_lang.specs.Files.{GoalTree, equal, triple, prog_side, FileParts}
use Rattle.abstraction.specs.Abstracts.{AbstractParts, abstract_of}
use Rattle.abstraction.specs.declared.fault.AbstractFault.{AbstractFault}
use Rattle.abstraction.specs.declared.fault.AbstractFault.TheVariants.{TooManyTests, TooManyActions, ProblemTooLarge}
use Rattle.kat_report.specs.AbstractRefusals.{abstract_fault_line}

-- a store of v numbers of the width
abbrev pub IsStoreWith : Width → ℕ → Store → Type 0
IsStoreWith w v s = (length s ≡ v) × IsStore w s

-- from each store, both programs end in the same stores
abbrev pub AlwaysEndAlike : Width → ℕ → ProgTree → ProgTree → Type 0
AlwaysEndAlike w v p q = (s t : Store) → IsStoreWith w v s → IsStoreWith w v t → Ends w p s t ↔ Ends w q s t

-- from each store in which the first condition holds, the program ends only in stores in which the second holds
abbrev pub AlwaysMeets : Width → ℕ → CondTree → ProgTree → CondTree → Type 0
AlwaysMeets w v b p c = (s t : Store) → IsStoreWith w v s → IsStoreWith w v t → holds w s b ≡ true → Ends w p s t → holds w t c ≡ true

-- the line of a goal with too many tests, too many actions, or too many nodes including the derived hypotheses
abbrev pub IsLimitLine : List ℕ → Type 0
IsLimitLine output =
    (output ≡ abstract_fault_line TooManyTests)
    ⊎ ((output ≡ abstract_fault_line TooManyActions)
    ⊎ (output ≡ abstract_fault_line ProblemTooLarge))

-- a file with only this goal, over `v` variables of width `w`; its abstraction does not depend on names
abbrev pub goal_file : Width → ℕ → GoalTree → FileParts
goal_file w v goal = record {
  scope = empty_scope;
  tests = 0;
  actions = 0;
  vars = v;
  terms = 0;
  progs = [];
  prog_names = [];
  hyps = [];
  rounds = 1;
  goal = goal;
  width = w;
}

-- the abstraction of the goal that two programs are equal, and of a triple of a program; or which limit it exceeds
abbrev pub programs_abstraction : Width → ℕ → ProgTree → ProgTree → Result AbstractParts AbstractFault
programs_abstraction w v p q = abstract_of (goal_file w v (equal (prog_side p) (prog_side q)))

abbrev pub triple_abstraction : Width → ℕ → CondTree → ProgTree → CondTree → Result AbstractParts AbstractFault
triple_abstraction w v b p c = abstract_of (goal_file w v (triple b (prog_side p) c))

-- there is an abstraction, and its problem has this property
abbrev pub ProblemSatisfies : Result AbstractParts AbstractFault → (ProblemParts → Type 0) → Type 0
ProblemSatisfies abstraction P = (a : AbstractParts) × (abstraction ≡ Ok a) × P a.problem
