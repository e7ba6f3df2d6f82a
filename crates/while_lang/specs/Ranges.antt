-- The ranges of the numbers of tests, actions and variables in a text.
use Rattle.std.specs.Prelude.{◌≡◌, ◌≤◌, ◌<◌, ℕ, List, [], ◌∷◌, length, slice_get, Some}
use Rattle.kat_model.specs.declared.limits.TheConstants.{MAX_TESTS, MAX_ACTIONS, MAX_VARS}
use Rattle.kat_model.specs.Expressions.{ExprTree, CondTree}
use Rattle.kat_model.specs.Problems.{IsInRange, AreInRange}
use Rattle.text_parser.specs.declared.meaning.Meaning.{Meaning}
use Rattle.text_parser.specs.declared.meaning.Meaning.TheVariants.{Test, Action, Var, Prog}
use Rattle.text_parser.specs.ScopeParts.{ScopeParts, Means}
use Rattle.while_lang.specs.Programs.{ProgTree}
use Rattle.while_lang.specs.Leaves.{Anything, EveryExprLeaf, EveryCondLeaf, EveryLeaf}
use Rattle.while_lang.specs.NamedProgs.{ProgParts}
use Rattle.while_lang.specs.Files.{SideTree, term_side, prog_side, GoalTree, equal, below, triple, FileParts}

-- each variable of the expression is below the number of variables
abbrev pub IsExprInRange : ℕ → ExprTree → Type 0
IsExprInRange vars e = EveryExprLeaf Anything (λ k. k < vars) e

-- the same, and each test of the condition is below the number of tests
abbrev pub IsCondInRange : ℕ → ℕ → CondTree → Type 0
IsCondInRange tests vars b = EveryCondLeaf Anything (λ k. k < vars) (λ k. k < tests) b

-- the same, and each action of the program is below the number of actions
abbrev pub IsProgInRange : ℕ → ℕ → ℕ → ProgTree → Type 0
IsProgInRange tests actions vars p = EveryLeaf Anything (λ k. k < vars) (λ k. k < tests) (λ a. a < actions) p

abbrev pub AreProgsInRange : ℕ → ℕ → ℕ → List ProgParts → Type 0
AreProgsInRange tests actions vars [] = Unit {0}
AreProgsInRange tests actions vars (p ∷ ps) = IsProgInRange tests actions vars p.tree × AreProgsInRange tests actions vars ps

abbrev pub IsSideInRange : ℕ → ℕ → ℕ → SideTree → Type 0
IsSideInRange tests actions vars (term_side e) = IsInRange tests actions e
IsSideInRange tests actions vars (prog_side p) = IsProgInRange tests actions vars p

abbrev pub IsGoalInRange : ℕ → ℕ → ℕ → GoalTree → Type 0
IsGoalInRange tests actions vars (equal l r) = IsSideInRange tests actions vars l × IsSideInRange tests actions vars r
IsGoalInRange tests actions vars (below l r) = IsSideInRange tests actions vars l × IsSideInRange tests actions vars r
IsGoalInRange tests actions vars (triple pre body post) = IsCondInRange tests vars pre × IsSideInRange tests actions vars body × IsCondInRange tests vars post

-- each number below n of a kind has a name
abbrev pub AreNamed : ScopeParts → (ℕ → Meaning) → ℕ → Type 0
AreNamed w kind n = (k : ℕ) → k < n → (name : List ℕ) × Means w name (kind k)

-- the names of the programs, by their numbers, are these
abbrev pub AreNamesOfProgs : ScopeParts → List (List ℕ) → Type 0
AreNamesOfProgs w names = (i : ℕ) (name : List ℕ) → slice_get names i ≡ Some name → Means w name (Prog i)

-- at most `MAX_TESTS` tests, `MAX_ACTIONS` actions and `MAX_VARS` variables are declared, each of these and each
-- program has a name, and hypotheses, programs and the goal use no others
pub record IsNumbered (f : FileParts) : Type 0 where
  pub tests : f.tests ≤ MAX_TESTS
  pub actions : f.actions ≤ MAX_ACTIONS
  pub vars : f.vars ≤ MAX_VARS
  pub named_tests : AreNamed f.scope Test f.tests
  pub named_actions : AreNamed f.scope Action f.actions
  pub named_vars : AreNamed f.scope Var f.vars
  pub counted : length f.prog_names ≡ length f.progs
  pub named_progs : AreNamesOfProgs f.scope f.prog_names
  pub hyps : AreInRange f.tests f.actions f.hyps
  pub progs : AreProgsInRange f.tests f.actions f.vars f.progs
  pub goal : IsGoalInRange f.tests f.actions f.vars f.goal
