-- The parts of a problem file.
use Rattle.std.specs.Prelude.{ℕ, List, slice_get, Option, Some, None}
use Rattle.kat_model.specs.Trees.{Term}
use Rattle.kat_model.specs.Expressions.{CondTree}
use Rattle.kat_model.specs.declared.expression.Width.{Width}
use Rattle.text_parser.specs.declared.meaning.Meaning.{Meaning}
use Rattle.text_parser.specs.declared.meaning.Meaning.TheVariants.{Prog}
use Rattle.text_parser.specs.ScopeParts.{ScopeParts, meaning}
use Rattle.while_lang.specs.Programs.{ProgTree}
use Rattle.while_lang.specs.NamedProgs.{ProgParts}

-- ---- goals

-- a side of a goal
pub data SideTree : Type 0 where
  term_side : (e : Term) → SideTree
  prog_side : (p : ProgTree) → SideTree

-- a goal of two sides, or of a side between two conditions
pub data GoalTree : Type 0 where
  equal : (l r : SideTree) → GoalTree
  below : (l r : SideTree) → GoalTree
  triple : (pre : CondTree) → (body : SideTree) → (post : CondTree) → GoalTree

-- ---- files

-- the parts of a file: its names, the numbers of tests, actions, variables and terms, its programs and their names, the
-- terms that it states to be 0, its rounds, its goal and its width
pub record FileParts : Type 0 where
  pub scope : ScopeParts
  pub tests : ℕ
  pub actions : ℕ
  pub vars : ℕ
  pub terms : ℕ
  pub progs : List ProgParts
  pub prog_names : List (List ℕ)
  pub hyps : List Term
  pub rounds : ℕ
  pub goal : GoalTree
  pub width : Width

-- the program of a meaning; programs are listed by their numbers
abbrev pub prog_meant : List ProgParts → Option Meaning → Option ProgParts
prog_meant ps (Some (Prog i)) = slice_get ps i
prog_meant ps m = None

-- the program that a name stands for
abbrev pub prog_named : ScopeParts → List ProgParts → List ℕ → Option ProgParts
prog_named w ps name = prog_meant ps (meaning w name)
