-- The numbers that names stand for.
use Rattle.std.specs.Prelude.{◌<◌, ℕ, List}
use Rattle.text_parser.specs.declared.meaning.Meaning.TheVariants.{Test, Action, Var, Prog}
use Rattle.text_parser.specs.ScopeParts.{ScopeParts, Means}

-- the numbers of named tests, actions, variables and programs are below these bounds
pub record AreNumbered (w : ScopeParts) (tests actions vars progs : ℕ) : Type 0 where
  pub named_tests : (name : List ℕ) (k : ℕ) → Means w name (Test k) → k < tests
  pub named_actions : (name : List ℕ) (a : ℕ) → Means w name (Action a) → a < actions
  pub named_vars : (name : List ℕ) (x : ℕ) → Means w name (Var x) → x < vars
  pub named_progs : (name : List ℕ) (i : ℕ) → Means w name (Prog i) → i < progs
