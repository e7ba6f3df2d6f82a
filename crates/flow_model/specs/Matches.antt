-- Matches of blocks of two graphs, and the program's matches as those of the definitions.
use Rattle.std.specs.Prelude.{ℕ, List, map}
use Rattle.flow_model.specs.Expressions.{ExprTree}
use Rattle.flow_model.specs.Conditions.{CondTree}
use Rattle.flow_model.specs.Polish.{expr_of, cond_of}
use Rattle.flow_model.specs.declared.block_match.Equation.{Equation as AnEquation}
use Rattle.flow_model.specs.declared.block_match.BlockMatch.{BlockMatch}

-- a variable, and an expression for its value
pub record Equation : Type 0 where
  pub variable : ℕ
  pub expression : ExprTree

-- A match of a block of each graph. States there are related by equations of three kinds: `forth` gives variables of the
-- second graph over the state of the first, `back` variables of the first over the state of the second, and `keeping`
-- variables of the first over its own state, which also satisfies the condition.
pub record Match : Type 0 where
  pub before : ℕ
  pub after : ℕ
  pub forth : List Equation
  pub back : List Equation
  pub keeping : List Equation
  pub condition : CondTree

abbrev pub equation_of : AnEquation → Equation
equation_of e = record { variable = e.variable; expression = expr_of e.expression.items }

abbrev pub match_of : BlockMatch → Match
match_of m = record {
  before = m.before;
  after = m.after;
  forth = map equation_of m.forth.items;
  back = map equation_of m.back.items;
  keeping = map equation_of m.keeping.items;
  condition = cond_of m.condition.items;
}

abbrev pub matches_of : List BlockMatch → List Match
matches_of ms = map match_of ms
