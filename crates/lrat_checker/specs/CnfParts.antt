-- The parts of a formula in conjunctive normal form.
use Rattle.std.specs.Prelude.{ℕ, List}
use Rattle.lrat_checker.specs.declared.literal.Literal.{Literal}

-- the number of variables, and the clauses
pub record CnfParts : Type 0 where
  pub variables : ℕ
  pub clauses : List (List Literal)
