-- The law of the checker.
use Rattle.std.specs.Prelude.{List}
use Rattle.lrat_checker.specs.Literals.{IsUnsatisfiable}
use Rattle.lrat_checker.specs.Accepted.{IsAccepted}
use Rattle.lrat_checker.specs.declared.literal.Literal.{Literal}
use Rattle.lrat_checker.specs.declared.proof.Line.{Line}

-- if a proof is accepted, no assignment satisfies the clauses
abbrev pub AcceptedAreUnsatisfiable : Type 0
AcceptedAreUnsatisfiable = (clauses : List (List Literal)) (lines : List Line) → IsAccepted clauses lines → IsUnsatisfiable clauses
