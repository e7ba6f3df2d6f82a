-- Which side relates the ends of a string that refutes a problem, by its finding.
use Rattle.std.specs.Prelude.{Bool, false}
use Rattle.string_tables.specs.declared.finding.Finding.{Finding}
use Rattle.string_tables.specs.declared.finding.Finding.TheVariants.{Refutes, Shape, HypBroken, EndsAgree}

-- whether the left side relates the ends
abbrev pub is_left : Finding → Bool
is_left (Refutes left) = left
is_left (Shape k) = false
is_left (HypBroken h i j) = false
is_left (EndsAgree both) = false
