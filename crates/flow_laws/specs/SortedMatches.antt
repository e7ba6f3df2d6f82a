-- Matches of two graphs: their blocks exist, and each expression has the sort that its place requires.
use Rattle.std.specs.Prelude.{◌≡◌, ◌<◌, ℕ, List, [], ◌∷◌, length, Some, slice_get, false}
use Rattle.flow_model.specs.declared.sort.Sort.{Sort}
use Rattle.flow_model.specs.Graphs.{Pair}
use Rattle.flow_forms.specs.Expressions.{sort_of, IsSorted}
use Rattle.flow_ways.specs.Conditions.{IsSortedCond}
use Rattle.flow_model.specs.Matches.{Equation, Match}

-- the equation gives a variable an expression of its sort
abbrev pub IsSortedEquation : List Sort → Equation → Type 0
IsSortedEquation sorts q = (slice_get sorts q.variable ≡ Some (sort_of sorts q.expression)) × IsSorted sorts false q.expression

abbrev pub AreSortedEquations : List Sort → List Equation → Type 0
AreSortedEquations sorts [] = Unit {0}
AreSortedEquations sorts (q ∷ qs) = IsSortedEquation sorts q × AreSortedEquations sorts qs

-- a match of two graphs with these numbers of blocks
pub record IsSortedMatch (sorts : List Sort) (blocks others : ℕ) (m : Match) : Type 0 where
  pub before_exists : m.before < blocks
  pub after_exists : m.after < others
  pub forth_sorted : AreSortedEquations sorts m.forth
  pub back_sorted : AreSortedEquations sorts m.back
  pub keeping_sorted : AreSortedEquations sorts m.keeping
  pub condition_sorted : IsSortedCond sorts m.condition

abbrev pub IsMatchOf : Pair → Match → Type 0
IsMatchOf p m = IsSortedMatch p.sorts (length p.before) (length p.after) m
