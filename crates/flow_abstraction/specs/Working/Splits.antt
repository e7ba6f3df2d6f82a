-- Edges that are split, for each place.
use Rattle.std.specs.Prelude.{◌<◌, ◌≤◌, ◌⊎◌, List, [], ◌∷◌, length}
use Rattle.flow_ways.specs.declared.limits.TheConstants.{MAX_WAYS}
use Rattle.flow_problem.specs.Edges.{Edge}

-- no place has more edges than the limit, or some place has
abbrev pub AreShort : List (List Edge) → Type 0
AreShort [] = Unit {0}
AreShort (row ∷ rows) = (length row ≤ MAX_WAYS) × AreShort rows

abbrev pub HasLongRow : List (List Edge) → Type 0
HasLongRow [] = ⊥
HasLongRow (row ∷ rows) = (MAX_WAYS < length row) ⊎ HasLongRow rows
