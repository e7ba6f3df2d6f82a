-- The term of the paths through a graph, by elimination of its places (Kleene 1956).
use Rattle.std.specs.Prelude.{ℕ, zero, suc, Bool, true, false, if◌then◌else◌}
use Rattle.kat_model.specs.Trees.{Term, zero as nought, one, sum, product, star}

-- sums, products and stars of terms; what adds 0 or multiplies by 0 or 1 is left out
abbrev pub is_nought : Term → Bool
is_nought nought = true
is_nought e = false

abbrev pub is_unit : Term → Bool
is_unit one = true
is_unit e = false

abbrev pub plus : Term → Term → Term
plus e f = if is_nought e then f else if is_nought f then e else sum e f

abbrev pub times : Term → Term → Term
times e f =
    if is_nought e then nought
    else if is_nought f then nought
    else if is_unit e then f
    else if is_unit f then e
    else product e f

abbrev pub repeated : Term → Term
repeated e = if is_nought e then one else star e

-- A graph over places is a matrix of terms, from each place to each place, and a column, from each place to the end.
-- From place i to place k, any number of times from k to k, and on:
abbrev pub around_place : (ℕ → ℕ → Term) → ℕ → ℕ → Term → Term
around_place steps k i rest = times (steps i k) (times (repeated (steps k k)) rest)

-- the graph without place k
abbrev pub steps_without : (ℕ → ℕ → Term) → ℕ → ℕ → ℕ → Term
steps_without steps k i j = plus (steps i j) (around_place steps k i (steps k j))

abbrev pub ends_without : (ℕ → ℕ → Term) → (ℕ → Term) → ℕ → ℕ → Term
ends_without steps ends k i = plus (ends i) (around_place steps k i (ends k))

-- the term of the paths from place 0 to the end over the places up to k: they are eliminated from the last one to the
-- first
abbrev pub eliminated : ℕ → (ℕ → ℕ → Term) → (ℕ → Term) → Term
eliminated zero steps ends = times (repeated (steps 0 0)) (ends 0)
eliminated (suc k) steps ends = eliminated k (steps_without steps (suc k)) (ends_without steps ends (suc k))
