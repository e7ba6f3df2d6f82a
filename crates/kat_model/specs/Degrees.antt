-- The degree of a term, which bounds the number of moves of its strings. It defines the short hypotheses, those on
-- single atoms and single moves.
use Rattle.std.specs.Prelude.{ℕ, ◌+◌, ◌≤◌, zero as nought, suc, max, Bool, false, not, nat_le, IsTrue, List, ◌++◌, Option, Some, None}
use Rattle.std.specs.List.{filter}
use Rattle.kat_model.specs.Trees.{Term, zero, one, test, act, sum, product, star}
use Rattle.kat_model.specs.Members.{Has, SameMembers}
use Rattle.kat_model.specs.Problems.{ProblemParts}
use Rattle.kat_model.specs.Closed.{Closed, closed}

-- the combination of two bounds; if one of them is missing, there is no bound
abbrev pub both_bounds : (ℕ → ℕ → ℕ) → Option ℕ → Option ℕ → Option ℕ
both_bounds f None n = None
both_bounds f (Some m) None = None
both_bounds f (Some m) (Some n) = Some (f m n)

-- the bound of a repetition: only the bound 0 gives a bound
abbrev pub repeated_bound : Option ℕ → Option ℕ
repeated_bound None = None
repeated_bound (Some nought) = Some 0
repeated_bound (Some (suc n)) = None

-- the degree of a term: a bound on the number of moves of its strings, computed from its form
abbrev pub degree : Term → Option ℕ
degree zero = Some 0
degree one = Some 0
degree (test b) = Some 0
degree (act a) = Some 1
degree (sum e f) = both_bounds max (degree e) (degree f)
degree (product e f) = both_bounds (◌+◌) (degree e) (degree f)
degree (star e) = repeated_bound (degree e)

-- a number is within a bound, if there is one
abbrev pub IsBounded : Option ℕ → ℕ → Type 0
IsBounded None k = Unit {0}
IsBounded (Some n) k = k ≤ n

-- there is a bound, and it is at most n
abbrev pub is_at_most : ℕ → Option ℕ → Bool
is_at_most n None = false
is_at_most n (Some m) = nat_le m n

-- short: of degree at most 1; long: any other
abbrev pub is_short : Term → Bool
is_short e = is_at_most 1 (degree e)

abbrev pub is_long : Term → Bool
is_long e = not (is_short e)

-- the short and the long hypotheses of a problem, each in their order
abbrev pub short_hyps : ProblemParts → List Term
short_hyps q = filter is_short q.hyps

abbrev pub long_hyps : ProblemParts → List Term
long_hyps q = filter is_long q.hyps

-- the problem with other hypotheses
abbrev pub with_hyps : ProblemParts → List Term → ProblemParts
with_hyps q hyps = record { tests = q.tests; actions = q.actions; hyps = hyps; left = q.left; right = q.right }

-- the closed sides of the problem with only its long hypotheses
abbrev pub closed_long : ProblemParts → Closed
closed_long q = closed (with_hyps q (long_hyps q))

-- The hypotheses are the members of these two lists. The first list has only short hypotheses, all or some of them.
-- Only the second list must be eliminated.
pub record AreSplit (hyps shorts longs : List Term) : Type 0 where
  pub all : SameMembers hyps (shorts ++ longs)
  pub short : (h : Term) → Has shorts h → IsTrue (is_short h)
