-- The closed sides, which are compared in place of the sides. Strings that contain a string of a hypothesis do not
-- count (elimination of hypotheses e = 0: Cohen 1994; Kozen and Smith 1996).
use Rattle.std.specs.Prelude.{ℕ, zero, suc, List, [], ◌∷◌, ◌++◌, Option, Some, None}
use Rattle.kat_model.specs.Trees.{Term, act, sum, product, star}
use Rattle.kat_model.specs.Balanced.{sum_of}
use Rattle.kat_model.specs.Problems.{ProblemParts}

-- the first n actions in order
abbrev pub actions_below : ℕ → List Term
actions_below zero = []
actions_below (suc n) = actions_below n ++ act n ∷ []

-- the term that accepts every string over the first n actions
abbrev pub universal_of : ℕ → Term
universal_of actions = star (sum_of (actions_below actions))

-- any string, then the term, then any string
abbrev pub inside : Term → Term → Term
inside u e = product u (product e u)

pub record Closed : Type 0 where
  pub left : Term
  pub right : Term
  pub universal : Option Term

abbrev pub closed_under : ℕ → List Term → Term → Term → Closed
closed_under actions [] left right = record { left = left; right = right; universal = None }
closed_under actions (h ∷ hs) left right =
    record {
      left = sum left (inside (universal_of actions) (sum_of (h ∷ hs)));
      right = sum right (inside (universal_of actions) (sum_of (h ∷ hs)));
      universal = Some (universal_of actions);
    }

-- the closed sides of a problem, and the universal term if there are hypotheses
abbrev pub closed : ProblemParts → Closed
closed q = closed_under q.actions q.hyps q.left q.right
