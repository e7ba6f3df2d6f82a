-- The two terms that a goal compares (Kozen 1997; triples: Kozen 2000).
use Rattle.kat_model.specs.Trees.{TestTree, complement, Term, zero, test, sum, product, kat_tree}
use Rattle.goal_forms.specs.declared.goals.Sides.{Sides}

pub record SideTrees : Type 0 where
  pub left : Term
  pub right : Term

-- the trees of the sides of the program
abbrev pub side_trees : Sides → SideTrees
side_trees s = record { left = kat_tree s.left; right = kat_tree s.right }

-- small is below large if small adds nothing to large
abbrev pub below_sides : Term → Term → SideTrees
below_sides small large = record { left = sum small large; right = large }

-- the runs that break a triple: the runs of the body that begin in pre and end outside post
abbrev pub failing_run : TestTree → Term → TestTree → Term
failing_run pre body post = product (test pre) (product body (test (complement post)))

-- no run of the body from pre ends outside post
abbrev pub triple_sides : TestTree → Term → TestTree → SideTrees
triple_sides pre body post = record { left = failing_run pre body post; right = zero }
