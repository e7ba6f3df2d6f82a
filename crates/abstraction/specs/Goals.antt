-- The two terms that a goal compares, over the rows of tables.
use Rattle.kat_model.specs.Trees.{Term}
use Rattle.goal_forms.specs.Sides.{SideTrees, below_sides, triple_sides}
use Rattle.while_lang.specs.Encoding.{encoded}
use Rattle.while_lang.specs.Files.{SideTree, term_side, prog_side, GoalTree, equal, below, triple}
use Rattle.abstraction.specs.Tables.{Tables}
use Rattle.abstraction.specs.Tests.{cond_test, prog_flow}

-- the term of a program is the term of its flow
abbrev pub side_term : Tables → SideTree → Term
side_term t (term_side e) = e
side_term t (prog_side p) = encoded (prog_flow t p)

abbrev pub goal_sides : Tables → GoalTree → SideTrees
goal_sides t (equal l r) = record { left = side_term t l; right = side_term t r }
goal_sides t (below l r) = below_sides (side_term t l) (side_term t r)
goal_sides t (triple pre body post) = triple_sides (cond_test t pre) (side_term t body) (cond_test t post)
