-- The goals of the program as trees, and the names of its programs.
use Rattle.std.specs.Prelude.{ℕ, List, map}
use Rattle.kat_model.specs.Trees.{kat_tree}
use Rattle.kat_model.specs.Expressions.{cond_tree}
use Rattle.while_lang.specs.declared.named.NamedProg.{NamedProg}
use Rattle.while_lang.specs.declared.file.Side.{Side}
use Rattle.while_lang.specs.declared.file.Side.TheVariants.{Term, Prog}
use Rattle.while_lang.specs.declared.file.Goal.{Goal}
use Rattle.while_lang.specs.declared.file.Goal.TheVariants.{Equal, Below, Triple}
use Rattle.while_lang.specs.Files.{SideTree, term_side, prog_side, GoalTree, equal, below, triple}

abbrev pub side_tree : Side → SideTree
side_tree (Term e) = term_side (kat_tree e)
side_tree (Prog p) = prog_side p

abbrev pub goal_tree : Goal → GoalTree
goal_tree (Equal l r) = equal (side_tree l) (side_tree r)
goal_tree (Below l r) = below (side_tree l) (side_tree r)
goal_tree (Triple pre body post) = triple (cond_tree pre) (side_tree body) (cond_tree post)

abbrev pub names_of_progs : List NamedProg → List (List ℕ)
names_of_progs ns = map (λ n. n.name) ns
