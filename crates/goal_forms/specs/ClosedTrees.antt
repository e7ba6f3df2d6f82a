-- The closed terms of the program as trees.
use Rattle.std.specs.Option.{option_map}
use Rattle.kat_model.specs.Trees.{kat_tree}
use Rattle.kat_model.specs.Closed.{Closed as ClosedTerms}
use Rattle.goal_forms.specs.declared.elimination.Closed.{Closed}

abbrev pub closed_trees : Closed → ClosedTerms
closed_trees c = record { left = kat_tree c.left; right = kat_tree c.right; universal = option_map kat_tree c.universal }
