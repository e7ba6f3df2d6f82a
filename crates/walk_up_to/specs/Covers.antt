-- Whether sets of targets are congruent by what the decided tests determine.
use Rattle.std.specs.Prelude.{◌&&◌, Bool, List}
use Rattle.walk_pairs.specs.declared.items.Item.{Item}
use Rattle.walk_pairs.specs.declared.items.Ends.{Ends}
use Rattle.walk_pairs.specs.declared.items.Side.{Side}
use Rattle.walk_pairs.specs.declared.items.Side.TheVariants.{Left, Right}
use Rattle.walk_pairs.specs.Items.{targets_under, open_targets}
use Rattle.walk_up_to.specs.Marks.{ListedPairsParts, reaches_targets}

-- whether the other side's sure targets reach all targets that may be only on this side
abbrev pub covers_on : ListedPairsParts → Ends → List Item → Side → Side → Bool
covers_on r ends items side other = reaches_targets r (targets_under ends.always other items) (open_targets ends.never ends.always side items)

abbrev pub covers : ListedPairsParts → Ends → List Item → Bool
covers r ends items = covers_on r ends items Left Right && covers_on r ends items Right Left
