use Rattle.walk_regions.proofs.bars.Bars.+image_under.Given as goal

abbrev pub decreases-image_under : goal.decreases-image_under
decreases-image_under l = l.count
