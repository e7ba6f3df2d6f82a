use Rattle.kat_model.specs.Trees.{kat_tree, term_height}
use Rattle.string_tables.proofs.following.+follow.Given as goal

abbrev pub decreases-follow : goal.decreases-follow
decreases-follow l = term_height (kat_tree l.term.now)
