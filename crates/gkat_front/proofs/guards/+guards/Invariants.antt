use Rattle.std.proofs.Common.{◌+◌, ◌*◌}
use Rattle.kat_model.specs.Trees.{kat_tree, term_size}
use Rattle.gkat_front.proofs.guards.+guards.Given as goal

abbrev pub decreases-is_guarded : goal.decreases-is_guarded
decreases-is_guarded l = 2 * term_size (kat_tree l.term.now)

abbrev pub decreases-is_choice : goal.decreases-is_choice
decreases-is_choice l = 2 * term_size (kat_tree l.left.now) + 2 * term_size (kat_tree l.right.now) + 1

abbrev pub decreases-is_loop : goal.decreases-is_loop
decreases-is_loop l = 2 * term_size (kat_tree l.turn.now) + 1

abbrev pub decreases-is_product : goal.decreases-is_product
decreases-is_product l = 2 * term_size (kat_tree l.first.now) + 2 * term_size (kat_tree l.second.now) + 1
