use Rattle.std.proofs.Common.{◌+◌, ◌*◌, max}
use Rattle.kat_model.specs.Trees.{kat_tree, term_height}
use Rattle.string_tables.proofs.evaluation.+evaluation.Given as goal

-- The measure of the call for both parts is between the measures of the calls for the whole and for each part.
abbrev pub decreases-evaluate : goal.decreases-evaluate
decreases-evaluate l = 2 * term_height (kat_tree l.term.now)

abbrev pub decreases-evaluate_both : goal.decreases-evaluate_both
decreases-evaluate_both l = 2 * max (term_height (kat_tree l.first.now)) (term_height (kat_tree l.second.now)) + 1
