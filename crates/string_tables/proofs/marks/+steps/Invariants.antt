use Rattle.std.proofs.Common.{◌+◌, ◌*◌, max}
use Rattle.kat_model.specs.Trees.{term_height, kat_tree}
use Rattle.string_tables.proofs.marks.+steps.Given as goal

abbrev pub decreases-step : goal.decreases-step
decreases-step l = 3 * term_height (kat_tree l.term.now)

abbrev pub decreases-step_parts : goal.decreases-step_parts
decreases-step_parts l = 3 * max (term_height (kat_tree l.e.now)) (term_height (kat_tree l.f.now)) + 2

abbrev pub decreases-step_both : goal.decreases-step_both
decreases-step_both l = 3 * max (term_height (kat_tree l.e.now)) (term_height (kat_tree l.f.now)) + 1
