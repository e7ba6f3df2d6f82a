use Rattle.std.proofs.Common.{◌+◌, ◌*◌}
use Rattle.bench_problems.proofs.generator.+programs.Given as goal

abbrev pub decreases-draw_program : goal.decreases-draw_program
decreases-draw_program l = 2 * l.levels

abbrev pub decreases-draw_both : goal.decreases-draw_both
decreases-draw_both l = 2 * l.levels + 1

abbrev pub decreases-draw_branch : goal.decreases-draw_branch
decreases-draw_branch l = 2 * l.levels + 1

abbrev pub decreases-draw_loop : goal.decreases-draw_loop
decreases-draw_loop l = 2 * l.levels + 1
