use Rattle.bench_problems.proofs.BenchSizes.{bench_not_refused}
use Rattle.bench_problems.proofs.problem.bench_problem.Goals as goal

pub unreachable-requires : goal.unreachable-requires
unreachable-requires c =
    bench_not_refused c.args.k c.draw_program.new.draws.state c.new-draws.result.state c.in_ok-program.program c.in_ok-unrolled.unrolled c.new.result.items c.in_ok-left.left c.in_ok-right.right c.in-Err.field-0
    c.in_ok-program.ensures c.new-draws.ensures c.in_ok-unrolled.ensures c.new.ensures.items c.in_ok-left.ensures c.in_ok-right.ensures c.in-Err.ensures.refused
