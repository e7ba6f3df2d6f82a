use Rattle.std.proofs.Common.{◌≡◌, map, take}
use Rattle.while_lang.specs.FlowViews.{flow_stmt}
use Rattle.bench_problems.proofs.UnrolledFlows.{unrolled_flow}
use Rattle.bench_problems.proofs.unrolling.+unrolling.Given as goal

-- the statements so far are those of the program with their loops unrolled
abbrev pub invariant-unroll-loop-stmt : goal.invariant-unroll-loop-stmt
invariant-unroll-loop-stmt l = map flow_stmt l.list.items ≡ map unrolled_flow (take l.stmt-index l.stmt-items)
