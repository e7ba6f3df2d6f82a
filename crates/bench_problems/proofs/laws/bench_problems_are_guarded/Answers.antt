use Rattle.std.proofs.Common.{refl}
use Rattle.while_lang.proofs.GuardedFlows.{encoded_guarded}
use Rattle.bench_problems.proofs.laws.bench_problems_are_guarded.Goals as goal

pub returns : goal.returns
returns c = record {
  hyps = λ k. refl;
  left = λ k. encoded_guarded _;
  right = λ k. encoded_guarded _;
}
