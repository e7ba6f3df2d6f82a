use Rattle.std.proofs.Common.{take}
use Rattle.std.specs.Option.{MatchOption}
use Rattle.cert_checker.specs.Waiting.{IsWaited}
use Rattle.cert_checker.specs.Waiting.{AreTestsSettled}
use Rattle.cert_checker.proofs.waiting.undecided_test_of_pairs.Given as goal

-- a test that an earlier pair waits for, or the tests of all earlier pairs are settled
abbrev pub invariant-loop-pair : goal.invariant-loop-pair
invariant-loop-pair l = MatchOption l.waiting (AreTestsSettled l.case.end.items (take l.pair-index l.question.action_pass.pairs)) (IsWaited l.question l.case)
