use Rattle.std.proofs.Common.{◌≡◌, ◌++◌, drop}
use Rattle.kat_report.specs.Replays.{literals_text}
use Rattle.kat_report.proofs.replay.put_literals.Given as goal

-- the tests so far, and the remaining tests
abbrev pub invariant-loop-test : goal.invariant-loop-test
invariant-loop-test l = l.out.items ++ literals_text l.test (drop l.test l.atom) ≡ l.initial.out.items ++ literals_text 0 l.atom
