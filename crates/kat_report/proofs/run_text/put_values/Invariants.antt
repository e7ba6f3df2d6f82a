use Rattle.std.proofs.Common.{◌≡◌, ◌++◌, drop}
use Rattle.kat_report.specs.RunTexts.{values_text}
use Rattle.kat_report.proofs.run_text.put_values.Given as goal

abbrev pub invariant-loop-k : goal.invariant-loop-k
invariant-loop-k l = l.out.items ++ values_text l.scope l.k (drop l.k l.values) ≡ l.initial.out.items ++ values_text l.scope 0 l.values
