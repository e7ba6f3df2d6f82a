use Rattle.std.proofs.Common.{◌≡◌, ◌++◌, drop}
use Rattle.kat_report.specs.Paths.{dotted}
use Rattle.kat_report.proofs.paths.put_dotted.Given as goal

-- the numbers so far, and the remaining ones
abbrev pub invariant-loop-k : goal.invariant-loop-k
invariant-loop-k l = l.out.items ++ dotted (drop l.k-index l.path) ≡ l.initial.out.items ++ dotted l.path
