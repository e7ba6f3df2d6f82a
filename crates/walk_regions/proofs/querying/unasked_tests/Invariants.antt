use Rattle.std.proofs.Common.{ℕ}
use Rattle.kat_model.specs.Members.{Has}
use Rattle.walk_regions.specs.Working.Querying.{IsUnaskedTest}
use Rattle.walk_regions.proofs.querying.unasked_tests.Given as goal

abbrev pub invariant-loop-test : goal.invariant-loop-test
invariant-loop-test l = (t : ℕ) → Has l.unasked.items t → IsUnaskedTest l.queried t
