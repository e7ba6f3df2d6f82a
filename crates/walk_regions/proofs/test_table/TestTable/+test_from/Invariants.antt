use Rattle.std.proofs.Common.{◌-◌}
use Rattle.walk_regions.proofs.test_table.TestTable.+test_from.Given as goal

-- each call is free of an additional test
abbrev pub decreases-test_from : goal.decreases-test_from
decreases-test_from l = l.diagrams.now.tests - l.from
