use Rattle.std.proofs.Common.{◌-◌}
use Rattle.hoare_outlines.proofs.noting.NodeWriter.+node_from.Given as goal

-- in each call, fewer tests are left
abbrev pub decreases-node_from : goal.decreases-node_from
decreases-node_from l = l.diagrams.now.tests - l.test
