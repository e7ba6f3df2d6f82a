use Rattle.std.proofs.Common.{◌≡◌}
use Rattle.cert_checker.specs.NodeTables.{AreTables}
use Rattle.cert_checker.proofs.CertTables.{front_tests, front_terms}
use Rattle.cert_checker.proofs.tables.Tables.of.Given as goal

-- the tables have the first nodes of the certificate
abbrev pub invariant-loop-node : goal.invariant-loop-node
invariant-loop-node l = record { tables : AreTables l.tables; nodes : l.tables ≡ front_tests l.width l.cert l.node-index }

abbrev pub invariant-loop-node-2 : goal.invariant-loop-node-2
invariant-loop-node-2 l = record { tables : AreTables l.tables; nodes : l.tables ≡ front_terms l.width l.cert l.node-index }
