use Rattle.std.proofs.Common.{subst}
use Rattle.cert_checker.specs.NodeTables.{TablesGrow}
use Rattle.cert_checker.proofs.GrowingTables.{grows_trans}
use Rattle.cert_checker.proofs.TargetSets.{test_within}
use Rattle.cert_checker.proofs.tables.Tables.+number_of_test.Goals as goal
use Rattle.cert_checker.proofs.tables.Tables.+number_of_test.Goals.{in-False, in-True, in-Prim, in-Not+in_ok-number_of_test-in-Not, in-And+in_ok-number_of_test-in-And+in_ok-number_of_test-in-And-2, in-Or+in_ok-number_of_test-in-Or+in_ok-number_of_test-in-Or-2}

pub returns-clause-grows : goal.returns-clause-grows
returns-clause-grows t c =
    let old = c.args.self.now in
    let new = c.test.new.self in
    elim c.match-test.branch [
      | in-False w ↦ subst (λ s. TablesGrow s new) w.self-is c.test.ensures.grows.grows
      | in-True w ↦ subst (λ s. TablesGrow s new) w.self-is c.test.ensures.grows.grows
      | in-Prim w ↦ subst (λ s. TablesGrow s new) w.self-is c.test.ensures.grows.grows
      | in-Not+in_ok-number_of_test-in-Not w ↦ grows_trans old w.number_of_test.new.self new w.number_of_test.ensures.grows (subst (λ s. TablesGrow s new) w.self-is c.test.ensures.grows.grows)
      | in-And+in_ok-number_of_test-in-And+in_ok-number_of_test-in-And-2 w ↦ grows_trans old w.number_of_test-in-And.new.self new w.number_of_test-in-And.ensures.grows (grows_trans w.number_of_test-in-And.new.self w.number_of_test-in-And-2.new.self new w.number_of_test-in-And-2.ensures.grows (subst (λ s. TablesGrow s new) w.self-is c.test.ensures.grows.grows))
      | in-Or+in_ok-number_of_test-in-Or+in_ok-number_of_test-in-Or-2 w ↦ grows_trans old w.number_of_test-in-Or.new.self new w.number_of_test-in-Or.ensures.grows (grows_trans w.number_of_test-in-Or.new.self w.number_of_test-in-Or-2.new.self new w.number_of_test-in-Or-2.ensures.grows (subst (λ s. TablesGrow s new) w.self-is c.test.ensures.grows.grows))
    ]

pub returns-in_err-number_of_test-in-And-2-clause-grows : goal.returns-in_err-number_of_test-in-And-2-clause-grows
returns-in_err-number_of_test-in-And-2-clause-grows t c = grows_trans c.args.self.now c.number_of_test-in-And.new.self c.number_of_test-in-And-2.new.self c.number_of_test-in-And.ensures.grows c.number_of_test-in-And-2.ensures.grows

pub returns-in_err-number_of_test-in-Or-2-clause-grows : goal.returns-in_err-number_of_test-in-Or-2-clause-grows
returns-in_err-number_of_test-in-Or-2-clause-grows t c = grows_trans c.args.self.now c.number_of_test-in-Or.new.self c.number_of_test-in-Or-2.new.self c.number_of_test-in-Or.ensures.grows c.number_of_test-in-Or-2.ensures.grows

-- the node names only tests of the tables
pub test-requires : goal.test-requires
test-requires t c =
    elim c.match-test.branch [
      | in-False w ↦ rw w.node-is (tt, tt)
      | in-True w ↦ rw w.node-is (tt, tt)
      | in-Prim w ↦ rw (w.self-is, w.node-is) (tt, (rw w.in-Prim.is at c.requires))
      | in-Not+in_ok-number_of_test-in-Not w ↦ rw (w.self-is, w.node-is) (w.in_ok-number_of_test-in-Not.ensures.tree.0, tt)
      | in-And+in_ok-number_of_test-in-And+in_ok-number_of_test-in-And-2 w ↦ rw (w.self-is, w.node-is) ((test_within w.number_of_test-in-And.new.self w.number_of_test-in-And-2.new.self w.number_of_test-in-And-2.ensures.grows.was w.number_of_test-in-And-2.ensures.grows _ w.in_ok-number_of_test-in-And.ensures.tree.0, w.in_ok-number_of_test-in-And-2.ensures.tree.0), tt)
      | in-Or+in_ok-number_of_test-in-Or+in_ok-number_of_test-in-Or-2 w ↦ rw (w.self-is, w.node-is) ((test_within w.number_of_test-in-Or.new.self w.number_of_test-in-Or-2.new.self w.number_of_test-in-Or-2.ensures.grows.was w.number_of_test-in-Or-2.ensures.grows _ w.in_ok-number_of_test-in-Or.ensures.tree.0, w.in_ok-number_of_test-in-Or-2.ensures.tree.0), tt)
    ]
