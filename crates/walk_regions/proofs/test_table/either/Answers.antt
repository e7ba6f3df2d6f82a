use Rattle.std.proofs.Common.{subst}
use Rattle.term_nodes.specs.declared.TestNode.TheVariants.{Or}
use Rattle.walk_regions.specs.Working.StoredTests.{IsConstantTest}
use Rattle.walk_regions.proofs.StoredTests.{interned, either_first_true, either_first_false, either_second_true, either_second_false, either_node}
use Rattle.walk_regions.proofs.test_table.either.Goals as goal

pub returns-then-value-clause-test : goal.returns-then-value-clause-test
returns-then-value-clause-test c n f g first second = either_first_true c.args.store.now n c.args.a c.args.b f g first second (subst (IsConstantTest c.args.store.now c.args.a) c.if-value.true c.in-Some.ensures)

pub returns-in-Some-clause-test : goal.returns-in-Some-clause-test
returns-in-Some-clause-test c n f g first second = either_first_false c.args.store.now n c.args.a c.args.b f g first second (subst (IsConstantTest c.args.store.now c.args.a) c.if-value.false c.in-Some.ensures)

pub returns-then-value-2-clause-test : goal.returns-then-value-2-clause-test
returns-then-value-2-clause-test c n f g first second = either_second_true c.args.store.now n c.args.a c.args.b f g first second (subst (IsConstantTest c.args.store.now c.args.b) c.if-value-2.true c.in-Some-constant_of.ensures)

pub returns-in-Some-constant_of-clause-test : goal.returns-in-Some-constant_of-clause-test
returns-in-Some-constant_of-clause-test c n f g first second = either_second_false c.args.store.now n c.args.a c.args.b f g first second (subst (IsConstantTest c.args.store.now c.args.b) c.if-value-2.false c.in-Some-constant_of.ensures)

pub returns-clause-test : goal.returns-clause-test
returns-clause-test c =
    interned c.args.store.now c.intern_test.new.self (Or c.args.a c.args.b) c.intern_test.result _ (λ id is tree n f g first second. either_node c.args.store.now n c.args.a c.args.b f g first second c.intern_test.new.self id is tree) c.intern_test.ensures.tree c.intern_test.ensures.is_id
