use Rattle.std.proofs.lemmas.Bool.{false≢true}
use Rattle.kat_model.proofs.NumberKeys.{last_has, none_left}
use Rattle.cert_checker.proofs.QueriedTests.{querying_starts, querying_goes_on, querying_falls, querying_ends}
use Rattle.cert_checker.proofs.queried.with_parts.Goals as goal

pub loop-test-init : goal.loop-test-init
loop-test-init c = querying_starts c.args.tables.now c.args.tests.keys c.new-queried.result.items c.requires c.new-queried.ensures.items

pub test_node-requires : goal.test_node-requires
test_node-requires c = c.loop-test.invariant.pending_there c.in-Some.test (last_has c.loop-test.tests.keys c.pop_last.new.self.keys c.in-Some.test c.in-Some.ensures.removal)

pub loop-test-smaller : goal.loop-test-smaller
loop-test-smaller c =
    querying_falls c.args.tables.now c.args.tests.keys c.loop-test.tests.keys c.pop_last.new.self.keys c.add_parts.new.tests.keys c.loop-test.queried.items c.in-Some.test c.test_node.result c.loop-test.invariant c.in-Some.ensures.removal c.in-Some.ensures.all_below c.test_node.ensures.tables c.test_node.ensures.node
    c.in_ok-add_parts.ensures

pub loop-test-preserved : goal.loop-test-preserved
loop-test-preserved c =
    querying_goes_on c.args.tables.now c.args.tests.keys c.loop-test.tests.keys c.pop_last.new.self.keys c.add_parts.new.tests.keys c.loop-test.queried.items c.in-Some.test c.test_node.result c.loop-test.invariant c.in-Some.ensures.removal c.in-Some.ensures.all_below c.test_node.ensures.tables c.test_node.ensures.node
    c.in_ok-add_parts.ensures c.push.new.self.items c.in_ok-push.ensures.items

pub returns-clause-queried : goal.returns-clause-queried
returns-clause-queried c =
    (querying_ends c.args.tables.now c.args.tests.keys c.loop-test.tests.keys _ c.reverse.new.self.items (none_left c.loop-test.tests.keys (λ h. absurd (false≢true (c.in_default.ensures.variant.1 h)))) c.reverse.ensures.items c.loop-test.invariant).0

pub returns-clause-kept : goal.returns-clause-kept
returns-clause-kept c =
    (querying_ends c.args.tables.now c.args.tests.keys c.loop-test.tests.keys _ c.reverse.new.self.items (none_left c.loop-test.tests.keys (λ h. absurd (false≢true (c.in_default.ensures.variant.1 h)))) c.reverse.ensures.items c.loop-test.invariant).1
