use Rattle.std.proofs.Common.{◌<◌, length, ap, arith}
use Rattle.cert_checker.proofs.CertTables.{item_at, may_be_test, test_next, may_be_term, term_next}
use Rattle.cert_checker.proofs.tables.Tables.of.Goals as goal

pub test-requires : goal.test-requires
test-requires c =
    let items = c.test_nodes-node-items in
    let cert = c.args.cert.now in
    let low : c.loop-node.node-index < length cert.test_nodes = omega (arith, ap length items.ensures.value) in
    may_be_test c.args.width cert items.ensures.rules c.requires _ _ _ c.loop-node.invariant.nodes low (item_at cert.test_nodes items.result.now c.loop-node.node-index _ items.ensures.value low)

pub loop-node-preserved : goal.loop-node-preserved
loop-node-preserved c =
    let items = c.test_nodes-node-items in
    let cert = c.args.cert.now in
    let low : c.loop-node.node-index < length cert.test_nodes = omega (arith, ap length items.ensures.value) in
    record {
      tables = c.test.ensures.grows.grows.sound;
      nodes = test_next c.args.width cert items.ensures.rules _ _ _ _ _ c.loop-node.invariant.nodes low (item_at cert.test_nodes items.result.now c.loop-node.node-index _ items.ensures.value low) c.test.ensures.added c.in_ok-test.ensures.node;
    }

pub term-requires : goal.term-requires
term-requires c =
    let items = c.term_nodes-node-items in
    let cert = c.args.cert.now in
    let low : c.loop-node-2.node-index < length cert.term_nodes = omega (arith, ap length items.ensures.value) in
    may_be_term c.args.width cert items.ensures.rules _ _ _ c.loop-node-2.invariant.nodes low (item_at cert.term_nodes items.result.now c.loop-node-2.node-index _ items.ensures.value low)

pub loop-node-2-preserved : goal.loop-node-2-preserved
loop-node-2-preserved c =
    let items = c.term_nodes-node-items in
    let cert = c.args.cert.now in
    let low : c.loop-node-2.node-index < length cert.term_nodes = omega (arith, ap length items.ensures.value) in
    record {
      tables = c.term.ensures.grows.sound;
      nodes = term_next c.args.width cert items.ensures.rules _ _ _ _ _ c.loop-node-2.invariant.nodes low (item_at cert.term_nodes items.result.now c.loop-node-2.node-index _ items.ensures.value low) c.term.ensures.added c.in_ok-term.ensures.node;
    }
