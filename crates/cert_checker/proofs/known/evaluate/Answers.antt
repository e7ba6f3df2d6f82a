use Rattle.std.proofs.Common.{◌≡◌, ◌<◌, Some, get_or, slice_get, length, arith}
use Rattle.std.proofs.lemmas.Option.{slice_get-get_or}
use Rattle.cert_checker.proofs.KnownTruths.{node_within, parts_within, evaluating_starts, evaluating_more, evaluating_ends}
use Rattle.cert_checker.proofs.known.evaluate.Goals as goal

pub loop-test-init : goal.loop-test-init
loop-test-init c = evaluating_starts c.args.first c.args.tables.now c.args.decided.now c.args.queried.now c.args.known.now

pub test_node-requires : goal.test_node-requires
test_node-requires c = (c.requires.queried _ _ (slice_get-get_or c.args.queried.now c.loop-test.test-index 0 c.loop-test-test.true)).0

pub known_in-requires-clause-parts : goal.known_in-requires-clause-parts
known_in-requires-clause-parts c =
    let k = get_or c.args.queried.now c.loop-test.test-index 0 in
    let there : k < length c.args.tables.now.tests = (c.requires.queried _ _ (slice_get-get_or c.args.queried.now c.loop-test.test-index 0 c.loop-test-test.true)).0 in
    parts_within c.args.tables.now c.test_node.ensures.tables k (length c.loop-test.known) c.test_node.result (omega (arith, there, c.requires.room, c.loop-test.invariant.room)) c.test_node.ensures.node

pub known_in-requires-clause-within : goal.known_in-requires-clause-within
known_in-requires-clause-within c = node_within c.args.tables.now c.test_node.ensures.tables _ (get_or c.args.queried.now c.loop-test.test-index 0) c.test_node.result c.requires.decided c.test_node.ensures.node

pub loop-test-preserved : goal.loop-test-preserved
loop-test-preserved c =
    let t = c.args.tables.now in
    let queried = c.args.queried.now in
    let i = c.loop-test.test-index in
    let k = get_or queried i 0 in
    let at : slice_get queried i ≡ Some k = slice_get-get_or queried i 0 c.loop-test-test.true in
    let there : k < length t.tests = (c.requires.queried i k at).0 in
    evaluating_more c.args.first t c.args.decided.now queried i k at c.args.known.now c.loop-test.known c.test_node.ensures.tables c.requires.queried c.requires.decided c.test_node.result c.test_node.ensures.node c.loop-test.invariant
    c.known_in.result c.known_in.ensures (omega (arith, there, c.requires.room, c.loop-test.invariant.room))

pub returns-clause-known : goal.returns-clause-known
returns-clause-known c = evaluating_ends c.args.first c.args.tables.now c.args.decided.now c.args.queried.now c.loop-test.test-index c.args.known.now c.loop-test.known c.loop-test-test.false c.loop-test.invariant

pub returns-clause-others : goal.returns-clause-others
returns-clause-others c = c.loop-test.invariant.others

pub returns-clause-room : goal.returns-clause-room
returns-clause-room c = c.loop-test.invariant.room

pub known_in-requires-clause-narrow : goal.known_in-requires-clause-narrow
known_in-requires-clause-narrow c = omega (arith, c.requires.narrow, c.requires.decided)

pub bounds-known-test : goal.bounds-known-test
bounds-known-test c =
    let there : get_or c.args.queried.now c.loop-test.test-index 0 < length c.args.tables.now.tests = (c.requires.queried _ _ (slice_get-get_or c.args.queried.now c.loop-test.test-index 0 c.loop-test-test.true)).0 in
    omega (arith, there, c.requires.room, c.loop-test.invariant.room)
