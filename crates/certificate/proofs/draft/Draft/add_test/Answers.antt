use Rattle.std.proofs.Common.{◌≡◌, ℕ, ap, ◌++◌, ◌∷◌, [], List}
use Rattle.kat_model.specs.Members.{SameMembers}
use Rattle.term_nodes.specs.declared.TestNode.{TestNode}
use Rattle.certificate.specs.declared.draft.Draft.{Draft}
use Rattle.certificate.specs.declared.entry.Entry.TheVariants.{TestLine}
use Rattle.certificate.specs.Working.Readings.{draft_parts}
use Rattle.line_format.proofs.KnownLines.{old_known, new_unknown, known_pushed}
use Rattle.certificate.proofs.Drafts.{test_double, test_passes, added}
use Rattle.certificate.proofs.draft.Draft.add_test.Goals as goal

pub returns-then-not-is_new : goal.returns-then-not-is_new
returns-then-not-is_new c =
    test_double c.args.self.now c.args.number c.args.node c.requires.draft c.requires.tested
    (old_known c.node_orders.ensures.tests c.node_orders.ensures.tests_own c.args.node c.args.self.now.known_tests.keys c.in_ok-is_new.is_new c.in_ok-is_new.ensures.added c.if-not-is_new.true)

pub returns : goal.returns
returns c =
    let old : Draft = c.args.self.now in
    let node : TestNode ℕ = c.args.node in
    let new : Draft = record { style = old.style; test_nodes = c.push.new.self; term_nodes = old.term_nodes; pairs = old.pairs; known_tests = c.insert.new.self; known_terms = old.known_terms } in
    let items = c.in_ok-push.ensures.items in
    let is : draft_parts new ≡ record { style = old.style; test_nodes = old.test_nodes.items ++ node ∷ []; term_nodes = old.term_nodes.items; pairs = old.pairs.items } = ap (λ (l : List (TestNode ℕ)). record { style = old.style; test_nodes = l; term_nodes = old.term_nodes.items; pairs = old.pairs.items }) items in
    let known : SameMembers c.insert.new.self.keys c.push.new.self.items =
    rw (c.in_ok-is_new.ensures.keys, items) (known_pushed c.node_orders.ensures.tests old.known_tests.keys old.test_nodes.items node c.requires.draft.tests) in
    let passes = test_passes old c.args.number node c.requires.draft c.requires.tested (new_unknown c.node_orders.ensures.tests c.node_orders.ensures.tests_own node old.known_tests.keys c.in_ok-is_new.is_new c.in_ok-is_new.ensures.added c.if-not-is_new.false) in
    added old c.args.number (TestLine node) new c.requires.draft passes is known c.requires.draft.terms
