use Rattle.std.proofs.Common.{◌≡◌, ℕ, ap, ◌++◌, ◌∷◌, [], List}
use Rattle.kat_model.specs.Members.{SameMembers}
use Rattle.term_nodes.specs.declared.TermNode.{TermNode}
use Rattle.certificate.specs.declared.draft.Draft.{Draft}
use Rattle.certificate.specs.declared.entry.Entry.TheVariants.{TermLine}
use Rattle.certificate.specs.Working.Readings.{draft_parts}
use Rattle.line_format.proofs.KnownLines.{old_known, new_unknown, known_pushed}
use Rattle.certificate.proofs.Drafts.{term_double, term_passes, added}
use Rattle.certificate.proofs.draft.Draft.add_term.Goals as goal

pub returns-then-not-is_new : goal.returns-then-not-is_new
returns-then-not-is_new c =
    term_double c.args.self.now c.args.number c.args.node c.requires.draft c.requires.tested
    (old_known c.node_orders.ensures.terms c.node_orders.ensures.terms_own c.args.node c.args.self.now.known_terms.keys c.in_ok-is_new.is_new c.in_ok-is_new.ensures.added c.if-not-is_new.true)

pub returns : goal.returns
returns c =
    let old : Draft = c.args.self.now in
    let node : TermNode ℕ ℕ = c.args.node in
    let new : Draft = record { style = old.style; test_nodes = old.test_nodes; term_nodes = c.push.new.self; pairs = old.pairs; known_tests = old.known_tests; known_terms = c.insert.new.self } in
    let items = c.in_ok-push.ensures.items in
    let is : draft_parts new ≡ record { style = old.style; test_nodes = old.test_nodes.items; term_nodes = old.term_nodes.items ++ node ∷ []; pairs = old.pairs.items } = ap (λ (l : List (TermNode ℕ ℕ)). record { style = old.style; test_nodes = old.test_nodes.items; term_nodes = l; pairs = old.pairs.items }) items in
    let known : SameMembers c.insert.new.self.keys c.push.new.self.items =
    rw (c.in_ok-is_new.ensures.keys, items) (known_pushed c.node_orders.ensures.terms old.known_terms.keys old.term_nodes.items node c.requires.draft.terms) in
    let passes = term_passes old c.args.number node c.requires.draft c.requires.tested (new_unknown c.node_orders.ensures.terms c.node_orders.ensures.terms_own node old.known_terms.keys c.in_ok-is_new.is_new c.in_ok-is_new.ensures.added c.if-not-is_new.false) in
    added old c.args.number (TermLine node) new c.requires.draft passes is c.requires.draft.tests known
