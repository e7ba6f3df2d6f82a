use Rattle.std.proofs.Common.{◌≡◌, ap, sym, ◌∙◌, ◌++◌, ◌∷◌, [], List, true}
use Rattle.certificate.specs.declared.draft.Draft.{Draft}
use Rattle.certificate.specs.declared.entry.Entry.TheVariants.{PairLine}
use Rattle.term_nodes.specs.NumberSets.{are_ascending}
use Rattle.certificate.specs.PairParts.{PairParts}
use Rattle.certificate.specs.Working.Readings.{draft_parts}
use Rattle.certificate.proofs.Drafts.{added, pair_passes}
use Rattle.certificate.proofs.draft.Draft.add_pair.Goals as goal

pub returns : goal.returns
returns c =
    let old : Draft = c.args.self.now in
    let pair : PairParts = c.args.pair in
    let new : Draft = record { style = old.style; test_nodes = old.test_nodes; term_nodes = old.term_nodes; pairs = c.push.new.self; known_tests = old.known_tests; known_terms = old.known_terms } in
    let is : draft_parts new ≡ record { style = old.style; test_nodes = old.test_nodes.items; term_nodes = old.term_nodes.items; pairs = old.pairs.items ++ pair ∷ [] } =
    ap (λ (l : List PairParts). record { style = old.style; test_nodes = old.test_nodes.items; term_nodes = old.term_nodes.items; pairs = l }) c.in_ok-push.ensures.items in
    let left : are_ascending pair.left ≡ true = ap are_ascending (sym (ap (λ (p : PairParts). p.left) c.pair.view_is) ∙ sym c.as_slice.ensures) ∙ sym c.is_ascending.ensures ∙ c.if-not-is_ascending.false in
    let right : are_ascending pair.right ≡ true = ap are_ascending (sym (ap (λ (p : PairParts). p.right) c.pair.view_is) ∙ sym c.as_slice-2.ensures) ∙ sym c.is_ascending-2.ensures ∙ c.if-not-is_ascending-2.false in
    added old c.args.number (PairLine pair) new c.requires.draft (pair_passes old c.args.number pair c.requires.tested left right) is c.requires.draft.tests c.requires.draft.terms
