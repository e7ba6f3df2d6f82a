use Rattle.std.proofs.Common.{◌≡◌, ◌<◌, ℕ, ⊎_elim, List, length, Option, Some, None, sym, ◌∙◌, subst}
use Rattle.kat_model.specs.Members.{Has}
use Rattle.certificate.specs.declared.nodes.Style.{Style}
use Rattle.certificate.specs.declared.nodes.Style.TheVariants.{Plain, UpTo, Under}
use Rattle.certificate.specs.Certs.{HasItsTest}
use Rattle.certificate.specs.PairParts.{PairParts}
use Rattle.cert_checker.specs.NodeTables.{TableParts, IsTest}
use Rattle.cert_checker.proofs.relevant.queried_prims.Goals as goal

-- the test of a pair is a test node
test_below : (s : Style) (n : ℕ) (o : Option ℕ) → HasItsTest s n o → (k : ℕ) → o ≡ Some k → k < n
test_below Plain n o h k e = let f : None ≡ Some k = sym h ∙ e in absurd cc
test_below UpTo n o h k e = let f : None ≡ Some k = sym h ∙ e in absurd cc
test_below Under n o h k e = let f : Some h.0 ≡ Some k = sym h.1 ∙ e in let same : h.0 ≡ k = cc in subst (λ z. z < n) same h.2

pub with_parts-requires : goal.with_parts-requires
with_parts-requires c =
    let cert = c.args.cert.now in
    λ k h.
    subst (λ (t : TableParts). IsTest t k) (sym c.requires)
    (⊎_elim
    (λ was. absurd (subst (λ (l : List ℕ). Has l k) c.new-tests.ensures.empty was))
    (λ m. test_below cert.style (length cert.test_nodes) m.0.test (c.pairs.ensures.rules.pairs m.0 (subst (λ (l : List PairParts). Has l m.0) c.pairs.ensures.value m.1)).test k m.2)
    ((c.in_ok-add_tests_of.ensures k).0 h))
