-- The pairs of a certificate by the tables of its nodes.
use Rattle.std.proofs.Common.{◌≡◌, ℕ, ◌<◌, inl, inr, List, [], ◌∷◌, map, length, get_or, slice_get, refl, sym, ap, ◌∙◌, subst, true, Option, Some, None}
use Rattle.std.proofs.lemmas.Option.{slice_get_read}
use mathlib.Core.Path.{ap₂}
use Rattle.std.specs.Option.{option_map_or}
use Rattle.kat_model.specs.Problems.{ProblemParts}
use Rattle.kat_model.specs.Members.{Has}
use Rattle.kat_model.specs.Pairs.{SetPair}
use Rattle.kat_model.specs.TestedPairs.{TestedPair}
use Rattle.term_nodes.specs.NumberSets.{are_below, terms_of, set_pairs_of}
use Rattle.term_nodes.proofs.Prefixes.{IsPrefix-within}
use Rattle.certificate.specs.declared.nodes.Style.{Style}
use Rattle.certificate.specs.declared.nodes.Style.TheVariants.{Plain, UpTo, Under}
use Rattle.certificate.specs.PairParts.{PairParts, only_sets}
use Rattle.certificate.specs.Certs.{CertParts, IsCert, IsPairOf, HasItsTest, nodes_of, number_pairs}
use Rattle.certificate.specs.Accepted.{set_pairs, test_of, tested_pair_of, tested_pairs}
use Rattle.cert_checker.specs.NodeTables.{TableParts, TablesGrow, IsTest, tables_of, nodes_in}
use Rattle.cert_checker.specs.Passes.{PassParts, IsPass}
use Rattle.cert_checker.proofs.RootRanges.{terms_stay}

-- the pair that the loop visits
pub pair_at : (ps items : List PairParts) (k : ℕ) (p : PairParts) → items ≡ ps → k < length items → p ≡ get_or items k p → slice_get ps k ≡ Some p
pair_at ps items k p e low is = ap (λ (l : List PairParts). slice_get l k) (sym e) ∙ slice_get_read items (length items) k p refl low is

module _ (q : ProblemParts) (c : CertParts) (rules : IsCert c) (t : TableParts) (nodes : TablesGrow (tables_of q.tests c) t) where
  -- the sets and the test of a pair of the certificate
  pub set_kept : (ks : List ℕ) → are_below (length c.term_nodes) ks ≡ true → terms_of (nodes_in t) ks ≡ terms_of (nodes_of c) ks
  set_kept ks low = terms_stay (tables_of q.tests c) t nodes ks low

  pub test_kept : (o : Option ℕ) → ((k : ℕ) → o ≡ Some k → k < length c.test_nodes) → test_of (nodes_in t) o ≡ test_of (nodes_of c) o
  test_kept None within = refl
  test_kept (Some k) within = nodes.nodes.test_trees k (within k refl)

  pub test_there : (s : Style) (n : ℕ) (o : Option ℕ) → HasItsTest s n o → (k : ℕ) → o ≡ Some k → k < n
  test_there Plain n o h k e = let f : None ≡ Some k = sym h ∙ e in absurd cc
  test_there UpTo n o h k e = let f : None ≡ Some k = sym h ∙ e in absurd cc
  test_there Under n o h k e = let f : Some h.0 ≡ Some k = sym h.1 ∙ e in let same : h.0 ≡ k = cc in subst (λ z. z < n) same h.2

  pair_kept : (p : PairParts) → IsPairOf c p → tested_pair_of (nodes_in t) p ≡ tested_pair_of (nodes_of c) p
  pair_kept p is = λ i. record {
    sets = record { left = set_kept p.left is.left.there i; right = set_kept p.right is.right.there i };
    test = test_kept p.test (test_there c.style (length c.test_nodes) p.test is.test) i;
  }

  pub pairs_kept : map (tested_pair_of (nodes_in t)) c.pairs ≡ tested_pairs c
  pairs_kept = go c.pairs rules.pairs
    where
      go : (ps : List PairParts) → ((p : PairParts) → Has ps p → IsPairOf c p) → map (tested_pair_of (nodes_in t)) ps ≡ map (tested_pair_of (nodes_of c)) ps
      go [] each = refl
      go (p ∷ ps) each = ap₂ (λ (x : TestedPair) (xs : List TestedPair). x ∷ xs) (pair_kept p (each p (inl refl))) (go ps (λ r h. each r (inr h)))

  pub sets_kept : set_pairs_of (nodes_in t) (number_pairs c) ≡ set_pairs c
  sets_kept = go c.pairs rules.pairs
    where
      go : (ps : List PairParts) → ((p : PairParts) → Has ps p → IsPairOf c p) → set_pairs_of (nodes_in t) (map only_sets ps) ≡ set_pairs_of (nodes_of c) (map only_sets ps)
      go [] each = refl
      go (p ∷ ps) each = ap₂ (λ (x : SetPair) (xs : List SetPair). x ∷ xs) (λ i. (pair_kept p (each p (inl refl)) i).sets) (go ps (λ r h. each r (inr h)))

-- ---- the pairs of a pass

module _ (p : PassParts) (pass : IsPass p) where
  -- the test of a pair is a test of the tables
  pub test_in_tables : (r : PairParts) → Has p.cert.pairs r → (k : ℕ) → r.test ≡ Some k → IsTest p.tables k
  test_in_tables r listed k e = IsPrefix-within p.cert.test_nodes p.tables.tests k pass.nodes.nodes.tests (test_there p.problem p.cert pass.cert p.tables pass.nodes p.cert.style (length p.cert.test_nodes) r.test (pass.cert.pairs r listed).test k e)

  -- only an action has pairs
  pub listed_in : (o : Option ℕ) (r : PairParts) → Has (option_map_or (λ a. p.cert.pairs) o []) r → Has p.cert.pairs r
  listed_in None r h = absurd h
  listed_in (Some a) r h = h
