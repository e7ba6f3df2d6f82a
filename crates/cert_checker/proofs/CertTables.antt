-- Tables to which the nodes of a certificate are added in turn.
use Rattle.std.proofs.Common.{◌≡◌, ◌⊎◌, inl, inr, ⊎_elim, ℕ, zero, suc, ◌+◌, ◌<◌, List, [], ◌∷◌, ◌++◌, length, take, get_or, slice_get, Some, refl, sym, ap, ◌∙◌, subst, arith}
use Rattle.std.proofs.lemmas.List.{take_more, length-take-le, get_or_default}
use Rattle.std.proofs.lemmas.Option.{slice_get_read}
use Rattle.kat_model.specs.Members.{Has, HasNoDoubles}
use Rattle.kat_model.proofs.Places.{one_place, has_at}
use Rattle.term_nodes.specs.declared.TestNode.{TestNode}
use Rattle.term_nodes.specs.declared.TestNode.TheVariants.{False, True, Prim, Not, And, Or}
use Rattle.term_nodes.specs.declared.TermNode.{TermNode}
use Rattle.term_nodes.specs.Nodes.{IsTestOver, IsOver}
use Rattle.certificate.specs.Certs.{CertParts, IsCert}
use Rattle.cert_checker.specs.NodeTables.{TableParts, AddsTest, AddsTerm, MayBeTest, MayBeTerm, IsWithin}

-- the element at a place of an equal list
pub item_at : {X : Type 0} (xs ys : List X) (i : ℕ) (d : X) → ys ≡ xs → i < length xs → get_or ys i d ≡ get_or xs i (get_or ys i d)
item_at xs ys i d e low = ap (λ l. get_or l i d) e ∙ get_or_default xs i d (get_or ys i d) low

-- the tables with the first i test nodes, and those with all test nodes and the first i term nodes
abbrev pub front_tests : ℕ → CertParts → ℕ → TableParts
front_tests width c i = record { width = width; tests = take i c.test_nodes; terms = [] }

abbrev pub front_terms : ℕ → CertParts → ℕ → TableParts
front_terms width c i = record { width = width; tests = c.test_nodes; terms = take i c.term_nodes }

take_get : {X : Type 0} (xs : List X) (i k : ℕ) (x : X) → slice_get (take i xs) k ≡ Some x → (k < i) × (slice_get xs k ≡ Some x)
take_get xs zero k x e = absurd cc
take_get [] (suc i) k x e = absurd cc
take_get (y ∷ xs) (suc i) zero x e = (omega arith, e)
take_get (y ∷ xs) (suc i) (suc k) x e = let rest = take_get xs i k x e in (omega (arith, rest.0), rest.1)

-- if a list has no duplicates, its next member is new
next_new : {X : Type 0} (xs old new : List X) (i k : ℕ) (x : X) → HasNoDoubles xs → i < length xs → x ≡ get_or xs i x → old ≡ take i xs → (new ≡ old) ⊎ (new ≡ old ++ x ∷ []) → slice_get new k ≡ Some x → new ≡ take (i + 1) xs
next_new xs old new i k x once low is was adds at =
    ⊎_elim
    (λ same.
    let seen = take_get xs i k x (subst (λ l. slice_get l k ≡ Some x) (same ∙ was) at) in
    let one : k ≡ i = one_place xs once k i x seen.1 (slice_get_read xs (length xs) i x refl low is) in
    absurd (omega (arith, seen.0, one)))
    (λ more. more ∙ ap (λ l. l ++ x ∷ []) was ∙ ap (λ y. take i xs ++ y ∷ []) is ∙ sym (take_more xs i x low))
    adds

module _ (width : ℕ) (c : CertParts) (rules : IsCert c) where
  pub may_be_test : ((k : ℕ) → Has c.test_nodes (Prim k) → k < width) → (t : TableParts) (i : ℕ) (n : TestNode ℕ) → t ≡ front_tests width c i → i < length c.test_nodes → n ≡ get_or c.test_nodes i n → MayBeTest t n
  may_be_test prims t i n is low at = subst (λ (u : TableParts). MayBeTest u n) (sym is) (below, within n (has_at c.test_nodes i n there))
    where
      there : slice_get c.test_nodes i ≡ Some n
      there = slice_get_read c.test_nodes (length c.test_nodes) i n refl low at

      below : IsTestOver (length (take i c.test_nodes)) n
      below = subst (λ m. IsTestOver m n) (sym (length-take-le i c.test_nodes (omega (arith, low)))) (rules.nodes.tests_ordered i n there)

      within : (m : TestNode ℕ) → Has c.test_nodes m → IsWithin width m
      within False h = tt
      within True h = tt
      within (Prim k) h = prims k h
      within (Not x) h = tt
      within (And x y) h = tt
      within (Or x y) h = tt

  pub test_next : (t new : TableParts) (i k : ℕ) (n : TestNode ℕ) → t ≡ front_tests width c i → i < length c.test_nodes → n ≡ get_or c.test_nodes i n → AddsTest t new n → slice_get new.tests k ≡ Some n → new ≡ front_tests width c (i + 1)
  test_next t new i k n is low at adds there =
      let tests : new.tests ≡ take (i + 1) c.test_nodes =
      next_new c.test_nodes t.tests new.tests i k n rules.nodes.tests_once low at (ap (λ (u : TableParts). u.tests) is)
      (⊎_elim (λ same. inl (ap (λ (u : TableParts). u.tests) same)) (λ more. inr (ap (λ (u : TableParts). u.tests) more)) adds) there in
      let others : new ≡ record t { tests = new.tests } = ⊎_elim (λ same. subst (λ (u : TableParts). u ≡ record t { tests = u.tests }) (sym same) refl) (λ more. subst (λ (u : TableParts). u ≡ record t { tests = u.tests }) (sym more) refl) adds in
      others ∙ (λ v. record { width = (is v).width; tests = tests v; terms = (is v).terms })

  pub may_be_term : (t : TableParts) (i : ℕ) (n : TermNode ℕ ℕ) → t ≡ front_terms width c i → i < length c.term_nodes → n ≡ get_or c.term_nodes i n → MayBeTerm t n
  may_be_term t i n is low at = subst (λ (u : TableParts). MayBeTerm u n) (sym is) below
    where
      there : slice_get c.term_nodes i ≡ Some n
      there = slice_get_read c.term_nodes (length c.term_nodes) i n refl low at

      below : IsOver (length c.test_nodes) (length (take i c.term_nodes)) n
      below = subst (λ m. IsOver (length c.test_nodes) m n) (sym (length-take-le i c.term_nodes (omega (arith, low)))) (rules.nodes.terms_ordered i n there)

  pub term_next : (t new : TableParts) (i k : ℕ) (n : TermNode ℕ ℕ) → t ≡ front_terms width c i → i < length c.term_nodes → n ≡ get_or c.term_nodes i n → AddsTerm t new n → slice_get new.terms k ≡ Some n → new ≡ front_terms width c (i + 1)
  term_next t new i k n is low at adds there =
      let terms : new.terms ≡ take (i + 1) c.term_nodes =
      next_new c.term_nodes t.terms new.terms i k n rules.nodes.terms_once low at (ap (λ (u : TableParts). u.terms) is)
      (⊎_elim (λ same. inl (ap (λ (u : TableParts). u.terms) same)) (λ more. inr (ap (λ (u : TableParts). u.terms) more)) adds) there in
      let others : new ≡ record t { terms = new.terms } = ⊎_elim (λ same. subst (λ (u : TableParts). u ≡ record t { terms = u.terms }) (sym same) refl) (λ more. subst (λ (u : TableParts). u ≡ record t { terms = u.terms }) (sym more) refl) adds in
      others ∙ (λ v. record { width = (is v).width; tests = (is v).tests; terms = terms v })
