-- Atoms as tests, and the tests at which terms accept.
use Rattle.std.proofs.Common.{◌≡◌, ◌<◌, ℕ, zero as nought, suc, ⊎_elim, List, [], ◌∷◌, map, length, Bool, true, false, ◌&&◌, slice_index_or, refl, sym, ap, ◌∙◌, subst, arith}
use Rattle.std.proofs.lemmas.Bool.{not-true, and_parts, and_from, cases_eq, or_left, or_right, false≢true}
use Rattle.std.proofs.lemmas.List.{ext_get_or}
use Rattle.kat_model.specs.Trees.{TestTree, top, prim, complement, meet, Term, zero, one, test, act, sum, product, star, is_test}
use Rattle.kat_model.specs.Members.{Has}
use Rattle.kat_model.specs.Problems.{ProblemParts}
use Rattle.kat_model.specs.Steps.{Atom, truth, out, dot}
use Rattle.kat_model.proofs.Lists.{has_append, has_map}
use Rattle.kat_model.proofs.Counting.{all_bits, all_bits_has}
use Rattle.kat_axioms.specs.Algebras.{IsBelow}
use Rattle.kat_axioms.proofs.Orders.{total, below_trans, below_total, equal_below, product_below, product_left_below, product_right_below, product_total_below, total_product_below, left_factor_below, grouped_right, product_zero_below, zero_product_below, grouped_left}
use Rattle.kat_axioms.proofs.Terms.{term_operations, terms, test_below}

-- ---- the test of an atom

abbrev pub literal : ℕ → Bool → TestTree
literal k true = prim k
literal k false = complement (prim k)

-- the test that is true at the atoms with the first n truth values of this atom
abbrev pub atom_test : ℕ → Atom → TestTree
atom_test nought atom = top
atom_test (suc n) atom = meet (atom_test n atom) (literal n (slice_index_or atom n false))

literal_own : (k : ℕ) (atom : Atom) (b : Bool) → slice_index_or atom k false ≡ b → truth (literal k b) atom ≡ true
literal_own k atom true e = e
literal_own k atom false e = rw e refl

literal_same : (k : ℕ) (atom : Atom) (b : Bool) → truth (literal k b) atom ≡ true → b ≡ slice_index_or atom k false
literal_same k atom true h = sym h
literal_same k atom false h = sym (not-true (slice_index_or atom k false) h)

atom_test_own : (n : ℕ) (atom : Atom) → truth (atom_test n atom) atom ≡ true
atom_test_own nought atom = refl
atom_test_own (suc n) atom =
    and_from (truth (atom_test n atom) atom) _ (atom_test_own n atom) (literal_own n atom (slice_index_or atom n false) refl)

atom_test_same : (n : ℕ) (atom other : Atom) → truth (atom_test n atom) other ≡ true → (k : ℕ) → k < n → slice_index_or atom k false ≡ slice_index_or other k false
atom_test_same nought atom other h k lt = absurd (omega arith)
atom_test_same (suc n) atom other h k lt =
    let both = and_parts (truth (atom_test n atom) other) _ h in
    ⊎_elim
    (λ e. subst (λ m. slice_index_or atom m false ≡ slice_index_or other m false) (sym e) (literal_same n other (slice_index_or atom n false) both.1))
    (λ ne. atom_test_same n atom other both.0 k (omega (arith, ne)))
    (cases_eq k n)

-- each list of n truth values is one of all of them, and has length n
pub all_bits_length : (n : ℕ) (bits : List Bool) → Has (all_bits n) bits → length bits ≡ n
all_bits_length nought bits h = ⊎_elim (λ e. ap length (sym e)) absurd h
all_bits_length (suc n) bits h =
    ⊎_elim
    (λ l. let p = has_map (λ bs. true ∷ bs) (all_bits n) bits l in ap length (sym p.2) ∙ ap suc (all_bits_length n p.0 p.1))
    (λ r. let p = has_map (λ bs. false ∷ bs) (all_bits n) bits r in ap length (sym p.2) ∙ ap suc (all_bits_length n p.0 p.1))
    (has_append (map (λ bs. true ∷ bs) (all_bits n)) (map (λ bs. false ∷ bs) (all_bits n)) bits h)

-- ---- the test at which a term accepts

abbrev pub accept_test : Term → Term
accept_test zero = zero
accept_test one = one
accept_test (test b) = test b
accept_test (act a) = zero
accept_test (sum e f) = sum (accept_test e) (accept_test f)
accept_test (product e f) = product (accept_test e) (accept_test f)
accept_test (star e) = one

pub accept_is_test : (e : Term) → is_test (accept_test e) ≡ true
accept_is_test zero = refl
accept_is_test one = refl
accept_is_test (test b) = refl
accept_is_test (act a) = refl
accept_is_test (sum e f) = and_from _ _ (accept_is_test e) (accept_is_test f)
accept_is_test (product e f) = and_from _ _ (accept_is_test e) (accept_is_test f)
accept_is_test (star e) = refl

pub out-accept_test : (e : Term) (atom : Atom) → out (accept_test e) atom ≡ out e atom
out-accept_test zero atom = refl
out-accept_test one atom = refl
out-accept_test (test b) atom = refl
out-accept_test (act a) atom = refl
out-accept_test (sum e f) atom = rw (out-accept_test e atom, out-accept_test f atom) refl
out-accept_test (product e f) atom = rw (out-accept_test e atom, out-accept_test f atom) refl
out-accept_test (star e) atom = refl

pub out-dot : (e f : Term) (atom : Atom) → out (dot e f) atom ≡ (out e atom && out f atom)
out-dot zero f atom = refl
out-dot one f atom = refl
out-dot (test b) f atom = refl
out-dot (act a) f atom = refl
out-dot (sum e g) f atom = refl
out-dot (product e g) f atom = refl
out-dot (star e) f atom = refl

module _ (q : ProblemParts) where
  abbrev Below : Term → Term → Type 0
  Below = IsBelow (term_operations q)

  -- the atom as a term, and the letter of an atom and an action after it
  abbrev pub atom_term : Atom → Term
  atom_term atom = test (atom_test q.tests atom)

  abbrev pub letter : Atom → ℕ → Term
  letter atom a = product (atom_term atom) (act a)

  -- only the atom itself makes its test true
  only_atom : (atom other : Atom) → length atom ≡ q.tests → length other ≡ q.tests → out (atom_term atom) other ≡ true → atom ≡ other
  only_atom atom other wide too h =
      ext_get_or false atom other (wide ∙ sym too) (λ k lt. atom_test_same q.tests atom other h k (rw (← wide) lt))

  pub atom_below : (atom : Atom) (e : Term) → length atom ≡ q.tests → is_test e ≡ true → out e atom ≡ true → Below (atom_term atom) e
  atom_below atom e wide t o =
      test_below q (atom_term atom) e refl t (λ other too h. subst (λ x. out e x ≡ true) (only_atom atom other wide too h) o)

  pub atom_below_product : (atom : Atom) (e f : Term) → length atom ≡ q.tests → Below (atom_term atom) e → Below (atom_term atom) f → Below (atom_term atom) (product e f)
  atom_below_product atom e f wide p r =
      let own = atom_test_own q.tests atom in
      below_trans (terms q) _ _ _
      (atom_below atom (product (atom_term atom) (atom_term atom)) wide refl (and_from _ _ own own))
      (product_below (terms q) _ _ e f p r)

  pub test_below_one : (e : Term) → is_test e ≡ true → Below e one
  test_below_one e t = test_below q e one t refl (λ atom wide h. refl)

  pub atom_below_one : (atom : Atom) → Below (atom_term atom) one
  atom_below_one atom = test_below_one (atom_term atom) refl

  pub atom_below_accept : (atom : Atom) (e : Term) → length atom ≡ q.tests → out e atom ≡ true → Below (atom_term atom) (accept_test e)
  atom_below_accept atom e wide o = atom_below atom (accept_test e) wide (accept_is_test e) (out-accept_test e atom ∙ o)

  -- a test that is false at an atom
  blocked : (e : Term) (atom : Atom) → length atom ≡ q.tests → is_test e ≡ true → out e atom ≡ false → Below (product e (atom_term atom)) zero
  blocked e atom wide t o =
      test_below q (product e (atom_term atom)) zero (and_from _ _ t refl) refl
      (λ other too h.
      let both = and_parts (out e other) _ h in
      absurd (false≢true (sym o ∙ subst (λ x. out e x ≡ true) (sym (only_atom atom other wide too both.1)) both.0)))

  -- ---- splitting by atoms

  total_is_test : (atoms : List Atom) → is_test (total (terms q) atom_term atoms) ≡ true
  total_is_test [] = refl
  total_is_test (atom ∷ atoms) = total_is_test atoms

  out-total : (atoms : List Atom) (atom : Atom) → Has atoms atom → out (total (terms q) atom_term atoms) atom ≡ true
  out-total [] atom h = absurd h
  out-total (other ∷ atoms) atom h =
      ⊎_elim
      (λ e. or_left _ _ (subst (λ x. out (atom_term x) atom ≡ true) (sym e) (atom_test_own q.tests atom)))
      (λ k. or_right (out (atom_term other) atom) _ (out-total atoms atom k))
      h

  abbrev pub all_atoms : List Atom
  all_atoms = all_bits q.tests

  pub has_all_atoms : (atom : Atom) → length atom ≡ q.tests → Has all_atoms atom
  has_all_atoms atom wide = subst (λ n. Has (all_bits n) atom) wide (all_bits_has atom)

  pub all_atoms_wide : (atom : Atom) → Has all_atoms atom → length atom ≡ q.tests
  all_atoms_wide atom h = all_bits_length q.tests atom h

  some_atom : Below one (total (terms q) atom_term all_atoms)
  some_atom = test_below q one _ refl (total_is_test all_atoms) (λ atom wide h. out-total all_atoms atom (has_all_atoms atom wide))

  -- to bound a term, bound it before each atom
  pub by_atoms : (p z : Term) → ((atom : Atom) → length atom ≡ q.tests → Below (product p (atom_term atom)) z) → Below p z
  by_atoms p z each =
      let laws = (terms q).laws in
      equal_below (terms q) p (product p one) z (laws.congruence.symmetric _ _ (laws.semiring.one_right p))
      (below_trans (terms q) _ _ _
      (product_right_below (terms q) p one _ some_atom)
      (product_total_below (terms q) atom_term p all_atoms z (λ atom h. each atom (all_atoms_wide atom h))))

  pub by_atoms_between : (p e z : Term) → ((atom : Atom) → length atom ≡ q.tests → Below (product p (product (atom_term atom) e)) z) → Below (product p e) z
  by_atoms_between p e z each =
      below_trans (terms q) _ _ _
      (product_left_below (terms q) p (total (terms q) (λ atom. product p (atom_term atom)) all_atoms) e
      (by_atoms p _ (λ atom wide. below_total (terms q) (λ x. product p (atom_term x)) all_atoms atom (has_all_atoms atom wide))))
      (total_product_below (terms q) (λ atom. product p (atom_term atom)) all_atoms e z
      (λ atom h. grouped_right (terms q) p (atom_term atom) e z (each atom (all_atoms_wide atom h))))

  -- a test between p and what follows counts only at the atoms at which it is true
  guarded : (p e x z : Term) (b : Bool) → is_test e ≡ true → (b ≡ false → Below (product e x) zero) → (b ≡ true → Below (product p x) z) → Below (product (product p e) x) z
  guarded p e x z true t none some =
      grouped_right (terms q) p e x z
      (below_trans (terms q) _ _ _ (product_right_below (terms q) p _ x (left_factor_below (terms q) e x (test_below_one e t))) (some refl))
  guarded p e x z false t none some =
      grouped_right (terms q) p e x z (product_zero_below (terms q) p _ z (none refl))

  pub guarded_atom : (p t z : Term) (atom : Atom) → length atom ≡ q.tests → (out t atom ≡ true → Below (product p (atom_term atom)) z) → Below (product (product p (accept_test t)) (atom_term atom)) z
  guarded_atom p t z atom wide some =
      guarded p (accept_test t) (atom_term atom) z (out t atom) (accept_is_test t)
      (λ o. blocked (accept_test t) atom wide (accept_is_test t) (out-accept_test t atom ∙ o)) some

  pub guarded_letter : (p t z : Term) (atom : Atom) (a : ℕ) → length atom ≡ q.tests → (out t atom ≡ true → Below (product p (letter atom a)) z) → Below (product (product p (accept_test t)) (letter atom a)) z
  guarded_letter p t z atom a wide some =
      guarded p (accept_test t) (letter atom a) z (out t atom) (accept_is_test t)
      (λ o. grouped_left (terms q) _ _ (act a) zero
      (zero_product_below (terms q) _ (act a) zero (blocked (accept_test t) atom wide (accept_is_test t) (out-accept_test t atom ∙ o)))) some

  pub by_accepted : (p t z : Term) → ((atom : Atom) → length atom ≡ q.tests → out t atom ≡ true → Below (product p (atom_term atom)) z) → Below (product p (accept_test t)) z
  by_accepted p t z each = by_atoms (product p (accept_test t)) z (λ atom wide. guarded_atom p t z atom wide (each atom wide))
