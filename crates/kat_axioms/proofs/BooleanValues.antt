-- In a Kleene algebra with tests, test terms that are true at the same atoms denote equal elements: the axioms of Boolean
-- algebras are complete for two truth values.
use Rattle.std.proofs.Common.{◌≡◌, ◌<◌, ◌≤◌, ◌+◌, ℕ, zero as nought, suc, inl, inr, ⊎_elim, length, set, replicate, ◌⊎◌, Bool, true, false, ◌&&◌, ◌||◌, slice_index_or, refl, sym, ◌∙◌, subst, arith}
use Rattle.std.proofs.lemmas.Bool.{false≢true, true≢false, not-true, not-false, and_parts, or_cases, cases_lt}
use Rattle.std.proofs.lemmas.List.{get_or-set_same, get_or-set_other, length-set, length-replicate, get_or_past}
use mathlib.Core.Path.{ap₂}
use Rattle.kat_model.specs.Trees.{TestTree, bottom, top, prim, complement, meet, join, Term, zero, one, test, act, sum, product, star, is_test}
use Rattle.kat_model.specs.Steps.{Atom, truth, out}
use Rattle.kat_axioms.specs.Algebras.{IsBelow}
use Rattle.kat_axioms.specs.Meanings.{Interpretation, test_value, value}
use Rattle.kat_axioms.proofs.Orders.{below_itself, below_trans, equal_below, below_equal, equal_if_below, zero_below, left_below_sum, right_below_sum, product_below, product_right_below, left_factor_below, right_factor_below, grouped_right, product_sum_below, sum_product_below, zero_product_below, product_zero_below}
use Rattle.kat_axioms.proofs.Atoms.{literal, atom_test}

and_false : (a b : Bool) → (a && b) ≡ false → (a ≡ false) ⊎ (b ≡ false)
and_false true b h = inr h
and_false false b h = inl refl

or_false : (a b : Bool) → (a || b) ≡ false → (a ≡ false) × (b ≡ false)
or_false true b h = absurd (true≢false h)
or_false false b h = (refl, h)

-- ---- test terms as trees

-- the tree of a test term
abbrev pub tree_of : Term → TestTree
tree_of zero = bottom
tree_of one = top
tree_of (test b) = b
tree_of (act a) = bottom
tree_of (sum e f) = join (tree_of e) (tree_of f)
tree_of (product e f) = meet (tree_of e) (tree_of f)
tree_of (star e) = bottom

pub truth-tree_of : (e : Term) (atom : Atom) → is_test e ≡ true → truth (tree_of e) atom ≡ out e atom
truth-tree_of zero atom t = refl
truth-tree_of one atom t = refl
truth-tree_of (test b) atom t = refl
truth-tree_of (act a) atom t = absurd (false≢true t)
truth-tree_of (sum e f) atom t =
    let both = and_parts (is_test e) (is_test f) t in
    ap₂ (λ x y. x || y) (truth-tree_of e atom both.0) (truth-tree_of f atom both.1)
truth-tree_of (product e f) atom t =
    let both = and_parts (is_test e) (is_test f) t in
    ap₂ (λ x y. x && y) (truth-tree_of e atom both.0) (truth-tree_of f atom both.1)
truth-tree_of (star e) atom t = absurd (false≢true t)

-- an atom with another truth value at k has the same truth values below k
atom_test-set : (k n : ℕ) (atom : Atom) (b : Bool) → k ≤ n → atom_test k (set atom n b) ≡ atom_test k atom
atom_test-set nought n atom b le = refl
atom_test-set (suc k) n atom b le =
    let here : slice_index_or (set atom n b) k false ≡ slice_index_or atom k false = get_or-set_other atom n k b false (omega (arith, le)) in
    ap₂ (λ t c. meet t (literal k c)) (atom_test-set k n atom b (omega (arith, le))) here

module _ {ℓ} (I : Interpretation {ℓ}) where
  open I use {Carrier, Equal}

  abbrev Below : Carrier → Carrier → Type 0
  Below = IsBelow I.operations

  tree_value-tree_of : (e : Term) → is_test e ≡ true → test_value I (tree_of e) ≡ value I e
  tree_value-tree_of zero t = refl
  tree_value-tree_of one t = refl
  tree_value-tree_of (test b) t = refl
  tree_value-tree_of (act a) t = absurd (false≢true t)
  tree_value-tree_of (sum e f) t =
      let both = and_parts (is_test e) (is_test f) t in
      ap₂ I.sum (tree_value-tree_of e both.0) (tree_value-tree_of f both.1)
  tree_value-tree_of (product e f) t =
      let both = and_parts (is_test e) (is_test f) t in
      ap₂ I.product (tree_value-tree_of e both.0) (tree_value-tree_of f both.1)
  tree_value-tree_of (star e) t = absurd (false≢true t)

  -- ---- elements that are tests

  pub value_is_test : (b : TestTree) → I.IsTest (test_value I b)
  value_is_test bottom = I.boolean.zero_is_test
  value_is_test top = I.boolean.one_is_test
  value_is_test (prim k) = I.are_tests k
  value_is_test (complement b) = I.boolean.complement_is_test _ (value_is_test b)
  value_is_test (meet b c) = I.boolean.product_is_test _ _ (value_is_test b) (value_is_test c)
  value_is_test (join b c) = I.boolean.sum_is_test _ _ (value_is_test b) (value_is_test c)

  test_below_one : (x : Carrier) → I.IsTest x → Below x I.one
  test_below_one x t = below_equal I.algebra.kleene x _ I.one (left_below_sum I.algebra.kleene x (I.complement x)) (I.boolean.sum_complement x t)

  -- what a test and its complement are below, each before or after x, x is below
  by_complement : (x y z : Carrier) → I.IsTest x → Below (I.product y x) z → Below (I.product y (I.complement x)) z → Below y z
  by_complement x y z t p r =
      let laws = I.laws.congruence in
      equal_below I.algebra.kleene y (I.product y (I.sum x (I.complement x))) z
      (laws.transitive _ _ _ (laws.symmetric _ _ (I.laws.semiring.one_right y)) (laws.products _ _ _ _ (laws.itself y) (laws.symmetric _ _ (I.boolean.sum_complement x t))))
      (product_sum_below I.algebra.kleene y x (I.complement x) z p r)

  test_below_square : (x : Carrier) → I.IsTest x → Below x (I.product x x)
  test_below_square x t =
      by_complement x x _ t (below_itself I.algebra.kleene _)
      (equal_below I.algebra.kleene _ I.zero _ (I.boolean.product_complement x t) (zero_below I.algebra.kleene _))

  -- ---- atoms

  abbrev element : ℕ → Atom → Carrier
  element n atom = test_value I (atom_test n atom)

  element_below_one : (n : ℕ) (atom : Atom) → Below (element n atom) I.one
  element_below_one n atom = test_below_one _ (value_is_test (atom_test n atom))

  literal_below_one : (k : ℕ) (b : Bool) → Below (test_value I (literal k b)) I.one
  literal_below_one k b = test_below_one _ (value_is_test (literal k b))

  -- an atom is below each of its literals
  element_below_literal : (n : ℕ) (atom : Atom) (k : ℕ) → k < n → Below (element n atom) (test_value I (literal k (slice_index_or atom k false)))
  element_below_literal nought atom k lt = absurd (omega arith)
  element_below_literal (suc n) atom k lt =
      ⊎_elim
      (λ less. below_trans I.algebra.kleene _ (element n atom) _ (right_factor_below I.algebra.kleene _ _ (literal_below_one n (slice_index_or atom n false))) (element_below_literal n atom k less))
      (λ le.
      let same : n ≡ k = omega (arith, lt, le) in
      subst (λ m. Below (element (suc n) atom) (test_value I (literal m (slice_index_or atom m false)))) same (left_factor_below I.algebra.kleene _ _ (element_below_one n atom)))
      (cases_lt k n)

  -- the atoms with either truth value at k
  with_value : (k : ℕ) (atom : Atom) (p z : Carrier) → k < length atom → ((b : Bool) → Below (I.product p (element (suc k) (set atom k b))) z)
      → (b : Bool) → Below (I.product (I.product p (element k atom)) (test_value I (literal k b))) z
  with_value k atom p z within each b =
      grouped_right I.algebra.kleene p (element k atom) _ z
      (subst (λ c. Below (I.product p (I.product (element k atom) (test_value I (literal k c)))) z) (get_or-set_same atom k b false within)
      (subst (λ t. Below (I.product p (I.product (test_value I t) (test_value I (literal k (slice_index_or (set atom k b) k false))))) z) (atom_test-set k k atom b (omega arith))
      (each b)))

  -- to bound an element, bound it before each atom
  by_elements : (n m k : ℕ) (p z : Carrier) → k + m ≡ n → ((atom : Atom) → length atom ≡ n → Below (I.product p (element n atom)) z)
      → (atom : Atom) → length atom ≡ n → Below (I.product p (element k atom)) z
  by_elements n nought k p z e each atom wide =
      let same : k ≡ n = omega (arith, e) in
      subst (λ j. Below (I.product p (element j atom)) z) (sym same) (each atom wide)
  by_elements n (suc m) k p z e each atom wide =
      let go = with_value k atom p z (omega (arith, e, wide)) (λ b. by_elements n m (suc k) p z (omega (arith, e)) each (set atom k b) (length-set atom k b ∙ wide)) in
      by_complement (I.tests k) (I.product p (element k atom)) z (I.are_tests k) (go true) (go false)

  -- ---- tests at an atom

  module _ (n : ℕ) (beyond : (k : ℕ) → n ≤ k → Equal (I.tests k) I.zero) (atom : Atom) (wide : length atom ≡ n) where
    -- an atom is below the tests that it makes true, and excludes the others

    record IsDecided (b : TestTree) : Type 0 where
      true_here : truth b atom ≡ true → Below (element n atom) (test_value I b)
      false_here : truth b atom ≡ false → Below (I.product (test_value I b) (element n atom)) I.zero

    decided : (b : TestTree) → IsDecided b
    decided bottom = record {
      true_here = λ h. absurd (false≢true h);
      false_here = λ h. zero_product_below I.algebra.kleene _ _ I.zero (below_itself I.algebra.kleene I.zero);
    }
    decided top = record {
      true_here = λ h. element_below_one n atom;
      false_here = λ h. absurd (true≢false h);
    }
    decided (prim k) = ⊎_elim below above (cases_lt k n)
      where
        below : k < n → IsDecided (prim k)
        below lt = record {
          true_here = λ h. subst (λ b. Below (element n atom) (test_value I (literal k b))) h (element_below_literal n atom k lt);
          false_here = λ h.
              below_trans I.algebra.kleene _ (I.product (I.tests k) (I.complement (I.tests k))) _
              (product_right_below I.algebra.kleene (I.tests k) _ _ (subst (λ b. Below (element n atom) (test_value I (literal k b))) h (element_below_literal n atom k lt)))
              (equal_below I.algebra.kleene _ I.zero _ (I.boolean.product_complement (I.tests k) (I.are_tests k)) (below_itself I.algebra.kleene I.zero));
        }

        above : n ≤ k → IsDecided (prim k)
        above le = record {
          true_here = λ h. absurd (false≢true (sym (get_or_past atom k false (rw wide le)) ∙ h));
          false_here = λ h. zero_product_below I.algebra.kleene _ _ I.zero (equal_below I.algebra.kleene _ I.zero _ (beyond k le) (below_itself I.algebra.kleene I.zero));
        }
    decided (complement b) =
        let d = decided b in
        let x = test_value I b in
        record {
          true_here = λ h.
              by_complement x (element n atom) (I.complement x) (value_is_test b)
              (equal_below I.algebra.kleene _ (I.product x (element n atom)) _ (I.boolean.product_comm _ _ (value_is_test (atom_test n atom)) (value_is_test b))
              (below_trans I.algebra.kleene _ I.zero _ (d.false_here (not-true _ h)) (zero_below I.algebra.kleene _)))
              (left_factor_below I.algebra.kleene _ _ (element_below_one n atom));
          false_here = λ h.
              below_trans I.algebra.kleene _ (I.product (I.complement x) x) _ (product_right_below I.algebra.kleene (I.complement x) _ _ (d.true_here (not-false _ h)))
              (equal_below I.algebra.kleene _ (I.product x (I.complement x)) _ (I.boolean.product_comm _ _ (I.boolean.complement_is_test x (value_is_test b)) (value_is_test b))
              (equal_below I.algebra.kleene _ I.zero _ (I.boolean.product_complement x (value_is_test b)) (below_itself I.algebra.kleene I.zero)));
        }
    decided (meet b c) =
        let d = decided b in
        let e = decided c in
        record {
          true_here = λ h.
              let both = and_parts (truth b atom) (truth c atom) h in
              below_trans I.algebra.kleene _ _ _ (test_below_square (element n atom) (value_is_test (atom_test n atom))) (product_below I.algebra.kleene _ _ _ _ (d.true_here both.0) (e.true_here both.1));
          false_here = λ h.
              grouped_right I.algebra.kleene _ _ _ I.zero
              (⊎_elim
              (λ l. below_trans I.algebra.kleene _ _ _ (product_right_below I.algebra.kleene _ _ _ (left_factor_below I.algebra.kleene _ (element n atom) (test_below_one _ (value_is_test c)))) (d.false_here l))
              (λ r. product_zero_below I.algebra.kleene _ _ I.zero (e.false_here r))
              (and_false (truth b atom) (truth c atom) h));
        }
    decided (join b c) =
        let d = decided b in
        let e = decided c in
        record {
          true_here = λ h.
              ⊎_elim
              (λ l. below_trans I.algebra.kleene _ _ _ (d.true_here l) (left_below_sum I.algebra.kleene _ _))
              (λ r. below_trans I.algebra.kleene _ _ _ (e.true_here r) (right_below_sum I.algebra.kleene _ _))
              (or_cases (truth b atom) (truth c atom) h);
          false_here = λ h.
              let both = or_false (truth b atom) (truth c atom) h in
              sum_product_below I.algebra.kleene _ _ _ I.zero (d.false_here both.0) (e.false_here both.1);
        }

  -- ---- test terms

  module _ (n : ℕ) (beyond : (k : ℕ) → n ≤ k → Equal (I.tests k) I.zero) where
    -- a test term that is true at fewer atoms denotes less
    test_values_below : (e f : Term) → is_test e ≡ true → is_test f ≡ true → ((atom : Atom) → length atom ≡ n → out e atom ≡ true → out f atom ≡ true) → Below (value I e) (value I f)
    test_values_below e f t u implied =
        equal_below I.algebra.kleene _ _ _ (I.laws.congruence.symmetric _ _ (I.laws.semiring.one_right (value I e)))
        (by_elements n n 0 (value I e) (value I f) (omega arith) at_atom (replicate n false) (length-replicate n false))
      where
        go : (atom : Atom) → length atom ≡ n → (b : Bool) → out e atom ≡ b → Below (I.product (value I e) (element n atom)) (value I f)
        go atom wide true o =
            below_trans I.algebra.kleene _ (element n atom) _
            (left_factor_below I.algebra.kleene (value I e) (element n atom) (subst (λ x. Below x I.one) (tree_value-tree_of e t) (test_below_one _ (value_is_test (tree_of e)))))
            (subst (λ x. Below (element n atom) x) (tree_value-tree_of f u)
            ((decided n beyond atom wide (tree_of f)).true_here (truth-tree_of f atom u ∙ implied atom wide o)))
        go atom wide false o =
            below_trans I.algebra.kleene _ I.zero _
            (subst (λ x. Below (I.product x (element n atom)) I.zero) (tree_value-tree_of e t)
            ((decided n beyond atom wide (tree_of e)).false_here (truth-tree_of e atom t ∙ o)))
            (zero_below I.algebra.kleene _)

        at_atom : (atom : Atom) → length atom ≡ n → Below (I.product (value I e) (element n atom)) (value I f)
        at_atom atom wide = go atom wide (out e atom) refl

    -- test terms that are true at the same atoms denote equal elements
    pub test_values_equal : (e f : Term) → is_test e ≡ true → is_test f ≡ true → ((atom : Atom) → length atom ≡ n → out e atom ≡ out f atom) → Equal (value I e) (value I f)
    test_values_equal e f t u same =
        equal_if_below I.algebra.kleene _ _
        (test_values_below e f t u (λ atom wide o. sym (same atom wide) ∙ o))
        (test_values_below f e u t (λ atom wide o. same atom wide ∙ o))
