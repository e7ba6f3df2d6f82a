-- The hypotheses use only the numbers of the rows.
use Rattle.std.proofs.Common.{ℕ, ◌+◌, ◌<◌, ◌≤◌, Bool, true, false, cond, nat_lt, List, [], ◌∷◌, ◌++◌, length, map, Option, Some, None, arith}
use Rattle.std.specs.List.{flat_map, enumerate_from}
use Rattle.kat_model.specs.Trees.{TestTree, Term}
use Rattle.kat_model.specs.Problems.{IsInRange, AreInRange}
use Rattle.kat_model.specs.Stores.{modulus}
use Rattle.linear_forms.specs.Forms.{FormTree, constant, var_term, product_term}
use Rattle.linear_forms.specs.Arithmetic.{form_sum, form_difference}
use Rattle.linear_forms.specs.Comparisons.{substituted}
use Rattle.linear_forms.specs.declared.comparison.Atomic.TheVariants.{Zero, Less}
use Rattle.abstraction.specs.declared.rule.Rule.{Rule}
use Rattle.abstraction.specs.Tables.{Tables}
use Rattle.abstraction.specs.Tests.{form_test}
use Rattle.abstraction.specs.Facts.{Hypothesis, TestRowOf, fact_if, apart_fact, order_fact, equality_fact, bound_fact, decided_by, constant_fact, three_way_fact, excludes, implies}
use Rattle.abstraction.specs.Derived.{ActionRowOf, stated_from, keeps_before, assignment_facts, test_rows, action_rows, of_pairs, derived, hypotheses}
use Rattle.abstraction.proofs.TestRanges.{OptionInRange, all_tests, all_actions, form_test_in}
use Rattle.while_lang.proofs.RangesGrow.{IsInRange-more}

-- the property holds for all members of a list
abbrev pub AllOf : {X : Type 0} → (X → Type 0) → List X → Type 0
AllOf P [] = Unit {0}
AllOf P (x ∷ xs) = P x × AllOf P xs

module _ (t a : ℕ) where
  abbrev pub AreHypsInRange : List Hypothesis → Type 0
  AreHypsInRange [] = Unit {0}
  AreHypsInRange (h ∷ hs) = IsInRange t a h.term × AreHypsInRange hs

  pub terms_in : (hs : List Hypothesis) → AreHypsInRange hs → AreInRange t a (map (λ h. h.term) hs)
  terms_in [] p = tt
  terms_in (h ∷ hs) p = (p.0, terms_in hs p.1)

  append_in : (hs gs : List Hypothesis) → AreHypsInRange hs → AreHypsInRange gs → AreHypsInRange (hs ++ gs)
  append_in [] gs p q = q
  append_in (h ∷ hs) gs p q = (p.0, append_in hs gs p.1 q)

  flat_map_in : {X : Type 0} (P : X → Type 0) (make : X → List Hypothesis) → ((x : X) → P x → AreHypsInRange (make x)) → (xs : List X) → AllOf P xs → AreHypsInRange (flat_map make xs)
  flat_map_in P make each [] h = tt
  flat_map_in P make each (x ∷ xs) h = append_in (make x) (flat_map make xs) (each x h.0) (flat_map_in P make each xs h.1)

  pairs_in : {X Y : Type 0} (P : X → Type 0) (Q : Y → Type 0) (make : X → Y → List Hypothesis) → ((x : X) (y : Y) → P x → Q y → AreHypsInRange (make x y)) → (xs : List X) (ys : List Y) →
      AllOf P xs → AllOf Q ys → AreHypsInRange (of_pairs make xs ys)
  pairs_in P Q make each xs ys p q = flat_map_in P (λ x. flat_map (make x) ys) (λ x px. flat_map_in Q (make x) (λ y qy. each x y px qy) ys q) xs p

  -- a row whose number is below the bound
  abbrev TestBelow : TestRowOf → Type 0
  TestBelow r = r.0 < t

  fact_if_in : (b : Bool) (r : Rule) (e : Term) → IsInRange t a e → AreHypsInRange (fact_if b r e)
  fact_if_in true r e h = (h, tt)
  fact_if_in false r e h = tt

  apart_fact_in : (m : ℕ) (x y : TestRowOf) → TestBelow x → TestBelow y → AreHypsInRange (apart_fact m x y)
  apart_fact_in m (i, Zero f) (j, Zero g) p q = fact_if_in _ _ (excludes i j) (p, q)
  apart_fact_in m (i, Zero f) (j, Less g d) p q = tt
  apart_fact_in m (i, Less f g) (j, b) p q = tt

  order_fact_in : (x y : TestRowOf) → TestBelow x → TestBelow y → AreHypsInRange (order_fact x y)
  order_fact_in (i, Less f g) (j, Less d e) p q = fact_if_in _ _ (excludes i j) (p, q)
  order_fact_in (i, Less f g) (j, Zero z) p q = tt
  order_fact_in (i, Zero f) (j, b) p q = tt

  equality_fact_in : (m : ℕ) (x y : TestRowOf) → TestBelow x → TestBelow y → AreHypsInRange (equality_fact m x y)
  equality_fact_in m (i, Less f g) (j, Zero z) p q = fact_if_in _ _ (excludes i j) (p, q)
  equality_fact_in m (i, Less f g) (j, Less d e) p q = tt
  equality_fact_in m (i, Zero f) (j, b) p q = tt

  bound_fact_in : (x y : TestRowOf) → TestBelow x → TestBelow y → AreHypsInRange (bound_fact x y)
  bound_fact_in (i, Less f c) (j, Less g d) p q = fact_if_in _ _ (implies i j) (p, q)
  bound_fact_in (i, Less f c) (j, Zero z) p q = tt
  bound_fact_in (i, Zero f) (j, b) p q = tt

  either_in : (i j : ℕ) (b : Bool) → i < t → j < t → IsInRange t a (cond b (implies i j) (excludes i j))
  either_in i j true p q = (p, q)
  either_in i j false p q = (p, q)

  decided_in : (i j : ℕ) (f g : FormTree) → i < t → j < t → AreHypsInRange (decided_by i j f g)
  decided_in i j (constant c) (constant d) p q = (either_in i j (nat_lt c d) p q, tt)
  decided_in i j (constant c) (var_term k n r) p q = tt
  decided_in i j (constant c) (product_term e f n r) p q = tt
  decided_in i j (var_term k n r) g p q = tt
  decided_in i j (product_term e f n r) g p q = tt

  constant_fact_in : (m : ℕ) (x y : TestRowOf) → TestBelow x → TestBelow y → AreHypsInRange (constant_fact m x y)
  constant_fact_in m (i, Zero z) (j, Less f d) p q =
      append_in (decided_by i j (form_difference m f z) d) (decided_by i j (form_sum m f z) d) (decided_in i j (form_difference m f z) d p q) (decided_in i j (form_sum m f z) d p q)
  constant_fact_in m (i, Zero z) (j, Zero f) p q = tt
  constant_fact_in m (i, Less f g) (j, b) p q = tt

  three_way_fact_in : (m : ℕ) (x y z : TestRowOf) → TestBelow x → TestBelow y → TestBelow z → AreHypsInRange (three_way_fact m x y z)
  three_way_fact_in m (i, Less f g) (j, Less d e) (k, Zero z) p q r = fact_if_in _ _ _ (p, (q, r))
  three_way_fact_in m (i, Less f g) (j, Less d e) (k, Less z y) p q r = tt
  three_way_fact_in m (i, Less f g) (j, Zero d) (k, z) p q r = tt
  three_way_fact_in m (i, Zero f) (j, b) (k, z) p q r = tt

  keeps_before_in : (i j : ℕ) (o : Option TestTree) → i < a → j < t → OptionInRange t o → AreHypsInRange (keeps_before i j o)
  keeps_before_in i j None p q h = tt
  keeps_before_in i j (Some psi) p q h = ((h, (p, q)), ((h, (p, q)), tt))

  stated_in : (n : ℕ) (hs : List Term) → AreInRange t a hs → AreHypsInRange (stated_from n hs)
  stated_in n [] h = tt
  stated_in n (e ∷ es) h = (h.0, stated_in (n + 1) es h.1)

numbers_below : {X : Type 0} (n k : ℕ) (xs : List X) → n + length xs ≤ k → AllOf (λ r. r.0 < k) (enumerate_from n xs)
numbers_below n k [] h = tt
numbers_below n k (x ∷ xs) h = (omega arith, numbers_below (n + 1) k xs (omega arith))

AreInRange-more : (t a u b : ℕ) → t ≤ u → a ≤ b → (es : List Term) → AreInRange t a es → AreInRange u b es
AreInRange-more t a u b p q [] h = tt
AreInRange-more t a u b p q (e ∷ es) h = (IsInRange-more t a u b p q e h.0, AreInRange-more t a u b p q es h.1)

module _ (t : Tables) where
  assignment_facts_in : (x : ActionRowOf) (y : TestRowOf) → x.0 < all_actions t → y.0 < all_tests t → AreHypsInRange (all_tests t) (all_actions t) (assignment_facts t x y)
  assignment_facts_in (i, x) (j, phi) p q =
      let form = substituted (modulus t.width) x.var x.form phi in
      keeps_before_in (all_tests t) (all_actions t) i j (form_test t form) p q (form_test_in t form)

  derived_in : AreHypsInRange (all_tests t) (all_actions t) (derived t)
  derived_in =
      let n = all_tests t in
      let k = all_actions t in
      let m = modulus t.width in
      let rows = test_rows t in
      let TB : TestRowOf → Type 0 = λ r. r.0 < n in
      let AB : ActionRowOf → Type 0 = λ r. r.0 < k in
      let tests : AllOf TB rows = numbers_below t.tests n t.comparisons (omega arith) in
      let actions : AllOf AB (action_rows t) = numbers_below t.actions k t.assignments (omega arith) in
      let none = pairs_in n k AB TB (assignment_facts t) assignment_facts_in (action_rows t) rows actions tests in
      let one = pairs_in n k TB TB (apart_fact m) (apart_fact_in n k m) rows rows tests tests in
      let two = pairs_in n k TB TB order_fact (order_fact_in n k) rows rows tests tests in
      let three = pairs_in n k TB TB (equality_fact m) (equality_fact_in n k m) rows rows tests tests in
      let four = pairs_in n k TB TB bound_fact (bound_fact_in n k) rows rows tests tests in
      let five = pairs_in n k TB TB (constant_fact m) (constant_fact_in n k m) rows rows tests tests in
      let six = flat_map_in n k TB (λ x. of_pairs (three_way_fact m x) rows rows) (λ x p. pairs_in n k TB TB (three_way_fact m x) (λ y z q r. three_way_fact_in n k m x y z p q r) rows rows tests tests) rows tests in
      append_in n k _ _ (append_in n k _ _ (append_in n k _ _ (append_in n k _ _ (append_in n k _ _ (append_in n k _ _ none one) two) three) four) five) six

  pub hypotheses_in : (hyps : List Term) → AreInRange t.tests t.actions hyps → AreInRange (all_tests t) (all_actions t) (map (λ h. h.term) (hypotheses t hyps))
  hypotheses_in hyps h =
      let n = all_tests t in
      let k = all_actions t in
      terms_in n k (hypotheses t hyps) (append_in n k (stated_from 0 hyps) (derived t) (stated_in n k 0 hyps (AreInRange-more t.tests t.actions n k (omega arith) (omega arith) hyps h)) derived_in)
