-- A form with a number in the place of a cell has the value that it has where the cell is the number.
use Rattle.std.proofs.Common.{◌≡◌, ℕ, zero, suc, ◌+◌, ◌-◌, ◌*◌, ◌%◌, ◌<◌, inl, inr, Bool, true, false, ◌&&◌, nat_eq, nat_lt, List, [], ◌∷◌, ◌++◌, length, map, Option, Some, None, slice_get, slice_index_or, if◌then◌else◌, refl, sym, ◌∙◌, ap, subst, arith, mod-eq_of_lt, mul-one}
use mathlib.Core.Path.{ap₂}
use Rattle.std.specs.Ordering.{is_eq}
use Rattle.std.proofs.Math.Nat.{mod_self}
use Rattle.std.proofs.lemmas.Bool.{and_parts, eqb-true, ltb-true, ltb-false}
use Rattle.std.proofs.lemmas.List.{get_or_append_left, get_or_at, get_or_past, length-append}
use Rattle.std.proofs.lemmas.Nat.{mod_below}
use Rattle.kat_model.specs.Members.{Has}
use Rattle.kat_model.specs.Stores.{modulus}
use Rattle.kat_model.specs.declared.expression.Width.{Width}
use Rattle.linear_forms.proofs.Modulo.{add-mod, cong_add, negated}
use Rattle.flow_model.specs.declared.sort.Sort.{Sort}
use Rattle.flow_model.specs.declared.sort.Sort.TheVariants.{Number, Opaque}
use Rattle.flow_model.specs.Sorts.{State, IsState, value_in}
use Rattle.flow_model.specs.Interpretations.{Interpretation, conversion, first}
use Rattle.flow_forms.specs.Forms.{FlowFormTree, constant, term, one, factor, variable, applied, converted, no_arguments, argument}
use Rattle.flow_forms.specs.Values.{form_values, polynomial, form_value}
use Rattle.flow_forms.specs.Order.{form_cmp}
use Rattle.flow_forms.specs.Conversions.{is_one}
use Rattle.flow_forms.specs.Comparisons.{FlowComparisonTree, zero_form, less_form, same_form, comparison_holds}
use Rattle.flow_forms.specs.Expressions.{form_of_cell, HasForms}
use Rattle.flow_forms.proofs.SubstitutedValues.{value-substituted}
use Rattle.flow_forms.proofs.ConvertedValues.{same_bits, no_cells}
use Rattle.flow_forms.proofs.EquationValues.{positive}
use Rattle.flow_forms.proofs.Widths.{conversion_below}
use Rattle.flow_ways.specs.Ways.{own_forms_from, state_of}
use Rattle.flow_ways.specs.Actions.{new_value, after_from}
use Rattle.flow_ways.proofs.States.{has_forms, own_value, own_state, own_length}
use Rattle.flow_problem.specs.Edges.{FlowActionTree, assigned, given}
use Rattle.flow_problem.specs.Points.{at, ended, point_after}
use Rattle.flow_problem.specs.Splits.{CellTest, is_number_of, is_cell_of, cell_test_if, signed_cell_test, product_test, sum_test, cell_test, is_same_cell, named, sorts_with, forms_with, with_cell_number, set_with, sets_with, action_with}
use Rattle.flow_forms.proofs.SameComparisons.{one_form}
use Rattle.flow_problem.proofs.GraphTerms.{length-state}
use Rattle.flow_problem.proofs.Arcs.{SumIs, sum_is, OppositeIs, opposite_is}

-- ---- a new variable

state_of-append : (I : Interpretation) (s : State) (sorts : List Sort) (fs : List FlowFormTree) (more : List Sort) (gs : List FlowFormTree) → length fs ≡ length sorts →
    state_of I s (sorts ++ more) (fs ++ gs) ≡ state_of I s sorts fs ++ state_of I s more gs
state_of-append I s [] [] more gs l = refl
state_of-append I s [] (f ∷ fs) more gs l = absurd (omega (arith, l))
state_of-append I s (sort ∷ sorts) [] more gs l = absurd (omega (arith, l))
state_of-append I s (sort ∷ sorts) (f ∷ fs) more gs l = ap (λ ns. form_value I s sort f ∷ ns) (state_of-append I s sorts fs more gs (omega (arith, l)))

module _ (I : Interpretation) (s : State) (sorts : List Sort) (is : IsState sorts s) (x : CellTest) (value : polynomial I s x.cell ≡ x.number) (small : x.number < modulus x.width) where
  -- the state with the number as the value of the new variable
  abbrev more : State
  more = s ++ x.number ∷ []

  as_long : length s ≡ length sorts
  as_long = length-state sorts s is

  new_there : slice_index_or more (length sorts) 0 ≡ x.number
  new_there = get_or_at s x.number [] 0 (length sorts) as_long

  old_there : (k : ℕ) → k < length sorts → slice_index_or more k 0 ≡ slice_index_or s k 0
  old_there k lt = get_or_append_left s (x.number ∷ []) 0 k (omega (arith, as_long, lt))

  -- a cell, or the new variable where the cell is the one that is tested
  cell_or_new : (g h : FlowFormTree) (b : Bool) → is_same_cell x.cell g ≡ b → form_values I s g ≡ polynomial I s g ∷ [] → form_values I more h ≡ form_values I s g →
      form_values I more (if b then variable (length sorts) else h) ≡ form_values I s g
  cell_or_new g h true e single other =
      let there : polynomial I s g ≡ x.number = subst (λ c. polynomial I s c ≡ x.number) (one_form x.cell g e) value in
      ap (λ n. n ∷ []) (new_there ∙ sym there) ∙ sym single
  cell_or_new g h false e single other = other

  old_or_none : (k : ℕ) (b : Bool) → nat_lt k (length sorts) ≡ b → form_values I more (if b then variable k else constant 0) ≡ slice_index_or s k 0 ∷ []
  old_or_none k true e = ap (λ n. n ∷ []) (old_there k (ltb-true k (length sorts) e))
  old_or_none k false e =
      let past = ltb-false k (length sorts) e in
      ap (λ n. n ∷ []) (sym (get_or_past s k 0 (omega (arith, as_long, past))))

  named_values : (f : FlowFormTree) → form_values I more (named x.cell (length sorts) f) ≡ form_values I s f
  named_values (constant c) = refl
  named_values (term t p rest) = ap₂ (λ a b. (t * first a + first b) ∷ []) (named_values p) (named_values rest)
  named_values one = refl
  named_values (factor c rest) = ap₂ (λ a b. (first a * first b) ∷ []) (named_values c) (named_values rest)
  named_values (variable k) =
      cell_or_new (variable k) (if nat_lt k (length sorts) then variable k else constant 0) (is_same_cell x.cell (variable k)) refl refl (old_or_none k (nat_lt k (length sorts)) refl)
  named_values (applied f result args) =
      cell_or_new (applied f result args) (applied f result (named x.cell (length sorts) args)) (is_same_cell x.cell (applied f result args)) refl refl
      (ap (λ ns. value_in result (I f ns) ∷ []) (named_values args))
  named_values (converted signed from to f) =
      cell_or_new (converted signed from to f) (converted signed from to (named x.cell (length sorts) f)) (is_same_cell x.cell (converted signed from to f)) refl refl
      (ap (λ ns. conversion signed from to (first ns % modulus from) ∷ []) (named_values f))
  named_values no_arguments = refl
  named_values (argument sort f rest) = ap₂ (λ a b. value_in sort (first a) ∷ b) (named_values f) (named_values rest)

  -- the forms of the variables and of the new one
  forms_are : HasForms I s (sorts_with sorts x) (forms_with sorts x) more
  forms_are = subst (HasForms I s (sorts_with sorts x) (forms_with sorts x)) state (has_forms I s (sorts_with sorts x) (forms_with sorts x) lengths)
    where
      lengths : length (forms_with sorts x) ≡ length (sorts_with sorts x)
      lengths =
          length-append (own_forms_from 0 sorts) (constant x.number ∷ [])
          ∙ ap (λ n. n + 1) (own_length 0 sorts)
          ∙ sym (length-append sorts (Number x.width ∷ []))

      state : state_of I s (sorts_with sorts x) (forms_with sorts x) ≡ more
      state =
          state_of-append I s sorts (own_forms_from 0 sorts) (Number x.width ∷ []) (constant x.number ∷ []) (own_length 0 sorts)
          ∙ ap₂ (λ a b. a ++ b) (own_state I s sorts is) (ap (λ n. n ∷ []) (mod-eq_of_lt small))

  value-with_cell_number : (sort : Sort) (f : FlowFormTree) → form_value I s sort (with_cell_number sorts x sort f) ≡ form_value I s sort f
  value-with_cell_number sort f =
      value-substituted I s (sorts_with sorts x) (forms_with sorts x) more forms_are sort (named x.cell (length sorts) f)
      ∙ ap (λ ns. value_in sort (first ns)) (named_values f)

  -- ---- actions

  set_same : (k : ℕ) (sort : Sort) (o : Option FlowFormTree) (n : ℕ) → form_value I s sort (form_of_cell sort (variable k)) ≡ n → new_value I s sort n (set_with sorts x k sort o) ≡ new_value I s sort n o
  set_same k sort None n own = refl
  set_same k sort (Some f) n own = by_test (is_eq (form_cmp (with_cell_number sorts x sort f) (with_cell_number sorts x sort (form_of_cell sort (variable k))))) refl
    where
      by_test : (b : Bool) → is_eq (form_cmp (with_cell_number sorts x sort f) (with_cell_number sorts x sort (form_of_cell sort (variable k)))) ≡ b →
          new_value I s sort n (if b then None else Some (with_cell_number sorts x sort f)) ≡ form_value I s sort f
      by_test true e =
          sym own
          ∙ sym (value-with_cell_number sort (form_of_cell sort (variable k)))
          ∙ sym (ap (form_value I s sort) (one_form (with_cell_number sorts x sort f) (with_cell_number sorts x sort (form_of_cell sort (variable k))) e))
          ∙ value-with_cell_number sort f
      by_test false e = value-with_cell_number sort f

  sets_same : (k : ℕ) (some : List Sort) (os : List (Option FlowFormTree)) (ns : State) → ((j : ℕ) → slice_index_or s (k + j) 0 ≡ slice_index_or ns j 0) → IsState some ns →
      after_from I s some (sets_with sorts x k some os) ns ≡ after_from I s some os ns
  sets_same k [] os ns h o = refl
  sets_same k (sort ∷ some) [] ns h o = refl
  sets_same k (sort ∷ some) (p ∷ os) [] h o = absurd o
  sets_same k (sort ∷ some) (p ∷ os) (n ∷ ns) h o =
      ap₂ (λ a b. a ∷ b)
      (set_same k sort p n (own_value I s sort k n (ap (λ i. slice_index_or s i 0) (omega arith) ∙ h 0) o.0))
      (sets_same (suc k) some os ns (λ j. ap (λ i. slice_index_or s i 0) (omega arith) ∙ h (suc j)) o.1)

  results_same : (rs : List (Sort × FlowFormTree)) → map (λ (r : Sort × FlowFormTree). form_value I s r.0 r.1) (map (λ (r : Sort × FlowFormTree). (r.0, with_cell_number sorts x r.0 r.1)) rs) ≡ map (λ (r : Sort × FlowFormTree). form_value I s r.0 r.1) rs
  results_same [] = refl
  results_same (r ∷ rs) = ap₂ (λ a b. a ∷ b) (value-with_cell_number r.0 r.1) (results_same rs)

  -- where the cell is the number, the action with the number leads to the same point
  pub action_same : (action : FlowActionTree) → point_after I sorts (action_with sorts x action) s ≡ point_after I sorts action s
  action_same (assigned os) = ap at (sets_same 0 sorts os s (λ j. ap (λ i. slice_index_or s i 0) (omega arith)) is)
  action_same (given []) = refl
  action_same (given (r ∷ rs)) = ap ended (results_same (r ∷ rs))

-- ---- tests of a cell

value_there : (sorts : List Sort) (s : State) (k : ℕ) (v : Width) → IsState sorts s → slice_get sorts k ≡ Some (Number v) → slice_index_or s k 0 < modulus v
value_there [] s zero v is e = absurd cc
value_there [] s (suc k) v is e = absurd cc
value_there (sort ∷ sorts) [] k v is e = absurd is
value_there (Number w ∷ sorts) (n ∷ ns) zero v is e = let same : w ≡ v = cc in subst (λ u. n < modulus u) same is.0
value_there (Opaque j ∷ sorts) (n ∷ ns) zero v is e = absurd cc
value_there (sort ∷ sorts) (n ∷ ns) (suc k) v is e = value_there sorts ns k v is.1 e

cell_below : (I : Interpretation) (s : State) (sorts : List Sort) (w : Width) (c : FlowFormTree) → IsState sorts s → is_cell_of sorts w c ≡ true → polynomial I s c < modulus w
cell_below I s sorts w (variable k) is e = by_sort (slice_get sorts k) refl e
  where
    by_sort : (o : Option Sort) → slice_get sorts k ≡ o → is_number_of w o ≡ true → slice_index_or s k 0 < modulus w
    by_sort None p q = absurd cc
    by_sort (Some (Number v)) p q = subst (λ u. slice_index_or s k 0 < modulus u) (same_bits v w q) (value_there sorts s k v is p)
    by_sort (Some (Opaque j)) p q = absurd cc
cell_below I s sorts w (applied f (Number v) args) is e =
    subst (λ u. I f (form_values I s args) % modulus v < modulus u) (same_bits v w e) (mod_below (I f (form_values I s args)) (modulus v) (positive v))
cell_below I s sorts w (applied f (Opaque j) args) is e = absurd cc
cell_below I s sorts w (converted signed from to f) is e =
    let n = conversion signed from to (polynomial I s f % modulus from) in
    let cut : n % modulus to < modulus to = mod_below n (modulus to) (positive to) in
    let below : n < modulus to = subst (λ z. z < modulus to) (conversion_below signed from to (polynomial I s f % modulus from)) cut in
    subst (λ u. n < modulus u) (same_bits to w e) below
cell_below I s sorts w (constant c) is e = absurd cc
cell_below I s sorts w (term t p rest) is e = absurd cc
cell_below I s sorts w one is e = absurd cc
cell_below I s sorts w (factor c rest) is e = absurd cc
cell_below I s sorts w no_arguments is e = absurd cc
cell_below I s sorts w (argument sort f rest) is e = absurd cc

-- x + d is 0 modulo m
plus_number : (m x e r : ℕ) → x < m → e < m → SumIs m (x + e) r → r ≡ 0 → x ≡ (m - e) % m
plus_number m x e r hx he (inl (l, f)) z =
    let none : x ≡ 0 = omega arith in
    let whole : m - e ≡ m = omega arith in
    none ∙ sym (ap (λ n. n % m) whole ∙ mod_self m)
plus_number m x e r hx he (inr (g, f)) z =
    let rest : m - e ≡ x = omega arith in
    sym (ap (λ n. n % m) rest ∙ mod-eq_of_lt hx)

plus_zero : (m x d : ℕ) → x < m → (x + d) % m ≡ 0 → x ≡ (m - d % m) % m
plus_zero m x d hx z =
    let pos : 0 < m = omega (arith, hx) in
    let cut : d % m < m = mod_below d m pos in
    let same : (x + d % m) % m ≡ 0 = ap (λ n. (n + d % m) % m) (sym (mod-eq_of_lt hx)) ∙ add-mod x d m ∙ z in
    plus_number m x (d % m) ((x + d % m) % m) hx cut (sum_is m (x + d % m) (omega (arith, hx, cut))) same

-- -x + d is 0 modulo m
minus_number : (m x e v r : ℕ) → x < m → e < m → OppositeIs m x v → SumIs m (v + e) r → r ≡ 0 → x ≡ e
minus_number m x e v r hx he (inl (p, q)) (inl (l, f)) z = omega arith
minus_number m x e v r hx he (inl (p, q)) (inr (g, f)) z = absurd (omega arith)
minus_number m x e v r hx he (inr (p, q)) (inl (l, f)) z = absurd (omega arith)
minus_number m x e v r hx he (inr (p, q)) (inr (g, f)) z = omega arith

minus_zero : (m x d : ℕ) → x < m → ((m - 1) * x + d) % m ≡ 0 → x ≡ d % m
minus_zero m x d hx z =
    let pos : 0 < m = omega (arith, hx) in
    let cut : d % m < m = mod_below d m pos in
    let opposite_cut : (m - x) % m < m = mod_below (m - x) m pos in
    let same : ((m - x) % m + d % m) % m ≡ 0 = add-mod (m - x) d m ∙ sym (cong_add m ((m - 1) * x) (m - x) d d (negated m x hx) refl) ∙ z in
    minus_number m x (d % m) ((m - x) % m) (((m - x) % m + d % m) % m) hx cut (opposite_is m x hx) (sum_is m ((m - x) % m + d % m) (omega (arith, opposite_cut, cut))) same

-- the comparison says that the cell is the number
pub record IsTestOf (sorts : List Sort) (c : FlowComparisonTree) (x : CellTest) : Type 0 where
  pub comparison : x.comparison ≡ c
  pub small : x.number < modulus x.width
  pub denotes : (I : Interpretation) (s : State) → IsState sorts s → comparison_holds I s c ≡ true → polynomial I s x.cell ≡ x.number

if_test : (sorts : List Sort) (c : FlowComparisonTree) (b : Bool) (w : Width) (f : FlowFormTree) (d : FlowFormTree) (n : ℕ) (x : CellTest) → Has (cell_test_if b w f d n) x →
    (b ≡ true → IsTestOf sorts c (record { comparison = zero_form w f; width = w; cell = d; number = n })) → IsTestOf sorts c x
if_test sorts c true w f d n x (inl e) h = subst (IsTestOf sorts c) e (h refl)
if_test sorts c true w f d n x (inr k) h = absurd k
if_test sorts c false w f d n x k h = absurd k

signed_test : (sorts : List Sort) (w : Width) (t : ℕ) (c : FlowFormTree) (d : ℕ) (x : CellTest) →
    Has (signed_cell_test sorts w (term t (factor c one) (constant d)) t c d) x → IsTestOf sorts (zero_form w (term t (factor c one) (constant d))) x
signed_test sorts w t c d x h = by_sign (nat_eq t 1) refl h
  where
    plus : t ≡ 1 → is_cell_of sorts w c ≡ true →
        IsTestOf sorts (zero_form w (term t (factor c one) (constant d))) (record { comparison = zero_form w (term t (factor c one) (constant d)); width = w; cell = c; number = (modulus w - d % modulus w) % modulus w })
    plus e cell = record {
      comparison = refl;
      small = mod_below (modulus w - d % modulus w) (modulus w) (positive w);
      denotes = λ I s is z.
          let same : polynomial I s c + d ≡ t * (polynomial I s c * 1) + d = rw (e) (omega arith) in
          plus_zero (modulus w) (polynomial I s c) d (cell_below I s sorts w c is cell) (ap (λ n. n % modulus w) same ∙ eqb-true ((t * (polynomial I s c * 1) + d) % modulus w) 0 z);
    }

    minus : t ≡ modulus w - 1 → is_cell_of sorts w c ≡ true →
        IsTestOf sorts (zero_form w (term t (factor c one) (constant d))) (record { comparison = zero_form w (term t (factor c one) (constant d)); width = w; cell = c; number = d % modulus w })
    minus e cell = record {
      comparison = refl;
      small = mod_below d (modulus w) (positive w);
      denotes = λ I s is z.
          let same : (modulus w - 1) * polynomial I s c + d ≡ t * (polynomial I s c * 1) + d = ap₂ (λ a b. a * b + d) (sym e) (sym (mul-one (polynomial I s c))) in
          minus_zero (modulus w) (polynomial I s c) d (cell_below I s sorts w c is cell) (ap (λ n. n % modulus w) same ∙ eqb-true ((t * (polynomial I s c * 1) + d) % modulus w) 0 z);
    }

    by_sign : (b : Bool) → nat_eq t 1 ≡ b →
        Has
        (if b
        then cell_test_if (is_cell_of sorts w c) w (term t (factor c one) (constant d)) c ((modulus w - d % modulus w) % modulus w)
        else cell_test_if (nat_eq t (modulus w - 1) && is_cell_of sorts w c) w (term t (factor c one) (constant d)) c (d % modulus w))
        x → IsTestOf sorts (zero_form w (term t (factor c one) (constant d))) x
    by_sign true e k =
        if_test sorts (zero_form w (term t (factor c one) (constant d))) (is_cell_of sorts w c) w (term t (factor c one) (constant d)) c ((modulus w - d % modulus w) % modulus w) x k (plus (eqb-true t 1 e))
    by_sign false e k =
        if_test sorts (zero_form w (term t (factor c one) (constant d))) (nat_eq t (modulus w - 1) && is_cell_of sorts w c) w (term t (factor c one) (constant d)) c (d % modulus w) x k
        (λ q. let parts = and_parts (nat_eq t (modulus w - 1)) (is_cell_of sorts w c) q in minus (eqb-true t (modulus w - 1) parts.0) parts.1)

alone_test : (sorts : List Sort) (w : Width) (t : ℕ) (c rest : FlowFormTree) (d : ℕ) (x : CellTest) (b : Bool) → is_one rest ≡ b →
    Has (if b then signed_cell_test sorts w (term t (factor c rest) (constant d)) t c d else []) x → IsTestOf sorts (zero_form w (term t (factor c rest) (constant d))) x
alone_test sorts w t c rest d x true e h =
    let same : rest ≡ one = no_cells rest e in
    subst (λ r. IsTestOf sorts (zero_form w (term t (factor c r) (constant d))) x) (sym same)
    (signed_test sorts w t c d x (subst (λ r. Has (signed_cell_test sorts w (term t (factor c r) (constant d)) t c d) x) same h))
alone_test sorts w t c rest d x false e h = absurd h

product_tests : (sorts : List Sort) (w : Width) (t : ℕ) (p : FlowFormTree) (d : ℕ) (x : CellTest) → Has (product_test sorts w (term t p (constant d)) t p d) x → IsTestOf sorts (zero_form w (term t p (constant d))) x
product_tests sorts w t (factor c rest) d x h = alone_test sorts w t c rest d x (is_one rest) refl h
product_tests sorts w t (constant c) d x h = absurd h
product_tests sorts w t (term u p rest) d x h = absurd h
product_tests sorts w t one d x h = absurd h
product_tests sorts w t (variable k) d x h = absurd h
product_tests sorts w t (applied f result args) d x h = absurd h
product_tests sorts w t (converted signed from to f) d x h = absurd h
product_tests sorts w t no_arguments d x h = absurd h
product_tests sorts w t (argument sort f rest) d x h = absurd h

sum_tests : (sorts : List Sort) (w : Width) (f : FlowFormTree) (x : CellTest) → Has (sum_test sorts w f) x → IsTestOf sorts (zero_form w f) x
sum_tests sorts w (term t p (constant d)) x h = product_tests sorts w t p d x h
sum_tests sorts w (term t p (term u q rest)) x h = absurd h
sum_tests sorts w (term t p one) x h = absurd h
sum_tests sorts w (term t p (factor c rest)) x h = absurd h
sum_tests sorts w (term t p (variable k)) x h = absurd h
sum_tests sorts w (term t p (applied f result args)) x h = absurd h
sum_tests sorts w (term t p (converted signed from to f)) x h = absurd h
sum_tests sorts w (term t p no_arguments) x h = absurd h
sum_tests sorts w (term t p (argument sort f rest)) x h = absurd h
sum_tests sorts w (constant c) x h = absurd h
sum_tests sorts w one x h = absurd h
sum_tests sorts w (factor c rest) x h = absurd h
sum_tests sorts w (variable k) x h = absurd h
sum_tests sorts w (applied f result args) x h = absurd h
sum_tests sorts w (converted signed from to f) x h = absurd h
sum_tests sorts w no_arguments x h = absurd h
sum_tests sorts w (argument sort f rest) x h = absurd h

pub test_of_cell : (sorts : List Sort) (c : FlowComparisonTree) (x : CellTest) → Has (cell_test sorts c) x → IsTestOf sorts c x
test_of_cell sorts (zero_form w f) x h = sum_tests sorts w f x h
test_of_cell sorts (less_form w f g) x h = absurd h
test_of_cell sorts (same_form f g) x h = absurd h
