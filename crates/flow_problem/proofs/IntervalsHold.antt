-- The facts about intervals relate no states.
use Rattle.std.proofs.Common.{◌≡◌, ℕ, ◌+◌, ◌*◌, ◌-◌, ◌%◌, ◌<◌, ◌≤◌, ◌⊎◌, inl, inr, Bool, true, false, not, ◌&&◌, nat_eq, nat_lt, IsTrue, List, [], ◌∷◌, ◌++◌, map, Option, Some, None, slice_get, slice_index_or, if◌then◌else◌, refl, sym, ◌∙◌, ap, subst, arith, mod-eq_of_lt, Ordering, Less, Equal, Greater}
use Rattle.std.proofs.lemmas.Bool.{not-true, both_ways, and_parts, ltb-true, cases_Bool}
use Rattle.std.proofs.lemmas.Bool.Decides.{nat_tests}
use Rattle.std.proofs.lemmas.Nat.{mod_below}
use Rattle.kat_model.specs.Trees.{test, product}
use Rattle.kat_model.specs.Members.{Has}
use Rattle.kat_model.specs.Steps.{truth}
use Rattle.kat_model.specs.Stores.{modulus}
use Rattle.kat_model.specs.Relations.{Frame}
use Rattle.kat_model.specs.declared.expression.Width.{Width}
use Rattle.linear_forms.specs.Arithmetic.{by_order}
use Rattle.linear_forms.proofs.Modulo.{add-mod}
use Rattle.flow_model.specs.declared.sort.Sort.{Sort}
use Rattle.flow_model.specs.Interpretations.{Interpretation}
use Rattle.flow_forms.specs.Forms.{FlowFormTree, constant, term, one, factor, variable, applied, converted, no_arguments, argument}
use Rattle.flow_forms.specs.Values.{polynomial}
use Rattle.flow_forms.specs.Order.{form_cmp}
use Rattle.flow_forms.specs.Arithmetic.{negative}
use Rattle.flow_forms.specs.Conversions.{is_same_width}
use Rattle.flow_forms.specs.Comparisons.{FlowComparisonTree, zero_form, less_form, same_form, comparison_holds, canonical}
use Rattle.flow_forms.proofs.ConvertedValues.{same_bits}
use Rattle.flow_forms.proofs.EquationValues.{positive}
use Rattle.flow_forms.proofs.Polynomials.{polynomial-negative}
use Rattle.kat_model.proofs.RelatesNothing.{RelatesNone, two_tests, three_tests}
use Rattle.flow_problem.specs.Edges.{FlowActionTree}
use Rattle.flow_problem.specs.Points.{RunPoint, numbers_at, point_frame}
use Rattle.flow_problem.specs.FlowFacts.{FlowHypothesis, NumberedTest, by_intervals, is_one_form, none_of_three, Arc, lies_in, have_common, varying_part, constant_part, Interval, interval_of_sum, interval_below, interval_of, is_same_interval_form, literal_arc, literal_test, two_arc_fact, two_arc_facts, pair_of_intervals, two_interval_fact, is_least, three_arc_fact, three_arc_facts, triple_of_intervals, three_interval_fact}
use Rattle.flow_forms.proofs.SameComparisons.{one_form, own_test}
use Rattle.flow_problem.proofs.EdgeRelations.{test_there}
use Rattle.flow_problem.proofs.AssignmentsHold.{Hold, hold_none, hold_both}
use Rattle.flow_problem.proofs.FlowFactsHold.{number_at, number_below, if_holds}
use Rattle.flow_problem.proofs.Arcs.{IsArc, turned_arc, straight_arc, in_literal, literal_is_arc, common_start}

-- ---- a comparison as an interval

module _ (I : Interpretation) (s : List ℕ) where
  -- a form is its varying part and its constant
  parts_sum : (f : FlowFormTree) → polynomial I s f ≡ polynomial I s (varying_part f) + constant_part f
  parts_sum (constant c) = omega arith
  parts_sum (term t p rest) = ap (λ n. t * polynomial I s p + n) (parts_sum rest) ∙ omega arith
  parts_sum one = omega arith
  parts_sum (factor c rest) = omega arith
  parts_sum (variable k) = omega arith
  parts_sum (applied f result args) = omega arith
  parts_sum (converted signed from to f) = omega arith
  parts_sum no_arguments = omega arith
  parts_sum (argument sort f rest) = omega arith

  number_parts : (w : Width) (f : FlowFormTree) → number_at I s w f ≡ (number_at I s w (varying_part f) + constant_part f % modulus w) % modulus w
  number_parts w f = ap (λ n. n % modulus w) (parts_sum f) ∙ sym (add-mod (polynomial I s (varying_part f)) (constant_part f) (modulus w))

  -- a form that is not the lesser of itself and its opposite
  canonical_other : (m : ℕ) (f : FlowFormTree) → is_one_form f (canonical m f) ≡ false → canonical m f ≡ negative m f
  canonical_other m f e = by_cmp (form_cmp f (negative m f)) e
    where
      by_cmp : (o : Ordering) → is_one_form f (by_order o f f (negative m f)) ≡ false → by_order o f f (negative m f) ≡ negative m f
      by_cmp Less h = absurd (both_ways (is_one_form f f) h (own_test f))
      by_cmp Equal h = absurd (both_ways (is_one_form f f) h (own_test f))
      by_cmp Greater h = refl

  opposite_number : (w : Width) (f : FlowFormTree) → is_one_form f (canonical (modulus w) f) ≡ false → number_at I s w (canonical (modulus w) f) ≡ (modulus w - number_at I s w f) % modulus w
  opposite_number w f e =
      ap (λ g. polynomial I s g % modulus w) (canonical_other (modulus w) f e) ∙ polynomial-negative I s (modulus w) f (positive w)

  -- the interval says what the comparison says
  abbrev Denotes : Width → ℕ → ℕ → Interval → Type 0
  Denotes w n d x = nat_lt n d ≡ lies_in (modulus x.width) x.arc (number_at I s x.width x.form)

  sum_denotes : (w : Width) (f : FlowFormTree) (c d : ℕ) → c < modulus w → d < modulus w → Denotes w ((number_at I s w f + c) % modulus w) d (interval_of_sum w f c d)
  sum_denotes w f c d hc hd = by_test (is_one_form f (canonical (modulus w) f)) refl
    where
      by_test : (b : Bool) → is_one_form f (canonical (modulus w) f) ≡ b →
          Denotes w ((number_at I s w f + c) % modulus w) d
          (if b
          then record { width = w; form = f; arc = record { start = (modulus w - c) % modulus w; size = d } }
          else record { width = w; form = canonical (modulus w) f; arc = record { start = (c + 1 + (modulus w - d)) % modulus w; size = d } })
      by_test true e = straight_arc (modulus w) (number_at I s w f) c d (number_below I s w f) hc
      by_test false e =
          turned_arc (modulus w) (number_at I s w f) c d (number_below I s w f) hc hd
          ∙ ap (λ n. lies_in (modulus w) (record { start = (c + 1 + (modulus w - d)) % modulus w; size = d }) n) (sym (opposite_number w f e))

abbrev Fits : Interval → Type 0
Fits x = IsArc (modulus x.width) x.arc

sum_is_arc : (w : Width) (f : FlowFormTree) (c d : ℕ) → d < modulus w → Fits (interval_of_sum w f c d)
sum_is_arc w f c d hd = by_test (is_one_form f (canonical (modulus w) f))
  where
    below : d ≤ modulus w
    below = omega (arith, hd)

    by_test : (b : Bool) →
        Fits
        (if b
        then record { width = w; form = f; arc = record { start = (modulus w - c) % modulus w; size = d } }
        else record { width = w; form = canonical (modulus w) f; arc = record { start = (c + 1 + (modulus w - d)) % modulus w; size = d } })
    by_test true = record { start = mod_below (modulus w - c) (modulus w) (positive w); size = below }
    by_test false = record { start = mod_below (c + 1 + (modulus w - d)) (modulus w) (positive w); size = below }

-- a comparison that says that a form lies in an arc, in every state
record Represents (c : FlowComparisonTree) (w : Width) (f : FlowFormTree) (arc : Arc) : Type 0 where
  is_arc : IsArc (modulus w) arc
  denotes : (I : Interpretation) (s : List ℕ) → comparison_holds I s c ≡ lies_in (modulus w) arc (number_at I s w f)

abbrev sum_interval : Width → FlowFormTree → ℕ → Interval
sum_interval w f d = interval_of_sum w (varying_part f) (constant_part f % modulus w) d

below_shows : (w : Width) (f : FlowFormTree) (d : ℕ) (c : FlowComparisonTree) (x : Interval) →
    ((I : Interpretation) (s : List ℕ) → d < modulus w → comparison_holds I s c ≡ nat_lt (number_at I s w f) d) →
    interval_below w f d ≡ Some x → Represents c x.width x.form x.arc
below_shows w f d c x holds e = by_test (nat_lt d (modulus w)) refl e
  where
    gives : d < modulus w → Represents c (sum_interval w f d).width (sum_interval w f d).form (sum_interval w f d).arc
    gives h = record {
      is_arc = sum_is_arc w (varying_part f) (constant_part f % modulus w) d h;
      denotes = λ I s.
          holds I s h
          ∙ ap (λ n. nat_lt n d) (number_parts I s w f)
          ∙ sum_denotes I s w (varying_part f) (constant_part f % modulus w) d (mod_below (constant_part f) (modulus w) (positive w)) h;
    }

    by_test : (b : Bool) → nat_lt d (modulus w) ≡ b → (if b then Some (sum_interval w f d) else None) ≡ Some x → Represents c x.width x.form x.arc
    by_test true h q =
        let same : sum_interval w f d ≡ x = cc in
        subst (λ (y : Interval). Represents c y.width y.form y.arc) same (gives (ltb-true d (modulus w) h))
    by_test false h q = absurd cc

zero_below : (n : ℕ) → nat_eq n 0 ≡ nat_lt n 1
zero_below n = by_cases (cases_Bool (nat_eq n 0))
  where
    by_cases : (nat_eq n 0 ≡ true) ⊎ (nat_eq n 0 ≡ false) → nat_eq n 0 ≡ nat_lt n 1
    by_cases (inl e) = let t : nat_lt n 1 ≡ true = grind (arith, nat_tests) in e ∙ sym t
    by_cases (inr e) = let t : nat_lt n 1 ≡ false = grind (arith, nat_tests) in e ∙ sym t

interval_shows : (c : FlowComparisonTree) (x : Interval) → interval_of c ≡ Some x → Represents c x.width x.form x.arc
interval_shows (zero_form w f) x e = below_shows w f 1 (zero_form w f) x (λ I s h. zero_below (number_at I s w f)) e
interval_shows (less_form w f (constant d)) x e =
    below_shows w f d (less_form w f (constant d)) x (λ I s h. ap (λ n. nat_lt (number_at I s w f) n) (mod-eq_of_lt h)) e
interval_shows (less_form w f (term t p rest)) x e = absurd cc
interval_shows (less_form w f one) x e = absurd cc
interval_shows (less_form w f (factor c rest)) x e = absurd cc
interval_shows (less_form w f (variable k)) x e = absurd cc
interval_shows (less_form w f (applied g result args)) x e = absurd cc
interval_shows (less_form w f (converted signed from to g)) x e = absurd cc
interval_shows (less_form w f no_arguments) x e = absurd cc
interval_shows (less_form w f (argument sort g rest)) x e = absurd cc
interval_shows (same_form f g) x e = absurd cc

-- an interval of the same form
same_shows : (c : FlowComparisonTree) (x y : Interval) → is_same_interval_form x y ≡ true → Represents c y.width y.form y.arc → Represents c x.width x.form y.arc
same_shows c x y h t =
    let parts = and_parts (is_same_width x.width y.width) (is_one_form x.form y.form) h in
    subst (λ w. Represents c w x.form y.arc) (sym (same_bits x.width y.width parts.0))
    (subst (λ f. Represents c y.width f y.arc) (sym (one_form x.form y.form parts.1)) t)

-- ---- facts

module _ (I : Interpretation) (sorts : List Sort) (tests : List FlowComparisonTree) (actions : List FlowActionTree) where
  abbrev frame : Frame RunPoint
  frame = point_frame I sorts tests actions

  abbrev AllHold : List FlowHypothesis → Type 0
  AllHold hs = Hold I sorts tests actions hs

  -- a literal that is true at a point puts the number of the form into its arc
  literal_lies : (i : ℕ) (c : FlowComparisonTree) (w : Width) (f : FlowFormTree) (arc : Arc) (b : Bool) → slice_get tests i ≡ Some c → Represents c w f arc → (p : RunPoint) → IsTrue (truth (literal_test i b) (frame.atom p)) →
      IsArc (modulus w) (literal_arc (modulus w) arc b) × (lies_in (modulus w) (literal_arc (modulus w) arc b) (number_at I (numbers_at p) w f) ≡ true)
  literal_lies i c w f arc b row gives p t = (
    literal_is_arc (modulus w) arc b (positive w) gives.is_arc,
    in_literal (modulus w) arc (number_at I (numbers_at p) w f) b gives.is_arc (number_below I (numbers_at p) w f) (sym (gives.denotes I (numbers_at p)) ∙ given b t),
  )
    where
      given : (b : Bool) → IsTrue (truth (literal_test i b) (frame.atom p)) → comparison_holds I (numbers_at p) c ≡ b
      given true t = sym (test_there I (numbers_at p) tests i c row) ∙ t
      given false t = sym (test_there I (numbers_at p) tests i c row) ∙ not-true (slice_index_or (map (comparison_holds I (numbers_at p)) tests) i false) t

  abbrev Lies : ℕ → ℕ → Arc → Type 0
  Lies m n arc = IsArc m arc × (lies_in m arc n ≡ true)

  two_lie : (m n : ℕ) (a b : Arc) → n < m → Lies m n a → Lies m n b → have_common m (a ∷ b ∷ []) ≡ true
  two_lie m n a b h p q = common_start m n a (b ∷ []) h each
    where
      each : (x : Arc) → Has (a ∷ b ∷ []) x → Lies m n x
      each x (inl e) = subst (Lies m n) e p
      each x (inr (inl e)) = subst (Lies m n) e q
      each x (inr (inr k)) = absurd k

  three_lie : (m n : ℕ) (a b c : Arc) → n < m → Lies m n a → Lies m n b → Lies m n c → have_common m (a ∷ b ∷ c ∷ []) ≡ true
  three_lie m n a b c h p q r = common_start m n a (b ∷ c ∷ []) h each
    where
      each : (x : Arc) → Has (a ∷ b ∷ c ∷ []) x → Lies m n x
      each x (inl e) = subst (Lies m n) e p
      each x (inr (inl e)) = subst (Lies m n) e q
      each x (inr (inr (inl e))) = subst (Lies m n) e r
      each x (inr (inr (inr k))) = absurd k

  module _ (w : Width) (f : FlowFormTree) (i j : ℕ) (c d : FlowComparisonTree) (a b : Arc) (row_i : slice_get tests i ≡ Some c) (row_j : slice_get tests j ≡ Some d) (shows_c : Represents c w f a) (shows_d : Represents d w f b) where
    pair_holds : (p q : Bool) → AllHold (two_arc_fact (modulus w) i j a b p q)
    pair_holds p q =
        if_holds I sorts tests actions (not (have_common (modulus w) (literal_arc (modulus w) a p ∷ literal_arc (modulus w) b q ∷ []))) (by_intervals (i ∷ j ∷ []))
        (product (test (literal_test i p)) (test (literal_test j q))) never
      where
        never : not (have_common (modulus w) (literal_arc (modulus w) a p ∷ literal_arc (modulus w) b q ∷ [])) ≡ true → RelatesNone frame (product (test (literal_test i p)) (test (literal_test j q)))
        never h =
            two_tests frame (literal_test i p) (literal_test j q)
            (λ x s t.
            both_ways (have_common (modulus w) (literal_arc (modulus w) a p ∷ literal_arc (modulus w) b q ∷ [])) (not-true _ h)
            (two_lie (modulus w) (number_at I (numbers_at x) w f) (literal_arc (modulus w) a p) (literal_arc (modulus w) b q) (number_below I (numbers_at x) w f)
            (literal_lies i c w f a p row_i shows_c x s) (literal_lies j d w f b q row_j shows_d x t)))

    pairs_hold : AllHold (two_arc_facts (modulus w) i j a b)
    pairs_hold =
        let m = modulus w in
        hold_both I sorts tests actions (two_arc_fact m i j a b true true ++ two_arc_fact m i j a b true false ++ two_arc_fact m i j a b false true) (two_arc_fact m i j a b false false)
        (hold_both I sorts tests actions (two_arc_fact m i j a b true true ++ two_arc_fact m i j a b true false) (two_arc_fact m i j a b false true)
        (hold_both I sorts tests actions (two_arc_fact m i j a b true true) (two_arc_fact m i j a b true false) (pair_holds true true) (pair_holds true false))
        (pair_holds false true))
        (pair_holds false false)

    module _ (k : ℕ) (e : FlowComparisonTree) (z : Arc) (row_k : slice_get tests k ≡ Some e) (shows_e : Represents e w f z) where
      triple_holds : (p q r : Bool) → AllHold (three_arc_fact (modulus w) i j k a b z p q r)
      triple_holds p q r =
          if_holds I sorts tests actions (is_least (modulus w) (literal_arc (modulus w) a p) (literal_arc (modulus w) b q) (literal_arc (modulus w) z r)) (by_intervals (i ∷ j ∷ k ∷ []))
          (none_of_three (literal_test i p) (literal_test j q) (literal_test k r)) never
        where
          never : is_least (modulus w) (literal_arc (modulus w) a p) (literal_arc (modulus w) b q) (literal_arc (modulus w) z r) ≡ true → RelatesNone frame (none_of_three (literal_test i p) (literal_test j q) (literal_test k r))
          never h =
              let m = modulus w in
              let first = and_parts (have_common m (literal_arc (modulus w) a p ∷ literal_arc (modulus w) b q ∷ [])) (have_common m (literal_arc (modulus w) a p ∷ literal_arc (modulus w) z r ∷ []) && (have_common m (literal_arc (modulus w) b q ∷ literal_arc (modulus w) z r ∷ []) && not (have_common m (literal_arc (modulus w) a p ∷ literal_arc (modulus w) b q ∷ literal_arc (modulus w) z r ∷ [])))) h in
              let second = and_parts (have_common m (literal_arc (modulus w) a p ∷ literal_arc (modulus w) z r ∷ [])) (have_common m (literal_arc (modulus w) b q ∷ literal_arc (modulus w) z r ∷ []) && not (have_common m (literal_arc (modulus w) a p ∷ literal_arc (modulus w) b q ∷ literal_arc (modulus w) z r ∷ []))) first.1 in
              let third = and_parts (have_common m (literal_arc (modulus w) b q ∷ literal_arc (modulus w) z r ∷ [])) (not (have_common m (literal_arc (modulus w) a p ∷ literal_arc (modulus w) b q ∷ literal_arc (modulus w) z r ∷ []))) second.1 in
              three_tests frame (literal_test i p) (literal_test j q) (literal_test k r)
              (λ o s t v.
              both_ways (have_common m (literal_arc (modulus w) a p ∷ literal_arc (modulus w) b q ∷ literal_arc (modulus w) z r ∷ [])) (not-true _ third.1)
              (three_lie m (number_at I (numbers_at o) w f) (literal_arc (modulus w) a p) (literal_arc (modulus w) b q) (literal_arc (modulus w) z r) (number_below I (numbers_at o) w f)
              (literal_lies i c w f a p row_i shows_c o s) (literal_lies j d w f b q row_j shows_d o t) (literal_lies k e w f z r row_k shows_e o v)))

      abbrev at_signs : Bool → Bool → Bool → List FlowHypothesis
      at_signs p q r = three_arc_fact (modulus w) i j k a b z p q r

      then_more : (hs gs : List FlowHypothesis) → AllHold hs → AllHold gs → AllHold (hs ++ gs)
      then_more hs gs p q = hold_both I sorts tests actions hs gs p q

      triples_hold : AllHold (three_arc_facts (modulus w) i j k a b z)
      triples_hold =
          let a1 = at_signs true true true in
          let a2 = a1 ++ at_signs true true false in
          let a3 = a2 ++ at_signs true false true in
          let a4 = a3 ++ at_signs true false false in
          let a5 = a4 ++ at_signs false true true in
          let a6 = a5 ++ at_signs false true false in
          let a7 = a6 ++ at_signs false false true in
          then_more a7 (at_signs false false false)
          (then_more a6 (at_signs false false true)
          (then_more a5 (at_signs false true false)
          (then_more a4 (at_signs false true true)
          (then_more a3 (at_signs true false false)
          (then_more a2 (at_signs true false true)
          (then_more a1 (at_signs true true false) (triple_holds true true true) (triple_holds true true false))
          (triple_holds true false true))
          (triple_holds true false false))
          (triple_holds false true true))
          (triple_holds false true false))
          (triple_holds false false true))
          (triple_holds false false false)

  abbrev IsRow : NumberedTest → Type 0
  IsRow row = slice_get tests row.0 ≡ Some row.1

  when : (b : Bool) (hs : List FlowHypothesis) → (b ≡ true → AllHold hs) → AllHold (if b then hs else [])
  when true hs h = h refl
  when false hs h = hold_none I sorts tests actions

  two_intervals : (i j : ℕ) (c d : FlowComparisonTree) → slice_get tests i ≡ Some c → slice_get tests j ≡ Some d → (x y : Option Interval) → interval_of c ≡ x → interval_of d ≡ y → AllHold (pair_of_intervals i j x y)
  two_intervals i j c d p q None y e f = hold_none I sorts tests actions
  two_intervals i j c d p q (Some x) None e f = hold_none I sorts tests actions
  two_intervals i j c d p q (Some x) (Some y) e f =
      when (is_same_interval_form x y) (two_arc_facts (modulus x.width) i j x.arc y.arc)
      (λ h. pairs_hold x.width x.form i j c d x.arc y.arc p q (interval_shows c x e) (same_shows d x y h (interval_shows d y f)))

  pub two_interval_fact_holds : (a b : NumberedTest) → IsRow a → IsRow b → AllHold (two_interval_fact a b)
  two_interval_fact_holds (i, c) (j, d) p q =
      when (nat_lt i j) (pair_of_intervals i j (interval_of c) (interval_of d)) (λ h. two_intervals i j c d p q (interval_of c) (interval_of d) refl refl)

  three_intervals : (i j k : ℕ) (c d e : FlowComparisonTree) → slice_get tests i ≡ Some c → slice_get tests j ≡ Some d → slice_get tests k ≡ Some e → (x y z : Option Interval) →
      interval_of c ≡ x → interval_of d ≡ y → interval_of e ≡ z → AllHold (triple_of_intervals i j k x y z)
  three_intervals i j k c d e p q r None y z f g h = hold_none I sorts tests actions
  three_intervals i j k c d e p q r (Some x) None z f g h = hold_none I sorts tests actions
  three_intervals i j k c d e p q r (Some x) (Some y) None f g h = hold_none I sorts tests actions
  three_intervals i j k c d e p q r (Some x) (Some y) (Some z) f g h =
      when (is_same_interval_form x y && is_same_interval_form x z) (three_arc_facts (modulus x.width) i j k x.arc y.arc z.arc)
      (λ t.
      let parts = and_parts (is_same_interval_form x y) (is_same_interval_form x z) t in
      triples_hold x.width x.form i j c d x.arc y.arc p q (interval_shows c x f) (same_shows d x y parts.0 (interval_shows d y g)) k e z.arc r (same_shows e x z parts.1 (interval_shows e z h)))

  pub three_interval_fact_holds : (a b c : NumberedTest) → IsRow a → IsRow b → IsRow c → AllHold (three_interval_fact a b c)
  three_interval_fact_holds (i, c) (j, d) (k, e) p q r =
      when (nat_lt i j && nat_lt j k) (triple_of_intervals i j k (interval_of c) (interval_of d) (interval_of e))
      (λ h. three_intervals i j k c d e p q r (interval_of c) (interval_of d) (interval_of e) refl refl refl)
