-- The numbers of the stores of the list are of the width, and each store has one for each variable.
use Rattle.std.proofs.Common.{◌≡◌, ◌↔◌, ◌<◌, ◌≤◌, ℕ, zero, suc, ◌+◌, ◌*◌, ◌-◌, ◌%◌, ◌/◌, List, [], ◌∷◌, ◌++◌, length, get_or, ⊎_elim, slice_index_or, refl, sym, ap, ◌∙◌, subst, Bool, true, false, cond, arith}
use Rattle.std.specs.Prelude.{flat_map, nat_eq, All, Contains}
use Rattle.std.specs.List.{range_with_len}
use Rattle.std.specs.List.Sorted.{IsStrictlyIncreasing}
use Rattle.std.proofs.lemmas.Bool.{cases_lt}
use Rattle.std.proofs.lemmas.List.{get_or_past, length-append}
use Rattle.std.proofs.lemmas.List.FromFn.{length-map-range_with_len}
use Rattle.std.proofs.lemmas.List.Elements.{All-nil, All-cons, All-append, All-map, All-contains, Contains-get_or}
use Rattle.kat_model.specs.Stores.{modulus, Store, IsStore}
use Rattle.kat_model.specs.declared.expression.Width.{Width}
use Rattle.kat_model.specs.declared.expression.Width.TheVariants.{W8, W16, W32, W64}
use Rattle.while_lang.specs.Files.{GoalTree}
use Rattle.bench_problems.specs.Generator.{next_state}
use Rattle.store_trials.specs.Numbers.{near, tried, goal_numbers, AreTriedNumbers}
use Rattle.store_trials.proofs.Ascending.{ascending_once}
use Rattle.store_trials.specs.StoreLists.{nth_store, store_count, listed_stores, drawn_below, drawn_digits, drawn_value, after_value, drawn_store, after_store, drawn_stores, all_stores}

-- each width has numbers above 2
modulus_above : (w : Width) → 2 < modulus w
modulus_above W8 = omega arith
modulus_above W16 = omega arith
modulus_above W32 = omega arith
modulus_above W64 = omega arith

module _ (w : Width) where
  -- a number of the width, and a store of this number of variables of the width
  abbrev pub IsNumber : ℕ → Type 0
  IsNumber n = n < modulus w

  abbrev pub IsStoreFor : ℕ → Store → Type 0
  IsStoreFor vars s = (length s ≡ vars) × IsStore w s

  some_modulo : (n : ℕ) → IsNumber (n % modulus w)
  some_modulo n = let above = modulus_above w in omega (arith, above)

  -- ---- the numbers

  nears : (n : ℕ) → All IsNumber (near (modulus w) n)
  nears n =
      let m : ℕ = modulus w in
      let after : ℕ = (n + 1) % m in
      let before : ℕ = (n + (m - 1)) % m in
      All-cons IsNumber (n % m) (after ∷ before ∷ []) (some_modulo n)
      (All-cons IsNumber after (before ∷ []) (some_modulo (n + 1)) (All-cons IsNumber before [] (some_modulo (n + (m - 1))) (All-nil IsNumber)))

  all_nears : (ns : List ℕ) → All IsNumber (flat_map (near (modulus w)) ns)
  all_nears [] = All-nil IsNumber
  all_nears (n ∷ ns) = All-append IsNumber (near (modulus w) n) (flat_map (near (modulus w)) ns) (nears n) (all_nears ns)

  all_tried : (ns : List ℕ) → All IsNumber (tried w ns)
  all_tried ns =
      let above = modulus_above w in
      let greatest : ℕ = modulus w - 1 in
      let nearby : List ℕ = flat_map (near (modulus w)) ns in
      All-cons IsNumber 0 (1 ∷ 2 ∷ greatest ∷ nearby) (omega (arith, above))
      (All-cons IsNumber 1 (2 ∷ greatest ∷ nearby) (omega (arith, above))
      (All-cons IsNumber 2 (greatest ∷ nearby) (omega (arith, above))
      (All-cons IsNumber greatest nearby (omega (arith, above)) (all_nears ns))))

  pub are_tried : (g : GoalTree) (numbers nearby ns : List ℕ) → numbers ≡ goal_numbers g → nearby ≡ tried w numbers → IsStrictlyIncreasing ns → ((n : ℕ) → Contains ns n ↔ Contains nearby n) → AreTriedNumbers w g ns
  are_tried g numbers nearby ns of_goal are_near ascends same = record {
    ascending = ascends;
    members = λ n. subst (λ (l : List ℕ). Contains ns n ↔ Contains l n) (are_near ∙ ap (tried w) of_goal) (same n);
  }

  module _ (g : GoalTree) (ns : List ℕ) (are : AreTriedNumbers w g ns) where
    pub numbers_within : All IsNumber ns
    numbers_within k d lt = All-contains IsNumber (tried w (goal_numbers g)) (get_or ns k d) (all_tried (goal_numbers g)) ((are.members (get_or ns k d)).0 (Contains-get_or ns k d lt))

    pub some_number : 0 < length ns
    some_number =
        let zero_tried : Contains (tried w (goal_numbers g)) 0 = (0, omega arith, refl) in
        let found : Contains ns 0 = (are.members 0).1 zero_tried in
        omega (arith, found.1)

  -- ---- the stores

  with_value : (vars n : ℕ) (s : Store) → IsNumber n → IsStoreFor vars s → IsStoreFor (suc vars) (n ∷ s)
  with_value vars n s small is = (ap suc is.0, λ k h. ⊎_elim (λ e. subst IsNumber e small) (λ has. is.1 k has) h)

  module _ (ns : List ℕ) (small : All IsNumber ns) where
    indexed : (i : ℕ) → IsNumber (slice_index_or ns i 0)
    indexed i =
        ⊎_elim (λ lt. small i 0 lt)
        (λ le. let above = modulus_above w in let nothing : get_or ns i 0 ≡ 0 = get_or_past ns i 0 le in subst IsNumber (sym nothing) (omega (arith, above)))
        (cases_lt i (length ns))

    nth_is : (vars i : ℕ) → IsStoreFor vars (nth_store ns vars i)
    nth_is zero i = (refl, λ n h. absurd h)
    nth_is (suc vars) i = with_value vars (slice_index_or ns (i % length ns) 0) (nth_store ns vars (i / length ns)) (indexed (i % length ns)) (nth_is vars (i / length ns))

    digits_small : (draws total s : ℕ) → IsNumber total → IsNumber (drawn_digits w draws total s)
    unfolding drawn_digits
    digits_small zero total s h = h
    digits_small (suc draws) total s h = digits_small draws ((total * 32768 + drawn_below 32768 s) % modulus w) (next_state s) (some_modulo (total * 32768 + drawn_below 32768 s))

    value_small : (s : ℕ) → IsNumber (drawn_value w ns s)
    value_small s = by (nat_eq (drawn_below 2 s) 0)
      where
        by : (b : Bool) → IsNumber (cond b (slice_index_or ns (drawn_below (length ns) (next_state s)) 0) (drawn_digits w 5 0 (next_state s)))
        by true = indexed (drawn_below (length ns) (next_state s))
        by false = let above = modulus_above w in digits_small 5 0 (next_state s) (omega (arith, above))

    drawn_is : (vars s : ℕ) → IsStoreFor vars (drawn_store w ns vars s)
    drawn_is zero s = (refl, λ n h. absurd h)
    drawn_is (suc vars) s = with_value vars (drawn_value w ns s) (drawn_store w ns vars (after_value s)) (value_small s) (drawn_is vars (after_value s))

    all_drawn : (vars count s : ℕ) → All (IsStoreFor vars) (drawn_stores w ns vars count s)
    unfolding drawn_stores
    all_drawn vars zero s = All-nil (IsStoreFor vars)
    all_drawn vars (suc count) s = All-cons (IsStoreFor vars) (drawn_store w ns vars s) (drawn_stores w ns vars count (after_store vars s)) (drawn_is vars s) (all_drawn vars count (after_store vars s))

    pub all_within : (vars : ℕ) → All (IsStoreFor vars) (all_stores w ns vars)
    all_within vars =
        All-append (IsStoreFor vars) (listed_stores ns vars) (drawn_stores w ns vars 10000 0)
        (All-map (IsStoreFor vars) (nth_store ns vars) (range_with_len 0 (store_count (length ns) vars)) (λ k d lt. nth_is vars _))
        (all_drawn vars 10000 0)

    drawn_count : (vars count s : ℕ) → length (drawn_stores w ns vars count s) ≡ count
    unfolding drawn_stores
    drawn_count vars zero s = refl
    drawn_count vars (suc count) s = ap suc (drawn_count vars count (after_store vars s))

    few_listed : (numbers vars : ℕ) → store_count numbers vars ≤ 10000
    few_listed numbers zero = omega arith
    few_listed numbers (suc vars) = omega arith

    few_stores : (vars : ℕ) → length (all_stores w ns vars) ≤ 20000
    few_stores vars =
        omega (arith, length-append (listed_stores ns vars) (drawn_stores w ns vars 10000 0), length-map-range_with_len (nth_store ns vars) 0 (store_count (length ns) vars), few_listed (length ns) vars, drawn_count vars 10000 0)

    module _ (vars : ℕ) (listed all : List Store) (is : listed ≡ listed_stores ns vars) (joined : all ≡ listed ++ drawn_stores w ns vars 10000 0) where
      all_is : all ≡ all_stores w ns vars
      all_is = joined ∙ ap (λ (l : List Store). l ++ drawn_stores w ns vars 10000 0) is

      pub joined_within : All (IsStoreFor vars) all
      joined_within = subst (All (IsStoreFor vars)) (sym all_is) (all_within vars)

      pub joined_few : length all ≤ 20000
      joined_few = subst (λ (l : List Store). length l ≤ 20000) (sym all_is) (few_stores vars)

-- a goal has one list of numbers
pub one_list_of_numbers : (w : Width) (g : GoalTree) (xs ys : List ℕ) → AreTriedNumbers w g xs → AreTriedNumbers w g ys → xs ≡ ys
one_list_of_numbers w g xs ys x y = ascending_once xs ys x.ascending y.ascending (λ n. ((λ h. (y.members n).1 ((x.members n).0 h)), (λ h. (x.members n).1 ((y.members n).0 h))))
