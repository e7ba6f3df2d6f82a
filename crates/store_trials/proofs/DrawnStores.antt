-- Numbers and stores that are drawn, one by one.
use Rattle.std.proofs.Common.{◌≡◌, ◌<◌, ◌≤◌, ℕ, ◌+◌, ◌*◌, ◌-◌, ◌%◌, List, [], ◌∷◌, ◌++◌, sym, ap, ◌∙◌, append_assoc}
use Rattle.std.proofs.lemmas.List.{append-nil}
use Rattle.kat_model.specs.Stores.{modulus, Store}
use Rattle.kat_model.specs.declared.expression.Width.{Width}
use Rattle.linear_forms.proofs.Modulo.{add-mod, cong_cut}
use Rattle.bench_problems.specs.Generator.{next_state}
use Rattle.store_trials.specs.StoreLists.{drawn_below, state_after, drawn_digits, drawn_value, after_value, drawn_store, after_store, drawn_stores}
use Rattle.store_trials.proofs.ListedStores.{one_less, none_left}

add-mod_first : (a b m : ℕ) → (a % m + b) % m ≡ (a + b) % m
add-mod_first a b m = sym (add-mod (a % m) b m) ∙ ap (λ (n : ℕ). (n + b % m) % m) (cong_cut m a) ∙ add-mod a b m

-- ---- draws

module _ (n k : ℕ) where
  pub state_more : (s next start : ℕ) → k < n → next ≡ next_state s → state_after (n - k) s ≡ start → state_after (n - (k + 1)) next ≡ start
  unfolding state_after
  state_more s next start lt is so_far = ap (state_after (n - (k + 1))) is ∙ ap (λ (d : ℕ). state_after d s) (sym (one_less n k lt)) ∙ so_far

  pub state_done : (s start : ℕ) → n ≤ k → state_after (n - k) s ≡ start → s ≡ start
  unfolding state_after
  state_done s start past so_far = ap (λ (d : ℕ). state_after d s) (sym (none_left n k past)) ∙ so_far

  module _ (w : Width) where
    pub digit_drawn : (s next total product digit sum start : ℕ) → k < n → next ≡ next_state s → product ≡ (total * 32768) % modulus w → digit ≡ drawn_below 32768 s → sum ≡ (product + digit) % modulus w
        → drawn_digits w (n - k) total s ≡ start → drawn_digits w (n - (k + 1)) sum next ≡ start
    unfolding drawn_digits
    digit_drawn s next total product digit sum start lt is multiplied drawn added so_far =
        let whole : sum ≡ (total * 32768 + drawn_below 32768 s) % modulus w =
        added ∙ ap (λ (p : ℕ). (p + digit) % modulus w) multiplied ∙ ap (λ (d : ℕ). ((total * 32768) % modulus w + d) % modulus w) drawn
        ∙ add-mod_first (total * 32768) (drawn_below 32768 s) (modulus w) in
        ap (λ (t : ℕ). drawn_digits w (n - (k + 1)) t next) whole
        ∙ ap (drawn_digits w (n - (k + 1)) ((total * 32768 + drawn_below 32768 s) % modulus w)) is
        ∙ ap (λ (d : ℕ). drawn_digits w d total s) (sym (one_less n k lt)) ∙ so_far

    pub digits_drawn : (s total start : ℕ) → n ≤ k → drawn_digits w (n - k) total s ≡ start → total ≡ start
    unfolding drawn_digits
    digits_drawn s total start past so_far = ap (λ (d : ℕ). drawn_digits w d total s) (sym (none_left n k past)) ∙ so_far

-- the draws of a number
pub after_five : (s t u : ℕ) → t ≡ next_state s → u ≡ state_after 5 t → u ≡ after_value s
unfolding state_after
after_five s t u first rest = rest ∙ ap (state_after 5) first

pub after_four : (s t u : ℕ) → t ≡ next_state s → u ≡ state_after 4 t → u ≡ state_after 5 s
unfolding state_after
after_four s t u first rest = rest ∙ ap (state_after 4) first

-- ---- stores

module _ (w : Width) (ns : List ℕ) (vars k : ℕ) where
  pub value_more : (s next number : ℕ) (old new start : List ℕ) → k < vars → new ≡ old ++ number ∷ [] → number ≡ drawn_value w ns s → next ≡ after_value s
      → old ++ drawn_store w ns (vars - k) s ≡ start → new ++ drawn_store w ns (vars - (k + 1)) next ≡ start
  value_more s next number old new start lt pushed is moves so_far =
      let later : List ℕ = drawn_store w ns (vars - (k + 1)) (after_value s) in
      ap (λ (t : ℕ). new ++ drawn_store w ns (vars - (k + 1)) t) moves
      ∙ ap (λ (l : List ℕ). l ++ later) pushed
      ∙ append_assoc old (number ∷ []) later
      ∙ ap (λ (v : ℕ). old ++ (v ∷ later)) is
      ∙ ap (λ (v : ℕ). old ++ drawn_store w ns v s) (sym (one_less vars k lt)) ∙ so_far

  pub values_done : (s : ℕ) (out start : List ℕ) → vars ≤ k → out ++ drawn_store w ns (vars - k) s ≡ start → out ≡ start
  values_done s out start past so_far =
      sym (append-nil out) ∙ ap (λ (v : ℕ). out ++ drawn_store w ns v s) (sym (none_left vars k past)) ∙ so_far

  pub place_more : (s next start : ℕ) → k < vars → next ≡ after_value s → after_store (vars - k) s ≡ start → after_store (vars - (k + 1)) next ≡ start
  place_more s next start lt moves so_far = ap (after_store (vars - (k + 1))) moves ∙ ap (λ (v : ℕ). after_store v s) (sym (one_less vars k lt)) ∙ so_far

  pub place_done : (s start : ℕ) → vars ≤ k → after_store (vars - k) s ≡ start → s ≡ start
  place_done s start past so_far = ap (λ (v : ℕ). after_store v s) (sym (none_left vars k past)) ∙ so_far

module _ (w : Width) (ns : List ℕ) (vars n k : ℕ) where
  pub drawn_more : (s next : ℕ) (old new start : List Store) (one : Store) → k < n → new ≡ old ++ one ∷ [] → one ≡ drawn_store w ns vars s → next ≡ after_store vars s
      → old ++ drawn_stores w ns vars (n - k) s ≡ start → new ++ drawn_stores w ns vars (n - (k + 1)) next ≡ start
  unfolding drawn_stores
  drawn_more s next old new start one lt pushed is moves so_far =
      let later : List Store = drawn_stores w ns vars (n - (k + 1)) (after_store vars s) in
      ap (λ (t : ℕ). new ++ drawn_stores w ns vars (n - (k + 1)) t) moves
      ∙ ap (λ (l : List Store). l ++ later) pushed
      ∙ append_assoc old (one ∷ []) later
      ∙ ap (λ (v : Store). old ++ (v ∷ later)) is
      ∙ ap (λ (c : ℕ). old ++ drawn_stores w ns vars c s) (sym (one_less n k lt)) ∙ so_far

  pub drawn_done : (s : ℕ) (out start : List Store) → n ≤ k → out ++ drawn_stores w ns vars (n - k) s ≡ start → out ≡ start
  unfolding drawn_stores
  drawn_done s out start past so_far =
      sym (append-nil out) ∙ ap (λ (c : ℕ). out ++ drawn_stores w ns vars c s) (sym (none_left n k past)) ∙ so_far
