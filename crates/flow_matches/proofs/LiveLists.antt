-- Lists of the numbers below n that pass a test, as loops over the numbers build and compare them.
use Rattle.std.proofs.Common.{◌≡◌, ◌⊎◌, inl, inr, ◌<◌, ℕ, zero, suc, ◌+◌, Bool, true, false, ◌&&◌, cond, nat_eq, List, [], ◌∷◌, ◌++◌, refl, sym, ap, ◌∙◌, subst, arith}
use Rattle.std.specs.List.{filter, range_with_len}
use Rattle.std.specs.Cmp.Lexicographic.{pointwise}
use Rattle.std.proofs.lemmas.Bool.{eq-eqb, false_from_ne_true, cases_Bool}
use Rattle.std.proofs.lemmas.List.Elements.{filter-append}
use Rattle.std.proofs.lemmas.List.{append-nil}
use Rattle.kat_model.specs.Members.{Has}
use Rattle.kat_model.proofs.Filters.{has_filter, filter_has}
use Rattle.flow_places.proofs.PlaceMarks.{range_pushed}
use Rattle.flow_places.proofs.Walked.{in_range}
use Rattle.flow_pieces.proofs.SameTrees.{numbers_same}

abbrev pub passing : (ℕ → Bool) → ℕ → List ℕ
passing p n = filter p (range_with_len 0 n)

-- the list with a further number
passing_more : (p : ℕ → Bool) (n : ℕ) → passing p (n + 1) ≡ passing p n ++ cond (p n) (n ∷ []) []
passing_more p n =
    let next : n + 1 ≡ suc n = omega arith in
    let last : 0 + n ≡ n = omega arith in
    ap (passing p) next
    ∙ ap (filter p) (range_pushed 0 n ∙ ap (λ k. range_with_len 0 n ++ k ∷ []) last)
    ∙ filter-append p (range_with_len 0 n) (n ∷ [])

pub passing_pushed : (p : ℕ → Bool) (n : ℕ) (old new : List ℕ) → old ≡ passing p n → p n ≡ true → new ≡ old ++ n ∷ [] → new ≡ passing p (n + 1)
passing_pushed p n old new so_far passes pushed =
    pushed ∙ ap (λ ks. ks ++ n ∷ []) so_far ∙ sym (passing_more p n ∙ ap (λ b. passing p n ++ cond b (n ∷ []) []) passes)

pub passing_kept : (p : ℕ → Bool) (n : ℕ) (old : List ℕ) → old ≡ passing p n → p n ≡ false → old ≡ passing p (n + 1)
passing_kept p n old so_far fails =
    so_far ∙ sym (passing_more p n ∙ ap (λ b. passing p n ++ cond b (n ∷ []) []) fails ∙ append-nil (passing p n))

-- the numbers that pass one test and another
range_below : (a n x : ℕ) → Has (range_with_len a n) x → x < a + n
range_below a zero x h = absurd h
range_below a (suc n) x (inl e) = omega (arith, e)
range_below a (suc n) x (inr h) = let below = range_below (a + 1) n x h in omega (arith, below)

pub passing_below : (p : ℕ → Bool) (n x : ℕ) → Has (passing p n) x → x < n
passing_below p n x h = let below = range_below 0 n x (has_filter p (range_with_len 0 n) x h).0 in omega (arith, below)

same_filter : (p q : ℕ → Bool) (xs : List ℕ) → ((x : ℕ) → Has xs x → p x ≡ q x) → filter p xs ≡ filter q xs
same_filter p q [] same = refl
same_filter p q (x ∷ xs) same =
    ap (λ b. cond b (x ∷ filter p xs) (filter p xs)) (same x (inl refl))
    ∙ ap (λ ys. cond (q x) (x ∷ ys) ys) (same_filter p q xs (λ y h. same y (inr h)))

own_numbers : (xs : List ℕ) → pointwise nat_eq xs xs ≡ true
own_numbers [] = refl
own_numbers (x ∷ xs) = ap (λ b. b && pointwise nat_eq xs xs) (eq-eqb x x refl) ∙ own_numbers xs

module _ (p q : ℕ → Bool) (n : ℕ) where
  pub same_passing : ((x : ℕ) → x < n → p x ≡ q x) → passing p n ≡ passing q n
  same_passing same = same_filter p q (range_with_len 0 n) (λ x h. same x (let below = range_below 0 n x h in omega (arith, below)))

  pub passing_same : ((x : ℕ) → x < n → p x ≡ q x) → true ≡ pointwise nat_eq (passing p n) (passing q n)
  passing_same same = sym (ap (λ ks. pointwise nat_eq ks (passing q n)) (same_passing same) ∙ own_numbers (passing q n))

  pub passing_differs : (x : ℕ) → x < n → (p x ≡ q x → ⊥) → false ≡ pointwise nat_eq (passing p n) (passing q n)
  passing_differs x lt other =
      sym (false_from_ne_true (pointwise nat_eq (passing p n) (passing q n)) (λ e. other (same_at (numbers_same (passing p n) (passing q n) e) (cases_Bool (p x)) (cases_Bool (q x)))))
    where
      listed : (r : ℕ → Bool) → r x ≡ true → Has (passing r n) x
      listed r passes = filter_has r (range_with_len 0 n) x (in_range 0 n x (omega arith) (omega (arith, lt))) passes

      passes_if : (r : ℕ → Bool) → Has (passing r n) x → r x ≡ true
      passes_if r h = (has_filter r (range_with_len 0 n) x h).1

      same_at : passing p n ≡ passing q n → (p x ≡ true) ⊎ (p x ≡ false) → (q x ≡ true) ⊎ (q x ≡ false) → p x ≡ q x
      same_at same (inl a) b = a ∙ sym (passes_if q (subst (λ ks. Has ks x) same (listed p a)))
      same_at same (inr a) (inl b) = passes_if p (subst (λ ks. Has ks x) (sym same) (listed q b)) ∙ sym b
      same_at same (inr a) (inr b) = a ∙ sym b
