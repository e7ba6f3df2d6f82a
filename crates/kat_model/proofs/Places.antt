-- The indices of the members of a list.
use Rattle.std.proofs.Common.{◌≡◌, ◌⊎◌, inl, inr, ⊎_elim, ℕ, zero, suc, ◌<◌, List, [], ◌∷◌, ◌++◌, length, Bool, true, false, Some, slice_get, get_or, set, Contains, refl, sym, ap, ◌∙◌, subst, arith}
use Rattle.std.proofs.lemmas.Bool.{true≢false}
use Rattle.std.proofs.lemmas.Option.{slice_get_within, get_or_from_slice_get}
use Rattle.std.specs.List.{IsDistinct, AllByRecursion}
use Rattle.kat_model.specs.Members.{Has, HasNoDoubles}

module _ {X : Type 0} where
  -- an element at an index is a member
  pub has_at : (xs : List X) (i : ℕ) (x : X) → slice_get xs i ≡ Some x → Has xs x
  has_at [] i x e = cc
  has_at (y ∷ xs) zero x e = inl cc
  has_at (y ∷ xs) (suc i) x e = inr (has_at xs i x e)

  -- a member has an index
  pub place_of_member : (xs : List X) (x : X) → Has xs x → (k : ℕ) × (slice_get xs k ≡ Some x)
  place_of_member [] x h = absurd h
  place_of_member (y ∷ xs) x h = ⊎_elim (λ e. (0, ap Some e)) (λ m. let r = place_of_member xs x m in (suc r.0, r.1)) h

  -- each index below the length has an element
  pub element_at : (xs : List X) (k : ℕ) → k < length xs → (x : X) × (slice_get xs k ≡ Some x)
  element_at [] k h = absurd (omega arith)
  element_at (x ∷ xs) zero h = (x, refl)
  element_at (x ∷ xs) (suc k) h = element_at xs k (omega arith)

  pub contains_at : (xs : List X) (i : ℕ) (x : X) → slice_get xs i ≡ Some x → Contains xs x
  contains_at xs i x e = (i, slice_get_within xs i x e, get_or_from_slice_get xs i x x e)

  -- a member of a list without duplicates has only one index
  pub one_place : (xs : List X) → HasNoDoubles xs → (i j : ℕ) (x : X) → slice_get xs i ≡ Some x → slice_get xs j ≡ Some x → i ≡ j
  one_place [] once i j x e f = cc
  one_place (y ∷ xs) once zero zero x e f = refl
  one_place (y ∷ xs) once zero (suc j) x e f = let same : x ≡ y = cc in absurd (once.0 (subst (Has xs) same (has_at xs j x f)))
  one_place (y ∷ xs) once (suc i) zero x e f = let same : x ≡ y = cc in absurd (once.0 (subst (Has xs) same (has_at xs i x e)))
  one_place (y ∷ xs) once (suc i) (suc j) x e f = ap suc (one_place xs once.1 i j x e f)

  all_has : (P : X → Type 0) (xs : List X) (x : X) → AllByRecursion P xs → Has xs x → P x
  all_has P [] x all h = absurd h
  all_has P (y ∷ xs) x all h = ⊎_elim (λ e. subst P e all.0) (λ k. all_has P xs x all.1 k) h

  -- a list has no duplicates if no member equals a later one, by a reflexive equality test
  pub no_doubles : (eq : X → X → Bool) → ((x : X) → eq x x ≡ true) → (xs : List X) → IsDistinct eq xs → HasNoDoubles xs
  unfolding IsDistinct
  no_doubles eq own [] distinct = tt
  no_doubles eq own (x ∷ xs) distinct =
      ((λ h. true≢false (sym (own x) ∙ all_has (λ y. eq x y ≡ false) xs x distinct.0 h)), no_doubles eq own xs distinct.1)

  -- appending does not change the elements of the prefix
  pub slice_get-append_left : (xs ys : List X) (i : ℕ) → i < length xs → slice_get (xs ++ ys) i ≡ slice_get xs i
  slice_get-append_left [] ys i h = absurd (omega arith)
  slice_get-append_left (x ∷ xs) ys zero h = refl
  slice_get-append_left (x ∷ xs) ys (suc i) h = slice_get-append_left xs ys i (omega arith)

  -- an element keeps its index when more are appended
  pub slice_get-append_some : (xs ys : List X) (k : ℕ) (x : X) → slice_get xs k ≡ Some x → slice_get (xs ++ ys) k ≡ Some x
  slice_get-append_some xs ys k x e = slice_get-append_left xs ys k (slice_get_within xs k x e) ∙ e

  pub slice_get-append_seam : (xs : List X) (y : X) (ys : List X) → slice_get (xs ++ y ∷ ys) (length xs) ≡ Some y
  slice_get-append_seam [] y ys = refl
  slice_get-append_seam (x ∷ xs) y ys = slice_get-append_seam xs y ys

  -- an element of a list with an appended element was there before, or is the last one
  pub slice_get_last : (xs : List X) (y : X) (i : ℕ) (x : X) → slice_get (xs ++ y ∷ []) i ≡ Some x → (slice_get xs i ≡ Some x) ⊎ ((i ≡ length xs) × (y ≡ x))
  slice_get_last [] y zero x e = inr (refl, cc)
  slice_get_last [] y (suc i) x e = cc
  slice_get_last (z ∷ xs) y zero x e = inl e
  slice_get_last (z ∷ xs) y (suc i) x e = ⊎_elim inl (λ h. inr (ap suc h.0, h.1)) (slice_get_last xs y i x e)

  -- ---- an element that is set

  pub slice_get-set_same : (xs : List X) (k : ℕ) (x : X) → k < length xs → slice_get (set xs k x) k ≡ Some x
  slice_get-set_same [] k x h = absurd (omega arith)
  slice_get-set_same (y ∷ xs) zero x h = refl
  slice_get-set_same (y ∷ xs) (suc k) x h = slice_get-set_same xs k x (omega arith)

  -- an index that already has the element keeps it
  pub slice_get-set_kept : (xs : List X) (k j : ℕ) (x : X) → slice_get xs j ≡ Some x → slice_get (set xs k x) j ≡ Some x
  slice_get-set_kept [] k j x e = e
  slice_get-set_kept (y ∷ xs) zero zero x e = refl
  slice_get-set_kept (y ∷ xs) zero (suc j) x e = e
  slice_get-set_kept (y ∷ xs) (suc k) zero x e = e
  slice_get-set_kept (y ∷ xs) (suc k) (suc j) x e = slice_get-set_kept xs k j x e

  pub get_or-set_kept : (xs : List X) (k j : ℕ) (x d : X) → get_or xs j d ≡ x → get_or (set xs k x) j d ≡ x
  get_or-set_kept [] k j x d e = e
  get_or-set_kept (y ∷ xs) zero zero x d e = refl
  get_or-set_kept (y ∷ xs) zero (suc j) x d e = e
  get_or-set_kept (y ∷ xs) (suc k) zero x d e = e
  get_or-set_kept (y ∷ xs) (suc k) (suc j) x d e = get_or-set_kept xs k j x d e

  -- an element read after a set is at the index that was set, or was there before
  pub slice_get-set_cases : (xs : List X) (k j : ℕ) (x y : X) → slice_get (set xs k x) j ≡ Some y → (j ≡ k) ⊎ (slice_get xs j ≡ Some y)
  slice_get-set_cases [] k j x y e = inr e
  slice_get-set_cases (z ∷ xs) zero zero x y e = inl refl
  slice_get-set_cases (z ∷ xs) zero (suc j) x y e = inr e
  slice_get-set_cases (z ∷ xs) (suc k) zero x y e = inr e
  slice_get-set_cases (z ∷ xs) (suc k) (suc j) x y e = ⊎_elim (λ s. inl (ap suc s)) inr (slice_get-set_cases xs k j x y e)

  pub get_or-set_cases : (xs : List X) (k j : ℕ) (x y d : X) → get_or (set xs k x) j d ≡ y → (j ≡ k) ⊎ (get_or xs j d ≡ y)
  get_or-set_cases [] k j x y d e = inr e
  get_or-set_cases (z ∷ xs) zero zero x y d e = inl refl
  get_or-set_cases (z ∷ xs) zero (suc j) x y d e = inr e
  get_or-set_cases (z ∷ xs) (suc k) zero x y d e = inr e
  get_or-set_cases (z ∷ xs) (suc k) (suc j) x y d e = ⊎_elim (λ s. inl (ap suc s)) inr (get_or-set_cases xs k j x y d e)
