-- The number of an id in an ascending list is its place.
use Rattle.std.proofs.Common.{◌≡◌, ◌<◌, ◌+◌, inl, inr, ⊎_elim, ℕ, zero, suc, Bool, true, false, cond, not, nat_eq, nat_lt, List, [], ◌∷◌, length, map, slice_get, Some, None, unwrap_or, refl, sym, ap, ◌∙◌, subst, arith}
use Rattle.std.proofs.lemmas.Bool.{eqb-true, eqb-false, and_from, lt-ltb, ltb-true, ltb-false}
use Rattle.std.proofs.lemmas.Option.{slice_get_within, same_Some}
use Rattle.std.specs.List.{position_or_len}
use Rattle.kat_model.specs.Members.{Has, HasNoDoubles}
use Rattle.kat_model.proofs.Lists.{has_map}
use Rattle.kat_model.proofs.Places.{has_at, one_place}
use Rattle.term_nodes.specs.NumberSets.{are_below, are_ascending}
use Rattle.term_nodes.proofs.Parts.{has_below}
use Rattle.walk_pairs.specs.Numbering.{number_of, numbers_of}
use Rattle.certificate.proofs.Ascending.{ascending_first, ascending_tail}

abbrev place_of : ℕ → List ℕ → ℕ
place_of i ids = position_or_len (nat_eq i) ids

place_at : (ids : List ℕ) (i : ℕ) → Has ids i → slice_get ids (place_of i ids) ≡ Some i
place_at [] i h = absurd h
place_at (j ∷ ids) i h = go (place_at ids i) (nat_eq i j) refl
  where
    go : (Has ids i → slice_get ids (place_of i ids) ≡ Some i) → (b : Bool) → nat_eq i j ≡ b → slice_get (j ∷ ids) (cond (not b) (1 + place_of i ids) 0) ≡ Some i
    go rest true e = ap Some (sym (eqb-true i j e))
    go rest false e =
        let more : 1 + place_of i ids ≡ suc (place_of i ids) = omega arith in
        ap (slice_get (j ∷ ids)) more ∙ rest (⊎_elim (λ s. absurd (eqb-false i j e (sym s))) (λ r. r) h)

number_is : (ids : List ℕ) (i : ℕ) → Has ids i → number_of ids i ≡ place_of i ids
number_is ids i h =
    let low : place_of i ids < length ids = slice_get_within ids (place_of i ids) i (place_at ids i h) in
    let yes : nat_lt (place_of i ids) (length ids) ≡ true = lt-ltb (place_of i ids) (length ids) low in
    ap (λ b. unwrap_or (cond b (Some (place_of i ids)) None) 0) yes

-- the id is at the place that its number gives
pub number_at : (ids : List ℕ) (i : ℕ) → Has ids i → slice_get ids (number_of ids i) ≡ Some i
number_at ids i h = ap (slice_get ids) (number_is ids i h) ∙ place_at ids i h

pub number_within : (ids : List ℕ) (i : ℕ) → Has ids i → number_of ids i < length ids
number_within ids i h = slice_get_within ids (number_of ids i) i (number_at ids i h)

-- in a list without duplicates the place of an id is its number
pub number_of_place : (ids : List ℕ) → HasNoDoubles ids → (k i : ℕ) → slice_get ids k ≡ Some i → number_of ids i ≡ k
number_of_place ids once k i e = one_place ids once (number_of ids i) k i (number_at ids i (has_at ids k i e)) e

-- ids with equal numbers are equal
pub number_once : (ids : List ℕ) (i j : ℕ) → Has ids i → Has ids j → number_of ids i ≡ number_of ids j → i ≡ j
number_once ids i j h k e = same_Some i j (sym (number_at ids i h) ∙ ap (slice_get ids) e ∙ number_at ids j k)

places_ascend : (ids : List ℕ) → are_ascending ids ≡ true → (a b i j : ℕ) → slice_get ids a ≡ Some i → slice_get ids b ≡ Some j → a < b → i < j
places_ascend [] up a b i j e f lt = absurd cc
places_ascend (x ∷ ids) up zero zero i j e f lt = absurd (omega (arith, lt))
places_ascend (x ∷ ids) up zero (suc b) i j e f lt = subst (λ z. z < j) (same_Some x i e) (ascending_first x ids up j (has_at ids b j f))
places_ascend (x ∷ ids) up (suc a) zero i j e f lt = absurd (omega (arith, lt))
places_ascend (x ∷ ids) up (suc a) (suc b) i j e f lt = places_ascend ids (ascending_tail x ids up) a b i j e f (omega (arith, lt))

-- numbers ascend with the ids
pub number_less : (ids : List ℕ) → are_ascending ids ≡ true → (i j : ℕ) → Has ids i → Has ids j → i < j → number_of ids i < number_of ids j
number_less ids up i j h k low = go (nat_lt (number_of ids i) (number_of ids j)) refl
  where
    other : nat_lt (number_of ids i) (number_of ids j) ≡ false → (b : Bool) → nat_lt (number_of ids j) (number_of ids i) ≡ b → number_of ids i < number_of ids j
    other e true f =
        let back = places_ascend ids up (number_of ids j) (number_of ids i) j i (number_at ids j k) (number_at ids i h) (ltb-true (number_of ids j) (number_of ids i) f) in
        absurd (omega (arith, back, low))
    other e false f =
        let le = ltb-false (number_of ids i) (number_of ids j) e in
        let ge = ltb-false (number_of ids j) (number_of ids i) f in
        let same : number_of ids i ≡ number_of ids j = omega (arith, le, ge) in
        let one = number_once ids i j h k same in
        absurd (omega (arith, one, low))

    go : (b : Bool) → nat_lt (number_of ids i) (number_of ids j) ≡ b → number_of ids i < number_of ids j
    go true e = ltb-true (number_of ids i) (number_of ids j) e
    go false e = other e (nat_lt (number_of ids j) (number_of ids i)) refl

-- ---- numbers of lists of ids

pub numbers_below : (ids set : List ℕ) (n : ℕ) → ((i : ℕ) → Has set i → number_of ids i < n) → are_below n (numbers_of ids set) ≡ true
numbers_below ids set n low = has_below n (numbers_of ids set) (λ k h. let r = has_map (number_of ids) set k h in subst (λ z. z < n) r.2 (low r.0 r.1))

pub numbers_ascend : (ids : List ℕ) → are_ascending ids ≡ true → (set : List ℕ) → are_ascending set ≡ true → ((i : ℕ) → Has set i → Has ids i) → are_ascending (numbers_of ids set) ≡ true
numbers_ascend ids up [] e within = refl
numbers_ascend ids up (i ∷ []) e within = refl
numbers_ascend ids up (i ∷ j ∷ set) e within =
    let low = number_less ids up i j (within i (inl refl)) (within j (inr (inl refl))) (ascending_first i (j ∷ set) e j (inl refl)) in
    and_from (nat_lt (number_of ids i) (number_of ids j)) (are_ascending (numbers_of ids (j ∷ set))) (lt-ltb (number_of ids i) (number_of ids j) low)
    (numbers_ascend ids up (j ∷ set) (ascending_tail i (j ∷ set) e) (λ k h. within k (inr h)))

-- ---- mapped lists

pub once_mapped : {X Y : Type 0} (f : X → Y) (xs : List X) → HasNoDoubles xs → ((x y : X) → Has xs x → Has xs y → f x ≡ f y → x ≡ y) → HasNoDoubles (map f xs)
once_mapped f [] once one = tt
once_mapped f (x ∷ xs) once one = (
  (λ h. let r = has_map f xs (f x) h in once.0 (subst (Has xs) (one r.0 x (inr r.1) (inl refl) r.2) r.1)),
  once_mapped f xs once.1 (λ y z h k. one y z (inr h) (inr k)),
)

-- the element at a place of a mapped list
pub mapped_at : {X Y : Type 0} (f : X → Y) (xs : List X) (k : ℕ) (y : Y) → slice_get (map f xs) k ≡ Some y → (x : X) × (slice_get xs k ≡ Some x) × (f x ≡ y)
mapped_at f [] k y e = absurd cc
mapped_at f (x ∷ xs) zero y e = (x, refl, cc)
mapped_at f (x ∷ xs) (suc k) y e = mapped_at f xs k y e

pub at_mapped : {X Y : Type 0} (f : X → Y) (xs : List X) (k : ℕ) (x : X) → slice_get xs k ≡ Some x → slice_get (map f xs) k ≡ Some (f x)
at_mapped f [] k x e = cc
at_mapped f (y ∷ xs) zero x e = ap (λ z. Some (f z)) (same_Some y x e)
at_mapped f (y ∷ xs) (suc k) x e = at_mapped f xs k x e
