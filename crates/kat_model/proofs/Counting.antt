-- Counting: lists whose members have different keys in another list, all lists of n truth values, and all pairs of
-- members of two lists.
use Rattle.std.proofs.Common.{◌≡◌, ℕ, zero, suc, ◌*◌, ◌^◌, ◌≤◌, inl, inr, ⊎_elim, List, [], ◌∷◌, ◌++◌, map, length, refl, sym, ap, ◌∙◌, subst, arith, Bool, true, false, length-append, pow-suc}
use Rattle.std.proofs.lemmas.List.{length-map}
use Rattle.std.proofs.Math.Nat.{suc-mul}
use Rattle.kat_model.specs.Members.{Has, IsSubset, HasNoDoubles}
use Rattle.kat_model.proofs.Lists.{has_left, has_right, map_has}

module _ {X : Type 0} where
  -- the list without one of its members
  without : (xs : List X) (x : X) → Has xs x → List X
  without [] x h = absurd h
  without (y ∷ xs) x (inl e) = xs
  without (y ∷ xs) x (inr h) = y ∷ without xs x h

  length-without : (xs : List X) (x : X) (h : Has xs x) → suc (length (without xs x h)) ≡ length xs
  unfolding without
  length-without [] x h = absurd h
  length-without (y ∷ xs) x (inl e) = refl
  length-without (y ∷ xs) x (inr h) = ap suc (length-without xs x h)

  without_has : (xs : List X) (x z : X) (h : Has xs x) → Has xs z → (z ≡ x → ⊥) → Has (without xs x h) z
  unfolding without
  without_has [] x z h k ne = absurd h
  without_has (y ∷ xs) x z (inl e) (inl f) ne = absurd (ne (sym f ∙ e))
  without_has (y ∷ xs) x z (inl e) (inr k) ne = k
  without_has (y ∷ xs) x z (inr h) (inl f) ne = inl f
  without_has (y ∷ xs) x z (inr h) (inr k) ne = inr (without_has xs x z h k ne)

module _ {X Y : Type 0} (Represents : Y → X → Type 0) where
  -- a key of a member is not a key of a later member
  abbrev pub AreDistinguished : List X → Type 0
  AreDistinguished [] = Unit {0}
  AreDistinguished (x ∷ xs) = ((y : Y) (z : X) → Has xs z → Represents y x → Represents y z → ⊥) × AreDistinguished xs

  -- the number of members with different keys is at most the number of keys
  pub distinguished_within : (xs : List X) (ys : List Y) → AreDistinguished xs → ((x : X) → Has xs x → (y : Y) × Has ys y × Represents y x) → length xs ≤ length ys
  distinguished_within [] ys apart given = omega arith
  distinguished_within (x ∷ xs) ys apart given =
      let here = given x (inl refl) in
      let rest = distinguished_within xs (without ys here.0 here.1) apart.1 (λ z h. let t = given z (inr h) in (t.0, without_has ys here.0 t.0 here.1 t.1 (λ e. apart.0 here.0 z h here.2 (subst (λ y. Represents y z) e t.2)), t.2)) in
      omega (arith, rest, length-without ys here.0 here.1)

-- a list without duplicates is no longer than a list that has all its members
pub no_doubles_within : {X : Type 0} (xs ys : List X) → HasNoDoubles xs → IsSubset xs ys → length xs ≤ length ys
no_doubles_within {X} xs ys distinct within = distinguished_within (λ (y x : X). y ≡ x) xs ys (apart xs distinct) (λ x h. (x, within x h, refl))
  where
    apart : (xs : List X) → HasNoDoubles xs → AreDistinguished (λ (y x : X). y ≡ x) xs
    apart [] d = tt
    apart (x ∷ xs) d = ((λ y z h e f. d.0 (subst (Has xs) (sym f ∙ e) h)), apart xs d.1)

-- all lists of n truth values
abbrev pub all_bits : ℕ → List (List Bool)
all_bits zero = [] ∷ []
all_bits (suc n) = map (λ bits. true ∷ bits) (all_bits n) ++ map (λ bits. false ∷ bits) (all_bits n)

pub length-all_bits : (n : ℕ) → length (all_bits n) ≡ 2 ^ n
length-all_bits zero = refl
length-all_bits (suc n) =
    let both = length-append (map (λ bits. true ∷ bits) (all_bits n)) (map (λ bits. false ∷ bits) (all_bits n)) in
    let first = length-map (all_bits n) (λ (bits : List Bool). true ∷ bits) in
    let second = length-map (all_bits n) (λ (bits : List Bool). false ∷ bits) in
    omega (arith, both, first, second, pow-suc 2 n, length-all_bits n)

pub all_bits_has : (bits : List Bool) → Has (all_bits (length bits)) bits
all_bits_has [] = inl refl
all_bits_has (true ∷ bits) =
    has_left (map (λ bs. true ∷ bs) (all_bits (length bits))) _ (true ∷ bits) (map_has (λ bs. true ∷ bs) (all_bits (length bits)) bits (all_bits_has bits))
all_bits_has (false ∷ bits) =
    has_right (map (λ bs. true ∷ bs) (all_bits (length bits))) _ (false ∷ bits) (map_has (λ bs. false ∷ bs) (all_bits (length bits)) bits (all_bits_has bits))

module _ {X Y : Type 0} where
  abbrev pub all_pairs : List X → List Y → List (X × Y)
  all_pairs [] ys = []
  all_pairs (x ∷ xs) ys = map (λ y. (x, y)) ys ++ all_pairs xs ys

  pub length-all_pairs : (xs : List X) (ys : List Y) → length (all_pairs xs ys) ≡ length xs * length ys
  length-all_pairs [] ys = omega arith
  length-all_pairs (x ∷ xs) ys =
      omega (arith, length-append (map (λ y. (x, y)) ys) (all_pairs xs ys), length-map {B = X × Y} ys (λ y. (x, y)), length-all_pairs xs ys, suc-mul (length xs) (length ys))

  pub all_pairs_has : (xs : List X) (ys : List Y) (x : X) (y : Y) → Has xs x → Has ys y → Has (all_pairs xs ys) (x, y)
  all_pairs_has [] ys x y h k = absurd h
  all_pairs_has (z ∷ xs) ys x y h k =
      ⊎_elim
      (λ e. has_left (map (λ w. (z, w)) ys) _ (x, y) (subst (λ v. Has {X = X × Y} (map (λ w. (z, w)) ys) (v, y)) e (map_has {Y = X × Y} (λ w. (z, w)) ys y k)))
      (λ l. has_right (map (λ w. (z, w)) ys) _ (x, y) (all_pairs_has xs ys x y l k))
      h
