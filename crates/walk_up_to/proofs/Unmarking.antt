-- Marks that are removed, and marks of additional ids, which are false.
use Rattle.std.proofs.Common.{◌≡◌, ℕ, zero, suc, ⊎_elim, List, [], ◌∷◌, ◌++◌, length, get_or, set, take, replicate, refl, sym, ap, Bool, true, false}
use Rattle.std.proofs.lemmas.Bool.{true≢false}
use Rattle.kat_model.specs.Members.{Has}
use Rattle.walk_up_to.specs.Marks.{without_marks, AreAmong}

-- a mark that remains was there and is not the one that was removed
off_set : (m : List Bool) (i j : ℕ) → get_or (set m i false) j false ≡ true → (get_or m j false ≡ true) × (i ≡ j → ⊥)
off_set [] i j e = absurd (true≢false (sym e))
off_set (b ∷ m) zero zero e = absurd (true≢false (sym e))
off_set (b ∷ m) zero (suc j) e = (e, λ s. cc)
off_set (b ∷ m) (suc i) zero e = (e, λ s. cc)
off_set (b ∷ m) (suc i) (suc j) e = let rest = off_set m i j e in (rest.0, λ s. rest.1 (cc))

without_off : (ids : List ℕ) (m : List Bool) (j : ℕ) → get_or (without_marks m ids) j false ≡ true → (get_or m j false ≡ true) × (Has ids j → ⊥)
without_off [] m j e = (e, λ h. h)
without_off (i ∷ ids) m j e =
    let rest = without_off ids (set m i false) j e in
    let first = off_set m i j rest.0 in
    (first.0, λ h. ⊎_elim first.1 rest.1 h)

-- if the marks of all marked ids are removed, no mark remains
pub none_left : (m : List Bool) (ids : List ℕ) → AreAmong m ids → (j : ℕ) → get_or (without_marks m ids) j false ≡ true → ⊥
none_left m ids among j e = let left = without_off ids m j e in left.1 (among j left.0)

-- if no mark is true, all are false
pub all_off : (m : List Bool) → ((j : ℕ) → get_or m j false ≡ true → ⊥) → m ≡ replicate (length m) false
all_off [] none = refl
all_off (true ∷ m) none = absurd (none zero refl)
all_off (false ∷ m) none = ap (λ l. false ∷ l) (all_off m (λ j e. none (suc j) e))

-- ---- other lengths

pub on_in_front : (n : ℕ) (m : List Bool) (j : ℕ) → get_or (take n m) j false ≡ true → get_or m j false ≡ true
on_in_front zero [] j e = e
on_in_front zero (b ∷ m) j e = absurd (true≢false (sym e))
on_in_front (suc n) [] j e = e
on_in_front (suc n) (b ∷ m) zero e = e
on_in_front (suc n) (b ∷ m) (suc j) e = on_in_front n m j e

pub on_before : (m : List Bool) (j : ℕ) → get_or (m ++ false ∷ []) j false ≡ true → get_or m j false ≡ true
on_before [] zero e = e
on_before [] (suc j) e = e
on_before (b ∷ m) zero e = e
on_before (b ∷ m) (suc j) e = on_before m j e
