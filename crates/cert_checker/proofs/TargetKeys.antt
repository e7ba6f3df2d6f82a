-- The targets of a side of a question, by their terms.
use Rattle.std.proofs.Common.{◌≡◌, ℕ, ◌<◌, inl, inr, ⊎_elim, List, [], ◌∷◌, refl, sym, ◌∙◌, subst, arith, Bool, true, false, nat_lt, nat_eq, ◌||◌, cond, Some}
use Rattle.std.specs.List.{AllByRecursion}
use Rattle.std.specs.List.Sorted.{IsStrictlySortedBy}
use Rattle.std.specs.Map.{keys_of}
use Rattle.std.specs.BTreeMap.{is_at}
use Rattle.std.specs.declared.cmp.Ordering.TheVariants.{Less, Equal, Greater}
use Rattle.std.specs.Ordering.{nat_cmp, is_eq}
use Rattle.std.proofs.lemmas.Bool.{true≢false, eqb-true, eq-eqb, ltb-true}
use Rattle.std.proofs.lemmas.Map.Keys.{sorted_head, sorted_tail}
use Rattle.kat_model.specs.Members.{Has}
use Rattle.cert_checker.specs.Targets.{guard_of}
use Rattle.cert_checker.specs.declared.known.Truth.{Truth}
use Rattle.cert_checker.specs.Cases.{known_of, falsely}
use Rattle.cert_checker.specs.Sides.{open_targets, has_too}

-- ---- keys of targets ascend

pub less_lt : (x y : ℕ) → nat_cmp x y ≡ Less → nat_lt x y ≡ true
less_lt x y = go (nat_lt x y) (nat_eq x y)
  where
    go : (a b : Bool) → cond a Less (cond b Equal Greater) ≡ Less → a ≡ true
    go true b e = refl
    go false true e = absurd cc
    go false false e = absurd cc

key_above : (x : ℕ) (es : List (ℕ × ℕ)) (e : ℕ × ℕ) → AllByRecursion (λ y. nat_cmp x y ≡ Less) (keys_of es) → Has es e → x < e.0
key_above x [] e above h = absurd h
key_above x (d ∷ es) e above h =
    ⊎_elim
    (λ s. let low : x < d.0 = ltb-true x d.0 (less_lt x d.0 above.0) in subst (λ (p : ℕ × ℕ). x < p.0) s low)
    (λ r. key_above x es e above.1 r)
    h

is_eq_eq : (x y : ℕ) → is_eq (nat_cmp x y) ≡ true → x ≡ y
is_eq_eq x y = go (nat_lt x y) (nat_eq x y) refl
  where
    go : (a b : Bool) → nat_eq x y ≡ b → is_eq (cond a Less (cond b Equal Greater)) ≡ true → x ≡ y
    go true b s e = absurd cc
    go false true s e = eqb-true x y s
    go false false s e = absurd cc

eq_is_eq : (x : ℕ) → is_eq (nat_cmp x x) ≡ true
eq_is_eq x = go (nat_lt x x) (nat_eq x x) refl refl
  where
    go : (a b : Bool) → nat_lt x x ≡ a → nat_eq x x ≡ b → is_eq (cond a Less (cond b Equal Greater)) ≡ true
    go true b s e = let low : x < x = ltb-true x x s in absurd (omega (arith, low))
    go false true s e = refl
    go false false s e = absurd (true≢false (sym (eq-eqb x x refl) ∙ e))

-- looking up the term of a target finds its guard
pub guard_found : (es : List (ℕ × ℕ)) (e : ℕ × ℕ) → IsStrictlySortedBy nat_cmp (keys_of es) → Has es e → guard_of es e.0 ≡ Some e.1
guard_found [] e sorted h = absurd h
guard_found (d ∷ es) e sorted h = ⊎_elim same (λ r. later (is_at (nat_cmp e.0) d.0) refl r (guard_found es e (sorted_tail nat_cmp d.0 (keys_of es) sorted) r)) h
  where
    same : d ≡ e → cond (is_at (nat_cmp e.0) d.0) (Some d.1) (guard_of es e.0) ≡ Some e.1
    same s = subst (λ (p : ℕ × ℕ). cond (is_at (nat_cmp p.0) d.0) (Some d.1) (guard_of es p.0) ≡ Some p.1) s (rw (eq_is_eq d.0) refl)

    later : (b : Bool) → is_at (nat_cmp e.0) d.0 ≡ b → Has es e → guard_of es e.0 ≡ Some e.1 → cond b (Some d.1) (guard_of es e.0) ≡ Some e.1
    later true s r rest =
        let one : e.0 ≡ d.0 = is_eq_eq e.0 d.0 s in
        let low : d.0 < e.0 = key_above d.0 es e (sorted_head nat_cmp d.0 (keys_of es) sorted) r in
        absurd (omega (arith, one, low))
    later false s r rest = rest

-- ---- open terms

-- a term that may be only in one set has a target with its guard
pub open_entry : (known : List Truth) (os es : List (ℕ × ℕ)) (k : ℕ) → Has (open_targets known os es) k → (e : ℕ × ℕ) × Has es e × (e.0 ≡ k) × ((falsely (known_of known e.1) || has_too known os e.0 e.1) ≡ false)
open_entry known os [] k h = absurd h
open_entry known os (d ∷ es) k h = go (falsely (known_of known d.1) || has_too known os d.0 d.1) refl (λ r. let f = open_entry known os es k r in (f.0, inr f.1, f.2, f.3)) h
  where
    go : (b : Bool) → (falsely (known_of known d.1) || has_too known os d.0 d.1) ≡ b → (Has (open_targets known os es) k → (e : ℕ × ℕ) × Has (d ∷ es) e × (e.0 ≡ k) × ((falsely (known_of known e.1) || has_too known os e.0 e.1) ≡ false)) → Has (cond b (open_targets known os es) (d.0 ∷ open_targets known os es)) k → (e : ℕ × ℕ) × Has (d ∷ es) e × (e.0 ≡ k) × ((falsely (known_of known e.1) || has_too known os e.0 e.1) ≡ false)
    go true off rest m = rest m
    go false off rest m = ⊎_elim (λ same. (d, inl refl, same, off)) rest m
