-- Tables of the partners of blocks, and the pairs that they have.
use Rattle.std.proofs.Common.{◌≡◌, ◌⊎◌, inl, inr, ⊎_elim, ◌↔◌, ◌<◌, ℕ, zero, suc, true, false, ◌&&◌, ◌||◌, nat_eq, List, [], ◌∷◌, length, set, Option, Some, None, slice_get, unwrap_or, replicate, refl, sym, ap, ◌∙◌, subst, arith}
use mathlib.Core.Path.{ap₂}
use Rattle.std.proofs.lemmas.Bool.{false≢true, eq-eqb, eqb-true, cases_eq, and_parts, and_from, or_left, or_right, or_cases, false_from_ne_true}
use Rattle.std.proofs.lemmas.Option.{same_Some}
use Rattle.kat_model.specs.Members.{Has}
use Rattle.kat_model.proofs.Lists.{has_any, any_has}
use Rattle.flow_pieces.specs.SameTexts.{has_pair, is_paired}
use Rattle.flow_matches.specs.Working.TextWalks.{Pairs}

abbrev Partners : Type 0
Partners = List (Option ℕ)

set_here : (table : Partners) (k : ℕ) (o : Option ℕ) → k < length table → slice_get (set table k o) k ≡ Some o
set_here [] k o lt = absurd (omega (arith, lt))
set_here (x ∷ table) zero o lt = refl
set_here (x ∷ table) (suc k) o lt = set_here table k o (omega (arith, lt))

set_elsewhere : (table : Partners) (k i : ℕ) (o : Option ℕ) → (i ≡ k → ⊥) → slice_get (set table k o) i ≡ slice_get table i
set_elsewhere [] k i o other = refl
set_elsewhere (x ∷ table) zero zero o other = absurd (other refl)
set_elsewhere (x ∷ table) zero (suc i) o other = refl
set_elsewhere (x ∷ table) (suc k) zero o other = refl
set_elsewhere (x ∷ table) (suc k) (suc i) o other = set_elsewhere table k i o (λ e. other (ap suc e))

-- a partner that is read
pub partner_there : (o : Option (Option ℕ)) (k : ℕ) → unwrap_or o None ≡ Some k → o ≡ Some (Some k)
partner_there None k e = absurd cc
partner_there (Some p) k e = ap Some e

pub no_partner : (o : Option (Option ℕ)) (k : ℕ) → unwrap_or o None ≡ None → o ≡ Some (Some k) → ⊥
no_partner None k e f = cc
no_partner (Some p) k e f = let same = same_Some p (Some k) f in cc

-- pairs of a list

pub pair_has : (met : Pairs) (k l : ℕ) → has_pair met k l ≡ true → Has {X = ℕ × ℕ} met (k, l)
pair_has met k l e =
    let found = has_any (λ q. nat_eq q.0 k && nat_eq q.1 l) met e in
    let q = found.0 in
    let numbers = and_parts (nat_eq q.0 k) (nat_eq q.1 l) found.2 in
    subst (λ i. Has {X = ℕ × ℕ} met (i, l)) (eqb-true q.0 k numbers.0) (subst (λ j. Has {X = ℕ × ℕ} met (q.0, j)) (eqb-true q.1 l numbers.1) found.1)

pub has_met_pair : (met : Pairs) (k l : ℕ) → Has {X = ℕ × ℕ} met (k, l) → has_pair met k l ≡ true
has_met_pair met k l h =
    any_has (λ q. nat_eq q.0 k && nat_eq q.1 l) met (k, l) h (and_from (nat_eq k k) (nat_eq l l) (eq-eqb k k refl) (eq-eqb l l refl))

pub paired_first : (met : Pairs) (k l j : ℕ) → Has {X = ℕ × ℕ} met (k, j) → is_paired met k l ≡ true
paired_first met k l j h =
    any_has (λ q. nat_eq q.0 k || nat_eq q.1 l) met (k, j) h (or_left (nat_eq k k) (nat_eq j l) (eq-eqb k k refl))

pub paired_second : (met : Pairs) (k l i : ℕ) → Has {X = ℕ × ℕ} met (i, l) → is_paired met k l ≡ true
paired_second met k l i h =
    any_has (λ q. nat_eq q.0 k || nat_eq q.1 l) met (i, l) h (or_right (nat_eq i k) (nat_eq l l) (eq-eqb l l refl))

pub none_paired : (met : Pairs) (k l : ℕ) → ((j : ℕ) → Has {X = ℕ × ℕ} met (k, j) → ⊥) → ((i : ℕ) → Has {X = ℕ × ℕ} met (i, l) → ⊥) → is_paired met k l ≡ false
none_paired met k l first second = false_from_ne_true (is_paired met k l) found
  where
    found : is_paired met k l ≡ true → ⊥
    found e =
        let pair = has_any (λ q. nat_eq q.0 k || nat_eq q.1 l) met e in
        let q = pair.0 in
        ⊎_elim
        (λ s. first q.1 (subst (λ i. Has {X = ℕ × ℕ} met (i, q.1)) (eqb-true q.0 k s) pair.1))
        (λ s. second q.0 (subst (λ j. Has {X = ℕ × ℕ} met (q.0, j)) (eqb-true q.1 l s) pair.1))
        (or_cases (nat_eq q.0 k) (nat_eq q.1 l) pair.2)

-- tables with a further pair

module _ (met : Pairs) (k l : ℕ) (new : is_paired met k l ≡ false) where
  other_first : (i j : ℕ) → Has {X = ℕ × ℕ} met (i, j) → i ≡ k → ⊥
  other_first i j h e = false≢true (sym new ∙ paired_first met k l j (subst (λ m. Has {X = ℕ × ℕ} met (m, j)) e h))

  other_second : (i j : ℕ) → Has {X = ℕ × ℕ} met (i, j) → j ≡ l → ⊥
  other_second i j h e = false≢true (sym new ∙ paired_second met k l i (subst (λ m. Has {X = ℕ × ℕ} met (i, m)) e h))

  pub first_more : (table : Partners) → k < length table → ((i j : ℕ) → (slice_get table i ≡ Some (Some j)) ↔ Has {X = ℕ × ℕ} met (i, j)) →
      (i j : ℕ) → (slice_get (set table k (Some l)) i ≡ Some (Some j)) ↔ Has {X = ℕ × ℕ} ((k, l) ∷ met) (i, j)
  first_more table lt so_far i j = (listed (cases_eq i k), read)
    where
      listed : (i ≡ k) ⊎ (i ≡ k → ⊥) → slice_get (set table k (Some l)) i ≡ Some (Some j) → Has {X = ℕ × ℕ} ((k, l) ∷ met) (i, j)
      listed (inl e) h =
          let there : Some (Some l) ≡ Some (Some j) = sym (ap (slice_get (set table k (Some l))) e ∙ set_here table k (Some l) lt) ∙ h in
          inl (ap₂ (λ a b. (a, b)) (sym e) (same_Some l j (same_Some (Some l) (Some j) there)))
      listed (inr other) h = inr ((so_far i j).0 (sym (set_elsewhere table k i (Some l) other) ∙ h))

      read : Has {X = ℕ × ℕ} ((k, l) ∷ met) (i, j) → slice_get (set table k (Some l)) i ≡ Some (Some j)
      read (inl e) =
          ap (slice_get (set table k (Some l))) (sym (ap (λ (q : ℕ × ℕ). q.0) e)) ∙ set_here table k (Some l) lt ∙ ap (λ (q : ℕ × ℕ). Some (Some q.1)) e
      read (inr h) = set_elsewhere table k i (Some l) (other_first i j h) ∙ (so_far i j).1 h

  pub second_more : (table : Partners) → l < length table → ((i j : ℕ) → (slice_get table j ≡ Some (Some i)) ↔ Has {X = ℕ × ℕ} met (i, j)) →
      (i j : ℕ) → (slice_get (set table l (Some k)) j ≡ Some (Some i)) ↔ Has {X = ℕ × ℕ} ((k, l) ∷ met) (i, j)
  second_more table lt so_far i j = (listed (cases_eq j l), read)
    where
      listed : (j ≡ l) ⊎ (j ≡ l → ⊥) → slice_get (set table l (Some k)) j ≡ Some (Some i) → Has {X = ℕ × ℕ} ((k, l) ∷ met) (i, j)
      listed (inl e) h =
          let there : Some (Some k) ≡ Some (Some i) = sym (ap (slice_get (set table l (Some k))) e ∙ set_here table l (Some k) lt) ∙ h in
          inl (ap₂ (λ a b. (a, b)) (same_Some k i (same_Some (Some k) (Some i) there)) (sym e))
      listed (inr other) h = inr ((so_far i j).0 (sym (set_elsewhere table l j (Some k) other) ∙ h))

      read : Has {X = ℕ × ℕ} ((k, l) ∷ met) (i, j) → slice_get (set table l (Some k)) j ≡ Some (Some i)
      read (inl e) =
          ap (slice_get (set table l (Some k))) (sym (ap (λ (q : ℕ × ℕ). q.1) e)) ∙ set_here table l (Some k) lt ∙ ap (λ (q : ℕ × ℕ). Some (Some q.0)) e
      read (inr h) = set_elsewhere table l j (Some k) (other_second i j h) ∙ (so_far i j).1 h

-- no pair is in tables without partners
pub nothing_there : (n k l : ℕ) → slice_get (replicate n None) k ≡ Some (Some l) → ⊥
nothing_there zero k l e = cc
nothing_there (suc n) zero l e = let same = same_Some None (Some l) e in cc
nothing_there (suc n) (suc k) l e = nothing_there n k l e
