-- Rounds over pairs add numbers to the reached numbers. Once a round adds nothing, the numbers are closed under the
-- pairs.
use Rattle.std.proofs.Common.{◌≡◌, ◌↔◌, ℕ, ◌+◌, ◌-◌, ◌<◌, ◌≤◌, ◌⊎◌, inl, inr, ⊎_elim, List, [], ◌∷◌, ◌++◌, length, get_or, take, slice_get, refl, sym, ap, ◌∙◌, subst, arith, Bool, true, false, cond, nat_eq, Option, Some, None}
use Rattle.std.specs.List.{list_any, list_all}
use Rattle.std.specs.Option.{option_map_or}
use Rattle.std.proofs.lemmas.Bool.{false≢true, eqb-true, eq-eqb, and_parts, and_from}
use Rattle.std.proofs.lemmas.List.{take_more}
use Rattle.std.proofs.lemmas.Option.{same_Some, slice_get_within}
use Rattle.kat_model.specs.Members.{Has, IsSubset}
use Rattle.kat_model.proofs.Lists.{has_left, has_right, has_append, has_any, any_has}
use Rattle.kat_model.proofs.Places.{has_at, place_of_member, element_at, slice_get-append_some}
use Rattle.term_nodes.specs.NumberSets.{NumberPair}
use Rattle.certificate.specs.PairParts.{PairParts, only_sets}
use Rattle.cert_checker.specs.declared.known.Truth.{Truth}
use Rattle.cert_checker.specs.Indices.{IndexParts, places_under, places_by, AreIndexed}
use Rattle.cert_checker.specs.Working.Reaching.{HoldsAll, IsClosed, AreReached}
use Rattle.cert_checker.specs.Working.Matching.{does_count, counting}
use Rattle.cert_checker.specs.Working.Rounds.{StayInPlace, AreAdded, IsBrought, GoesOn, IsTended, AreTendedAt}
use Rattle.cert_checker.proofs.CountedPairs.{counting_has, has_counting}
use Rattle.kat_model.proofs.Numbers.{below_next}

-- ---- lists of numbers as sets

any_key : (keys : List ℕ) (k : ℕ) → list_any (nat_eq k) keys ≡ true → Has keys k
any_key keys k e = let f = has_any (nat_eq k) keys e in subst (Has keys) (sym (eqb-true k f.0 f.2)) f.1

key_any : (keys : List ℕ) (k : ℕ) → Has keys k → list_any (nat_eq k) keys ≡ true
key_any keys k h = any_has (nat_eq k) keys k h (eq-eqb k k refl)

all_subset : (set keys : List ℕ) → list_all (λ k. list_any (nat_eq k) keys) set ≡ true → IsSubset set keys
all_subset [] keys e x h = absurd h
all_subset (k ∷ set) keys e x h =
    let parts = and_parts (list_any (nat_eq k) keys) (list_all (λ j. list_any (nat_eq j) keys) set) e in
    ⊎_elim (λ s. subst (Has keys) s (any_key keys k parts.0)) (λ r. all_subset set keys parts.1 x r) h

subset_all : (set keys : List ℕ) → IsSubset set keys → list_all (λ k. list_any (nat_eq k) keys) set ≡ true
subset_all [] keys sub = refl
subset_all (k ∷ set) keys sub =
    and_from (list_any (nat_eq k) keys) (list_all (λ j. list_any (nat_eq j) keys) set) (key_any keys k (sub k (inl refl))) (subset_all set keys (λ x h. sub x (inr h)))

pub all_there : (set keys : List ℕ) (b : Bool) → b ≡ list_all (λ k. list_any (nat_eq k) keys) set → (b ≡ true) ↔ IsSubset set keys
all_there set keys b is = ((λ e. all_subset set keys (sym is ∙ e)), (λ sub. is ∙ subset_all set keys sub))

-- ---- adding numbers

abbrev with_key : List ℕ → ℕ → List ℕ
with_key ks x = cond (list_any (nat_eq x) ks) ks (ks ++ x ∷ [])

key_kept : (ks : List ℕ) (x j k : ℕ) → slice_get ks j ≡ Some k → slice_get (with_key ks x) j ≡ Some k
key_kept ks x j k e = go (list_any (nat_eq x) ks)
  where
    go : (b : Bool) → slice_get (cond b ks (ks ++ x ∷ [])) j ≡ Some k
    go true = e
    go false = slice_get-append_some ks (x ∷ []) j k e

key_there : (ks : List ℕ) (x : ℕ) → Has (with_key ks x) x
key_there ks x = go (list_any (nat_eq x) ks) refl
  where
    go : (b : Bool) → list_any (nat_eq x) ks ≡ b → Has (cond b ks (ks ++ x ∷ [])) x
    go true m = any_key ks x m
    go false m = has_right ks (x ∷ []) x (inl refl)

key_cases : (ks : List ℕ) (x k : ℕ) → Has (with_key ks x) k → Has ks k ⊎ (x ≡ k)
key_cases ks x k = go (list_any (nat_eq x) ks)
  where
    go : (b : Bool) → Has (cond b ks (ks ++ x ∷ [])) k → Has ks k ⊎ (x ≡ k)
    go true h = inl h
    go false h = ⊎_elim inl (λ q. ⊎_elim inr absurd q) (has_append ks (x ∷ []) k h)

stays_has : (old new : List ℕ) → StayInPlace old new → (k : ℕ) → Has old k → Has new k
stays_has old new stays k h = let at = place_of_member old k h in has_at new at.0 k (stays at.0 k at.1)

-- an additional number
pub added_more : (set old mid new : List ℕ) (i : ℕ) → i < length set → new ≡ with_key mid (get_or set i 0) → AreAdded (take i set) old mid → AreAdded (take (i + 1) set) old new
added_more set old mid new i low is added =
    let x = get_or set i 0 in
    let more : take (i + 1) set ≡ take i set ++ x ∷ [] = take_more set i 0 low in
    record {
      kept = λ j k e. subst (λ (l : List ℕ). slice_get l j ≡ Some k) (sym is) (key_kept mid x j k (added.kept j k e));
      there = λ k h.
          subst (λ (l : List ℕ). Has l k) (sym is)
          (⊎_elim
          (λ b. stays_has mid (with_key mid x) (key_kept mid x) k (added.there k b))
          (λ m. ⊎_elim (λ e. subst (Has (with_key mid x)) e (key_there mid x)) absurd m)
          (has_append (take i set) (x ∷ []) k (subst (λ (l : List ℕ). Has l k) more h)));
      only = λ k h.
          ⊎_elim
          (λ b. ⊎_elim inl (λ s. inr (subst (λ (l : List ℕ). Has l k) (sym more) (has_left (take i set) (x ∷ []) k s))) (added.only k b))
          (λ e. inr (subst (λ (l : List ℕ). Has l k) (sym more) (has_right (take i set) (x ∷ []) k (inl e))))
          (key_cases mid x k (subst (λ (l : List ℕ). Has l k) is h));
    }

pub brought_as : (set other set' other' old new : List ℕ) → set ≡ set' → other ≡ other' → IsBrought set other old new → IsBrought set' other' old new
brought_as set other set' other' old new e f h = subst (λ (l : List ℕ). IsBrought l other' old new) e (subst (λ (l : List ℕ). IsBrought set l old new) f h)

-- ---- numbers that pairs add

-- if the length is unchanged, no number is new
pub no_more : (old new : List ℕ) → StayInPlace old new → length new ≡ length old → IsSubset new old
no_more old new stays same k h =
    let at = place_of_member new k h in
    let within : at.0 < length new = slice_get_within new at.0 k at.1 in
    let was = element_at old at.0 (omega (arith, within, same)) in
    subst (Has old) (same_Some was.0 k (sym (stays at.0 was.0 was.1) ∙ at.1)) (has_at old at.0 was.0 was.1)

pub stays_longer : (old new : List ℕ) → StayInPlace old new → length old ≤ length new
stays_longer [] new stays = omega arith
stays_longer (k ∷ old) new stays =
    let last = element_at (k ∷ old) (length old) (omega arith) in
    let low : length old < length new = slice_get_within new (length old) last.0 (stays (length old) last.0 last.1) in
    omega (arith, low)

-- the keys contain the numbers, and every other key is reached from them by the pairs
pub record AreBrought (ps : List NumberPair) (terms keys : List ℕ) : Type 0 where
  pub there : IsSubset terms keys
  pub made : (set : ℕ → Bool) → IsClosed ps set → HoldsAll set terms → HoldsAll set keys

module _ (ps : List NumberPair) where
  pub goes_then : (a b c : List ℕ) → GoesOn ps a b → GoesOn ps b c → GoesOn ps a c
  goes_then a b c x y = record { kept = λ j k e. y.kept j k (x.kept j k e); made = λ set closed h. y.made set closed (x.made set closed h) }

  pub brought_first : (terms a b c : List ℕ) → a ≡ [] → AreAdded terms a b → GoesOn ps b c → AreBrought ps terms c
  brought_first terms a b c none added goes = record {
    there = λ k h. stays_has b c goes.kept k (added.there k h);
    made = λ set closed h. goes.made set closed (λ k m. ⊎_elim (λ o. absurd (subst (λ (l : List ℕ). Has l k) none o)) (h k) (added.only k m));
  }

  pub brought_on : (terms a b : List ℕ) → AreBrought ps terms a → GoesOn ps a b → AreBrought ps terms b
  brought_on terms a b x goes = record { there = λ k h. stays_has a b goes.kept k (x.there k h); made = λ set closed h. goes.made set closed (x.made set closed h) }

  -- every key is reached; once the set of keys is closed, every reached number is a key
  pub there_reached : (terms keys expected : List ℕ) → AreBrought ps terms keys → IsSubset expected keys → AreReached ps terms expected
  there_reached terms keys expected x sub k h set closed holds_all = x.made set closed holds_all k (sub k h)

  closed_reached : (terms keys expected : List ℕ) → AreBrought ps terms keys → IsClosed ps (λ k. list_any (nat_eq k) keys) → AreReached ps terms expected → IsSubset expected keys
  closed_reached terms keys expected x closed reached k h = any_key keys k (reached k h (λ j. list_any (nat_eq j) keys) closed (λ j m. key_any keys j (x.there j m)))

-- ---- processed pairs

module _ (ps : List PairParts) (also : Bool) (known : List Truth) where
  -- a pair that is processed between two states is processed over a wider span
  tended_wider : (a b c d : List ℕ) (p : PairParts) → StayInPlace a b → IsTended also known b c p → StayInPlace c d → IsTended also known a d p
  tended_wider a b c d p first tended last on = (
    (λ sub k h. stays_has c d last k ((tended on).0 (λ j m. stays_has a b first j (sub j m)) k h)),
    (λ sub k h. stays_has c d last k ((tended on).1 (λ j m. stays_has a b first j (sub j m)) k h)),
  )

  pub pair_goes : (p : PairParts) → Has ps p → does_count also known p ≡ true → (a b c : List ℕ) → IsBrought p.left p.right a b → IsBrought p.right p.left b c → GoesOn (counting also known ps) a c
  pair_goes p member on a b c x y = record {
    kept = λ j k e. y.kept j k (x.kept j k e);
    made = λ set closed h.
        let both = closed (only_sets p) (has_counting also known ps p member on) in
        let mid : HoldsAll set b = λ k m. ⊎_elim (h k) (λ o. both.0 (λ i l. h i (o.0 i l)) k o.1) (x.only k m) in
        λ k m. ⊎_elim (mid k) (λ o. both.1 (λ i l. mid i (o.0 i l)) k o.1) (y.only k m);
  }

  pub pair_tended : (p : PairParts) (a b c : List ℕ) → IsBrought p.left p.right a b → IsBrought p.right p.left b c → IsTended also known a c p
  pair_tended p a b c x y on = ((λ sub k h. stays_has b c y.kept k (x.there sub k h)), (λ sub. y.there (λ k h. stays_has a b x.kept k (sub k h))))

  -- an additional place
  pub tended_more : (places a b c : List ℕ) (i : ℕ) → i < length places → StayInPlace a b → StayInPlace b c → ((p : PairParts) → slice_get ps (get_or places i 0) ≡ Some p → IsTended also known b c p)
      → AreTendedAt ps also known a b (take i places) → AreTendedAt ps also known a c (take (i + 1) places)
  tended_more places a b c i low first last step before k p h at =
      ⊎_elim
      (λ l. tended_wider a a b c p (λ j m e. e) (before k p l at) last)
      (λ m. ⊎_elim (λ e. tended_wider a b c c p first (step p (ap (slice_get ps) e ∙ at)) (λ j n q. q)) absurd m)
      (has_append (take i places) (get_or places i 0 ∷ []) k (subst (λ (l : List ℕ). Has l k) (take_more places i 0 low) h))

  -- no pair is at the place, or the pair does not count
  pub tended_absent : (a b : List ℕ) (j : ℕ) → slice_get ps j ≡ None → (p : PairParts) → slice_get ps j ≡ Some p → IsTended also known a b p
  tended_absent a b j none p at = let f : None ≡ Some p = sym none ∙ at in absurd cc

  pub tended_uncounted : (a b : List ℕ) (j : ℕ) (q : PairParts) → slice_get ps j ≡ Some q → does_count also known q ≡ false → (p : PairParts) → slice_get ps j ≡ Some p → IsTended also known a b p
  tended_uncounted a b j q is off p at on = absurd (false≢true (sym off ∙ ap (does_count also known) (same_Some q p (sym is ∙ at)) ∙ on))

  pub tended_pair : (a b : List ℕ) (j : ℕ) (q : PairParts) → slice_get ps j ≡ Some q → IsTended also known a b q → (p : PairParts) → slice_get ps j ≡ Some p → IsTended also known a b p
  tended_pair a b j q is tended p at = subst (IsTended also known a b) (same_Some q p (sym is ∙ at)) tended

  -- ---- a round

  module _ (x : IndexParts) where
    -- the pairs under the first i terms are processed
    abbrev pub AreTendedTo : ℕ → List ℕ → List ℕ → Type 0
    AreTendedTo i a b = (j term : ℕ) → j < i → slice_get b j ≡ Some term → AreTendedAt ps also known a b (places_under x term)

    pub round_more : (a b c : List ℕ) (i term : ℕ) → slice_get b i ≡ Some term → StayInPlace a b → StayInPlace b c → AreTendedAt ps also known b c (places_under x term) → AreTendedTo i a b → AreTendedTo (i + 1) a c
    round_more a b c i term here first last now before j k low at n p h there =
        ⊎_elim
        (λ l.
        let within : i < length b = slice_get_within b i term here in
        let was = element_at b j (omega (arith, l, within)) in
        let same : was.0 ≡ k = same_Some was.0 k (sym (last j was.0 was.1) ∙ at) in
        tended_wider a a b c p (λ y m e. e) (before j k l (was.1 ∙ ap Some same) n p h there) last)
        (λ e.
        let same : term ≡ k = same_Some term k (sym (last i term here) ∙ ap (slice_get c) (sym e) ∙ at) in
        tended_wider a b c c p first (now n p (subst (λ (y : ℕ). Has (places_under x y) n) (sym same) h) there) (λ y m q. q))
        (below_next j i low)

    pub round_all : (a b : List ℕ) (i : ℕ) → length b ≤ i → AreTendedTo i a b → (term : ℕ) → Has b term → AreTendedAt ps also known a b (places_under x term)
    round_all a b i over tended term h =
        let at = place_of_member b term h in
        let within : at.0 < length b = slice_get_within b at.0 term at.1 in
        tended at.0 term (omega (arith, within, over)) at.1

    -- if nothing was added, the numbers are closed under the pairs
    module _ (indexed : AreIndexed x ps) (a b c : List ℕ) (first : StayInPlace a b) (last : StayInPlace b c) (same : length c ≡ length a)
        (apart : AreTendedAt ps also known a b x.apart) (under : (term : ℕ) → Has c term → AreTendedAt ps also known b c (places_under x term)) where
      -- a pair is processed if all of one of its sets is present
      by_set : (own : List ℕ) (k : ℕ) (p : PairParts) → Has (places_by x own) k → slice_get ps k ≡ Some p → IsSubset own c → IsTended also known a c p
      by_set own k p h at sub = go (slice_get own (length own - 1)) refl h
        where
          go : (o : Option ℕ) → slice_get own (length own - 1) ≡ o → Has (option_map_or (places_under x) o x.apart) k → IsTended also known a c p
          go None e m = tended_wider a a b c p (λ y j q. q) (apart k p m at) last
          go (Some term) e m = tended_wider a b c c p first (under term (sub term (has_at own (length own - 1) term e)) k p m at) (λ y j q. q)

      back : IsSubset c a
      back = no_more a c (λ j k e. last j k (first j k e)) same

      round_closed : IsClosed (counting also known ps) (λ k. list_any (nat_eq k) c)
      round_closed n h =
          let f = counting_has also known ps n h in
          let at = place_of_member ps f.0 f.1 in
          let represents = indexed at.0 f.0 at.1 in
          let S : ℕ → Bool = λ k. list_any (nat_eq k) c in
          subst (λ (m : NumberPair). (HoldsAll S m.left → HoldsAll S m.right) × (HoldsAll S m.right → HoldsAll S m.left)) f.3 (
            (λ own k m. key_any c k ((by_set f.0.left at.0 f.0 represents.0 at.1 (λ j q. any_key c j (own j q)) f.2).0 (λ j q. back j (any_key c j (own j q))) k m)),
            (λ own k m. key_any c k ((by_set f.0.right at.0 f.0 represents.1 at.1 (λ j q. any_key c j (own j q)) f.2).1 (λ j q. back j (any_key c j (own j q))) k m)),
          )

      pub unreached : (terms expected : List ℕ) → AreBrought (counting also known ps) terms c → (IsSubset expected a → ⊥) → AreReached (counting also known ps) terms expected → ⊥
      unreached terms expected brought never reached = never (λ k h. back k (closed_reached (counting also known ps) terms c expected brought round_closed reached k h))
