-- How an index finds listed pairs.
use Rattle.std.proofs.Common.{◌≡◌, ℕ, ◌+◌, ◌<◌, ⊎_elim, List, [], ◌∷◌, length, get_or, take, slice_get, refl, sym, ap, ◌∙◌, subst, Bool, true, false, nat_eq, ◌&&◌, Option, Some, None}
use Rattle.std.specs.Option.{MatchOption, option_map_or}
use Rattle.std.specs.List.{ItemBy}
use Rattle.std.specs.Cmp.Lexicographic.{pointwise}
use Rattle.std.proofs.lemmas.Bool.{true≢false, false_from_ne_true, and_parts, and_from}
use Rattle.std.proofs.lemmas.List.{take_more}
use Rattle.std.proofs.lemmas.Option.{slice_get_past, slice_get_read}
use Rattle.kat_model.specs.Members.{Has}
use Rattle.kat_model.proofs.Lists.{has_append, has_any, any_has}
use Rattle.kat_model.proofs.Places.{has_at, place_of_member}
use Rattle.term_nodes.specs.NumberSets.{NumberPair}
use Rattle.certificate.specs.PairParts.{PairParts, only_sets}
use Rattle.cert_checker.specs.declared.known.Truth.{Truth}
use Rattle.cert_checker.specs.Indices.{IndexParts, places_by, AreIndexed}
use Rattle.cert_checker.specs.Working.Matching.{does_count, counting, lists}
use Rattle.cert_checker.proofs.CountedPairs.{counting_has, has_counting}
use Rattle.cert_checker.proofs.ListedPairs.{same_pointwise}

-- an element borrowed from a list is the element at that place
pub item_read : {R X : Type 0} (now : R → X) (xs : List X) (i : ℕ) (r : Option R) → ItemBy now xs i i r → MatchOption r (slice_get xs i ≡ None) (λ x. slice_get xs i ≡ Some (now x))
item_read now xs i None h = slice_get_past xs i h.3
item_read now xs i (Some x) h = slice_get_read xs (length xs) i (now x) refl h.3.0 h.1

-- ---- a listed pair is found by its sets

-- a comparison of equal lists
pub compared_as : (r : Bool) (a b c d : List ℕ) → r ≡ pointwise nat_eq a b → a ≡ c → b ≡ d → pointwise nat_eq c d ≡ r
compared_as r a b c d is e f = sym (is ∙ ap (λ (l : List ℕ). pointwise nat_eq l b) e ∙ ap (pointwise nat_eq c) f)

module _ (ps : List PairParts) (also : Bool) (known : List Truth) (ks ls : List ℕ) where
  -- the pair at the place does not count, or has other sets
  abbrev pub IsOther : ℕ → Type 0
  IsOther j = (p : PairParts) → slice_get ps j ≡ Some p → (does_count also known p && (pointwise nat_eq p.left ks && pointwise nat_eq p.right ls)) ≡ false

  pub other_more : (places : List ℕ) (i : ℕ) → i < length places → IsOther (get_or places i 0) → ((j : ℕ) → Has (take i places) j → IsOther j) → (j : ℕ) → Has (take (i + 1) places) j → IsOther j
  other_more places i low here before j h =
      ⊎_elim (before j) (λ m. ⊎_elim (λ e. subst IsOther e here) absurd m) (has_append (take i places) (get_or places i 0 ∷ []) j (subst (λ (l : List ℕ). Has l j) (take_more places i 0 low) h))

  -- whether the pair at the place counts and has these sets
  abbrev pub is_found : ℕ → Bool
  is_found j = option_map_or (λ (p : PairParts). does_count also known p && (pointwise nat_eq p.left ks && pointwise nat_eq p.right ls)) (slice_get ps j) false

  pub other_unfound : (j : ℕ) → is_found j ≡ false → IsOther j
  other_unfound j off p at = sym (ap (λ (o : Option PairParts). option_map_or (λ (q : PairParts). does_count also known q && (pointwise nat_eq q.left ks && pointwise nat_eq q.right ls)) o false) at) ∙ off

  one_listed : (j : ℕ) (p : PairParts) → slice_get ps j ≡ Some p → does_count also known p ≡ true → pointwise nat_eq p.left ks ≡ true → pointwise nat_eq p.right ls ≡ true → lists (counting also known ps) ks ls ≡ true
  one_listed j p at on left right =
      any_has (λ (n : NumberPair). pointwise nat_eq n.left ks && pointwise nat_eq n.right ls) (counting also known ps) (only_sets p) (has_counting also known ps p (has_at ps j p at) on) (and_from (pointwise nat_eq p.left ks) (pointwise nat_eq p.right ls) left right)

  pub found_listed : (j : ℕ) → is_found j ≡ true → lists (counting also known ps) ks ls ≡ true
  found_listed j = go (slice_get ps j) refl
    where
      go : (o : Option PairParts) → slice_get ps j ≡ o → option_map_or (λ (p : PairParts). does_count also known p && (pointwise nat_eq p.left ks && pointwise nat_eq p.right ls)) o false ≡ true → lists (counting also known ps) ks ls ≡ true
      go None at e = absurd (true≢false (sym e))
      go (Some p) at e =
          let parts = and_parts (does_count also known p) (pointwise nat_eq p.left ks && pointwise nat_eq p.right ls) e in
          let sets = and_parts (pointwise nat_eq p.left ks) (pointwise nat_eq p.right ls) parts.1 in
          one_listed j p at parts.0 sets.0 sets.1

  -- the search checked all places at which the pair can be listed
  pub none_listed : (x : IndexParts) (places : List ℕ) → AreIndexed x ps → ((j : ℕ) → Has (places_by x ks) j → Has (places_by x ls) j → Has places j) → ((j : ℕ) → Has places j → IsOther j) → lists (counting also known ps) ks ls ≡ false
  none_listed x places indexed within others =
      false_from_ne_true (lists (counting also known ps) ks ls)
      (λ e.
      let f = has_any (λ (n : NumberPair). pointwise nat_eq n.left ks && pointwise nat_eq n.right ls) (counting also known ps) e in
      let g = counting_has also known ps f.0 f.1 in
      let both = subst (λ (n : NumberPair). (pointwise nat_eq n.left ks && pointwise nat_eq n.right ls) ≡ true) (sym g.3) f.2 in
      let parts = and_parts (pointwise nat_eq g.0.left ks) (pointwise nat_eq g.0.right ls) both in
      let at = place_of_member ps g.0 g.1 in
      let represents = indexed at.0 g.0 at.1 in
      let there = within at.0 (subst (λ (l : List ℕ). Has (places_by x l) at.0) (same_pointwise g.0.left ks parts.0) represents.0) (subst (λ (l : List ℕ). Has (places_by x l) at.0) (same_pointwise g.0.right ls parts.1) represents.1) in
      true≢false (sym (and_from (does_count also known g.0) (pointwise nat_eq g.0.left ks && pointwise nat_eq g.0.right ls) g.2 both) ∙ others at.0 there g.0 at.1))
