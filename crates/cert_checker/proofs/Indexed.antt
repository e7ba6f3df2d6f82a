-- Growing indices of pairs.
use Rattle.std.proofs.Common.{◌≡◌, ℕ, ◌+◌, ◌-◌, inl, ⊎_elim, List, [], ◌∷◌, ◌++◌, map, length, slice_get, refl, sym, ap, ◌∙◌, subst, Bool, true, false, cond, Option, Some, None}
use Rattle.std.specs.Prelude.{unwrap_or}
use Rattle.std.specs.Option.{option_map, option_map_or}
use Rattle.std.specs.Map.{lookup}
use Rattle.std.specs.BTreeMap.{is_at}
use Rattle.std.specs.Ordering.{nat_cmp}
use Rattle.std.proofs.lemmas.Bool.{false_from_ne_true, cases_eq}
use Rattle.std.proofs.lemmas.Map.Lookups.{exact_unsigned}
use Rattle.std.proofs.lemmas.Map.Views.{tells_apart}
use Rattle.std.proofs.lemmas.Option.{same_Some}
use Rattle.kat_model.specs.Members.{Has}
use Rattle.kat_model.proofs.Numbers.{below_next}
use Rattle.kat_model.proofs.Lists.{has_left, has_right}
use Rattle.certificate.specs.PairParts.{PairParts}
use Rattle.cert_checker.specs.Indices.{IndexParts, places_under, places_by, KeepsPlaces, AreIndexedTo}

-- ---- an additional place

pub pushed_has : (xs : List ℕ) (x : ℕ) → Has (xs ++ x ∷ []) x
pushed_has xs x = has_right xs (x ∷ []) x (inl refl)

not_at : (term k : ℕ) → (k ≡ term → ⊥) → is_at (nat_cmp term) k ≡ false
not_at term k other = false_from_ne_true (is_at (nat_cmp term) k) (λ e. other (sym (tells_apart exact_unsigned term k e)))

module _ {X : Type 0} (f : X → List ℕ) where
  -- the places listed under a key
  abbrev pub mapped_at : List (ℕ × X) → ℕ → List ℕ
  mapped_at es k = unwrap_or (lookup (is_at (nat_cmp k)) (map (λ (e : ℕ × X). (e.0, f e.1)) es)) []

  lookup_mapped : (test : ℕ → Bool) (es : List (ℕ × X)) → lookup test (map (λ (e : ℕ × X). (e.0, f e.1)) es) ≡ option_map f (lookup test es)
  lookup_mapped test [] = refl
  lookup_mapped test (e ∷ es) = go (test e.0) (lookup_mapped test es)
    where
      go : (b : Bool) → lookup test (map (λ (e : ℕ × X). (e.0, f e.1)) es) ≡ option_map f (lookup test es) → cond b (Some (f e.1)) (lookup test (map (λ (e : ℕ × X). (e.0, f e.1)) es)) ≡ option_map f (cond b (Some e.1) (lookup test es))
      go true same = refl
      go false same = same

  pub found_at : (es : List (ℕ × X)) (k : ℕ) (o : Option X) → o ≡ lookup (is_at (nat_cmp k)) es → mapped_at es k ≡ unwrap_or (option_map f o) []
  found_at es k o e = ap (λ (p : Option (List ℕ)). unwrap_or p []) (lookup_mapped (is_at (nat_cmp k)) es ∙ ap (option_map f) (sym e))

  module _ (old mid new : List (ℕ × X)) (term place : ℕ) (removed : Option X) (before : List ℕ) (now : X) (was : removed ≡ lookup (is_at (nat_cmp term)) old) (start : before ≡ unwrap_or (option_map f removed) []) (pushed : f now ≡ before ++ place ∷ [])
      (made : lookup (is_at (nat_cmp term)) new ≡ Some now) where
    pub place_added : Has (mapped_at new term) place
    place_added = subst (λ (l : List ℕ). Has l place) (sym (found_at new term (Some now) (sym made) ∙ pushed)) (pushed_has before place)

    module _ (left : (k : ℕ) → is_at (nat_cmp term) k ≡ false → lookup (is_at (nat_cmp k)) mid ≡ lookup (is_at (nat_cmp k)) old) (rest : (k : ℕ) → is_at (nat_cmp term) k ≡ false → lookup (is_at (nat_cmp k)) new ≡ lookup (is_at (nat_cmp k)) mid) where
      here : (j : ℕ) → Has (mapped_at old term) j → Has (mapped_at new term) j
      here j h = subst (λ (l : List ℕ). Has l j) (sym (found_at new term (Some now) (sym made) ∙ pushed)) (has_left before (place ∷ []) j (subst (λ (l : List ℕ). Has l j) (found_at old term removed was ∙ sym start) h))

      pub places_kept : (k j : ℕ) → Has (mapped_at old k) j → Has (mapped_at new k) j
      places_kept k j h =
          ⊎_elim
          (λ same. subst (λ (i : ℕ). Has (mapped_at new i) j) (sym same) (here j (subst (λ (i : ℕ). Has (mapped_at old i) j) same h)))
          (λ other.
          let off = not_at term k other in
          let alike : mapped_at old k ≡ mapped_at new k = found_at old k (lookup (is_at (nat_cmp k)) new) (rest k off ∙ left k off) ∙ sym (found_at new k (lookup (is_at (nat_cmp k)) new) refl) in
          subst (λ (l : List ℕ). Has l j) alike h)
          (cases_eq k term)

pub kept_apart : (x y : IndexParts) (k : ℕ) → y.apart ≡ x.apart ++ k ∷ [] → y.under ≡ x.under → KeepsPlaces x y
kept_apart x y k is same = record {
  apart = λ j h. subst (λ (l : List ℕ). Has l j) (sym is) (has_left x.apart (k ∷ []) j h);
  under = λ term j h. subst (λ (l : List (ℕ × List ℕ)). Has (unwrap_or (lookup (is_at (nat_cmp term)) l) []) j) (sym same) h;
}

-- a place under the last member of a set is found by the set
pub represents_last : (x : IndexParts) (ks : List ℕ) (k place : ℕ) → Some k ≡ slice_get ks (length ks - 1) → Has (places_under x k) place → Has (places_by x ks) place
represents_last x ks k place last h = subst (λ (o : Option ℕ). Has (option_map_or (places_under x) o x.apart) place) last h

pub represents_apart : (x : IndexParts) (ks : List ℕ) (place : ℕ) → None ≡ slice_get ks (length ks - 1) → Has x.apart place → Has (places_by x ks) place
represents_apart x ks place last h = subst (λ (o : Option ℕ). Has (option_map_or (places_under x) o x.apart) place) last h

stays : (x y : IndexParts) (ks : List ℕ) (place : ℕ) → KeepsPlaces x y → Has (places_by x ks) place → Has (places_by y ks) place
stays x y ks place keeps h = go (slice_get ks (length ks - 1)) h
  where
    go : (o : Option ℕ) → Has (option_map_or (places_under x) o x.apart) place → Has (option_map_or (places_under y) o y.apart) place
    go None m = keeps.apart place m
    go (Some k) m = keeps.under k place m

-- the index after both sets of an additional pair were added
pub indexed_more : (x y z : IndexParts) (ps : List PairParts) (i : ℕ) (p : PairParts) → slice_get ps i ≡ Some p → AreIndexedTo i x ps → Has (places_by y p.left) i → KeepsPlaces x y → Has (places_by z p.right) i → KeepsPlaces y z → AreIndexedTo (i + 1) z ps
indexed_more x y z ps i p at before left to_y right to_z k q low read =
    ⊎_elim
    (λ l. let was = before k q l read in (stays y z q.left k to_z (stays x y q.left k to_y was.0), stays y z q.right k to_z (stays x y q.right k to_y was.1)))
    (λ e.
    let same : p ≡ q = same_Some p q (sym at ∙ ap (slice_get ps) (sym e) ∙ read) in
    subst (λ (r : PairParts). Has (places_by z r.left) k × Has (places_by z r.right) k) same
    (subst (λ (j : ℕ). Has (places_by z p.left) j × Has (places_by z p.right) j) (sym e) (stays y z p.left i to_z left, right)))
    (below_next k i low)
