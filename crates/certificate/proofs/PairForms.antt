-- The forms of the pairs of a certificate: words between bars, and the numbers in them.
use Rattle.std.proofs.Common.{◌≡◌, ℕ, List, [], ◌∷◌, ◌++◌, map, length, Bool, true, false, ◌||◌, Option, Some, None, Result, refl, sym, ap, ◌∙◌, subst, arith, codes}
use mathlib.Core.Path.{ap₂}
use Rattle.std.specs.Borrow.{Bor}
use Rattle.std.specs.List.{slice_split, onto_first, list_all, list_any}
use Rattle.std.specs.Option.{option_map}
use Rattle.std.proofs.lemmas.Bool.{or_parts}
use Rattle.std.proofs.lemmas.Simd.{map-map}
use Rattle.std.proofs.lemmas.List.Folds.{list_any-append}
use Rattle.std.proofs.lemmas.List.Splits.{slice_split-cons_yes, slice_split-cons_no}
use Rattle.line_format.specs.Numerals.{is_numeral, value_of, numbers_of, too_wide}
use Rattle.line_format.specs.Readings.{texts, HasNumbers}
use Rattle.line_format.specs.declared.numerals.Numbers.{Numbers}
use Rattle.certificate.specs.declared.entry.Entry.{Entry}
use Rattle.certificate.specs.declared.entry.Entry.TheVariants.{PairLine}
use Rattle.certificate.specs.declared.entry.LineFault.{LineFault}
use Rattle.certificate.specs.declared.entry.Section.TheVariants.{Pairs, TestedPairs}
use Rattle.certificate.specs.PairParts.{PairParts}
use Rattle.certificate.specs.Texts.{maybe_one}
use Rattle.certificate.specs.Forms.{is_bar, pair_with}
use Rattle.certificate.specs.Faults.{is_wide, section_of}
use Rattle.certificate.specs.Working.Readings.{single_of, ReadsEntry}
use Rattle.line_format.proofs.Splits.{split_some}
use Rattle.line_format.proofs.LineSteps.{named}
use Rattle.line_format.proofs.Words.{numbers_of_all, numbers_of_none}

-- ---- words between bars

-- splitting a list corresponds to splitting its image
module _ {A B : Type 0} (f : A → B) (p : B → Bool) where
  onto-map : (x : A) (parts : List (List A)) → map (map f) (onto_first x parts) ≡ onto_first (f x) (map (map f) parts)
  onto-map x [] = refl
  onto-map x (part ∷ parts) = refl

  pub slice_split-map : (xs : List A) → map (map f) (slice_split (λ x. p (f x)) xs) ≡ slice_split p (map f xs)
  slice_split-map [] = refl
  slice_split-map (x ∷ xs) = by_head (p (f x)) refl (slice_split-map xs)
    where
      by_head : (b : Bool) → p (f x) ≡ b → map (map f) (slice_split (λ y. p (f y)) xs) ≡ slice_split p (map f xs) → map (map f) (slice_split (λ y. p (f y)) (x ∷ xs)) ≡ slice_split p (f x ∷ map f xs)
      by_head true is more =
          ap (map (map f)) (slice_split-cons_yes (λ y. p (f y)) x xs is)
          ∙ ap (λ l. [] ∷ l) more
          ∙ sym (slice_split-cons_yes p (f x) (map f xs) is)
      by_head false is more =
          ap (map (map f)) (slice_split-cons_no (λ y. p (f y)) x xs is)
          ∙ onto-map x (slice_split (λ y. p (f y)) xs)
          ∙ ap (onto_first (f x)) more
          ∙ sym (slice_split-cons_no p (f x) (map f xs) is)

-- the parts of words, as bytes
pub parts_texts : (parts : List (Bor (List (Bor (List ℕ))))) (words : List (Bor (List ℕ))) → map (λ (part : Bor (List (Bor (List ℕ)))). part.now) parts ≡ slice_split (λ (w : Bor (List ℕ)). is_bar w.now) words → map (λ (part : Bor (List (Bor (List ℕ)))). texts part.now) parts ≡ slice_split is_bar (texts words)
parts_texts parts words e =
    sym (map-map texts (λ (part : Bor (List (Bor (List ℕ)))). part.now) parts) ∙ ap (map texts) e ∙ slice_split-map (λ (w : Bor (List ℕ)). w.now) is_bar words

-- and as numbers
pub parts_numbers : (parts : List (Bor (List (Bor (List ℕ))))) (words : List (Bor (List ℕ))) → map (λ (part : Bor (List (Bor (List ℕ)))). texts part.now) parts ≡ slice_split is_bar (texts words) → map (λ (part : Bor (List (Bor (List ℕ)))). numbers_of (texts part.now)) parts ≡ map numbers_of (slice_split is_bar (texts words))
parts_numbers parts words e = sym (map-map numbers_of (λ (part : Bor (List (Bor (List ℕ)))). texts part.now) parts) ∙ ap (map numbers_of) e

-- words with bars between them
abbrev pub with_bars : List (List (List ℕ)) → List (List ℕ)
with_bars [] = []
with_bars (part ∷ []) = part
with_bars (part ∷ next ∷ parts) = part ++ codes "|" ∷ with_bars (next ∷ parts)

onto_bars : (w : List ℕ) (part : List (List ℕ)) (parts : List (List (List ℕ))) → with_bars (onto_first w (part ∷ parts)) ≡ w ∷ with_bars (part ∷ parts)
onto_bars w part [] = refl
onto_bars w part (next ∷ parts) = refl

-- joining the parts with bars gives the words
pub bars_back : (ws : List (List ℕ)) → with_bars (slice_split is_bar ws) ≡ ws
bars_back [] = refl
bars_back (w ∷ ws) = by_head (is_bar w) refl (bars_back ws)
  where
    by_head : (b : Bool) → is_bar w ≡ b → with_bars (slice_split is_bar ws) ≡ ws → with_bars (slice_split is_bar (w ∷ ws)) ≡ w ∷ ws
    by_head true is more =
        let some = split_some is_bar ws in
        ap with_bars (slice_split-cons_yes is_bar w ws is ∙ ap (λ l. [] ∷ l) some.2)
        ∙ ap (λ l. codes "|" ∷ with_bars l) (sym some.2)
        ∙ ap₂ (λ v l. v ∷ l) (sym (named w (codes "|") is)) more
    by_head false is more =
        let some = split_some is_bar ws in
        ap with_bars (slice_split-cons_no is_bar w ws is ∙ ap (onto_first w) some.2)
        ∙ onto_bars w some.0 some.1
        ∙ ap (λ l. w ∷ with_bars l) (sym some.2)
        ∙ ap (λ l. w ∷ l) more

-- ---- the numbers of the parts

-- the numbers of a pair, part by part
abbrev pub part_numbers : List ℕ → List ℕ → Option ℕ → List (Option (List ℕ))
part_numbers ks ls None = Some ks ∷ Some ls ∷ []
part_numbers ks ls (Some t) = Some ks ∷ Some ls ∷ Some (t ∷ []) ∷ []

pub pair_made : (ks ls : List ℕ) (t : Option ℕ) → pair_with (part_numbers ks ls t) ≡ Some (record { left = ks; right = ls; test = t })
pair_made ks ls None = refl
pair_made ks ls (Some t) = refl

pub pair_with_given : (parts : List (Option (List ℕ))) (p : PairParts) → pair_with parts ≡ Some p → parts ≡ part_numbers p.left p.right p.test
pair_with_given [] p e = cc
pair_with_given (None ∷ parts) p e = cc
pair_with_given (Some ks ∷ []) p e = cc
pair_with_given (Some ks ∷ None ∷ parts) p e = cc
pair_with_given (Some ks ∷ Some ls ∷ []) p e =
    let same : record { left = ks; right = ls; test = None } ≡ p = cc in ap (λ (q : PairParts). part_numbers q.left q.right q.test) same
pair_with_given (Some ks ∷ Some ls ∷ None ∷ parts) p e = cc
pair_with_given (Some ks ∷ Some ls ∷ Some [] ∷ parts) p e = cc
pair_with_given (Some ks ∷ Some ls ∷ Some (t ∷ []) ∷ []) p e =
    let same : record { left = ks; right = ls; test = Some t } ≡ p = cc in ap (λ (q : PairParts). part_numbers q.left q.right q.test) same
pair_with_given (Some ks ∷ Some ls ∷ Some (t ∷ []) ∷ part ∷ parts) p e = cc
pair_with_given (Some ks ∷ Some ls ∷ Some (t ∷ u ∷ ts) ∷ parts) p e = cc

-- a pair has two parts or three
pub pair_count : (parts : List (Option (List ℕ))) → (length parts ≡ 2 → ⊥) → (length parts ≡ 3 → ⊥) → pair_with parts ≡ None
pair_count [] two three = refl
pair_count (None ∷ parts) two three = refl
pair_count (Some ks ∷ []) two three = refl
pair_count (Some ks ∷ None ∷ parts) two three = refl
pair_count (Some ks ∷ Some ls ∷ []) two three = absurd (two refl)
pair_count (Some ks ∷ Some ls ∷ None ∷ parts) two three = refl
pair_count (Some ks ∷ Some ls ∷ Some [] ∷ parts) two three = refl
pair_count (Some ks ∷ Some ls ∷ Some (t ∷ []) ∷ []) two three = absurd (three refl)
pair_count (Some ks ∷ Some ls ∷ Some (t ∷ []) ∷ part ∷ parts) two three = refl
pair_count (Some ks ∷ Some ls ∷ Some (t ∷ u ∷ ts) ∷ parts) two three = refl

-- each part consists of numerals
pub no_first : (ws : List (List ℕ)) (parts : List (Option (List ℕ))) → list_all is_numeral ws ≡ false → pair_with (numbers_of ws ∷ parts) ≡ None
no_first ws parts e = rw (numbers_of_none ws e) refl

pub no_second : (o : Option (List ℕ)) (ws : List (List ℕ)) (parts : List (Option (List ℕ))) → list_all is_numeral ws ≡ false → pair_with (o ∷ numbers_of ws ∷ parts) ≡ None
no_second None ws parts e = refl
no_second (Some ks) ws parts e = rw (numbers_of_none ws e) refl

pub no_third : (o q : Option (List ℕ)) (ws : List (List ℕ)) (parts : List (Option (List ℕ))) → list_all is_numeral ws ≡ false → pair_with (o ∷ q ∷ numbers_of ws ∷ parts) ≡ None
no_third None q ws parts e = refl
no_third (Some ks) None ws parts e = refl
no_third (Some ks) (Some ls) ws parts e = rw (numbers_of_none ws e) refl

-- what is read from the numbers is read from the words that spell them
pub of_two : (ws vs : List (List ℕ)) (r : Result Entry LineFault) → list_all is_numeral ws ≡ true → list_all is_numeral vs ≡ true → ReadsEntry (option_map PairLine (pair_with (Some (map value_of ws) ∷ Some (map value_of vs) ∷ []))) r → ReadsEntry (option_map PairLine (pair_with (numbers_of ws ∷ numbers_of vs ∷ []))) r
of_two ws vs r nw nv =
    subst (λ parts. ReadsEntry (option_map PairLine (pair_with parts)) r) (ap₂ (λ k l. k ∷ l ∷ []) (sym (numbers_of_all ws nw)) (sym (numbers_of_all vs nv)))

pub of_three : (ws vs us : List (List ℕ)) (r : Result Entry LineFault) → list_all is_numeral ws ≡ true → list_all is_numeral vs ≡ true → list_all is_numeral us ≡ true → ReadsEntry (option_map PairLine (pair_with (Some (map value_of ws) ∷ Some (map value_of vs) ∷ Some (map value_of us) ∷ []))) r → ReadsEntry (option_map PairLine (pair_with (numbers_of ws ∷ numbers_of vs ∷ numbers_of us ∷ []))) r
of_three ws vs us r nw nv nu =
    subst (λ parts. ReadsEntry (option_map PairLine (pair_with parts)) r)
    (ap₂ (λ k l. k ∷ l) (sym (numbers_of_all ws nw)) (ap₂ (λ l m. l ∷ m ∷ []) (sym (numbers_of_all vs nv)) (sym (numbers_of_all us nu))))

-- ---- the pair of the numbers that were read

module _ (ks ls : List ℕ) (v w : Numbers) (hv : HasNumbers ks v) (hw : HasNumbers ls w) where
  abbrev under : Option ℕ → PairParts
  under t = record { left = ks; right = ls; test = t }

  -- a pair is wide if and only if one of its numbers is
  wide_parts : (t : Option ℕ) → is_wide (PairLine (under t)) ≡ (v.wide || (w.wide || list_any too_wide (maybe_one t)))
  wide_parts t =
      list_any-append too_wide ks (ls ++ maybe_one t)
      ∙ ap₂ (λ b c. b || c) (sym hv.wide) (list_any-append too_wide ls (maybe_one t) ∙ ap (λ b. b || list_any too_wide (maybe_one t)) (sym hw.wide))

  -- if no number is wide, the result is the pair of the numbers
  narrow_parts : (t : Option ℕ) (p : PairParts) → v.wide ≡ false → w.wide ≡ false → list_any too_wide (maybe_one t) ≡ false → p.left ≡ v.values.items → p.right ≡ w.values.items → p.test ≡ t
      → (◌≡◌ {A = Option Entry} (Some (PairLine (under t))) (Some (PairLine p))) × (is_wide (PairLine p) ≡ false)
  narrow_parts t p nl nr nt left right test =
      let same : under t ≡ p = λ j. record { left = sym (left ∙ hv.values nl) j; right = sym (right ∙ hw.values nr) j; test = sym test j } in (
        ap (λ (q : PairParts). Some (PairLine q)) same,
        ap (λ (q : PairParts). is_wide (PairLine q)) (sym same) ∙ wide_parts t ∙ ap₂ (λ b c. b || c) nl (ap₂ (λ b c. b || c) nr nt),
      )

  first_two : (b c d : Bool) → (b || c) ≡ true → (b || (c || d)) ≡ true
  first_two true c d e = refl
  first_two false true d e = refl
  first_two false false d e = cc

  last_one : (b c : Bool) → (b || (c || true)) ≡ true
  last_one true c = refl
  last_one false true = refl
  last_one false false = refl

  pub pair_wide : (v.wide || w.wide) ≡ true → (e : Entry) × (option_map PairLine (pair_with (Some ks ∷ Some ls ∷ [])) ≡ Some e) × (is_wide e ≡ true) × (section_of e ≡ Pairs)
  pair_wide e = (PairLine (under None), refl, wide_parts None ∙ first_two v.wide w.wide false e, refl)

  pub pair_narrow : (p : PairParts) → (v.wide || w.wide) ≡ false → p.left ≡ v.values.items → p.right ≡ w.values.items → p.test ≡ None → (option_map PairLine (pair_with (Some ks ∷ Some ls ∷ [])) ≡ Some (PairLine p)) × (is_wide (PairLine p) ≡ false)
  pair_narrow p narrow = let parts = or_parts v.wide w.wide narrow in narrow_parts None p parts.0 parts.1 refl

  -- the same under the one number of a test
  module _ (ts : List ℕ) (u : Numbers) (hu : HasNumbers ts u) where
    abbrev tested : Option Entry
    tested = option_map PairLine (pair_with (Some ks ∷ Some ls ∷ Some ts ∷ []))

    -- the number of numbers read equals the number spelled
    counted : (k : ℕ) → single_of u.values.items ≡ Some k → (t : ℕ) × (ts ≡ t ∷ [])
    counted k one = by_lists u.values.items ts hu.count one
      where
        by_lists : (xs ys : List ℕ) → length xs ≡ length ys → single_of xs ≡ Some k → (t : ℕ) × (ys ≡ t ∷ [])
        by_lists [] ys h e = cc
        by_lists (x ∷ []) [] h e = absurd (omega (arith, h))
        by_lists (x ∷ []) (t ∷ []) h e = (t, refl)
        by_lists (x ∷ []) (t ∷ y ∷ ys) h e = absurd (omega (arith, h))
        by_lists (x ∷ z ∷ xs) ys h e = cc

    pub tested_formless : single_of u.values.items ≡ None → tested ≡ None
    tested_formless none = by_lists u.values.items ts hu.count none
      where
        by_lists : (xs ys : List ℕ) → length xs ≡ length ys → single_of xs ≡ None → option_map PairLine (pair_with (Some ks ∷ Some ls ∷ Some ys ∷ [])) ≡ None
        by_lists xs [] h e = refl
        by_lists [] (t ∷ []) h e = absurd (omega (arith, h))
        by_lists (x ∷ []) (t ∷ []) h e = cc
        by_lists (x ∷ z ∷ xs) (t ∷ []) h e = absurd (omega (arith, h))
        by_lists xs (t ∷ y ∷ ys) h e = refl

    wide_where : (k : ℕ) → single_of u.values.items ≡ Some k → (v.wide || (w.wide || u.wide)) ≡ true → (e : Entry) × (tested ≡ Some e) × (is_wide e ≡ true) × (section_of e ≡ TestedPairs)
    wide_where k one wide =
        let found = counted k one in
        let t : ℕ = found.0 in
        let last : list_any too_wide (t ∷ []) ≡ u.wide = ap (list_any too_wide) (sym found.1) ∙ sym hu.wide in (
          PairLine (under (Some t)),
          ap (λ l. option_map PairLine (pair_with (Some ks ∷ Some ls ∷ Some l ∷ []))) found.1,
          wide_parts (Some t) ∙ ap (λ b. v.wide || (w.wide || b)) last ∙ wide,
          refl,
        )

    pub wide_test_of : (k : ℕ) → single_of u.values.items ≡ Some k → u.wide ≡ true → (e : Entry) × (tested ≡ Some e) × (is_wide e ≡ true) × (section_of e ≡ TestedPairs)
    wide_test_of k one wide = wide_where k one (ap (λ b. v.wide || (w.wide || b)) wide ∙ last_one v.wide w.wide)

    pub wide_sets : (k : ℕ) → single_of u.values.items ≡ Some k → (v.wide || w.wide) ≡ true → (e : Entry) × (tested ≡ Some e) × (is_wide e ≡ true) × (section_of e ≡ TestedPairs)
    wide_sets k one wide = wide_where k one (first_two v.wide w.wide u.wide wide)

    pub tested_narrow : (k : ℕ) → single_of u.values.items ≡ Some k → (v.wide || w.wide) ≡ false → u.wide ≡ false → (p : PairParts) → p.left ≡ v.values.items → p.right ≡ w.values.items → p.test ≡ Some k → (tested ≡ Some (PairLine p)) × (is_wide (PairLine p) ≡ false)
    tested_narrow k one narrow nt p left right test =
        let parts = or_parts v.wide w.wide narrow in
        let is : ts ≡ k ∷ [] = sym (hu.values nt) ∙ alone u.values.items one in
        let rest = narrow_parts (Some k) p parts.0 parts.1 (ap (list_any too_wide) (sym is) ∙ sym hu.wide ∙ nt) left right test in
        (ap (λ l. option_map PairLine (pair_with (Some ks ∷ Some ls ∷ Some l ∷ []))) is ∙ rest.0, rest.1)
      where
        alone : (xs : List ℕ) → single_of xs ≡ Some k → xs ≡ k ∷ []
        alone [] e = cc
        alone (x ∷ []) e = let same : x ≡ k = cc in ap (λ y. y ∷ []) same
        alone (x ∷ z ∷ xs) e = cc
