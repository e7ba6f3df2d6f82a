-- The content of a line of numbers, by a form that depends on how many numbers there are.
use Rattle.std.proofs.Common.{◌≡◌, ℕ, List, map, length, true, Option, Some, refl, sym, ap, ◌∙◌, subst}
use Rattle.std.specs.List.{list_all, list_any}
use Rattle.std.specs.Option.{option_map, option_and_then}
use Rattle.std.specs.Fmt.{decimal}
use Rattle.kat_model.proofs.Options.{some_of_map, some_of_then}
use Rattle.line_format.specs.Numerals.{is_numeral, value_of, numbers_of, too_wide}
use Rattle.line_format.specs.Readings.{HasNumbers}
use Rattle.line_format.specs.declared.numerals.Numbers.{Numbers}
use Rattle.line_format.proofs.Words.{AreNarrow, numbers_of_all, numbers_given}

-- `form_of` gives the content for some numbers, from which `made` makes a line of the section
module _ {L N S : Type 0} (numbers : L → List ℕ) (section_of : L → S) (form_of : List ℕ → Option N) (made : N → L) (section : S)
    (same : (xs ys : List ℕ) (n : N) → length xs ≡ length ys → form_of xs ≡ Some n → (m : N) × (form_of ys ≡ Some m))
    (given : (ks : List ℕ) (n : N) → form_of ks ≡ Some n → (ks ≡ numbers (made n)) × (section_of (made n) ≡ section)) where
  abbrev pub read_form : List (List ℕ) → Option L
  read_form ws = option_map made (option_and_then form_of (numbers_of ws))

  form_at : (ws : List (List ℕ)) (o : Option N) → list_all is_numeral ws ≡ true → form_of (map value_of ws) ≡ o → read_form ws ≡ option_map made o
  form_at ws o e f = rw (numbers_of_all ws e, f) refl

  pub wide_form : (ws : List (List ℕ)) (v : Numbers) (n : N) → list_all is_numeral ws ≡ true → HasNumbers (map value_of ws) v → form_of v.values.items ≡ Some n → v.wide ≡ true → (l : L) × (read_form ws ≡ Some l) × (list_any too_wide (numbers l) ≡ true) × (section_of l ≡ section)
  wide_form ws v n e has is wide =
      let other = same v.values.items (map value_of ws) n has.count is in
      let both = given (map value_of ws) other.0 other.1 in
      (made other.0, form_at ws (Some other.0) e other.1, ap (λ l. list_any too_wide l) (sym both.0) ∙ sym has.wide ∙ wide, both.1)

  -- the words of a line that is read are its numbers
  pub form_given : (ws : List (List ℕ)) (l : L) → AreNarrow (numbers l) → read_form ws ≡ Some l → (n : N) × (ks : List ℕ) × (form_of ks ≡ Some n) × (ws ≡ map decimal (numbers (made n))) × (made n ≡ l)
  form_given ws l narrow h =
      let is = some_of_map made (option_and_then form_of (numbers_of ws)) l h in
      let read = some_of_then form_of (numbers_of ws) is.0 is.1 in
      let ks = (given read.0 is.0 read.2).0 in
      let small = subst AreNarrow (sym ks) (subst (λ m. AreNarrow (numbers m)) (sym is.2) narrow) in
      (is.0, read.0, read.2, numbers_given ws read.0 read.1 small ∙ ap (map decimal) ks, is.2)
