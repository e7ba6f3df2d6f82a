-- The line and the column of a place determine it.
use Rattle.std.proofs.Common.{◌≡◌, ◌+◌, ◌-◌, ◌≤◌, ◌<◌, ℕ, suc, true, cond, List, ◌∷◌, ◌++◌, length, take, drop, get_or, count_by, sym, ap, ◌∙◌, ⊎_elim, arith}
use Rattle.std.specs.List.{after_last}
use Rattle.std.proofs.Math.Seq.{take-add, drop-cons}
use Rattle.std.proofs.lemmas.Bool.{cases_order, cond-true}
use Rattle.std.proofs.lemmas.Option.{slice_get-get_or}
use Rattle.text_places.specs.Places.{is_feed, begins_character, characters, line_at, column_at, IsCharacterPlace, PlacesAreDetermined}
use Rattle.text_places.proofs.LastLines.{counts_both, counts_first, last_continued}

fewer : (n k : ℕ) → n + 1 ≡ n + k + 1 → k ≡ 0
fewer n k e = omega arith

more : (n k c : ℕ) → c ≡ 1 → n + 1 ≡ n + (c + k) + 1 → ⊥
more n k c e f = omega arith

-- a later place has a later line, or a later column of the same line
clash : (xs : List ℕ) (x : ℕ) (rest : List ℕ) → begins_character x ≡ true → count_by is_feed xs + 1 ≡ count_by is_feed (xs ++ x ∷ rest) + 1
    → characters (after_last is_feed xs) + 1 ≡ characters (after_last is_feed (xs ++ x ∷ rest)) + 1 → ⊥
clash xs x rest begins lines columns =
    let none = fewer (count_by is_feed xs) (count_by is_feed (x ∷ rest)) (lines ∙ ap (λ n. n + 1) (counts_both is_feed xs (x ∷ rest))) in
    let line = after_last is_feed xs in
    let whole = ap characters (last_continued is_feed xs (x ∷ rest) none) ∙ counts_both begins_character line (x ∷ rest)
    ∙ ap (λ n. characters line + n) (counts_first begins_character x rest) in
    more (characters line) (characters rest) (cond (begins_character x) 1 0) (cond-true {A = ℕ} (begins_character x) 1 0 begins) (columns ∙ ap (λ n. n + 1) whole)

gap : (a b : ℕ) → a < b → b ≡ a + suc (b - a - 1)
gap a b h = omega arith

bound : (a b n : ℕ) → a < b → b ≤ n → a < n
bound a b n h k = omega arith

module _ (text : List ℕ) (a b : ℕ) (first : IsCharacterPlace text a) (second : b ≤ length text) (before : a < b) where
  here : a < length text
  here = bound a b (length text) before second

  begun : take b text ≡ take a text ++ get_or text a 0 ∷ take (b - a - 1) (drop (suc a) text)
  begun = ap (λ n. take n text) (gap a b before) ∙ take-add a (suc (b - a - 1)) text
      ∙ ap (λ l. take a text ++ take (suc (b - a - 1)) l) (drop-cons text a 0 here)

  later : line_at text a ≡ line_at text b → column_at text a ≡ column_at text b → ⊥
  later lines columns =
      clash (take a text) (get_or text a 0) (take (b - a - 1) (drop (suc a) text)) (first.1 (get_or text a 0) (slice_get-get_or text a 0 here))
      (lines ∙ ap (λ l. count_by is_feed l + 1) begun) (columns ∙ ap (λ l. characters (after_last is_feed l) + 1) begun)

pub determined : PlacesAreDetermined
determined text a b first second lines columns =
    ⊎_elim (λ e. e)
    (λ h. ⊎_elim (λ less. absurd (later text a b first second.0 less lines columns)) (λ less. absurd (later text b a second first.0 less (sym lines) (sym columns))) h)
    (cases_order a b)
