-- The words of a line between its gaps.
use Rattle.std.proofs.Common.{◌≡◌, ℕ, ◌+◌, ◌<◌, ◌≤◌, List, [], ◌∷◌, length, take, drop, refl, sym, ap, ◌∙◌, subst, cond, arith, Bool, true, false, not, ◌==◌, ◌-◌, None, Some, position, length-drop}
use Rattle.std.specs.List.{filter, slice_split, list_any, position_or_len}
use Rattle.std.proofs.lemmas.Bool.{or_parts}
use Rattle.std.proofs.lemmas.Bool.Decides.{nat_tests}
use Rattle.std.proofs.lemmas.List.{take_all, length-take, length-take-le}
use Rattle.std.proofs.lemmas.List.Splits.{slice_split_first, slice_split-cons_yes}
use Rattle.std.proofs.Math.Numerals.{one-add}
use Rattle.line_format.proofs.Splits.{split_none, position_at, position_none}
use Rattle.lrat_checker.specs.Words.{is_gap, parts_in}
use Rattle.lrat_checker.specs.Working.WordLists.{BeginsWord, IsFromWord}

-- a part that is not empty
abbrev is_word : List ℕ → Bool
is_word w = not (length w == 0)

kept : (w : List ℕ) (ws : List (List ℕ)) → 0 < length w → filter is_word (w ∷ ws) ≡ w ∷ filter is_word ws
kept w ws some = let e : (length w == 0) ≡ false = grind (arith, nat_tests) in rw e refl

parts_gap : (b : ℕ) (bs : List ℕ) → is_gap b ≡ true → parts_in (b ∷ bs) ≡ parts_in bs
parts_gap b bs e = ap (filter is_word) (slice_split-cons_yes is_gap b bs e)

-- ---- from the first word on

-- the place of the first byte that is no gap
abbrev begin_of : List ℕ → ℕ
begin_of line = position_or_len (λ b. not (is_gap b)) line

without_gaps : (line : List ℕ) → parts_in (drop (begin_of line) line) ≡ parts_in line
without_gaps [] = refl
without_gaps (b ∷ bs) = by_gap (is_gap b) refl (without_gaps bs)
  where
    by_gap : (t : Bool) → is_gap b ≡ t → parts_in (drop (begin_of bs) bs) ≡ parts_in bs → parts_in (drop (cond (not (not t)) (1 + begin_of bs) 0) (b ∷ bs)) ≡ parts_in (b ∷ bs)
    by_gap true e more = rw (one-add (begin_of bs)) (more ∙ sym (parts_gap b bs e))
    by_gap false e more = refl

begins : (line : List ℕ) → BeginsWord (drop (begin_of line) line)
begins [] = tt
begins (b ∷ bs) = by_gap (is_gap b) refl (begins bs)
  where
    by_gap : (t : Bool) → is_gap b ≡ t → BeginsWord (drop (begin_of bs) bs) → BeginsWord (drop (cond (not (not t)) (1 + begin_of bs) 0) (b ∷ bs))
    by_gap true e more = rw (one-add (begin_of bs)) more
    by_gap false e more = e

all_gaps : (line : List ℕ) → list_any (λ b. not (is_gap b)) line ≡ false → parts_in line ≡ []
all_gaps [] e = refl
all_gaps (b ∷ bs) e =
    let both = or_parts (not (is_gap b)) (list_any (λ c. not (is_gap c)) bs) e in
    parts_gap b bs (not_false (is_gap b) both.0) ∙ all_gaps bs both.1
  where
    not_false : (t : Bool) → not t ≡ false → t ≡ true
    not_false true f = refl
    not_false false f = cc

pub from_none : (line : List ℕ) → None ≡ position (λ b. not (is_gap b)) line → IsFromWord line []
from_none line e = record {
  parts = sym (all_gaps line (position_none (λ b. not (is_gap b)) line e));
  begins = tt;
  within = omega arith;
}

pub from_some : (line : List ℕ) (start left : ℕ) → Some start ≡ position (λ b. not (is_gap b)) line → left ≡ length (drop start line) → length (drop start line) ≤ length line → IsFromWord line (take left (drop start line))
from_some line start left e long within =
    let found = position_at (λ b. not (is_gap b)) line start e in
    let whole : take left (drop start line) ≡ drop start line = take_all left (drop start line) (omega (arith, long)) in
    let here : drop start line ≡ drop (begin_of line) line = ap (λ (n : ℕ). drop n line) found.0 in
    record {
      parts = ap parts_in (whole ∙ here) ∙ without_gaps line;
      begins = subst BeginsWord (sym (whole ∙ here)) (begins line);
      within = omega (arith, ap length whole);
    }

-- ---- the first word

gap_later : (line : List ℕ) → BeginsWord line → position_or_len is_gap line < length line → 0 < position_or_len is_gap line
gap_later [] here within = absurd (omega arith)
gap_later (b ∷ bs) here within = rw here (omega arith)

-- the word that ends at a gap
pub word_at_gap : (line : List ℕ) (end left : ℕ) → BeginsWord line → Some end ≡ position is_gap line → length (drop (end + 1) line) ≤ left → parts_in line ≡ take end line ∷ parts_in (take left (drop (end + 1) line))
word_at_gap line end left here e enough =
    let found = position_at is_gap line end e in
    let within : position_or_len is_gap line < length line = subst (λ (n : ℕ). n < length line) found.0 found.1 in
    let some : 0 < end = omega (arith, found.0, gap_later line here within) in
    let first = subst (λ (n : ℕ). slice_split is_gap line ≡ take n line ∷ slice_split is_gap (drop (n + 1) line)) (sym found.0) (slice_split_first is_gap line 0 within) in
    let rest : take left (drop (end + 1) line) ≡ drop (end + 1) line = take_all left (drop (end + 1) line) enough in
    ap (filter is_word) first ∙ kept (take end line) (slice_split is_gap (drop (end + 1) line)) (omega (arith, some, found.1, length-take-le end line (omega (arith, found.1)))) ∙ ap (λ l. take end line ∷ parts_in l) (sym rest)

-- the last word
pub word_at_end : (line : List ℕ) → 0 < length line → None ≡ position is_gap line → parts_in line ≡ line ∷ []
word_at_end line some e = ap (filter is_word) (split_none is_gap line (position_none is_gap line e)) ∙ kept line [] some

pub some_from : (n : ℕ) → false ≡ (n == 0) → 0 < n
some_from n e = grind (arith, nat_tests)

pub shorter_after : (rest : List ℕ) (end : ℕ) (line : List ℕ) → Some end ≡ position is_gap rest → length rest ≤ length line → length (take (length rest - (end + 1)) (drop (end + 1) rest)) < length line
shorter_after rest end line e within =
    let found = position_at is_gap rest end e in
    omega (arith, found.1, within, length-drop (end + 1) rest, length-take (length rest - (end + 1)) (drop (end + 1) rest))
