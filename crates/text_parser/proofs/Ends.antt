-- How the lexer ends.
use Rattle.std.proofs.Common.{◌≡◌, ◌<◌, ◌+◌, ℕ, List, [], ◌++◌, length, drop, false, sym, ap, ◌∙◌, arith, subst, length-drop, append-nil}
use Rattle.std.proofs.lemmas.List.{drop-drop}
use Rattle.std.specs.Str.{IsUtf8, IsCharBoundary}
use Rattle.text_parser.specs.TokenParts.{TokenParts}
use Rattle.text_parser.specs.Lex.{gap_len, gap_end, BeginsNone, LexesFrom, IsText, Lexes, FirstBad}
use Rattle.text_parser.proofs.Gaps.{gap_cut, gap_within}

-- a gap length of `bytes` is a gap length of the equal list `rest`
pub gap_of : (rest bytes : List ℕ) (gap : ℕ) → bytes ≡ rest → gap ≡ gap_len false bytes → gap ≡ gap_len false rest
gap_of rest bytes gap same e = subst (λ l. gap ≡ gap_len false l) same e

pub cut_at : (rest : List ℕ) (gap : ℕ) → IsUtf8 rest → gap ≡ gap_len false rest → IsCharBoundary rest gap
cut_at rest gap utf8 e = subst (IsCharBoundary rest) (sym e) (gap_cut rest utf8)

-- the tokens from place `at` on continue those found so far
abbrev pub GoesOn : List ℕ → ℕ → List TokenParts → Type 0
GoesOn text at found = (more : List TokenParts) (end : ℕ) → LexesFrom text at more end → LexesFrom text 0 (found ++ more) end

end_of_gap : (text rest : List ℕ) (at gap : ℕ) → rest ≡ drop at text → gap ≡ gap_len false rest → gap_end text at ≡ at + gap
end_of_gap text rest at gap same e = ap (λ n. at + n) (sym (e ∙ ap (gap_len false) same))

-- if only a gap remains, the tokens found are all tokens of the text
pub lexes_end : (text rest : List ℕ) (at gap : ℕ) (found : List TokenParts) → IsText text → GoesOn text at found → rest ≡ drop at text → at + length rest ≡ length text → gap ≡ gap_len false rest
    → length (drop gap rest) ≡ 0 → Lexes text found
lexes_end text rest at gap found is_text whole same place e none =
    let ends : at + gap ≡ length text = omega (arith, place, none, length-drop gap rest, gap_within false rest, e) in
    record {
      is_text = is_text;
      tokens = subst (λ ms. LexesFrom text 0 ms (length text)) (append-nil found) (whole [] (length text) (end_of_gap text rest at gap same e ∙ ends));
    }

-- if no token begins after the gap, that place is the first bad one
pub bad_at : (text rest : List ℕ) (at gap : ℕ) (found : List TokenParts) → IsText text → GoesOn text at found → rest ≡ drop at text → at + length rest ≡ length text → gap ≡ gap_len false rest
    → 0 < length (drop gap rest) → BeginsNone (drop gap rest) → FirstBad text (at + gap)
bad_at text rest at gap found is_text whole same place e some none =
    let spot : drop gap rest ≡ drop (at + gap) text = ap (drop gap) same ∙ drop-drop gap at text in
    record {
      is_text = is_text;
      before = (found ++ [], whole [] (at + gap) (end_of_gap text rest at gap same e));
      inside = omega (arith, place, some, length-drop gap rest, gap_within false rest, e);
      none = subst BeginsNone spot none;
    }
