-- The words that are left of a text.
use Rattle.std.proofs.Common.{◌≡◌, ℕ, ◌+◌, ◌≤◌, List, [], ◌∷◌, ◌++◌, map, length, sym, ap, ◌∙◌, arith, Option}
use Rattle.std.specs.Borrow.{Bor}
use Rattle.line_format.specs.Lines.{parts_of}
use Rattle.lrat_checker.specs.Words.{WordParts, parts_in, words_of_line, words_from}
use Rattle.lrat_checker.specs.Working.WordLists.{lines_after, words_left, room, IsFirstLine}

pub first_line_words : (text first line : List ℕ) (after : Option (Bor (List ℕ))) → parts_of text ≡ first ∷ lines_after after → parts_in line ≡ words_of_line first → room after ≤ length text → IsFirstLine text line after
first_line_words text first line after e same short =
    let placed : ℕ → List (List ℕ) → List WordParts = λ n ws. map (λ w. record { line = n; bytes = w }) ws ++ words_from (n + 1) (lines_after after) in
    record {
      words = λ n. ap (words_from n) e ∙ ap (placed n) (sym same);
      count = ap length e ∙ omega arith;
      shorter = short;
    }

-- the first word that is left
pub first_left : (n : ℕ) (line rest word : List ℕ) (after : Option (Bor (List ℕ))) → parts_in line ≡ word ∷ parts_in rest → words_left n line after ≡ record { line = n; bytes = word } ∷ words_left n rest after
first_left n line rest word after e =
    let placed : List (List ℕ) → List WordParts = λ ws. map (λ w. record { line = n; bytes = w }) ws ++ words_from (n + 1) (lines_after after) in
    ap placed e

-- a line without words has only those of the lines after it
pub none_left : (n : ℕ) (line : List ℕ) (after : Option (Bor (List ℕ))) → parts_in line ≡ [] → words_left n line after ≡ words_from (n + 1) (lines_after after)
none_left n line after e =
    let placed : List (List ℕ) → List WordParts = λ ws. map (λ w. record { line = n; bytes = w }) ws ++ words_from (n + 1) (lines_after after) in
    ap placed e
