-- The keywords by their length: a text is no word of another length. A text is a keyword if its terminal is not `Name`.
use Rattle.std.proofs.Common.{◌≡◌, ◌≢◌, ℕ, List, [], ◌∷◌, length, Bool, true, false, not, ◌||◌, cond, refl, sym, ap, ◌∙◌, arith}
use Rattle.std.specs.Prelude.{codes}
use Rattle.std.specs.Str.{bytes_eq}
use Rattle.std.specs.List.{list_any}
use Rattle.std.proofs.lemmas.List.Folds.{list_any-append}
use Rattle.std.proofs.lemmas.Slice.Eq.{bytes_eq-Decides}
use Rattle.text_parser.specs.declared.terminal.Keyword.TheVariants as word
use Rattle.text_parser.specs.declared.terminal.Terminal.{Terminal}
use Rattle.text_parser.specs.declared.terminal.Terminal.TheVariants.{True, False, Name, Keyword}
use Rattle.text_parser.specs.Keywords.{is_keyword}
use Rattle.text_parser.specs.Lexemes.{is_terminal}
use Rattle.text_parser.specs.Terminals.{keyword_terminal}
use Rattle.text_parser.specs.Working.Words.{word_of_four, word_of_five, word_of_six, other_word}

not_true : (b : Bool) → (b ≡ true → ⊥) → b ≡ false
not_true true h = absurd (h refl)
not_true false h = refl

pub unlike : (n : ℕ) (text word : List ℕ) → length text ≢ n → length word ≡ n → bytes_eq text word ≡ false
unlike n text word differs long = not_true (bytes_eq text word) (λ same. differs (ap length ((bytes_eq-Decides text word).0 same) ∙ long))

pub word_of_four_is : (text : List ℕ) → length text ≡ 4 → keyword_terminal text ≡ word_of_four text
word_of_four_is text long =
    let not_two : length text ≢ 2 = omega arith in
    let not_three : length text ≢ 3 = omega arith in
    let not_five : length text ≢ 5 = omega arith in
    let not_six : length text ≢ 6 = omega arith in
    rw (
      unlike 5 text (codes "false") not_five refl,
      unlike 6 text (codes "action") not_six refl,
      unlike 3 text (codes "var") not_three refl,
      unlike 3 text (codes "hyp") not_three refl,
      unlike 6 text (codes "rounds") not_six refl,
      unlike 5 text (codes "width") not_five refl,
      unlike 5 text (codes "equal") not_five refl,
      unlike 5 text (codes "below") not_five refl,
      unlike 6 text (codes "triple") not_six refl,
      unlike 5 text (codes "abort") not_five refl,
      unlike 6 text (codes "assert") not_six refl,
      unlike 2 text (codes "if") not_two refl,
      unlike 5 text (codes "while") not_five refl,
    ) refl

pub word_of_five_is : (text : List ℕ) → length text ≡ 5 → keyword_terminal text ≡ word_of_five text
word_of_five_is text long =
    let not_two : length text ≢ 2 = omega arith in
    let not_three : length text ≢ 3 = omega arith in
    let not_four : length text ≢ 4 = omega arith in
    let not_six : length text ≢ 6 = omega arith in
    rw (
      unlike 4 text (codes "true") not_four refl,
      unlike 4 text (codes "test") not_four refl,
      unlike 6 text (codes "action") not_six refl,
      unlike 3 text (codes "var") not_three refl,
      unlike 4 text (codes "prog") not_four refl,
      unlike 4 text (codes "term") not_four refl,
      unlike 3 text (codes "hyp") not_three refl,
      unlike 6 text (codes "rounds") not_six refl,
      unlike 4 text (codes "goal") not_four refl,
      unlike 6 text (codes "triple") not_six refl,
      unlike 4 text (codes "skip") not_four refl,
      unlike 6 text (codes "assert") not_six refl,
      unlike 2 text (codes "if") not_two refl,
      unlike 4 text (codes "else") not_four refl,
    ) refl

pub word_of_six_is : (text : List ℕ) → length text ≡ 6 → keyword_terminal text ≡ word_of_six text
word_of_six_is text long =
    let not_two : length text ≢ 2 = omega arith in
    let not_three : length text ≢ 3 = omega arith in
    let not_four : length text ≢ 4 = omega arith in
    let not_five : length text ≢ 5 = omega arith in
    rw (
      unlike 4 text (codes "true") not_four refl,
      unlike 5 text (codes "false") not_five refl,
      unlike 4 text (codes "test") not_four refl,
      unlike 3 text (codes "var") not_three refl,
      unlike 4 text (codes "prog") not_four refl,
      unlike 4 text (codes "term") not_four refl,
      unlike 3 text (codes "hyp") not_three refl,
      unlike 5 text (codes "width") not_five refl,
      unlike 4 text (codes "goal") not_four refl,
      unlike 5 text (codes "equal") not_five refl,
      unlike 5 text (codes "below") not_five refl,
      unlike 4 text (codes "skip") not_four refl,
      unlike 5 text (codes "abort") not_five refl,
      unlike 2 text (codes "if") not_two refl,
      unlike 4 text (codes "else") not_four refl,
      unlike 5 text (codes "while") not_five refl,
    ) refl

pub other_word_is : (text : List ℕ) → length text ≢ 4 → length text ≢ 5 → length text ≢ 6 → keyword_terminal text ≡ other_word text
other_word_is text not_four not_five not_six =
    rw (
      unlike 4 text (codes "true") not_four refl,
      unlike 5 text (codes "false") not_five refl,
      unlike 4 text (codes "test") not_four refl,
      unlike 6 text (codes "action") not_six refl,
      unlike 4 text (codes "prog") not_four refl,
      unlike 4 text (codes "term") not_four refl,
      unlike 6 text (codes "rounds") not_six refl,
      unlike 5 text (codes "width") not_five refl,
      unlike 4 text (codes "goal") not_four refl,
      unlike 5 text (codes "equal") not_five refl,
      unlike 5 text (codes "below") not_five refl,
      unlike 6 text (codes "triple") not_six refl,
      unlike 4 text (codes "skip") not_four refl,
      unlike 5 text (codes "abort") not_five refl,
      unlike 6 text (codes "assert") not_six refl,
      unlike 4 text (codes "else") not_four refl,
      unlike 5 text (codes "while") not_five refl,
    ) refl

-- ---- keywords by their terminals

-- `b` decides whether the terminal is not `Name`
record DecidesWord (s : Terminal) (b : Bool) : Type 0 where
  is : not (is_terminal Name s) ≡ b

-- a choice whose first terminal is not `Name`
choice : (b : Bool) (s rest : Terminal) (words : Bool) → is_terminal Name s ≡ false → DecidesWord rest words → DecidesWord (cond b s rest) (b || words)
choice true s rest words other h = record { is = ap not other }
choice false s rest words other h = record { is = h.is }

-- the keywords whose terminal is a `Keyword`
abbrev plain_words : List (List ℕ)
plain_words =
    codes "test" ∷ codes "action" ∷ codes "var" ∷ codes "prog" ∷ codes "term" ∷ codes "hyp" ∷ codes "rounds"
    ∷ codes "width" ∷ codes "goal" ∷ codes "equal" ∷ codes "below" ∷ codes "triple" ∷ codes "skip" ∷ codes "abort"
    ∷ codes "assert" ∷ codes "if" ∷ codes "else" ∷ codes "while" ∷ []

decided : (text : List ℕ) → DecidesWord (keyword_terminal text) (bytes_eq text (codes "true") || (bytes_eq text (codes "false") || list_any (bytes_eq text) plain_words))
decided text =
    choice (bytes_eq text (codes "true")) True _ _ refl (
    choice (bytes_eq text (codes "false")) False _ _ refl (
    choice (bytes_eq text (codes "test")) (Keyword word.Test) _ _ refl (
    choice (bytes_eq text (codes "action")) (Keyword word.Action) _ _ refl (
    choice (bytes_eq text (codes "var")) (Keyword word.Var) _ _ refl (
    choice (bytes_eq text (codes "prog")) (Keyword word.Prog) _ _ refl (
    choice (bytes_eq text (codes "term")) (Keyword word.Term) _ _ refl (
    choice (bytes_eq text (codes "hyp")) (Keyword word.Hyp) _ _ refl (
    choice (bytes_eq text (codes "rounds")) (Keyword word.Rounds) _ _ refl (
    choice (bytes_eq text (codes "width")) (Keyword word.Width) _ _ refl (
    choice (bytes_eq text (codes "goal")) (Keyword word.Goal) _ _ refl (
    choice (bytes_eq text (codes "equal")) (Keyword word.Equal) _ _ refl (
    choice (bytes_eq text (codes "below")) (Keyword word.Below) _ _ refl (
    choice (bytes_eq text (codes "triple")) (Keyword word.Triple) _ _ refl (
    choice (bytes_eq text (codes "skip")) (Keyword word.Skip) _ _ refl (
    choice (bytes_eq text (codes "abort")) (Keyword word.Abort) _ _ refl (
    choice (bytes_eq text (codes "assert")) (Keyword word.Assert) _ _ refl (
    choice (bytes_eq text (codes "if")) (Keyword word.If) _ _ refl (
    choice (bytes_eq text (codes "else")) (Keyword word.Else) _ _ refl (
    choice (bytes_eq text (codes "while")) (Keyword word.While) Name false refl (
    record { is = refl }))))))))))))))))))))

last_first : (a b words : Bool) → (words || (a || (b || false))) ≡ (a || (b || words))
last_first true b true = refl
last_first true b false = refl
last_first false true true = refl
last_first false true false = refl
last_first false false true = refl
last_first false false false = refl

pub keyword_by_terminal : (text : List ℕ) → is_keyword text ≡ not (is_terminal Name (keyword_terminal text))
keyword_by_terminal text =
    list_any-append (bytes_eq text) plain_words (codes "true" ∷ codes "false" ∷ [])
    ∙ last_first (bytes_eq text (codes "true")) (bytes_eq text (codes "false")) (list_any (bytes_eq text) plain_words)
    ∙ sym (decided text).is
