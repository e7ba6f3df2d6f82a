-- The plain names of tests, actions and variables are identifiers and determine their numbers.
use Rattle.std.proofs.Common.{◌≡◌, ◌<◌, ◌≤◌, ◌^◌, ◌==◌, ℕ, List, [], ◌∷◌, true, false, get_or, drop, sym, ap, ◌∙◌, refl, arith}
use Rattle.std.proofs.lemmas.Bool.{and_parts, ne_eqb, true≢false}
use Rattle.std.proofs.lemmas.Bool.Decides.{nat_tests}
use Rattle.std.proofs.lemmas.Fmt.{decimal_injective}
use Rattle.std.specs.Cmp.Derive.{both_true}
use Rattle.std.specs.Fmt.{decimal}
use Rattle.std.specs.List.{list_all}
use Rattle.std.specs.Char.{is_ascii_digit}
use Rattle.text_parser.specs.Keywords.{is_keyword}
use Rattle.text_parser.proofs.Beginnings.{number_digits}
use Rattle.text_parser.proofs.PrintedWords.{begins_word, continues_word, word_is_name, decimal_is_number}
use Rattle.text_parser.specs.declared.meaning.Meaning.{Meaning}
use Rattle.text_parser.specs.declared.meaning.Meaning.TheVariants.{Test, Action, Var, Term, Prog}
use Rattle.text_parser.specs.ScopeParts.{IsIdentifier}
use Rattle.problem_file.specs.Questions.{plain_name}
use Rattle.problem_file.specs.NamedTexts.{IsOneOf, AreNames}
use Rattle.problem_file.specs.ProgramTexts.{var_name}

digit_continues : (b : ℕ) → is_ascii_digit b ≡ true → continues_word b ≡ true
digit_continues b e = grind (arith, nat_tests)

digits_continue : (bs : List ℕ) → list_all is_ascii_digit bs ≡ true → list_all continues_word bs ≡ true
digits_continue [] all = refl
digits_continue (b ∷ bs) all =
    let parts = and_parts (is_ascii_digit b) (list_all is_ascii_digit bs) all in
    both_true (digit_continues b parts.0) (digits_continue bs parts.1)

-- a digit differs from a letter
no_letter : (b letter : ℕ) → is_ascii_digit b ≡ true → is_ascii_digit letter ≡ false → b ≡ letter → ⊥
no_letter b letter digit none same = true≢false (sym digit ∙ ap is_ascii_digit same ∙ none)

no_keyword_of_t : (bs : List ℕ) → list_all is_ascii_digit bs ≡ true → is_keyword (116 ∷ bs) ≡ false
no_keyword_of_t [] all = refl
no_keyword_of_t (b ∷ bs) all =
    let digit = (and_parts (is_ascii_digit b) (list_all is_ascii_digit bs) all).0 in
    let e = ne_eqb b 101 (no_letter b 101 digit refl) in
    let r = ne_eqb b 114 (no_letter b 114 digit refl) in
    rw (e, r) refl

no_keyword_of_a : (bs : List ℕ) → list_all is_ascii_digit bs ≡ true → is_keyword (97 ∷ bs) ≡ false
no_keyword_of_a [] all = refl
no_keyword_of_a (b ∷ bs) all =
    let digit = (and_parts (is_ascii_digit b) (list_all is_ascii_digit bs) all).0 in
    let c = ne_eqb b 99 (no_letter b 99 digit refl) in
    let d = ne_eqb b 98 (no_letter b 98 digit refl) in
    let s = ne_eqb b 115 (no_letter b 115 digit refl) in
    rw (c, d, s) refl

-- no keyword begins with `x`
no_keyword_of_x : (bs : List ℕ) → list_all is_ascii_digit bs ≡ true → is_keyword (120 ∷ bs) ≡ false
no_keyword_of_x bs all = refl

-- a letter followed by a number is an identifier
numbered_identifier : (letter n : ℕ) → begins_word letter ≡ true → ((bs : List ℕ) → list_all is_ascii_digit bs ≡ true → is_keyword (letter ∷ bs) ≡ false) → n < 2 ^ 64 → IsIdentifier (letter ∷ decimal n)
numbered_identifier letter n begins none small =
    let digits = number_digits (decimal n) (decimal_is_number n small) in
    record {
      name = word_is_name (letter ∷ decimal n) (both_true begins (digits_continue (decimal n) digits));
      no_keyword = none (decimal n) digits;
    }

pub test_identifier : (k : ℕ) → k < 2 ^ 64 → IsIdentifier (plain_name (Test k))
test_identifier k small = numbered_identifier 116 k refl no_keyword_of_t small

pub action_identifier : (a : ℕ) → a < 2 ^ 64 → IsIdentifier (plain_name (Action a))
action_identifier a small = numbered_identifier 97 a refl no_keyword_of_a small

pub var_identifier : (k : ℕ) → k < 2 ^ 64 → IsIdentifier (var_name (Var k))
var_identifier k small = numbered_identifier 120 k refl no_keyword_of_x small

same_test_number : (j k : ℕ) → j < 2 ^ 64 → k < 2 ^ 64 → plain_name (Test j) ≡ plain_name (Test k) → j ≡ k
same_test_number j k small few e = decimal_injective j k small few (ap (drop 1) e)

same_action_number : (j k : ℕ) → j < 2 ^ 64 → k < 2 ^ 64 → plain_name (Action j) ≡ plain_name (Action k) → j ≡ k
same_action_number j k small few e = decimal_injective j k small few (ap (drop 1) e)

test_no_action : (k a : ℕ) → plain_name (Test k) ≡ plain_name (Action a) → ⊥
test_no_action k a e = true≢false (ap (λ (l : List ℕ). get_or l 0 0 == 116) e)

-- t0, t1, .. and a0, a1, .. are identifiers, and no two are the same
module _ (tests actions : ℕ) (few : tests ≤ 2 ^ 64) (small : actions ≤ 2 ^ 64) where
  plain_identifier : (m : Meaning) → IsOneOf tests actions m → IsIdentifier (plain_name m)
  plain_identifier (Test k) h = test_identifier k (omega (arith, h, few))
  plain_identifier (Action a) h = action_identifier a (omega (arith, h, small))
  plain_identifier (Var k) h = absurd h
  plain_identifier (Term k) h = absurd h
  plain_identifier (Prog k) h = absurd h

  plain_apart : (m n : Meaning) → IsOneOf tests actions m → IsOneOf tests actions n → plain_name m ≡ plain_name n → m ≡ n
  plain_apart (Test j) (Test k) h i e = ap Test (same_test_number j k (omega (arith, h, few)) (omega (arith, i, few)) e)
  plain_apart (Test j) (Action a) h i e = absurd (test_no_action j a e)
  plain_apart (Test j) (Var k) h i e = absurd i
  plain_apart (Test j) (Term k) h i e = absurd i
  plain_apart (Test j) (Prog k) h i e = absurd i
  plain_apart (Action a) (Test k) h i e = absurd (test_no_action k a (sym e))
  plain_apart (Action a) (Action b) h i e = ap Action (same_action_number a b (omega (arith, h, small)) (omega (arith, i, small)) e)
  plain_apart (Action a) (Var k) h i e = absurd i
  plain_apart (Action a) (Term k) h i e = absurd i
  plain_apart (Action a) (Prog k) h i e = absurd i
  plain_apart (Var j) n h i e = absurd h
  plain_apart (Term j) n h i e = absurd h
  plain_apart (Prog j) n h i e = absurd h

  pub plain_are_names : AreNames plain_name tests actions
  plain_are_names = record { identifiers = plain_identifier; apart = plain_apart }

pub same_var_number : (j k : ℕ) → j < 2 ^ 64 → k < 2 ^ 64 → var_name (Var j) ≡ var_name (Var k) → j ≡ k
same_var_number j k small few e = decimal_injective j k small few (ap (drop 1) e)

-- no variable has another single letter as its name
pub var_no_letter : (k letter : ℕ) → (letter == 120) ≡ false → var_name (Var k) ≡ letter ∷ [] → ⊥
var_no_letter k letter other e = true≢false (ap (λ (l : List ℕ). get_or l 0 0 == 120) e ∙ other)
