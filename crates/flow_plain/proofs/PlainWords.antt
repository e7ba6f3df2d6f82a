-- The words of plain texts: their terminals, and that no word is `match`.
use Rattle.std.proofs.Common.{◌≡◌, ◌<◌, ◌^◌, ℕ, List, [], ◌∷◌, ◌++◌, Bool, true, false, nat_eq, Some, refl, sym, ap, ◌∙◌, subst, inl, inr, arith}
use Rattle.std.proofs.lemmas.Bool.{and_parts, ne_eqb, true≢false, cases_eq}
use Rattle.std.proofs.lemmas.Bool.Decides.{nat_tests}
use Rattle.std.specs.Prelude.{codes}
use Rattle.std.specs.Cmp.Derive.{both_true}
use Rattle.std.specs.Fmt.{decimal}
use Rattle.std.specs.List.{list_all}
use Rattle.std.specs.Char.{is_ascii_digit}
use Rattle.std.specs.Str.{bytes_eq}
use Rattle.kat_model.specs.declared.expression.Rel.{Rel}
use Rattle.kat_model.specs.declared.expression.Rel.TheVariants.{Eq, Ne, Lt, Le, Gt, Ge}
use Rattle.kat_model.specs.declared.expression.Width.{Width}
use Rattle.kat_model.specs.declared.expression.Width.TheVariants.{W8, W16, W32, W64}
use Rattle.text_parser.specs.declared.token.Kind.TheVariants.{Name, Number, Symbol}
use Rattle.text_parser.specs.Kinds.{IsToken}
use Rattle.text_parser.specs.declared.terminal.Terminal.{Terminal}
use Rattle.text_parser.specs.Terminals as grammar
use Rattle.text_parser.proofs.Beginnings.{number_digits}
use Rattle.text_parser.proofs.PrintedWords.{begins_word, continues_word, is_word, word_is_name, decimal_is_number}
use Rattle.text_print.specs.Printing.{relation_text}
use Rattle.text_print.proofs.WordTerminals.{zero_written, one_written, number_is}
use Rattle.flow_syntax.specs.declared.rule.TheConstants.{NUMBER}
use Rattle.flow_syntax.specs.declared.terminal.TheConstants.{NAME, MATCH, U8, U16, U32, U64, S8, S16, S32, S64, EQ, NE, LT, LE, GT, GE}
use Rattle.flow_syntax.specs.Terminals.{word_terminal, symbol_terminal, number_terminal, number_value}
use Rattle.flow_plain.specs.PlainGraphs.{conversion_text, variable_name, function_name, block_name}
use Rattle.flow_plain.proofs.Steps.{IsWord}

-- ---- keywords and symbols

pub keyword : (bytes : List ℕ) (k : ℕ) → is_word bytes ≡ true → word_terminal bytes ≡ k → bytes_eq bytes (codes "match") ≡ false → nat_eq k MATCH ≡ false → IsWord Name bytes k
keyword bytes k word terminal other outside = record { token = word_is_name bytes word; terminal = terminal; other = other; outside = outside }

pub mark : (bytes : List ℕ) (k : ℕ) → IsToken Symbol bytes → symbol_terminal bytes ≡ k → bytes_eq bytes (codes "match") ≡ false → nat_eq k MATCH ≡ false → IsWord Symbol bytes k
mark bytes k token terminal other outside = record { token = token; terminal = terminal; other = other; outside = outside }

abbrev pub conversion_terminal : Bool → Width → ℕ
conversion_terminal false W8 = U8
conversion_terminal false W16 = U16
conversion_terminal false W32 = U32
conversion_terminal false W64 = U64
conversion_terminal true W8 = S8
conversion_terminal true W16 = S16
conversion_terminal true W32 = S32
conversion_terminal true W64 = S64

pub conversion_word : (signed : Bool) (w : Width) → IsWord Name (conversion_text signed w) (conversion_terminal signed w)
conversion_word false W8 = keyword (codes "u8") U8 refl refl refl refl
conversion_word false W16 = keyword (codes "u16") U16 refl refl refl refl
conversion_word false W32 = keyword (codes "u32") U32 refl refl refl refl
conversion_word false W64 = keyword (codes "u64") U64 refl refl refl refl
conversion_word true W8 = keyword (codes "s8") S8 refl refl refl refl
conversion_word true W16 = keyword (codes "s16") S16 refl refl refl refl
conversion_word true W32 = keyword (codes "s32") S32 refl refl refl refl
conversion_word true W64 = keyword (codes "s64") S64 refl refl refl refl

abbrev pub relation_number : Rel → ℕ
relation_number Eq = EQ
relation_number Ne = NE
relation_number Lt = LT
relation_number Le = LE
relation_number Gt = GT
relation_number Ge = GE

pub relation_word : (r : Rel) → IsWord Symbol (relation_text r) (relation_number r)
relation_word Eq = mark (codes "==") EQ refl refl refl refl
relation_word Ne = mark (codes "!=") NE refl refl refl refl
relation_word Lt = mark (codes "<") LT refl refl refl refl
relation_word Le = mark (codes "<=") LE refl refl refl refl
relation_word Gt = mark (codes ">") GT refl refl refl refl
relation_word Ge = mark (codes ">=") GE refl refl refl refl

-- ---- a letter before digits

digit_continues : (b : ℕ) → is_ascii_digit b ≡ true → continues_word b ≡ true
digit_continues b e = grind (arith, nat_tests)

digits_continue : (bs : List ℕ) → list_all is_ascii_digit bs ≡ true → list_all continues_word bs ≡ true
digits_continue [] all = refl
digits_continue (b ∷ bs) all =
    let parts = and_parts (is_ascii_digit b) (list_all is_ascii_digit bs) all in
    both_true (digit_continues b parts.0) (digits_continue bs parts.1)

decimal_digits : (n : ℕ) → n < 2 ^ 64 → list_all is_ascii_digit (decimal n) ≡ true
decimal_digits n small = number_digits (decimal n) (decimal_is_number n small)

letter_name : (letter n : ℕ) → begins_word letter ≡ true → n < 2 ^ 64 → IsToken Name (letter ∷ decimal n)
letter_name letter n begins small = word_is_name (letter ∷ decimal n) (both_true begins (digits_continue (decimal n) (decimal_digits n small)))

-- a digit differs from a letter
no_letter : (b letter : ℕ) → is_ascii_digit b ≡ true → is_ascii_digit letter ≡ false → b ≡ letter → ⊥
no_letter b letter digit none same = true≢false (sym digit ∙ ap is_ascii_digit same ∙ none)

pub variable_word : (k : ℕ) → k < 2 ^ 64 → IsWord Name (variable_name k) NAME
variable_word k small = record { token = letter_name 120 k refl small; terminal = refl; other = refl; outside = refl }

pub sort_word : (k : ℕ) → k < 2 ^ 64 → IsWord Name (codes "o" ++ decimal k) NAME
sort_word k small = record { token = letter_name 111 k refl small; terminal = refl; other = refl; outside = refl }

names_of_f : (bs : List ℕ) → list_all is_ascii_digit bs ≡ true → word_terminal (102 ∷ bs) ≡ NAME
names_of_f [] all = refl
names_of_f (b ∷ bs) all =
    let digit = (and_parts (is_ascii_digit b) (list_all is_ascii_digit bs) all).0 in
    let u = ne_eqb b 117 (no_letter b 117 digit refl) in
    let a = ne_eqb b 97 (no_letter b 97 digit refl) in
    rw (u, a) refl

pub function_word : (k : ℕ) → k < 2 ^ 64 → IsWord Name (function_name k) NAME
function_word k small = record { token = letter_name 102 k refl small; terminal = names_of_f (decimal k) (decimal_digits k small); other = refl; outside = refl }

names_of_b : (bs : List ℕ) → list_all is_ascii_digit bs ≡ true → word_terminal (98 ∷ bs) ≡ NAME
names_of_b [] all = refl
names_of_b (b ∷ bs) all =
    let digit = (and_parts (is_ascii_digit b) (list_all is_ascii_digit bs) all).0 in
    let l = ne_eqb b 108 (no_letter b 108 digit refl) in
    rw l refl

pub block_word : (k : ℕ) → k < 2 ^ 64 → IsWord Name (block_name k) NAME
block_word k small = record { token = letter_name 98 k refl small; terminal = names_of_b (decimal k) (decimal_digits k small); other = refl; outside = refl }

-- ---- numbers

-- what a terminal of problem files is as a number
abbrev Counts : ℕ → Terminal → Type 0
Counts n t = (number_terminal t ≡ NUMBER) × (number_value t ≡ Some n)

number_counts : (n : ℕ) → n < 2 ^ 64 → Counts n (grammar.number_terminal (decimal n))
number_counts n small = elim (cases_eq n 0) [
  | inl zero ↦ subst (λ (k : ℕ). Counts k (grammar.number_terminal (decimal k))) (sym zero) (subst (λ (text : List ℕ). Counts 0 (grammar.number_terminal text)) (sym zero_written) (refl, refl))
  | inr some ↦ elim (cases_eq n 1) [
    | inl one ↦ subst (λ (k : ℕ). Counts k (grammar.number_terminal (decimal k))) (sym one) (subst (λ (text : List ℕ). Counts 1 (grammar.number_terminal text)) (sym one_written) (refl, refl))
    | inr more ↦ subst (Counts n) (sym (number_is n small some more)) (refl, refl)
  ]
]

no_match : (bs : List ℕ) → list_all is_ascii_digit bs ≡ true → bytes_eq bs (codes "match") ≡ false
no_match [] all = refl
no_match (b ∷ bs) all =
    let digit = (and_parts (is_ascii_digit b) (list_all is_ascii_digit bs) all).0 in
    let m = ne_eqb b 109 (no_letter b 109 digit refl) in
    rw m refl

pub number_word : (n : ℕ) → n < 2 ^ 64 → IsWord Number (decimal n) NUMBER
number_word n small = record { token = decimal_is_number n small; terminal = (number_counts n small).0; other = no_match (decimal n) (decimal_digits n small); outside = refl }

pub number_spelled : (n : ℕ) → n < 2 ^ 64 → number_value (grammar.number_terminal (decimal n)) ≡ Some n
number_spelled n small = (number_counts n small).1
