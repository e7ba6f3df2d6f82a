-- A text has one reading.
use Rattle.std.proofs.Common.{◌≡◌, ◌⊎◌, ◌≤◌, ◌<◌, ◌+◌, ℕ, List, [], ◌∷◌, ◌++◌, length, take, drop, Bool, true, false, refl, sym, ap, ◌∙◌, arith, subst, inl, inr, length-append, length-drop, length-take-le, take-append-drop, append-nil, zero, suc}
use Rattle.std.proofs.lemmas.List.{take_at}
use Rattle.std.proofs.lemmas.Bool.{cases_lt}
use Rattle.std.proofs.Math.Seq.{drop-length}
use Rattle.std.specs.Prelude.{encode_utf8_all}
use Rattle.std.specs.Char.{is_ascii_digit}
use Rattle.text_parser.specs.declared.token.Kind.{Kind}
use Rattle.text_parser.specs.declared.token.Kind.TheVariants.{Name, Number, Symbol}
use Rattle.text_parser.specs.Kinds.{is_token, IsToken}
use Rattle.text_parser.specs.TokenParts.{TokenParts, token_parts}
use Rattle.text_parser.specs.Lex.{gap_end, IsLongest, BeginsNone, LexesFrom, IsText, Lexes, FirstBad}
use Rattle.text_parser.proofs.Beginnings.{is_mark, name_begins, number_begins, symbol_begins, begins_no_digit, begins_no_mark, digit_no_mark, digit_small, mark_small}
use Rattle.text_parser.proofs.Fronts.{same_byte, token_some, none_empty}
use Rattle.text_parser.proofs.Gaps.{gap_within}

-- ---- at most one token

-- prefixes of equal length of the same list are equal
pub same_front : (a b x y : List ℕ) → length a ≡ length b → a ++ x ≡ b ++ y → (a ≡ b) × (x ≡ y)
same_front [] [] x y len e = (refl, e)
same_front [] (b ∷ bs) x y len e = absurd (omega (arith, len))
same_front (a ∷ rest) [] x y len e = absurd (omega (arith, len))
same_front (a ∷ rest) (b ∷ bs) x y len e =
    let tails : rest ++ x ≡ bs ++ y = cc in
    let more = same_front rest bs x y (omega (arith, len)) tails in
    let heads : a ≡ b = cc in
    let fronts : rest ≡ bs = more.0 in (cc, more.1)

-- a token has one kind only
name_number : (w : List ℕ) → IsToken Name w → IsToken Number w → ⊥
name_number w named digits =
    let name = name_begins w named in
    let number = number_begins w digits in
    let same = same_byte w name.0 number.0 w number.1 [] (digit_small number.0 number.3) (encode_utf8_all name.1, name.2) number.2 (sym (append-nil w)) in
    begins_no_digit name.0 name.3 (subst (λ v. is_ascii_digit v ≡ true) (sym same) number.3)

name_symbol : (w : List ℕ) → IsToken Name w → IsToken Symbol w → ⊥
name_symbol w named symbol =
    let name = name_begins w named in
    let first = symbol_begins w symbol in
    let same = same_byte w name.0 first.0 w first.1 [] (mark_small first.0 first.3) (encode_utf8_all name.1, name.2) first.2 (sym (append-nil w)) in
    begins_no_mark name.0 name.3 (subst (λ v. is_mark v ≡ true) (sym same) first.3)

number_symbol : (w : List ℕ) → IsToken Number w → IsToken Symbol w → ⊥
number_symbol w digits symbol =
    let number = number_begins w digits in
    let first = symbol_begins w symbol in
    let whole : number.0 ∷ number.1 ≡ first.0 ∷ first.1 = sym number.2 ∙ first.2 in
    let same : number.0 ≡ first.0 = cc in
    digit_no_mark number.0 number.3 (subst (λ v. is_mark v ≡ true) (sym same) first.3)

one_kind : (k j : Kind) (w : List ℕ) → IsToken k w → IsToken j w → k ≡ j
one_kind Name Name w a b = refl
one_kind Number Number w a b = refl
one_kind Symbol Symbol w a b = refl
one_kind Name Number w a b = absurd (name_number w a b)
one_kind Name Symbol w a b = absurd (name_symbol w a b)
one_kind Number Name w a b = absurd (name_number w b a)
one_kind Number Symbol w a b = absurd (number_symbol w a b)
one_kind Symbol Name w a b = absurd (name_symbol w b a)
one_kind Symbol Number w a b = absurd (number_symbol w b a)

pub one_longest : (k j : Kind) (v w bytes : List ℕ) → IsLongest k v bytes → IsLongest j w bytes → (k ≡ j) × (v ≡ w)
one_longest k j v w bytes a b =
    let le = a.longest j w b.front.0 b.is_token b.front.1 in
    let ge = b.longest k v a.front.0 a.is_token a.front.1 in
    let same = same_front v w a.front.0 b.front.0 (omega (arith, le, ge)) (sym a.front.1 ∙ b.front.1) in
    (one_kind k j w (subst (IsToken k) same.0 a.is_token) b.is_token, same.0)

-- ---- at most one list of tokens

-- two lists of tokens from one place are equal if no token begins where each ends
pub lexes_once : (text : List ℕ) (at : ℕ) (ms ns : List TokenParts) (m n : ℕ) → BeginsNone (drop m text) → BeginsNone (drop n text) → LexesFrom text at ms m → LexesFrom text at ns n → (ms ≡ ns) × (m ≡ n)
lexes_once text at [] [] m n sm sn a b = (refl, sym a ∙ b)
lexes_once text at [] (token_parts j q u ∷ ns) m n sm sn a (place, longest, more) =
    absurd (sm j u longest.front.0 longest.is_token (subst (λ p. drop p text ≡ u ++ longest.front.0) (sym place ∙ a) longest.front.1))
lexes_once text at (token_parts k p t ∷ ms) [] m n sm sn (place, longest, more) b =
    absurd (sn k t longest.front.0 longest.is_token (subst (λ q. drop q text ≡ t ++ longest.front.0) (sym place ∙ b) longest.front.1))
lexes_once text at (token_parts k p t ∷ ms) (token_parts j q u ∷ ns) m n sm sn (place, longest, more) (spot, best, further) =
    let places : p ≡ q = sym place ∙ spot in
    let same = one_longest k j t u (drop p text) longest (subst (λ r. IsLongest j u (drop r text)) (sym places) best) in
    let ends : q + length u ≡ p + length t = omega (arith, places, ap length same.1) in
    let after = lexes_once text (p + length t) ms ns m n sm sn more (subst (λ r. LexesFrom text r ns n) ends further) in
    let kinds : k ≡ j = same.0 in
    let texts : t ≡ u = same.1 in
    let rests : ms ≡ ns = after.0 in (cc, after.1)

-- no token begins at the end of a text
pub none_at_end : (text : List ℕ) → BeginsNone (drop (length text) text)
none_at_end text = subst BeginsNone (sym (drop-length text)) none_empty

pub one_lexing : (text : List ℕ) (ms ns : List TokenParts) → Lexes text ms → Lexes text ns → ms ≡ ns
one_lexing text ms ns a b = (lexes_once text 0 ms ns (length text) (length text) (none_at_end text) (none_at_end text) a.tokens b.tokens).0

pub one_bad : (text : List ℕ) (m n : ℕ) → FirstBad text m → FirstBad text n → m ≡ n
one_bad text m n a b = (lexes_once text 0 a.before.0 b.before.0 m n a.none b.none a.before.1 b.before.1).1

pub not_both : (text : List ℕ) (ms : List TokenParts) (n : ℕ) → Lexes text ms → FirstBad text n → ⊥
not_both text ms n a b =
    let same = lexes_once text 0 ms b.before.0 (length text) n (none_at_end text) b.none a.tokens b.before.1 in
    omega (arith, same.1, b.inside)

-- ---- at least one reading

abbrev Front : List ℕ → Type 0
Front bytes = (kind : Kind) × (token : List ℕ) × IsLongest kind token bytes

-- no token at the start has more than `n` bytes
abbrev NoLonger : List ℕ → ℕ → Type 0
NoLonger bytes n = (kind : Kind) (token rest : List ℕ) → IsToken kind token → bytes ≡ token ++ rest → length token ≤ n

found : (bytes : List ℕ) (n : ℕ) (kind : Kind) → n ≤ length bytes → NoLonger bytes n → IsToken kind (take n bytes) → Front bytes
found bytes n kind within no_longer token = (
  kind,
  take n bytes,
  record {
    is_token = token;
    front = (drop n bytes, sym (take-append-drop n bytes));
    longest = λ other longer rest is_token front. omega (arith, no_longer other longer rest is_token front, length-take-le n bytes within);
  },
)

is_taken : (bytes token rest : List ℕ) (n : ℕ) → bytes ≡ token ++ rest → length token ≡ n → take n bytes ≡ token
is_taken bytes token rest n front len = subst (λ l. take n l ≡ token) (sym front) (take_at token rest n len)

shorter : (bytes : List ℕ) (n : ℕ) → ((kind : Kind) → is_token kind (take (suc n) bytes) ≡ false) → NoLonger bytes (suc n) → NoLonger bytes n
shorter bytes n none no_longer kind token rest is front = elim (cases_lt n (length token)) [
  | inl more ↦
      let len : length token ≡ suc n = omega (arith, more, no_longer kind token rest is front) in
      let no : is_token kind token ≡ false = subst (λ l. is_token kind l ≡ false) (is_taken bytes token rest (suc n) front len) (none kind) in
      absurd (cc (is, no))
  | inr less ↦ less
]

front_step : (bytes : List ℕ) (n : ℕ) (a b c : Bool) → suc n ≤ length bytes → NoLonger bytes (suc n) → is_token Name (take (suc n) bytes) ≡ a → is_token Number (take (suc n) bytes) ≡ b → is_token Symbol (take (suc n) bytes) ≡ c
    → (NoLonger bytes n → Front bytes ⊎ BeginsNone bytes) → Front bytes ⊎ BeginsNone bytes
front_step bytes n true b c within no_longer e f g less = inl (found bytes (suc n) Name within no_longer e)
front_step bytes n false true c within no_longer e f g less = inl (found bytes (suc n) Number within no_longer f)
front_step bytes n false false true within no_longer e f g less = inl (found bytes (suc n) Symbol within no_longer g)
front_step bytes n false false false within no_longer e f g less = less (shorter bytes n none no_longer)
  where
    none : (kind : Kind) → is_token kind (take (suc n) bytes) ≡ false
    none Name = e
    none Number = f
    none Symbol = g

front_within : (bytes : List ℕ) (n : ℕ) → n ≤ length bytes → NoLonger bytes n → Front bytes ⊎ BeginsNone bytes
front_within bytes zero within no_longer = inr (λ kind token rest is front. omega (arith, token_some kind token is, no_longer kind token rest is front))
front_within bytes (suc n) within no_longer =
    front_step bytes n _ _ _ within no_longer refl refl refl (front_within bytes n (omega (arith, within)))

-- the bytes begin with a longest token or with no token
pub front_or_none : (bytes : List ℕ) → Front bytes ⊎ BeginsNone bytes
front_or_none bytes = front_within bytes (length bytes) (omega arith) (λ kind token rest is front. omega (arith, ap length front, length-append token rest))

-- tokens up to the end of the text, or up to a place where no token begins
abbrev Outcome : List ℕ → ℕ → Type 0
Outcome text at = ((ms : List TokenParts) × LexesFrom text at ms (length text)) ⊎ ((n : ℕ) × (ms : List TokenParts) × LexesFrom text at ms n × (n < length text) × BeginsNone (drop n text))

after_token : (text : List ℕ) (at next : ℕ) (kind : Kind) (token : List ℕ) → IsLongest kind token (drop (gap_end text at) text) → gap_end text at + length token ≡ next → Outcome text next → Outcome text at
after_token text at next kind token longest e (inl (ms, more)) =
    inl (token_parts kind (gap_end text at) token ∷ ms, (refl, longest, subst (λ p. LexesFrom text p ms (length text)) (sym e) more))
after_token text at next kind token longest e (inr (n, ms, more, inside, none)) =
    inr (n, token_parts kind (gap_end text at) token ∷ ms, (refl, longest, subst (λ p. LexesFrom text p ms n) (sym e) more), inside, none)

pub gap_inside : (text : List ℕ) (at : ℕ) → at ≤ length text → gap_end text at ≤ length text
gap_inside text at within = omega (arith, gap_within false (drop at text), length-drop at text)

outcome_step : (text : List ℕ) (at fuel : ℕ) → at ≤ length text → length text ≤ at + fuel → ((next : ℕ) → next ≤ length text → length text + 1 ≤ next + fuel → Outcome text next) → Outcome text at
outcome_step text at fuel within enough go = elim (cases_lt (gap_end text at) (length text)) [
  | inl inside ↦ elim (front_or_none (drop (gap_end text at) text)) [
    | inl (kind, token, longest) ↦
        let some = token_some kind token longest.is_token in
        let size : length (drop (gap_end text at) text) ≡ length token + length longest.front.0 = ap length longest.front.1 ∙ length-append token longest.front.0 in
        after_token text at (gap_end text at + length token) kind token longest refl
        (go (gap_end text at + length token) (omega (arith, size, length-drop (gap_end text at) text, inside)) (omega (arith, some, enough)))
    | inr none ↦ inr (gap_end text at, [], refl, inside, none)
  ]
  | inr end ↦ inl ([], omega (arith, end, gap_inside text at within))
]

outcome : (text : List ℕ) (fuel at : ℕ) → at ≤ length text → length text ≤ at + fuel → Outcome text at
outcome text zero at within enough = outcome_step text at zero within enough (λ next inside more. absurd (omega (arith, inside, more)))
outcome text (suc fuel) at within enough = outcome_step text at (suc fuel) within enough (λ next inside more. outcome text fuel next inside (omega (arith, more)))

pub some_reading : (text : List ℕ) → IsText text → ((ms : List TokenParts) × Lexes text ms) ⊎ ((n : ℕ) × FirstBad text n)
some_reading text is_text = elim (outcome text (length text) 0 (omega arith) (omega arith)) [
  | inl (ms, lexed) ↦ inl (ms, record { is_text = is_text; tokens = lexed })
  | inr (n, ms, lexed, inside, none) ↦ inr (n, record { is_text = is_text; before = (ms, lexed); inside = inside; none = none })
]
