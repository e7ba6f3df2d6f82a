-- The pieces of a printed phrase are tokens that the following pieces do not extend.
use Rattle.std.proofs.Common.{◌≡◌, ◌<◌, ◌≤◌, ℕ, List, [], ◌∷◌, ◌++◌, length, Bool, true, false, cond, refl, sym, ap, ◌∙◌, subst, inl, inr, arith}
use Rattle.std.proofs.lemmas.Bool.{cases_lt, ne_eqb}
use Rattle.std.proofs.lemmas.Str.{encode_ascii}
use Rattle.std.specs.Prelude.{codes, encode_utf8, encode_utf8_all}
use Rattle.std.specs.Fmt.{decimal}
use Rattle.kat_model.specs.declared.expression.Rel.{Rel}
use Rattle.kat_model.specs.declared.expression.Rel.TheVariants.{Eq, Ne, Lt, Le, Gt, Ge}
use Rattle.kat_model.specs.Trees.{TestTree, bottom, top, prim, complement, meet, join, Term, zero, one, test, act, sum, product, star}
use Rattle.kat_model.specs.Expressions.{ExprTree, number, variable, plus, minus, times, CondTree, always, never, named, compared, negation, both, either}
use Rattle.text_parser.specs.declared.token.Kind.TheVariants.{Name, Number, Symbol}
use Rattle.text_parser.specs.Kinds.{IsToken}
use Rattle.text_parser.specs.Pieces.{Piece, word, symbol, gap, spelled, EndsBefore, AreSeparate}
use Rattle.text_parser.proofs.Beginnings.{is_mark, name_begins, begins_no_mark, char_some}
use Rattle.text_parser.proofs.Gaps.{char_high}
use Rattle.text_parser.proofs.PrintedWords.{keyword_is_name, decimal_is_number}
use Rattle.text_parser.specs.declared.meaning.Meaning.{Meaning}
use Rattle.text_parser.specs.declared.meaning.Meaning.TheVariants.{Test, Action, Var}
use Rattle.text_parser.specs.ScopeParts.{ScopeParts, IsNameOf}
use Rattle.text_print.specs.Printing.{relation_text, cond_of, is_star, in_round, spaced, expr_pieces, cond_pieces, test_pieces, term_pieces, ExprIsNamed, CondIsNamed, TermIsNamed}

-- the spelled text does not extend a name or a number before it
pub record EndsWords (ps : List Piece) : Type 0 where
  pub name : (bytes : List ℕ) → EndsBefore Name bytes (spelled ps)
  pub number : (bytes : List ℕ) → EndsBefore Number bytes (spelled ps)

-- the pieces are separate if the pieces that follow are separate and end words
abbrev pub Separate : (List Piece → List Piece) → Type 0
Separate pieces = (ps : List Piece) → EndsWords ps → AreSeparate ps → AreSeparate (pieces ps)

pub nothing_ends : EndsWords []
nothing_ends = record { name = λ b. tt; number = λ b. tt }

pub blank_ends : (ps : List Piece) → EndsWords (gap 32 ∷ ps)
blank_ends ps = record { name = λ b. refl; number = λ b. refl }

pub round_ends : (ps : List Piece) → EndsWords (symbol (codes ")") ∷ ps)
round_ends ps = record { name = λ b. refl; number = λ b. refl }

square_ends : (ps : List Piece) → EndsWords (symbol (codes "]") ∷ ps)
square_ends ps = record { name = λ b. refl; number = λ b. refl }

dot_ends : (ps : List Piece) → EndsWords (symbol (codes ".") ∷ ps)
dot_ends ps = record { name = λ b. refl; number = λ b. refl }

star_ends : (ps : List Piece) → EndsWords (symbol (codes "*") ∷ ps)
star_ends ps = record { name = λ b. refl; number = λ b. refl }

-- ---- symbols that no byte extends

pub open_alone : (rest : List ℕ) → EndsBefore Symbol (codes "(") rest
open_alone [] = tt
open_alone (b ∷ bs) = refl

pub close_alone : (rest : List ℕ) → EndsBefore Symbol (codes ")") rest
close_alone [] = tt
close_alone (b ∷ bs) = refl

square_open_alone : (rest : List ℕ) → EndsBefore Symbol (codes "[") rest
square_open_alone [] = tt
square_open_alone (b ∷ bs) = refl

square_close_alone : (rest : List ℕ) → EndsBefore Symbol (codes "]") rest
square_close_alone [] = tt
square_close_alone (b ∷ bs) = refl

dot_alone : (rest : List ℕ) → EndsBefore Symbol (codes ".") rest
dot_alone [] = tt
dot_alone (b ∷ bs) = refl

star_alone : (rest : List ℕ) → EndsBefore Symbol (codes "*") rest
star_alone [] = tt
star_alone (b ∷ bs) = refl

-- a symbol that a blank may follow
pub record IsSpaced (between : List ℕ) : Type 0 where
  pub symbol : IsToken Symbol between
  pub ends : (rest : List ℕ) → EndsBefore Symbol between (32 ∷ rest)

relation_spaced : (r : Rel) → IsSpaced (relation_text r)
relation_spaced Eq = record { symbol = refl; ends = λ rest. refl }
relation_spaced Ne = record { symbol = refl; ends = λ rest. refl }
relation_spaced Lt = record { symbol = refl; ends = λ rest. refl }
relation_spaced Le = record { symbol = refl; ends = λ rest. refl }
relation_spaced Gt = record { symbol = refl; ends = λ rest. refl }
relation_spaced Ge = record { symbol = refl; ends = λ rest. refl }

spaced_separate : (between : List ℕ) (left right : List Piece → List Piece) → IsSpaced between → Separate left → Separate right → (ps : List Piece) → AreSeparate ps → AreSeparate (spaced between left right ps)
spaced_separate between left right is f g ps after =
    let last : AreSeparate (symbol (codes ")") ∷ ps) = (refl, close_alone (spelled ps), after) in
    let second = g (symbol (codes ")") ∷ ps) (round_ends ps) last in
    let middle : AreSeparate (gap 32 ∷ symbol between ∷ gap 32 ∷ right (symbol (codes ")") ∷ ps)) = (refl, (is.symbol, is.ends (spelled (right (symbol (codes ")") ∷ ps))), (refl, second))) in
    (refl, open_alone _, f (gap 32 ∷ symbol between ∷ gap 32 ∷ right (symbol (codes ")") ∷ ps)) (blank_ends _) middle)

-- two phrases in parentheses with a dot between them
pub product_separate : (left right : List Piece → List Piece) → Separate left → Separate right → (ps : List Piece) → AreSeparate ps → AreSeparate (symbol (codes "(") ∷ left (symbol (codes ".") ∷ right (symbol (codes ")") ∷ ps)))
product_separate left right f g ps after =
    let last : AreSeparate (symbol (codes ")") ∷ ps) = (refl, close_alone (spelled ps), after) in
    let second = g (symbol (codes ")") ∷ ps) (round_ends ps) last in
    let middle : AreSeparate (symbol (codes ".") ∷ right (symbol (codes ")") ∷ ps)) = (refl, dot_alone _, second) in
    (refl, open_alone _, f (symbol (codes ".") ∷ right (symbol (codes ")") ∷ ps)) (dot_ends _) middle)

-- a phrase with or without parentheses
pub rounded_separate : (rounded : Bool) (inside : List Piece → List Piece) → Separate inside → (ps : List Piece) → EndsWords ps → AreSeparate ps → AreSeparate (cond rounded (in_round inside ps) (inside ps))
rounded_separate true inside f ps ends after =
    let closed : AreSeparate (symbol (codes ")") ∷ ps) = (refl, close_alone (spelled ps), after) in
    (refl, open_alone (spelled (inside (symbol (codes ")") ∷ ps))), f (symbol (codes ")") ∷ ps) (round_ends ps) closed)
rounded_separate false inside f ps ends after = f ps ends after

-- ---- a `!` before a byte other than `=`

abbrev AllHigh : List ℕ → Type 0
AllHigh [] = Unit {0}
AllHigh (b ∷ bs) = (128 ≤ b) × AllHigh bs

bang_alone : (b : ℕ) (bs : List ℕ) → (b ≡ 61 → ⊥) → EndsBefore Symbol (codes "!") (b ∷ bs)
bang_alone b bs other = let h = ne_eqb b 61 other in rw h refl

high_first : (front rest : List ℕ) → 0 < length front → AllHigh front → (b : ℕ) × (bs : List ℕ) × (front ++ rest ≡ b ∷ bs) × (b ≡ 61 → ⊥)
high_first [] rest some high = absurd (omega arith)
high_first (b ∷ bs) rest some high = (b, bs ++ rest, refl, λ e. let h : 128 ≤ b = high.0 in absurd (omega arith))

name_first : (name : List ℕ) → IsToken Name name → (b : ℕ) × (bs : List ℕ) × (name ≡ b ∷ bs) × (b ≡ 61 → ⊥)
name_first name is =
    let n = name_begins name is in
    elim (cases_lt n.0 128) [
      | inl small ↦ (n.0, encode_utf8_all n.1, n.2 ∙ ap (λ (l : List ℕ). l ++ encode_utf8_all n.1) (encode_ascii n.0 small), λ e. begins_no_mark n.0 n.3 (subst (λ (v : ℕ). is_mark v ≡ true) (sym e) refl))
      | inr high ↦ let h = high_first (encode_utf8 n.0) (encode_utf8_all n.1) (char_some n.0) (char_high n.0 high) in (h.0, h.1, n.2 ∙ h.2, h.3)
    ]

bang_name : (name rest : List ℕ) → IsToken Name name → EndsBefore Symbol (codes "!") (name ++ rest)
bang_name name rest is = let h = name_first name is in subst (λ (l : List ℕ). EndsBefore Symbol (codes "!") (l ++ rest)) (sym h.2) (bang_alone h.0 (h.1 ++ rest) h.3)

module _ (w : ScopeParts) (names : Meaning → List ℕ) where
  pub word_separate : (m : Meaning) → IsNameOf w (names m) m → Separate (λ ps. word (names m) ∷ ps)
  word_separate m is ps ends after = (is.identifier.name, ends.name (names m), after)

  pub expr_separate : (e : ExprTree) → ExprIsNamed w names e → Separate (expr_pieces names e)
  expr_separate (number n) is ps ends after = (decimal_is_number n is, ends.number (decimal n), after)
  expr_separate (variable k) is ps ends after = word_separate (Var k) is ps ends after
  expr_separate (plus e f) is ps ends after = spaced_separate (codes "+") (expr_pieces names e) (expr_pieces names f) (record { symbol = refl; ends = λ rest. refl }) (expr_separate e is.0) (expr_separate f is.1) ps after
  expr_separate (minus e f) is ps ends after = spaced_separate (codes "-") (expr_pieces names e) (expr_pieces names f) (record { symbol = refl; ends = λ rest. refl }) (expr_separate e is.0) (expr_separate f is.1) ps after
  expr_separate (times e f) is ps ends after = spaced_separate (codes "*") (expr_pieces names e) (expr_pieces names f) (record { symbol = refl; ends = λ rest. refl }) (expr_separate e is.0) (expr_separate f is.1) ps after

  bang_ends : (b : CondTree) (ps : List Piece) → CondIsNamed w names b → EndsBefore Symbol (codes "!") (spelled (cond_pieces names b ps))
  bang_ends always ps is = refl
  bang_ends never ps is = refl
  bang_ends (named k) ps is = bang_name (names (Test k)) (spelled ps) is.identifier.name
  bang_ends (compared r e f) ps is = refl
  bang_ends (negation b) ps is = refl
  bang_ends (both b c) ps is = refl
  bang_ends (either b c) ps is = refl

  pub cond_separate : (b : CondTree) → CondIsNamed w names b → Separate (cond_pieces names b)
  cond_separate always is ps ends after = (keyword_is_name (codes "true") refl, ends.name (codes "true"), after)
  cond_separate never is ps ends after = (keyword_is_name (codes "false") refl, ends.name (codes "false"), after)
  cond_separate (named k) is ps ends after = word_separate (Test k) is ps ends after
  cond_separate (compared r e f) is ps ends after = spaced_separate (relation_text r) (expr_pieces names e) (expr_pieces names f) (relation_spaced r) (expr_separate e is.0) (expr_separate f is.1) ps after
  cond_separate (negation b) is ps ends after = (refl, bang_ends b ps is, cond_separate b is ps ends after)
  cond_separate (both b c) is ps ends after = spaced_separate (codes "&&") (cond_pieces names b) (cond_pieces names c) (record { symbol = refl; ends = λ rest. refl }) (cond_separate b is.0) (cond_separate c is.1) ps after
  cond_separate (either b c) is ps ends after = spaced_separate (codes "||") (cond_pieces names b) (cond_pieces names c) (record { symbol = refl; ends = λ rest. refl }) (cond_separate b is.0) (cond_separate c is.1) ps after

  pub bracket_separate : (b : CondTree) → CondIsNamed w names b → (ps : List Piece) → AreSeparate ps → AreSeparate (symbol (codes "[") ∷ cond_pieces names b (symbol (codes "]") ∷ ps))
  bracket_separate b is ps after = (refl, square_open_alone _, cond_separate b is (symbol (codes "]") ∷ ps) (square_ends ps) (refl, square_close_alone (spelled ps), after))

  test_separate : (b : TestTree) → CondIsNamed w names (cond_of b) → Separate (test_pieces names b)
  test_separate bottom is ps ends after = bracket_separate never is ps after
  test_separate top is ps ends after = bracket_separate always is ps after
  test_separate (prim k) is ps ends after = word_separate (Test k) is ps ends after
  test_separate (complement b) is ps ends after = bracket_separate (cond_of (complement b)) is ps after
  test_separate (meet b c) is ps ends after = bracket_separate (cond_of (meet b c)) is ps after
  test_separate (join b c) is ps ends after = bracket_separate (cond_of (join b c)) is ps after

  pub term_separate : (e : Term) → TermIsNamed w names e → Separate (term_pieces names e)
  term_separate zero is ps ends after = (refl, ends.number (codes "0"), after)
  term_separate one is ps ends after = (refl, ends.number (codes "1"), after)
  term_separate (test b) is ps ends after = test_separate b is ps ends after
  term_separate (act a) is ps ends after = word_separate (Action a) is ps ends after
  term_separate (sum e f) is ps ends after = spaced_separate (codes "+") (term_pieces names e) (term_pieces names f) (record { symbol = refl; ends = λ rest. refl }) (term_separate e is.0) (term_separate f is.1) ps after
  term_separate (product e f) is ps ends after = product_separate (term_pieces names e) (term_pieces names f) (term_separate e is.0) (term_separate f is.1) ps after
  term_separate (star e) is ps ends after = rounded_separate (is_star e) (term_pieces names e) (term_separate e is) (symbol (codes "*") ∷ ps) (star_ends ps) (refl, star_alone (spelled ps), after)
