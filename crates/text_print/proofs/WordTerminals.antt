-- The terminals of names and decimal numbers.
use Rattle.std.proofs.Common.{◌≡◌, ◌<◌, ◌^◌, ℕ, List, length, true, false, nat_lt, refl, sym, ◌∙◌, lit<}
use Rattle.std.proofs.lemmas.Bool.{or_parts, lt-ltb, false_from_ne_true, and_from}
use Rattle.std.proofs.lemmas.Fmt.{digits_decimal, digits_value-decimal, decimal_nonempty, decimal_injective, decimal_digit}
use Rattle.std.proofs.lemmas.Slice.Eq.{bytes_eq-Decides}
use Rattle.std.specs.Prelude.{codes, bytes_eq}
use Rattle.std.specs.Fmt.{decimal}
use Rattle.std.specs.List.{list_all}
use Rattle.std.specs.Char.{is_ascii_digit}
use Rattle.kat_model.specs.declared.expression.Rel.{Rel}
use Rattle.kat_model.specs.declared.expression.Rel.TheVariants.{Eq, Ne, Lt, Le, Gt, Ge}
use Rattle.text_parser.specs.Keywords.{is_keyword}
use Rattle.text_parser.specs.declared.terminal.Terminal.TheVariants.{Compares, Number, Name}
use Rattle.text_parser.specs.Terminals.{symbol_terminal, keyword_terminal, value_from, is_digits, number_terminal}
use Rattle.text_parser.proofs.Numerals.{digits_are_numerals}
use Rattle.text_print.specs.Printing.{relation_text}

pub relation_terminal : (r : Rel) → symbol_terminal (relation_text r) ≡ Compares r
relation_terminal Eq = refl
relation_terminal Ne = refl
relation_terminal Lt = refl
relation_terminal Le = refl
relation_terminal Gt = refl
relation_terminal Ge = refl

-- a name that is not a keyword has the terminal `Name`
pub name_terminal : (name : List ℕ) → is_keyword name ≡ false → keyword_terminal name ≡ Name
name_terminal name e =
    let a = or_parts (bytes_eq name (codes "test")) _ e in
    let b = or_parts (bytes_eq name (codes "action")) _ a.1 in
    let c = or_parts (bytes_eq name (codes "var")) _ b.1 in
    let d = or_parts (bytes_eq name (codes "prog")) _ c.1 in
    let f = or_parts (bytes_eq name (codes "term")) _ d.1 in
    let g = or_parts (bytes_eq name (codes "hyp")) _ f.1 in
    let h = or_parts (bytes_eq name (codes "rounds")) _ g.1 in
    let i = or_parts (bytes_eq name (codes "width")) _ h.1 in
    let j = or_parts (bytes_eq name (codes "goal")) _ i.1 in
    let k = or_parts (bytes_eq name (codes "equal")) _ j.1 in
    let l = or_parts (bytes_eq name (codes "below")) _ k.1 in
    let m = or_parts (bytes_eq name (codes "triple")) _ l.1 in
    let n = or_parts (bytes_eq name (codes "skip")) _ m.1 in
    let o = or_parts (bytes_eq name (codes "abort")) _ n.1 in
    let p = or_parts (bytes_eq name (codes "assert")) _ o.1 in
    let q = or_parts (bytes_eq name (codes "if")) _ p.1 in
    let r = or_parts (bytes_eq name (codes "else")) _ q.1 in
    let s = or_parts (bytes_eq name (codes "while")) _ r.1 in
    let t = or_parts (bytes_eq name (codes "true")) _ s.1 in
    let u = or_parts (bytes_eq name (codes "false")) _ t.1 in
    rw (t.0, u.0, a.0, b.0, c.0, d.0, f.0, g.0, h.0, i.0, j.0, k.0, l.0, m.0, n.0, o.0, p.0, q.0, r.0, s.0) refl

-- different numbers have different decimal forms
written_apart : (n m : ℕ) (text : List ℕ) → n < 2 ^ 64 → m < 2 ^ 64 → decimal m ≡ text → (n ≡ m → ⊥) → bytes_eq (decimal n) text ≡ false
written_apart n m text lt mt e other = false_from_ne_true _ (λ t. other (decimal_injective n m lt mt ((bytes_eq-Decides (decimal n) text).0 t ∙ sym e)))

pub zero_written : decimal 0 ≡ codes "0"
zero_written = decimal_digit 0 (lit< tt)

pub one_written : decimal 1 ≡ codes "1"
one_written = decimal_digit 1 (lit< tt)

terminal_by : (text : List ℕ) (n : ℕ) → bytes_eq text (codes "0") ≡ false → bytes_eq text (codes "1") ≡ false → is_digits text ≡ true → value_from 0 text ≡ n → nat_lt n (2 ^ 64) ≡ true → number_terminal text ≡ Number n
terminal_by text n e f g h k = rw (e, f, g, h, k) refl

-- a number other than 0 and 1 has the terminal `Number`
pub number_is : (n : ℕ) → n < 2 ^ 64 → (n ≡ 0 → ⊥) → (n ≡ 1 → ⊥) → number_terminal (decimal n) ≡ Number n
number_is n lt some more =
    terminal_by (decimal n) n
    (written_apart n 0 (codes "0") lt (lit< tt) zero_written some)
    (written_apart n 1 (codes "1") lt (lit< tt) one_written more)
    (and_from (list_all is_ascii_digit (decimal n)) (nat_lt 0 (length (decimal n))) (digits_decimal digits_are_numerals n lt) (lt-ltb 0 (length (decimal n)) (decimal_nonempty n lt)))
    (digits_value-decimal digits_are_numerals n lt)
    (lt-ltb n (2 ^ 64) lt)
