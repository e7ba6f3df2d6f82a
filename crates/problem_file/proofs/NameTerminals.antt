-- The tokens that are names in the grammar.
use Rattle.std.proofs.Common.{◌≡◌, ◌<◌, ◌+◌, ℕ, zero, suc, List, [], ◌∷◌, length, drop, get_or, Option, Some, None, Bool, true, false, cond, not, Ok, Err, refl, sym, ap, ◌∙◌, subst, arith}
use Rattle.std.specs.Prelude.{codes, bytes_eq}
use Rattle.text_parser.specs.declared.fault.TextFault.TheVariants.{Syntax}
use Rattle.text_parser.specs.declared.token.Kind.{Kind}
use Rattle.text_parser.specs.declared.token.Kind.TheVariants as kind
use Rattle.text_parser.specs.declared.token.Token.{Token}
use Rattle.text_parser.specs.Kinds.{IsToken}
use Rattle.text_parser.specs.Keywords.{is_keyword}
use Rattle.kat_model.specs.declared.expression.Rel.TheVariants.{Eq, Ne, Lt, Le, Gt, Ge}
use Rattle.text_parser.specs.declared.terminal.Keyword.TheVariants as word
use Rattle.text_parser.specs.declared.terminal.Separator.TheVariants.{Comma, Semicolon, CurlyOpen, CurlyClose, Equals, Becomes, Caret}
use Rattle.text_parser.specs.declared.terminal.Terminal.{Terminal}
use Rattle.text_parser.specs.declared.terminal.Terminal.TheVariants.{RoundOpen, RoundClose, SquareOpen, SquareClose, Bang, Star, Plus, Minus, Dot, And, Or, Compares, Zero, One, True, False, Name, Keyword, Separator, Other}
use Rattle.text_parser.specs.Terminals.{terminal_of, symbol_terminal, keyword_terminal, number_terminal, numbered, small_number, is_digits}
use Rattle.text_parser.specs.Lexemes.{Lexeme, lexeme, lexemes}
use Rattle.text_parser.specs.ScopeParts.{IsIdentifier}
use Rattle.problem_file.specs.Items.{name_at}

-- whether a terminal is `Name`
abbrev is_name : Terminal → Bool
is_name Name = true
is_name _ = false

-- the terminal is not `Name`
record IsOther (s : Terminal) : Type 0 where
  no_name : is_name s ≡ false

-- a choice between two terminals that are not names
neither : (b : Bool) (s rest : Terminal) → is_name s ≡ false → IsOther rest → IsOther (cond b s rest)
neither true s rest e h = record { no_name = e }
neither false s rest e h = h

-- a choice that is a name although its first terminal is not
second : (b : Bool) (s rest : Terminal) → is_name s ≡ false → cond b s rest ≡ Name → (b ≡ false) × (rest ≡ Name)
second true s rest e h = absurd (let k : is_name s ≡ true = ap is_name h in cc)
second false s rest e h = (refl, h)

symbol_apart : (text : List ℕ) → IsOther (symbol_terminal text)
symbol_apart text =
    neither (bytes_eq text (codes "(")) RoundOpen _ refl (
    neither (bytes_eq text (codes ")")) RoundClose _ refl (
    neither (bytes_eq text (codes "[")) SquareOpen _ refl (
    neither (bytes_eq text (codes "]")) SquareClose _ refl (
    neither (bytes_eq text (codes "!")) Bang _ refl (
    neither (bytes_eq text (codes "*")) Star _ refl (
    neither (bytes_eq text (codes "+")) Plus _ refl (
    neither (bytes_eq text (codes "-")) Minus _ refl (
    neither (bytes_eq text (codes ".")) Dot _ refl (
    neither (bytes_eq text (codes "&&")) And _ refl (
    neither (bytes_eq text (codes "||")) Or _ refl (
    neither (bytes_eq text (codes "==")) (Compares Eq) _ refl (
    neither (bytes_eq text (codes "!=")) (Compares Ne) _ refl (
    neither (bytes_eq text (codes "<")) (Compares Lt) _ refl (
    neither (bytes_eq text (codes "<=")) (Compares Le) _ refl (
    neither (bytes_eq text (codes ">")) (Compares Gt) _ refl (
    neither (bytes_eq text (codes ">=")) (Compares Ge) _ refl (
    neither (bytes_eq text (codes ",")) (Separator Comma) _ refl (
    neither (bytes_eq text (codes ";")) (Separator Semicolon) _ refl (
    neither (bytes_eq text (codes "{")) (Separator CurlyOpen) _ refl (
    neither (bytes_eq text (codes "}")) (Separator CurlyClose) _ refl (
    neither (bytes_eq text (codes "=")) (Separator Equals) _ refl (
    neither (bytes_eq text (codes ":=")) (Separator Becomes) _ refl (
    neither (bytes_eq text (codes "^")) (Separator Caret) Other refl (
    record { no_name = refl }))))))))))))))))))))))))

numbered_apart : (n : Option ℕ) → IsOther (numbered n)
numbered_apart None = record { no_name = refl }
numbered_apart (Some n) = record { no_name = refl }

number_apart : (text : List ℕ) → IsOther (number_terminal text)
number_apart text = neither (bytes_eq text (codes "0")) Zero _ refl (neither (bytes_eq text (codes "1")) One _ refl (neither (not (is_digits text)) Other _ refl (numbered_apart (small_number text))))

-- no keyword has the terminal of a name
no_keyword : (text : List ℕ) → keyword_terminal text ≡ Name → is_keyword text ≡ false
no_keyword text e =
    let a = second (bytes_eq text (codes "true")) True _ refl e in
    let b = second (bytes_eq text (codes "false")) False _ refl a.1 in
    let c = second (bytes_eq text (codes "test")) (Keyword word.Test) _ refl b.1 in
    let d = second (bytes_eq text (codes "action")) (Keyword word.Action) _ refl c.1 in
    let f = second (bytes_eq text (codes "var")) (Keyword word.Var) _ refl d.1 in
    let g = second (bytes_eq text (codes "prog")) (Keyword word.Prog) _ refl f.1 in
    let h = second (bytes_eq text (codes "term")) (Keyword word.Term) _ refl g.1 in
    let i = second (bytes_eq text (codes "hyp")) (Keyword word.Hyp) _ refl h.1 in
    let j = second (bytes_eq text (codes "rounds")) (Keyword word.Rounds) _ refl i.1 in
    let k = second (bytes_eq text (codes "width")) (Keyword word.Width) _ refl j.1 in
    let l = second (bytes_eq text (codes "goal")) (Keyword word.Goal) _ refl k.1 in
    let m = second (bytes_eq text (codes "equal")) (Keyword word.Equal) _ refl l.1 in
    let n = second (bytes_eq text (codes "below")) (Keyword word.Below) _ refl m.1 in
    let o = second (bytes_eq text (codes "triple")) (Keyword word.Triple) _ refl n.1 in
    let p = second (bytes_eq text (codes "skip")) (Keyword word.Skip) _ refl o.1 in
    let q = second (bytes_eq text (codes "abort")) (Keyword word.Abort) _ refl p.1 in
    let r = second (bytes_eq text (codes "assert")) (Keyword word.Assert) _ refl q.1 in
    let s = second (bytes_eq text (codes "if")) (Keyword word.If) _ refl r.1 in
    let t = second (bytes_eq text (codes "else")) (Keyword word.Else) _ refl s.1 in
    let u = second (bytes_eq text (codes "while")) (Keyword word.While) _ refl t.1 in
    rw (c.0, d.0, f.0, g.0, h.0, i.0, j.0, k.0, l.0, m.0, n.0, o.0, p.0, q.0, r.0, s.0, t.0, u.0, a.0, b.0) refl

apart : (s : Terminal) → IsOther s → s ≡ Name → ⊥
apart s other h = let k : is_name s ≡ true = ap is_name h in let e = other.no_name in absurd cc

-- a token that is a name in the grammar is an identifier
pub identifier : (t : Kind) (text : List ℕ) (s : Terminal) → IsToken t text → s ≡ terminal_of t text → s ≡ Name → IsIdentifier text
identifier kind.Name text s token is name = record { name = token; no_keyword = no_keyword text (sym is ∙ name) }
identifier kind.Number text s token is name = absurd (apart (number_terminal text) (number_apart text) (sym is ∙ name))
identifier kind.Symbol text s token is name = absurd (apart (symbol_terminal text) (symbol_apart text) (sym is ∙ name))

-- the lexeme of a token at its index
here : (ts : List Token) (i : ℕ) (t : Token) → t ≡ get_or ts i t → i < length ts → drop i (lexemes ts) ≡ lexeme (terminal_of t.kind t.text.now) t.at t.text.now ∷ drop (i + 1) (lexemes ts)
here [] i t e lt = absurd (omega arith)
here (x ∷ xs) zero t e lt = subst (λ (u : Token). lexemes (x ∷ xs) ≡ lexeme (terminal_of u.kind u.text.now) u.at u.text.now ∷ lexemes xs) (sym e) refl
here (x ∷ xs) (suc i) t e lt =
    let h = here xs i t e (omega arith) in
    let next : suc i + 1 ≡ suc (i + 1) = omega arith in
    rw next h

pub name_here : (ts : List Token) (i : ℕ) (t : Token) (s : Terminal) → s ≡ terminal_of t.kind t.text.now → s ≡ Name → t ≡ get_or ts i t → i < length ts → name_at (drop i (lexemes ts)) ≡ Ok (record { at = t.at; text = t.text.now })
name_here ts i t s is name e lt = rw (here ts i t e lt, sym is ∙ name) refl

refused : (s : Terminal) (at : ℕ) (text : List ℕ) (ts : List Lexeme) → (s ≡ Name → ⊥) → name_at (lexeme s at text ∷ ts) ≡ Err (Syntax at)
refused Name at text ts other = absurd (other refl)
refused _ at text ts other = refl

pub no_name_here : (ts : List Token) (i : ℕ) (t : Token) (s : Terminal) → s ≡ terminal_of t.kind t.text.now → (s ≡ Name → ⊥) → t ≡ get_or ts i t → i < length ts → name_at (drop i (lexemes ts)) ≡ Err (Syntax t.at)
no_name_here ts i t s is other e lt = rw (here ts i t e lt) (refused (terminal_of t.kind t.text.now) t.at t.text.now (drop (i + 1) (lexemes ts)) (λ name. other (is ∙ name)))
