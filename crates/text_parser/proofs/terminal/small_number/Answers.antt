use Rattle.std.proofs.Common.{◌≡◌, ℕ, ◌^◌, ◌<◌, List, length, true, ◌&&◌, cond, nat_lt, Option, Some, None, Result, Ok, Err, refl, ap, sym, inl, inr, ◌∙◌}
use Rattle.std.specs.Result.{OkIff}
use Rattle.std.specs.Str.Parse.{ParsesUnsigned}
use Rattle.std.specs.List.{list_all}
use Rattle.std.specs.Char.{is_ascii_digit}
use Rattle.std.proofs.lemmas.Bool.{lt-ltb, le-ltb, ltb-true, cases_lt, and_parts}
use Rattle.std.proofs.lemmas.Str.Parse.{parse_digits}
use Rattle.text_parser.specs.Terminals.{value_from, small_number}
use Rattle.text_parser.proofs.terminal.small_number.Goals as goal
use Rattle.text_parser.proofs.Numerals.{digits_are_numerals}

abbrev kept : {E : Type 0} → Result ℕ E → Option ℕ
kept (Ok x) = Some x
kept (Err e) = None

given : {E : Type 0} (r : Result ℕ E) (n v : ℕ) → 0 < n → OkIff r ((0 < n) × (v < 2 ^ 64)) v → kept r ≡ cond (nat_lt v (2 ^ 64)) (Some v) None
given (Ok x) n v some h = ap Some h.1 ∙ rw (lt-ltb v (2 ^ 64) h.0.1) refl
given (Err e) n v some h = elim (cases_lt v (2 ^ 64)) [ inl lt ↦ absurd (h (some, lt)) | inr le ↦ rw (le-ltb v (2 ^ 64) le) refl ]

known : {E : Type 0} (text : List ℕ) (r : Result ℕ E) → (list_all is_ascii_digit text && nat_lt 0 (length text)) ≡ true → ParsesUnsigned 64 10 text r → kept r ≡ small_number text
known text r e parsed =
    let parts = and_parts (list_all is_ascii_digit text) (nat_lt 0 (length text)) e in
    given r (length text) (value_from 0 text) (ltb-true 0 (length text) parts.1) (parse_digits digits_are_numerals 64 text r parsed parts.0)

pub returns-in-Ok : goal.returns-in-Ok
returns-in-Ok c = ap kept (sym c.in-Ok.is) ∙ known c.args.text.now c.parse.result c.requires c.parse.ensures.value.0

pub returns-in-Err : goal.returns-in-Err
returns-in-Err c = ap kept (sym c.in-Err.is) ∙ known c.args.text.now c.parse.result c.requires c.parse.ensures.value.0
