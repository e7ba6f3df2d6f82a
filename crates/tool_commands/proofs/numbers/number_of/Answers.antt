use Rattle.std.proofs.Common.{◌≡◌, ℕ, ◌^◌, ◌<◌, List, length, Bool, true, ◌&&◌, cond, nat_lt, Option, Some, None, Result, Ok, Err, refl, ap, sym, inl, inr, ◌∙◌}
use Rattle.std.specs.Result.{OkIff}
use Rattle.std.specs.Str.Parse.{ParsesUnsigned}
use Rattle.std.specs.List.{list_all}
use Rattle.std.specs.Char.{is_ascii_digit}
use Rattle.std.proofs.lemmas.Bool.{and_parts, lt-ltb, le-ltb, ltb-true, cases_lt}
use Rattle.std.proofs.lemmas.Str.Parse.{parse_digits}
use Rattle.text_parser.specs.Terminals.{value_from, is_digits}
use Rattle.text_parser.proofs.Numerals.{digits_are_numerals}
use Rattle.tool_commands.specs.Numbers.{is_number, number_below}
use Rattle.tool_commands.proofs.numbers.number_of.Goals as goal

abbrev kept : {E : Type 0} → Result ℕ E → Option ℕ
kept (Ok x) = Some x
kept (Err e) = None

given : {E : Type 0} (r : Result ℕ E) (b : Bool) (n v : ℕ) → b ≡ true → 0 < n → OkIff r ((0 < n) × (v < 2 ^ 64)) v → kept r ≡ cond (b && nat_lt v (2 ^ 64)) (Some v) None
given (Ok x) b n v e some h = ap Some h.1 ∙ rw (e, lt-ltb v (2 ^ 64) h.0.1) refl
given (Err x) b n v e some h = elim (cases_lt v (2 ^ 64)) [ inl lt ↦ absurd (h (some, lt)) | inr le ↦ rw (e, le-ltb v (2 ^ 64) le) refl ]

known : {E : Type 0} (word : List ℕ) (r : Result ℕ E) → is_number word ≡ true → ParsesUnsigned 64 10 word r → kept r ≡ number_below (2 ^ 64) word
known word r e parsed =
    let digits = (and_parts (is_digits word) (nat_lt (length word) 21) e).0 in
    let parts = and_parts (list_all is_ascii_digit word) (nat_lt 0 (length word)) digits in
    given r (is_number word) (length word) (value_from 0 word) e (ltb-true 0 (length word) parts.1) (parse_digits digits_are_numerals 64 word r parsed parts.0)

pub returns-in-Ok : goal.returns-in-Ok
returns-in-Ok c = ap kept (sym c.in-Ok.is) ∙ known c.args.word.now c.parse.result (sym c.is_number.ensures ∙ c.if-not-is_number.false) c.parse.ensures.value.0

pub returns-in-Err : goal.returns-in-Err
returns-in-Err c = ap kept (sym c.in-Err.is) ∙ known c.args.word.now c.parse.result (sym c.is_number.ensures ∙ c.if-not-is_number.false) c.parse.ensures.value.0
