-- Bytes have exactly one answer or exactly one first fault, and never both, whatever checks their tokens must pass.
use Rattle.std.proofs.Common.{◌≡◌, ◌≤◌, ◌<◌, ◌⊎◌, inl, inr, ⊎_elim, ℕ, List, length, map, Bool, true, false, Result, Ok, Err, nat_lt, arith, refl, sym, ap, subst, ◌∙◌, take_all}
use Rattle.std.specs.Str.{IsUtf8, IsValidUpTo, is_utf8}
use Rattle.std.proofs.lemmas.Str.{IsUtf8-from_is_utf8, utf8_valid_len-IsValidUpTo}
use Rattle.std.proofs.lemmas.Bool.{ltb-true, ltb-false}
use Rattle.text_parser.specs.declared.lexer.TheConstants.{MAX_LEN}
use Rattle.text_parser.specs.declared.fault.TextFault.{TextFault}
use Rattle.text_parser.specs.declared.fault.TextFault.TheVariants.{NoMemory, TooLong, NotUtf8, BadToken, Syntax}
use Rattle.text_parser.specs.TokenParts.{TokenParts}
use Rattle.text_parser.specs.Lex.{IsText, Lexes, FirstBad, IsFault}
use Rattle.text_parser.proofs.Readings.{one_lexing, one_bad, not_both, some_reading}
use Rattle.text_parser.specs.Lexemes.{Lexeme, lexeme_of}
use Rattle.text_parser.specs.Parsed.{Makes}
use Rattle.text_parser.proofs.NamedFaults.{IsNamedFault, IsNamed}
use Rattle.problem_file.specs.FirstFaults.{placed, placing, Refuses, too_long, not_utf8, IsFirstFault, no_text, bad_token, refused}
use Rattle.problem_file.specs.Laws.{HaveOneAnswer}
use Rattle.problem_file.proofs.Results.{ok_of, err_of, same_ok}
use Rattle.problem_file.proofs.TextFronts.{some_front}

-- a text is valid UTF-8, so no proper prefix is its longest valid prefix
no_front : (bytes : List ℕ) (at : ℕ) → IsText bytes → IsValidUpTo bytes at → ⊥
no_front bytes at text front = front.longest (length bytes) front.short (subst IsUtf8 (sym (take_all (length bytes) bytes (omega arith))) text.utf8)

one_front : (bytes : List ℕ) (m n : ℕ) → IsValidUpTo bytes m → IsValidUpTo bytes n → m ≡ n
one_front bytes m n f g = sym (utf8_valid_len-IsValidUpTo bytes m f) ∙ utf8_valid_len-IsValidUpTo bytes n g

placed_named : (len : ℕ) (e : TextFault) → IsNamedFault e → IsNamedFault (placed len e)
placed_named len (Syntax at) h = tt
placed_named len e h = h

placing_named : {X : Type 0} (len : ℕ) (m : Result X TextFault) → IsNamed m → IsNamed (placing len m)
placing_named len (Ok x) h = tt
placing_named len (Err e) h = placed_named len e h

module _ {X : Type 0} (tested : List Lexeme → Result X TextFault) (bytes : List ℕ) where
  abbrev test : List TokenParts → Result X TextFault
  test ms = tested (map lexeme_of ms)

  -- the bytes have tokens that pass the checks with this result
  pub record Represents (x : X) : Type 0 where
    pub parts_of_tokens : List TokenParts
    pub lexes : Lexes bytes parts_of_tokens
    pub tests_pass : test parts_of_tokens ≡ Ok x

  abbrev DenotesOrFails : Type 0
  DenotesOrFails = ((x : X) × Represents x) ⊎ ((e : TextFault) × IsFirstFault tested bytes e)

  -- ---- bytes have an answer or a first fault

  tested_denotes : (ms : List TokenParts) → Lexes bytes ms → (m : Result X TextFault) → test ms ≡ m → DenotesOrFails
  tested_denotes ms lexes (Ok x) t = inl (x, record { parts_of_tokens = ms; lexes = lexes; tests_pass = t })
  tested_denotes ms lexes (Err e) t = inr (placed (length bytes) e, refused (record { parts_of_tokens = ms; lexes = lexes; tests_fail = ap (placing (length bytes)) t }))

  text_denotes : IsText bytes → DenotesOrFails
  text_denotes text =
      ⊎_elim
      (λ x. tested_denotes x.0 x.1 (test x.0) refl)
      (λ x. inr (BadToken x.0, bad_token x.0 refl x.1))
      (some_reading bytes text)

  short_denotes : length bytes ≤ MAX_LEN → (u : Bool) → is_utf8 bytes ≡ u → DenotesOrFails
  short_denotes within true u = text_denotes (record { within = within; utf8 = IsUtf8-from_is_utf8 bytes u })
  short_denotes within false u = let front = some_front bytes u in inr (NotUtf8 front.0, no_text (not_utf8 front.0 refl within front.1))

  bytes_denote : (past : Bool) → nat_lt MAX_LEN (length bytes) ≡ past → DenotesOrFails
  bytes_denote true p = inr (TooLong, no_text (too_long refl (ltb-true MAX_LEN (length bytes) p)))
  bytes_denote false p = short_denotes (ltb-false MAX_LEN (length bytes) p) (is_utf8 bytes) refl

  -- ---- never both

  pub not_both_ways : (x : X) (e : TextFault) → Represents x → IsFirstFault tested bytes e → ⊥
  not_both_ways x e t (no_text (too_long given past)) = let within = t.lexes.is_text.within in omega (arith, past, within)
  not_both_ways x e t (no_text (not_utf8 at given within front)) = no_front bytes at t.lexes.is_text front
  not_both_ways x e t (bad_token at given bad) = not_both bytes t.parts_of_tokens at t.lexes bad
  not_both_ways x e t (refused r) =
      let same : r.parts_of_tokens ≡ t.parts_of_tokens = one_lexing bytes r.parts_of_tokens t.parts_of_tokens r.lexes t.lexes in
      let given : placing (length bytes) (test t.parts_of_tokens) ≡ Err e = subst (λ ms. placing (length bytes) (test ms) ≡ Err e) same r.tests_fail in
      let denoted : ok_of x ≡ Err e = subst (λ m. placing (length bytes) m ≡ Err e) t.tests_pass given in
      absurd cc

  one_given : (x y : X) → Represents x → Represents y → x ≡ y
  one_given x y t u =
      let same : t.parts_of_tokens ≡ u.parts_of_tokens = one_lexing bytes t.parts_of_tokens u.parts_of_tokens t.lexes u.lexes in
      same_ok x y (sym t.tests_pass ∙ (ap (λ ms. test ms) same ∙ u.tests_pass))

  -- ---- there is at most one first fault

  past_fault : (e : TextFault) → MAX_LEN < length bytes → IsFirstFault tested bytes e → e ≡ TooLong
  past_fault e past (no_text (too_long given h)) = given
  past_fault e past (no_text (not_utf8 at given within front)) = absurd (omega (arith, past, within))
  past_fault e past (bad_token at given bad) = let within = bad.is_text.within in absurd (omega (arith, past, within))
  past_fault e past (refused r) = let within = r.lexes.is_text.within in absurd (omega (arith, past, within))

  front_fault : (n : ℕ) (e : TextFault) → length bytes ≤ MAX_LEN → IsValidUpTo bytes n → IsFirstFault tested bytes e → e ≡ NotUtf8 n
  front_fault n e short f (no_text (too_long given past)) = absurd (omega (arith, past, short))
  front_fault n e short f (no_text (not_utf8 at given within front)) = given ∙ ap NotUtf8 (one_front bytes at n front f)
  front_fault n e short f (bad_token at given bad) = absurd (no_front bytes n bad.is_text f)
  front_fault n e short f (refused r) = absurd (no_front bytes n r.lexes.is_text f)

  bad_fault : (n : ℕ) (e : TextFault) → FirstBad bytes n → IsFirstFault tested bytes e → e ≡ BadToken n
  bad_fault n e f (no_text (too_long given past)) = let within = f.is_text.within in absurd (omega (arith, past, within))
  bad_fault n e f (no_text (not_utf8 at given within front)) = absurd (no_front bytes at f.is_text front)
  bad_fault n e f (bad_token at given bad) = given ∙ ap BadToken (one_bad bytes at n bad f)
  bad_fault n e f (refused r) = absurd (not_both bytes r.parts_of_tokens n r.lexes f)

  token_fault : (d e : TextFault) → Refuses tested bytes d → IsFirstFault tested bytes e → e ≡ d
  token_fault d e q (no_text (too_long given past)) = let within = q.lexes.is_text.within in absurd (omega (arith, past, within))
  token_fault d e q (no_text (not_utf8 at given within front)) = absurd (no_front bytes at q.lexes.is_text front)
  token_fault d e q (bad_token at given bad) = absurd (not_both bytes q.parts_of_tokens at q.lexes bad)
  token_fault d e q (refused r) =
      let same : r.parts_of_tokens ≡ q.parts_of_tokens = one_lexing bytes r.parts_of_tokens q.parts_of_tokens r.lexes q.lexes in
      let one : err_of X e ≡ Err d = sym r.tests_fail ∙ (ap (λ ms. placing (length bytes) (test ms)) same ∙ q.tests_fail) in
      cc

  one_fault : (d e : TextFault) → IsFirstFault tested bytes d → IsFirstFault tested bytes e → d ≡ e
  one_fault d e (no_text (too_long given past)) y = given ∙ sym (past_fault e past y)
  one_fault d e (no_text (not_utf8 at given within front)) y = given ∙ sym (front_fault at e within front y)
  one_fault d e (bad_token at given bad) y = given ∙ sym (bad_fault at e bad y)
  one_fault d e (refused r) y = sym (token_fault d e r y)

  -- ---- the first fault is never `NoMemory`

  fault_is_named : ((ts : List Lexeme) → IsNamed (tested ts)) → IsFirstFault tested bytes NoMemory → ⊥
  fault_is_named h (no_text (too_long given past)) = cc
  fault_is_named h (no_text (not_utf8 at given within front)) = cc
  fault_is_named h (bad_token at given bad) = cc
  fault_is_named h (refused r) = subst IsNamed r.tests_fail (placing_named (length bytes) (test r.parts_of_tokens) (h (map lexeme_of r.parts_of_tokens)))

  -- ---- the results of the program

  pub bad_given : (e : TextFault) → IsFault bytes e → (e ≡ NoMemory) ⊎ IsFirstFault tested bytes e
  bad_given NoMemory h = inl refl
  bad_given (BadToken at) h = inr (bad_token at refl h)
  bad_given e h = absurd h

  -- out of memory, the checks imply nothing; any other fault is the first fault
  pub fault_given : {Y : Type 0} (f : Y → X) (ms : List TokenParts) (e : TextFault) → Lexes bytes ms → Makes (Unit {0}) f (Err e) (test ms) → (placed (length bytes) e ≡ NoMemory) ⊎ IsFirstFault tested bytes (placed (length bytes) e)
  fault_given f ms NoMemory lexes h = inl refl
  fault_given f ms e lexes h = inr (refused (record { parts_of_tokens = ms; lexes = lexes; tests_fail = ap (placing (length bytes)) h }))

  -- bytes with an answer have no first fault
  pub no_fault : (x : X) (e : TextFault) → Represents x → (e ≡ NoMemory) ⊎ IsFirstFault tested bytes e → e ≡ NoMemory
  no_fault x e t h = ⊎_elim (λ none. none) (λ first. absurd (not_both_ways x e t first)) h

-- what bytes denote is the result of the checks of their tokens, in another form
pub record AreGiven {X Y : Type 0} (tested : List Lexeme → Result X TextFault) (Denotes : List ℕ → Y → Type 0) (denoted : X → Y) : Type 0 where
  pub given : (bytes : List ℕ) (x : X) → Represents tested bytes x → Denotes bytes (denoted x)
  pub pass : (bytes : List ℕ) (y : Y) → Denotes bytes y → (x : X) × Represents tested bytes x × (y ≡ denoted x)
  pub named : (ts : List Lexeme) → IsNamed (tested ts)

pub one_answer : {X Y : Type 0} (tested : List Lexeme → Result X TextFault) (Denotes : List ℕ → Y → Type 0) (denoted : X → Y) → AreGiven tested Denotes denoted → HaveOneAnswer Denotes (IsFirstFault tested)
one_answer tested Denotes denoted h = record {
  some = λ bytes. ⊎_elim (λ x. inl (denoted x.0, h.given bytes x.0 x.1)) (λ f. inr f) (bytes_denote tested bytes (nat_lt MAX_LEN (length bytes)) refl);
  either = λ bytes y e s. let x = h.pass bytes y s in not_both_ways tested bytes x.0 e x.1;
  values = λ bytes y z s t. let x = h.pass bytes y s in let w = h.pass bytes z t in x.2 ∙ (ap denoted (one_given tested bytes x.0 w.0 x.1 w.1) ∙ sym w.2);
  faults = λ bytes. one_fault tested bytes;
  named = λ bytes. fault_is_named tested bytes h.named;
}
