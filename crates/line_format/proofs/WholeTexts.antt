-- The theorems on whole texts: what is read is what the text spells, what is spelled is read, a text has one value or a
-- first fault, and after correct lines the first error is the fault.
use Rattle.std.proofs.Common.{◌≡◌, ℕ, ◌+◌, ◌⊎◌, inl, inr, List, [], ◌∷◌, ◌++◌, length, Some, None, Result, Ok, Err, refl, sym, ap, ◌∙◌, codes, arith, append_assoc, append-nil, ◌==◌}
use Rattle.std.specs.Result.{IfOk, result_err}
use Rattle.std.proofs.lemmas.Grind.{flat_map-append}
use Rattle.line_format.specs.Lines.{parts_of, text_of_lines}
use Rattle.line_format.specs.NumberedLines.{FaultNames, ended, ended_text, Answers}
use Rattle.line_format.proofs.Splits.{LacksByte, split_lacking, split_at, split_some}
use Rattle.line_format.proofs.TextParts.{LackFeeds, with_last, parts_after, text_back}
use Rattle.line_format.proofs.LineSteps.{goes_on}

-- The laws of texts: `before` has the lines of a value before the line `end`, `all_from` is the answer for the parts of a
-- text, and `next` the answer for the parts from line n on, after the lines of a value.
pub record IsTextFormat {V F : Type 0} (names : FaultNames F) (all_from : List (List ℕ) → Result V F) (before : V → List (List ℕ)) (Is : V → Type 0) (next : V → ℕ → List (List ℕ) → Result V F) : Type 0 where
  pub lack : (v : V) → Is v → LackFeeds (before v)
  pub scanned : (v : V) (i : ℕ) (part : List ℕ) (parts : List (List ℕ)) → Is v → i ≡ length (before v) + 1 → all_from (before v ++ part ∷ parts) ≡ next v i (part ∷ parts)
  pub short : (v : V) (i : ℕ) (rest : List ℕ) → next v i (rest ∷ []) ≡ Err names.truncated
  pub ends : (v : V) (i : ℕ) (part : List ℕ) (parts : List (List ℕ)) → next v i (codes "end" ∷ part ∷ parts) ≡ ended names v (i + 1) (part ∷ parts)
  pub given : (parts : List (List ℕ)) (v : V) → all_from parts ≡ Ok v → Is v × (parts ≡ with_last (before v ++ codes "end" ∷ []))

module _ {V F : Type 0} {names : FaultNames F} {all_from : List (List ℕ) → Result V F} {before : V → List (List ℕ)} {Is : V → Type 0} {next : V → ℕ → List (List ℕ) → Result V F} (laws : IsTextFormat names all_from before Is next) where
  -- scanning a text that begins with the lines of a value continues after these lines
  text_scanned : (v : V) (i : ℕ) (rest part : List ℕ) (parts : List (List ℕ)) → Is v → i ≡ length (before v) + 1 → parts_of rest ≡ part ∷ parts → all_from (parts_of (text_of_lines (before v) ++ rest)) ≡ next v i (part ∷ parts)
  text_scanned v i rest part parts is place cut =
      ap all_from (parts_after (before v) rest (laws.lack v is) ∙ ap (λ ps. before v ++ ps) cut) ∙ laws.scanned v i part parts is place

  text_ends : (v : V) (rest : List ℕ) → ended_text (before v) ++ rest ≡ text_of_lines (before v) ++ (codes "end\n" ++ rest)
  text_ends v rest = ap (λ t. t ++ rest) (flat_map-append (λ l. l ++ 10 ∷ []) (before v) (codes "end" ∷ [])) ∙ append_assoc (text_of_lines (before v)) (codes "end\n") rest

  pub text_read : (v : V) → Is v → all_from (parts_of (ended_text (before v))) ≡ Ok v
  text_read v is =
      ap (λ t. all_from (parts_of t)) (sym (append-nil (ended_text (before v))) ∙ text_ends v [])
      ∙ text_scanned v (length (before v) + 1) (codes "end\n") (codes "end") ([] ∷ []) is refl refl
      ∙ laws.ends v (length (before v) + 1) [] []

  pub read_given : (bytes : List ℕ) (v : V) → all_from (parts_of bytes) ≡ Ok v → Is v × (bytes ≡ ended_text (before v))
  read_given bytes v h = let given = laws.given (parts_of bytes) v h in (given.0, text_back bytes (before v ++ codes "end" ∷ []) given.1)

  -- the answer for the text of a value is this value
  pub text_answer : (bytes : List ℕ) (v : V) → Is v → bytes ≡ ended_text (before v) → all_from (parts_of bytes) ≡ Ok v
  text_answer bytes v is text = ap (λ t. all_from (parts_of t)) text ∙ text_read v is

  -- and not a fault
  pub no_fault : (bytes : List ℕ) (fault : F) (v : V) → Is v → bytes ≡ ended_text (before v) → all_from (parts_of bytes) ≡ Err fault → ⊥
  no_fault bytes fault v is text a = let clash : Err fault ≡ Ok v = sym a ∙ text_answer bytes v is text in cc

  pub one_value : (v w : V) → Is v → Is w → ended_text (before v) ≡ ended_text (before w) → v ≡ w
  one_value v w is also same = let one : Ok v ≡ Ok w = sym (text_read v is) ∙ ap (λ t. all_from (parts_of t)) same ∙ text_read w also in cc

  pub text_or_fault : (bytes : List ℕ)
      → (((v : V) × Is v × (bytes ≡ ended_text (before v))) × (((fault : F) × (result_err (all_from (parts_of bytes)) ≡ Some fault)) → ⊥))
      ⊎ ((((v : V) × Is v × (bytes ≡ ended_text (before v))) → ⊥) × ((fault : F) × (result_err (all_from (parts_of bytes)) ≡ Some fault)))
  text_or_fault bytes = by_answer (all_from (parts_of bytes)) refl
    where
      by_answer : (a : Result V F) → all_from (parts_of bytes) ≡ a
          → (((v : V) × Is v × (bytes ≡ ended_text (before v))) × (((fault : F) × (result_err (all_from (parts_of bytes)) ≡ Some fault)) → ⊥))
          ⊎ ((((v : V) × Is v × (bytes ≡ ended_text (before v))) → ⊥) × ((fault : F) × (result_err (all_from (parts_of bytes)) ≡ Some fault)))
      by_answer (Ok v) is = let given = read_given bytes v is in inl ((v, given.0, given.1), (λ h. let clash : None ≡ Some h.0 = sym (ap result_err is) ∙ h.1 in cc))
      by_answer (Err fault) is = inr ((λ h. no_fault bytes fault h.0 h.1 h.2 is), (fault, ap result_err is))

  pub value_from : (unless : F → Type 0 → Type 0) (bytes : List ℕ) (r : Result V F) → Answers unless (all_from (parts_of bytes)) r → IfOk r (λ v. Is v × (bytes ≡ ended_text (before v)))
  value_from unless bytes (Ok v) a = read_given bytes v a
  value_from unless bytes (Err fault) a = tt

  -- ---- the first fault after correct lines

  pub line_scanned : (v : V) (line more : List ℕ) → Is v → LacksByte 10 line → all_from (parts_of (text_of_lines (before v) ++ (line ++ 10 ∷ more))) ≡ next v (length (before v) + 1) (parts_of (line ++ 10 ∷ more))
  line_scanned v line more is whole =
      let cut = split_at 10 line more whole in
      text_scanned v (length (before v) + 1) (line ++ 10 ∷ more) line (parts_of more) is refl cut ∙ ap (next v (length (before v) + 1)) (sym cut)

  pub truncated_first : (v : V) (rest : List ℕ) → Is v → LacksByte 10 rest → all_from (parts_of (text_of_lines (before v) ++ rest)) ≡ Err names.truncated
  truncated_first v rest is whole = text_scanned v (length (before v) + 1) rest rest [] is refl (split_lacking 10 rest whole) ∙ laws.short v (length (before v) + 1) rest

  pub trailing_first : (v : V) (b : ℕ) (more : List ℕ) → Is v → all_from (parts_of (ended_text (before v) ++ b ∷ more)) ≡ Err (names.trailing (length (before v) + 1 + 1))
  trailing_first v b more is =
      let i : ℕ = length (before v) + 1 in
      let some = split_some (λ c. c == 10) (b ∷ more) in
      ap (λ t. all_from (parts_of t)) (text_ends v (b ∷ more))
      ∙ text_scanned v i (codes "end\n" ++ b ∷ more) (codes "end") (parts_of (b ∷ more)) is refl refl
      ∙ ap (λ ps. next v i (codes "end" ∷ ps)) some.2
      ∙ laws.ends v i some.0 some.1
      ∙ ap (ended names v (i + 1)) (sym some.2)
      ∙ goes_on names v (i + 1) (b ∷ more) (omega arith)
