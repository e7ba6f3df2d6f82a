-- A fault of a part of a block is the fault of the block, and the functions that read the block return it.
use Rattle.std.proofs.Common.{◌≡◌, ℕ, ◌+◌, nat_lt, List, Result, Ok, Err, sym, subst, ap, ◌∙◌}
use Rattle.std.specs.Result.{IsErrAnd}
use Rattle.std.proofs.lemmas.Result.{err_from_is_err_and}
use Rattle.text_parser.specs.declared.fault.TextFault.{TextFault}
use Rattle.kat_model.specs.declared.limits.TheConstants.{MAX_OPEN}
use Rattle.text_parser.specs.declared.fault.TextFault.TheVariants.{NoMemory, TooDeep}
use Rattle.text_parser.specs.Lexemes.{Lexeme}
use Rattle.text_parser.specs.Parsed.{Parsed, Makes, Reads}
use Rattle.text_parser.proofs.NamedFaults.{IsNamedFault, IsNamed, if_named}
use Rattle.while_lang.specs.Blocks.{enter}
use Rattle.while_lang.specs.Working.Appending.{Appends}

-- ---- results of parts

pub enter_named : (d at : ℕ) → IsNamed (enter d at)
enter_named d at = if_named (nat_lt d MAX_OPEN) (Ok (d + 1)) (Err (TooDeep at)) (λ e. tt) (λ e. tt)

-- the place of a token is known by an equation
pub entered : (d at place : ℕ) (r : Result ℕ TextFault) → place ≡ at → r ≡ enter d place → enter d at ≡ r
entered d at place r is h = ap (enter d) (sym is) ∙ sym h

-- ---- what a function returns then

pub returned : {A : Type 0} (r : Result A TextFault) (e : TextFault) → IsErrAnd r (λ y. y ≡ e) → r ≡ Err e
returned r e h = let a = err_from_is_err_and r h in a.1 ∙ ap (λ (f : TextFault). Err f) a.2

module _ {V W : Type 0} (memory : Type 0) (means : V → W) (ts : List Lexeme) (whole : Parsed W) (e : TextFault) (r : Result (V × ℕ) TextFault) (same : IsErrAnd r (λ y. y ≡ e)) where
  -- a parser fails
  pub part_fails : {A B : Type 0} (of : A → B) (part : Parsed B) → Reads memory of ts (Err e) part → (part ≡ Err e → whole ≡ Err e) → Reads memory means ts r whole
  part_fails of part h k = subst (λ x. Reads memory means ts x whole) (sym (returned r e same)) (ends e h k)
    where
      ends : (f : TextFault) → Reads memory of ts (Err f) part → (part ≡ Err f → whole ≡ Err f) → Reads memory means ts (Err f) whole
      ends NoMemory h k = h
      ends f h k = k h

  -- a function that appends to a list fails
  pub append_fails : {B : Type 0} (list : B) (part : Parsed B) → Appends memory list ts (Err e) part → (part ≡ Err e → whole ≡ Err e) → Reads memory means ts r whole
  append_fails list part h k = subst (λ x. Reads memory means ts x whole) (sym (returned r e same)) (ends e h k)
    where
      ends : (f : TextFault) → Appends memory list ts (Err f) part → (part ≡ Err f → whole ≡ Err f) → Reads memory means ts (Err f) whole
      ends NoMemory h k = h
      ends f h k = k h

  -- a token or an open construct is not allowed
  pub check_fails : {B : Type 0} (m : Result B TextFault) → IsNamed m → m ≡ Err e → whole ≡ Err e → Reads memory means ts r whole
  check_fails m h k w = subst (λ x. Reads memory means ts x whole) (sym (returned r e same)) (ends e (subst IsNamed k h) w)
    where
      ends : (f : TextFault) → IsNamedFault f → whole ≡ Err f → Reads memory means ts (Err f) whole
      ends NoMemory h k = elim h [ ]
      ends f h k = k

-- ---- what a function that appends to a list returns then

module _ {S : Type 0} (memory : Type 0) (list : S) (ts : List Lexeme) (whole : Parsed S) (e : TextFault) (r : Result ℕ TextFault) (same : IsErrAnd r (λ y. y ≡ e)) where
  -- a parser fails
  pub part_stops : {A B : Type 0} (of : A → B) (part : Parsed B) → Reads memory of ts (Err e) part → (part ≡ Err e → whole ≡ Err e) → Appends memory list ts r whole
  part_stops of part h k = subst (λ x. Appends memory list ts x whole) (sym (returned r e same)) (ends e h k)
    where
      ends : (f : TextFault) → Reads memory of ts (Err f) part → (part ≡ Err f → whole ≡ Err f) → Appends memory list ts (Err f) whole
      ends NoMemory h k = h
      ends f h k = k h

  -- an action rejects the part, or memory runs out
  pub action_stops : {A B : Type 0} (of : A → B) (m : Result B TextFault) → Makes memory of (Err e) m → (m ≡ Err e → whole ≡ Err e) → Appends memory list ts r whole
  action_stops of m h k = subst (λ x. Appends memory list ts x whole) (sym (returned r e same)) (ends e h k)
    where
      ends : (f : TextFault) → Makes memory of (Err f) m → (m ≡ Err f → whole ≡ Err f) → Appends memory list ts (Err f) whole
      ends NoMemory h k = h
      ends f h k = k h
