-- A fault of a part of an item is the fault of the item, and the functions that read the item return it.
use Rattle.std.proofs.Common.{◌≡◌, ℕ, List, drop, Bool, Result, Ok, Err, refl, sym, subst}
use Rattle.std.specs.Prelude.{IfOk}
use Rattle.std.specs.Result.{IsErrAnd, result_and}
use Rattle.text_parser.specs.declared.fault.TextFault.{TextFault}
use Rattle.text_parser.specs.declared.fault.TextFault.TheVariants.{NoMemory}
use Rattle.text_parser.specs.declared.terminal.Terminal.{Terminal}
use Rattle.text_parser.specs.Lexemes.{Lexeme}
use Rattle.text_parser.specs.Parsed.{Parsed, ◌>>=◌, before, Makes, Reads, Expects, expects}
use Rattle.text_parser.proofs.NamedFaults.{IsNamedFault, IsNamed, expects_named}
use Rattle.while_lang.proofs.BlockFaults.{returned}
use Rattle.problem_file.specs.Working.Walks.{StepEnds, Does}

-- ---- the faults of parts

pub named_fault : {A : Type 0} (m : Result A TextFault) (e : TextFault) → IsNamed m → m ≡ Err e → IsNamedFault e × (m ≡ Err e)
named_fault m e h same = (subst IsNamed same h, same)

pub read_fault : {V W : Type 0} (means : V → W) (ts : List Lexeme) (part : Parsed W) (e : TextFault) → Reads ⊥ means ts (Err e) part → IsNamedFault e × (part ≡ Err e)
read_fault means ts part NoMemory h = elim h [ ]
read_fault means ts part e h = (tt, h)

pub check_fault : (part : Result (Unit {0}) TextFault) (e : TextFault) → Makes {V = Unit {0}} ⊥ (λ u. u) (Err e) part → IsNamedFault e × (part ≡ Err e)
check_fault part NoMemory h = elim h [ ]
check_fault part e h = (tt, h)

-- ---- what a function returns then

module _ {S : Type 0} (memory : Type 0) (ts : List Lexeme) (s : S) (whole : Parsed S) (e : TextFault) (r : Result ℕ TextFault) (same : IsErrAnd r (λ y. y ≡ e)) where
  pub fault_ends : IsNamedFault e → whole ≡ Err e → StepEnds memory ts r s whole
  fault_ends h k = subst (λ x. StepEnds memory ts x s whole) (sym (returned r e same)) (ends e h k)
    where
      ends : (f : TextFault) → IsNamedFault f → whole ≡ Err f → StepEnds memory ts (Err f) s whole
      ends NoMemory h k = elim h [ ]
      ends f h k = k

  -- a step of the item fails, or memory runs out
  pub step_ends : {T : Type 0} (u : T) (part : Parsed T) → StepEnds memory ts (Err e) u part → (part ≡ Err e → whole ≡ Err e) → StepEnds memory ts r s whole
  step_ends {T} u part h k = subst (λ x. StepEnds memory ts x s whole) (sym (returned r e same)) (ends e h k)
    where
      ends : (f : TextFault) → StepEnds memory ts (Err f) u part → (part ≡ Err f → whole ≡ Err f) → StepEnds memory ts (Err f) s whole
      ends NoMemory h k = h
      ends f h k = k h

-- an action ends the item, at an index that is known before
pub made_ends : {S : Type 0} (memory : Type 0) (ts : List Lexeme) (s : S) (end : ℕ) (made : Result (Unit {0}) TextFault) (r : Result ℕ TextFault) (m : Result S TextFault) (whole : Parsed S) →
    r ≡ result_and made (Ok end) → Does memory made s m → whole ≡ before (drop end ts) m → StepEnds memory ts r s whole
made_ends memory ts s end (Ok u) r m whole is h same = rw (is, same, h) refl
made_ends memory ts s end (Err NoMemory) r m whole is h same = rw (is) h
made_ends memory ts s end (Err e) r m whole is h same = rw (is, same, h) refl

-- if the action fails, the function returns no index
pub made_within : (P : ℕ → Type 0) (end : ℕ) (made : Result (Unit {0}) TextFault) (r : Result ℕ TextFault) → r ≡ result_and made (Ok end) → P end → IfOk r P
made_within P end (Ok u) r is h = rw (is) h
made_within P end (Err e) r is h = rw (is) tt

-- the item ends with a token
module _ {S : Type 0} (memory : Type 0) (ts : List Lexeme) (s : S) (p : Terminal → Bool) (us : List Lexeme) where
  pub token_ends : (r : Result ℕ TextFault) → Expects ts r (expects p us) → StepEnds memory ts r s (expects p us >>= λ l. Ok (s, l))
  token_ends (Ok end) h = rw (h) refl
  token_ends (Err NoMemory) h = elim (subst IsNamed h (expects_named p us)) [ ]
  token_ends (Err e) h = rw (h) refl
