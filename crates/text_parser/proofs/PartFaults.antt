-- The results of a function that reads: a fault of one of its parts is its own fault.
use Rattle.std.proofs.Common.{◌≡◌, ◌+◌, ◌<◌, ◌≤◌, ℕ, List, drop, [], ◌∷◌, Bool, true, false, cond, Result, Ok, Err, IfOk, ap, refl, ◌∙◌, arith}
use Rattle.std.specs.Result.{IsErrAnd}
use Rattle.std.proofs.lemmas.Result.{err_from_is_err_and}
use Rattle.text_parser.specs.declared.fault.TextFault.{TextFault}
use Rattle.text_parser.specs.declared.fault.TextFault.TheVariants.{NoMemory, Syntax, TooDeep}
use Rattle.text_parser.specs.declared.reading.Context.{Context}
use Rattle.text_parser.specs.declared.terminal.Terminal.{Terminal}
use Rattle.text_parser.specs.Lexemes.{Lexeme, lexeme}
use Rattle.text_parser.specs.Parsed.{Parsed, ◌>>=◌, before, change, expects, then_expects, Makes, Reads, Goes}
use Rattle.text_parser.specs.Ended.{with_end}

-- the function ends with the fault `e` of a part
abbrev pub EndsWith : {V : Type 0} → Result V TextFault → TextFault → Type 0
EndsWith r e = IsErrAnd r (λ f. f ≡ e)

ended : {V : Type 0} (r : Result V TextFault) (e : TextFault) → EndsWith r e → r ≡ Err e
ended r e ends = let answer = err_from_is_err_and r ends in answer.1 ∙ ap (λ (f : TextFault). Err f) answer.2

-- a fault comes with no index
at_fault_goes : {V : Type 0} (from count : ℕ) (r : Result (V × ℕ) TextFault) (e : TextFault) → r ≡ Err e → Goes from count r
at_fault_goes from count r e is = rw (is) tt

pub fault_goes : {V : Type 0} (from count : ℕ) (r : Result (V × ℕ) TextFault) (e : TextFault) → EndsWith r e → Goes from count r
fault_goes from count r e ends = at_fault_goes from count r e (ended r e ends)

at_fault_read : {V U W X : Type 0} (memory : Type 0) (means : V → W) (whole : U → X) (ts : List Lexeme) (e : TextFault) (s : Parsed W) (m : Parsed X) → Reads memory means ts (Err e) s → (s ≡ Err e → m ≡ Err e) → Reads memory whole ts (Err e) m
at_fault_read memory means whole ts NoMemory s m h fails = h
at_fault_read memory means whole ts _ s m h fails = fails h

-- the part was read
pub fault_read : {V U W X : Type 0} (memory : Type 0) (means : V → W) (whole : U → X) (ts : List Lexeme) (r : Result (U × ℕ) TextFault) (e : TextFault) (s : Parsed W) (m : Parsed X) → EndsWith r e → Reads memory means ts (Err e) s → (s ≡ Err e → m ≡ Err e) → Reads memory whole ts r m
fault_read memory means whole ts r e s m ends h fails = rw (ended r e ends) (at_fault_read memory means whole ts e s m h fails)

at_fault_made : {V U W X : Type 0} (memory : Type 0) (means : V → W) (whole : U → X) (ts : List Lexeme) (e : TextFault) (s : Result W TextFault) (m : Parsed X) → Makes memory means (Err e) s → (s ≡ Err e → m ≡ Err e) → Reads memory whole ts (Err e) m
at_fault_made memory means whole ts NoMemory s m h fails = h
at_fault_made memory means whole ts _ s m h fails = fails h

-- the part was made by an action
pub fault_made : {V U W X : Type 0} (memory : Type 0) (means : V → W) (whole : U → X) (ts : List Lexeme) (r : Result (U × ℕ) TextFault) (e : TextFault) (s : Result W TextFault) (m : Parsed X) → EndsWith r e → Makes memory means (Err e) s → (s ≡ Err e → m ≡ Err e) → Reads memory whole ts r m
fault_made memory means whole ts r e s m ends h fails = rw (ended r e ends) (at_fault_made memory means whole ts e s m h fails)

-- the action fails only for memory
pub memory_lacks : {V U W X : Type 0} (memory : Type 0) (means : V → W) (whole : U → X) (ts : List Lexeme) (r : Result (U × ℕ) TextFault) (e : TextFault) (v : W) (m : Parsed X) → EndsWith r e → Makes memory means (Err e) (Ok v) → Reads memory whole ts r m
memory_lacks memory means whole ts r e v m ends h = fault_made memory means whole ts r e (Ok v) m ends h (λ k. absurd cc)

at_fault_known : {U X : Type 0} (memory : Type 0) (whole : U → X) (ts : List Lexeme) (e : TextFault) (m : Parsed X) → (e ≡ NoMemory → ⊥) → m ≡ Err e → Reads memory whole ts (Err e) m
at_fault_known memory whole ts NoMemory m other is = absurd (other refl)
at_fault_known memory whole ts _ m other is = is

pub fault_known : {U X : Type 0} (memory : Type 0) (whole : U → X) (ts : List Lexeme) (r : Result (U × ℕ) TextFault) (e : TextFault) (m : Parsed X) → EndsWith r e → (e ≡ NoMemory → ⊥) → m ≡ Err e → Reads memory whole ts r m
fault_known memory whole ts r e m ends other is = rw (ended r e ends) (at_fault_known memory whole ts e m other is)

pub syntax_read : {U X : Type 0} (memory : Type 0) (whole : U → X) (ts : List Lexeme) (e : TextFault) (at : ℕ) (m : Parsed X) → e ≡ Syntax at → m ≡ Err (Syntax at) → Reads memory whole ts (Err e) m
syntax_read memory whole ts e at m is fails = rw is fails

at_fault_given : {V U W X : Type 0} (memory : Type 0) (means : V → W) (whole : U → X) (ts : List Lexeme) (e : TextFault) (s : Parsed W) (m : Parsed X) → Reads ⊥ means ts (Err e) s → (s ≡ Err e → m ≡ Err e) → Reads memory whole ts (Err e) m
at_fault_given memory means whole ts NoMemory s m h fails = absurd h
at_fault_given memory means whole ts _ s m h fails = fails h

-- the part was read without memory
pub fault_given : {V U W X : Type 0} (memory : Type 0) (means : V → W) (whole : U → X) (ts : List Lexeme) (r : Result (U × ℕ) TextFault) (e : TextFault) (s : Parsed W) (m : Parsed X) → EndsWith r e → Reads ⊥ means ts (Err e) s → (s ≡ Err e → m ≡ Err e) → Reads memory whole ts r m
fault_given memory means whole ts r e s m ends h fails = rw (ended r e ends) (at_fault_given memory means whole ts e s m h fails)

-- what an action made, with the index after its phrase
at_end_made : {V W : Type 0} (memory : Type 0) (means : V → W) (ts : List Lexeme) (end : ℕ) (made : Result V TextFault) (s : Result W TextFault) → Makes memory means made s → Reads memory means ts (with_end end made) (before (drop end ts) s)
at_end_made memory means ts end (Ok v) s h = rw h refl
at_end_made memory means ts end (Err NoMemory) s h = h
at_end_made memory means ts end (Err _) s h = rw h refl

pub end_made : {V W : Type 0} (memory : Type 0) (means : V → W) (ts : List Lexeme) (end : ℕ) (r : Result (V × ℕ) TextFault) (made : Result V TextFault) (s : Result W TextFault) (m : Parsed W) → r ≡ with_end end made → Makes memory means made s → m ≡ before (drop end ts) s → Reads memory means ts r m
end_made memory means ts end r made s m is h same = rw (is, same) (at_end_made memory means ts end made s h)

pub end_goes : {V : Type 0} (from count end : ℕ) (r : Result (V × ℕ) TextFault) (made : Result V TextFault) → r ≡ with_end end made → from < end → end ≤ count → Goes from count r
end_goes from count end r (Ok v) is more within = rw is (more, within)
end_goes from count end r (Err e) is more within = rw is tt

-- a part that begins after the first token
pub goes_later : {V : Type 0} (from count : ℕ) (r : Result (V × ℕ) TextFault) → Goes (from + 1) count r → Goes from count r
goes_later from count (Ok x) h = (omega (arith, h.0), h.1)
goes_later from count (Err e) h = tt

-- a value in parentheses, with the index after the closing one
pub closed_goes : {V : Type 0} (from count end : ℕ) (r : Result (V × ℕ) TextFault) → from < end → IfOk r (λ x. (x.1 ≡ end + 1) × (end < count)) → Goes from count r
closed_goes from count end (Ok x) more h = (omega (arith, h.0, more), omega (arith, h.0, h.1))
closed_goes from count end (Err e) more h = tt

pub closed_same : {V W : Type 0} (means : V → W) (r : V) (v : W) (w : Result (List Lexeme) TextFault) → means r ≡ v → change means (w >>= λ us. Ok (r, us)) ≡ (w >>= λ us. Ok (v, us))
closed_same means r v (Ok us) is = rw is refl
closed_same means r v (Err e) is = refl

at_closed_read : {V W : Type 0} (memory : Type 0) (means : V → W) (ts : List Lexeme) (r : Result (V × ℕ) TextFault) (s : Parsed V) → Reads ⊥ (λ v. v) ts r s → Reads memory means ts r (change means s)
at_closed_read memory means ts (Ok x) s h = rw h refl
at_closed_read memory means ts (Err NoMemory) s h = absurd h
at_closed_read memory means ts (Err _) s h = rw h refl

pub closed_read : {V W : Type 0} (memory : Type 0) (means : V → W) (ts us : List Lexeme) (p : Terminal → Bool) (r : Result (V × ℕ) TextFault) (value : V) (v : W) (m : Parsed W) → Reads ⊥ (λ v. v) ts r (then_expects p (Ok (value, us))) → means value ≡ v → m ≡ then_expects p (Ok (v, us)) → Reads memory means ts r m
closed_read memory means ts us p r value v m h is same = rw (same, ← closed_same means value v (expects p us) is) (at_closed_read memory means ts r (then_expects p (Ok (value, us))) h)

-- what is too deep, or wanted, is no lack of memory
pub enter_keeps_memory : (b : Bool) (d : Context) (at : ℕ) (e : TextFault) → cond b (Ok d) (Err (TooDeep at)) ≡ Err e → e ≡ NoMemory → ⊥
enter_keeps_memory true d at e is lacks = absurd cc
enter_keeps_memory false d at e is lacks = absurd cc

pub expects_keeps_memory : (p : Terminal → Bool) (us : List Lexeme) (e : TextFault) → expects p us ≡ Err e → e ≡ NoMemory → ⊥
expects_keeps_memory p [] e is lacks = absurd cc
expects_keeps_memory p (lexeme s at text ∷ us) e is lacks = by_terminal (p s) is where
  by_terminal : (b : Bool) → cond b (Ok us) (Err (Syntax at)) ≡ Err e → ⊥
  by_terminal true h = absurd cc
  by_terminal false h = absurd cc
