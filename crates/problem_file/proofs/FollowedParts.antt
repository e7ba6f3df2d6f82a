-- A part that a token follows is the part with that token.
use Rattle.std.proofs.Common.{◌<◌, ◌≤◌, ℕ, List, drop, Bool, Result, Ok, Err, refl, subst, arith}
use Rattle.std.specs.Prelude.{IfOk}
use Rattle.text_parser.specs.declared.fault.TextFault.{TextFault}
use Rattle.text_parser.specs.declared.fault.TextFault.TheVariants.{NoMemory}
use Rattle.text_parser.specs.declared.terminal.Terminal.{Terminal}
use Rattle.text_parser.specs.Lexemes.{Lexeme}
use Rattle.text_parser.specs.Parsed.{Parsed, Reads, then_expects}
use Rattle.text_parser.proofs.NamedFaults.{IsNamed, expects_named}
use Rattle.problem_file.specs.Working.Followed.{Follows}

module _ {V W : Type 0} (means : V → W) (ts : List Lexeme) (p : Terminal → Bool) where
  pub followed_reads : (part result : Result (V × ℕ) TextFault) (m : Parsed W) → Reads ⊥ means ts part m → Follows ts p part result → Reads ⊥ means ts result (then_expects p m)
  followed_reads (Ok x) (Ok y) m e h = rw (e, h.1, h.0) refl
  followed_reads (Ok x) (Err NoMemory) m e h = elim (subst IsNamed h (expects_named p (drop x.1 ts))) [ ]
  followed_reads (Ok x) (Err f) m e h = rw (e, h) refl
  followed_reads (Err NoMemory) result m e h = elim e [ ]
  followed_reads (Err f) result m e h = rw (h, e) refl

-- what ends after a later index ends after an earlier one
pub goes_from : {V : Type 0} (r : Result (V × ℕ) TextFault) (a b n : ℕ) → a ≤ b → IfOk r (λ x. (b < x.1) × (x.1 ≤ n)) → IfOk r (λ x. (a < x.1) × (x.1 ≤ n))
goes_from (Ok x) a b n below h = (omega (arith, h.0), h.1)
goes_from (Err e) a b n below h = tt
