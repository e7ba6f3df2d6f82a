-- Results of scanning a text that begins with a complete line, and a text without one.
use Rattle.std.proofs.Common.{◌≡◌, ◌≢◌, ℕ, ◌+◌, ◌<◌, List, [], ◌∷◌, ◌++◌, length, Bool, true, false, cond, Option, Some, None, Result, Ok, Err, codes, refl, sym, ap, ◌∙◌, subst, arith, ◌==◌}
use Rattle.std.specs.List.{onto_first}
use Rattle.std.specs.Str.{bytes_eq}
use Rattle.std.proofs.lemmas.List.Splits.{slice_split-cons_yes, slice_split-cons_no}
use Rattle.std.proofs.lemmas.Slice.Eq.{bytes_eq-Decides}
use Rattle.line_format.specs.Lines.{parts_of}
use Rattle.line_format.specs.NumberedLines.{FaultNames, LineFormat, fault_of, or_truncated, ended, fault_after, after_line, lines_from, first_then, Answers}
use Rattle.line_format.proofs.Splits.{split_some}

-- a name that compares equal to a word is that word
pub named : (name word : List ℕ) → bytes_eq name word ≡ true → name ≡ word
named name word e = (bytes_eq-Decides name word).0 e

-- comparing a line with a different word gives false
pub differs : (line word : List ℕ) → line ≢ word → bytes_eq line word ≡ false
differs line word apart = by_test (bytes_eq line word) refl
  where
    by_test : (b : Bool) → bytes_eq line word ≡ b → bytes_eq line word ≡ false
    by_test true is = absurd (apart (named line word is))
    by_test false is = is

module _ {V F : Type 0} (names : FaultNames F) where
  -- a text always has a last part
  not_truncated : (after : List ℕ) (answer : Result V F) → or_truncated names (parts_of after) answer ≡ answer
  not_truncated after answer = let some = split_some (λ b. b == 10) after in rw some.2 refl

  -- a line with parts after it is complete
  pub complete : (xs : List (List ℕ)) (y : List ℕ) (ys : List (List ℕ)) (answer : Result V F) → or_truncated names (xs ++ y ∷ ys) answer ≡ answer
  complete [] y ys answer = refl
  complete (x ∷ xs) y ys answer = refl

  -- bytes after the line `end` are a fault
  pub goes_on : (v : V) (n : ℕ) (after : List ℕ) → 0 < length after → ended names v n (parts_of after) ≡ Err (names.trailing n)
  goes_on v n [] some = absurd (omega arith)
  goes_on v n (b ∷ bs) some = by_head (b == 10) refl
    where
      onto : (l : List (List ℕ)) → ended names v n (onto_first b l) ≡ Err (names.trailing n)
      onto [] = refl
      onto (part ∷ parts) = refl

      by_head : (c : Bool) → (b == 10) ≡ c → ended names v n (parts_of (b ∷ bs)) ≡ Err (names.trailing n)
      by_head true h = let more = split_some (λ b. b == 10) bs in rw (slice_split-cons_yes (λ b. b == 10) b bs h, more.2) refl
      by_head false h = rw (slice_split-cons_no (λ b. b == 10) b bs h) (onto (parts_of bs))

  ended_nothing : (v : V) (n : ℕ) (after : List ℕ) → after ≡ [] → ended names v n (parts_of after) ≡ Ok v
  ended_nothing v n after none = ap (λ bs. ended names v n (parts_of bs)) none

  -- the text ends after the line `end`
  pub ended_given : (v w : V) (n : ℕ) (parts : List (List ℕ)) → ended names v n parts ≡ Ok w → (v ≡ w) × (parts ≡ [] ∷ [])
  ended_given v w n [] h = cc
  ended_given v w n ([] ∷ []) h = (cc, refl)
  ended_given v w n ([] ∷ part ∷ parts) h = cc
  ended_given v w n ((b ∷ bs) ∷ parts) h = cc

  module _ (next : List ℕ → List (List ℕ) → Result V F) (bytes : List ℕ) where
    pub first_none : parts_of bytes ≡ bytes ∷ [] → first_then names next (parts_of bytes) ≡ Err names.truncated
    first_none none = rw none refl

    pub first_cut : (line after : List ℕ) → parts_of bytes ≡ line ∷ parts_of after → first_then names next (parts_of bytes) ≡ next line (parts_of after)
    first_cut line after cut = ap (first_then names next) cut ∙ not_truncated after _

-- ---- the lines after the first

module _ {L D V F : Type 0} (f : LineFormat L D V F) (d : D) (n : ℕ) (bytes : List ℕ) where
  pub scan_none : parts_of bytes ≡ bytes ∷ [] → lines_from f d n (parts_of bytes) ≡ Err f.faults.truncated
  scan_none none = rw none refl

  module _ (line after : List ℕ) (cut : parts_of bytes ≡ line ∷ parts_of after) where
    scan_line : (b : Bool) → bytes_eq line (codes "end") ≡ b → lines_from f d n (parts_of bytes) ≡ cond b (ended f.faults (f.value d) (n + 1) (parts_of after)) (after_line f d n (f.read line) (λ more. lines_from f more (n + 1) (parts_of after)))
    scan_line b is =
        ap (lines_from f d n) cut ∙ not_truncated f.faults after _
        ∙ ap (λ (t : Bool). cond t (ended f.faults (f.value d) (n + 1) (parts_of after)) (after_line f d n (f.read line) (λ more. lines_from f more (n + 1) (parts_of after)))) is

    scan_end : bytes_eq line (codes "end") ≡ true → lines_from f d n (parts_of bytes) ≡ ended f.faults (f.value d) (n + 1) (parts_of after)
    scan_end is = scan_line true is

    -- the line `end` is the last one, or bytes follow it
    pub scan_last : bytes_eq line (codes "end") ≡ true → after ≡ [] → lines_from f d n (parts_of bytes) ≡ Ok (f.value d)
    scan_last is none = scan_end is ∙ ended_nothing f.faults (f.value d) (n + 1) after none

    pub scan_trailing : bytes_eq line (codes "end") ≡ true → 0 < length after → lines_from f d n (parts_of bytes) ≡ Err (f.faults.trailing (n + 1))
    scan_trailing is some = scan_end is ∙ goes_on f.faults (f.value d) (n + 1) after some

    pub scan_more : bytes_eq line (codes "end") ≡ false → (l : L) → f.read line ≡ Some l → fault_of f d n l ≡ None → lines_from f d n (parts_of bytes) ≡ lines_from f (f.with_line d l) (n + 1) (parts_of after)
    scan_more is l read right = scan_line false is ∙ rw (read, right) refl

    fault_given : (o : Option L) (fault : F) (more : D → Result V F) → fault_after f d n o ≡ Some fault → after_line f d n o more ≡ Err fault
    fault_given None fault more e = let same : f.faults.line n ≡ fault = cc in ap (λ (k : F). Err k) same
    fault_given (Some l) fault more e = rw e refl

    pub scan_fault : bytes_eq line (codes "end") ≡ false → (fault : F) → fault_after f d n (f.read line) ≡ Some fault → lines_from f d n (parts_of bytes) ≡ Err fault
    scan_fault is fault e = scan_line false is ∙ fault_given (f.read line) fault (λ more. lines_from f more (n + 1) (parts_of after)) e

-- ---- what an answer says

pub answers_same : {V F : Type 0} (unless : F → Type 0 → Type 0) (given same other : Result V F) → given ≡ same → Answers unless same other → Answers unless given other
answers_same unless given same other e a = subst (λ t. Answers unless t other) (sym e) a
