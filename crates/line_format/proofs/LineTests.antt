-- The tests of a line in their order.
use Rattle.std.proofs.Common.{◌≡◌, ℕ, Bool, true, false, not, Some, None, refl}
use Rattle.std.proofs.lemmas.Bool.{not-false}
use Rattle.kat_model.proofs.Options.{none_parts}
use Rattle.line_format.specs.NumberedLines.{LineFormat, is_wide, fault_if, fault_of}

-- the line passes all tests
pub record Passes {L D V F : Type 0} (f : LineFormat L D V F) (d : D) (l : L) : Type 0 where
  pub allowed : f.is_allowed d l ≡ true
  pub narrow : is_wide f l ≡ false
  pub earlier : f.names_earlier d l ≡ true
  pub new : f.occurs_already d l ≡ false
  pub last : f.last_test l ≡ true

right_where : {F : Type 0} (b : Bool) (fault : F) → fault_if b fault ≡ None → b ≡ false
right_where true fault e = cc
right_where false fault e = refl

module _ {L D V F : Type 0} (f : LineFormat L D V F) (d : D) (n : ℕ) (l : L) where
  pub passes_faultless : Passes f d l → fault_of f d n l ≡ None
  passes_faultless p = rw (p.allowed, p.narrow, p.earlier, p.new, p.last) refl

  -- a line that passes the tests before this one has its fault
  pub double_fault : f.is_allowed d l ≡ true → is_wide f l ≡ false → f.names_earlier d l ≡ true → f.occurs_already d l ≡ true → fault_of f d n l ≡ Some (f.faults.double n)
  double_fault allowed narrow earlier double = rw (allowed, narrow, earlier, double) refl

pub faultless_passes : {L D V F : Type 0} (f : LineFormat L D V F) (d : D) (n : ℕ) (l : L) → fault_of f d n l ≡ None → Passes f d l
faultless_passes f d n l h =
    let one = none_parts (fault_if (not (f.is_allowed d l)) (f.faults.line n)) _ h in
    let two = none_parts (fault_if (is_wide f l) (f.faults.wide n)) _ one.1 in
    let three = none_parts (fault_if (not (f.names_earlier d l)) (f.faults.order n)) _ two.1 in
    let four = none_parts (fault_if (f.occurs_already d l) (f.faults.double n)) _ three.1 in
    record {
      allowed = not-false _ (right_where _ _ one.0);
      narrow = right_where _ _ two.0;
      earlier = not-false _ (right_where _ _ three.0);
      new = right_where _ _ four.0;
      last = not-false _ (right_where _ _ four.1);
    }
