-- The header of a DIMACS CNF text, word by word.
use Rattle.std.proofs.Common.{◌≡◌, ℕ, ◌≤◌, ◌<◌, ◌^◌, List, [], ◌∷◌, refl, ap, ◌∙◌, nat_le, true, false, Option, Some, None, Err, arith}
use Rattle.std.specs.Str.{bytes_eq}
use Rattle.std.proofs.lemmas.Bool.Decides.{nat_tests}
use Rattle.lrat_checker.specs.Words.{WordParts}
use Rattle.lrat_checker.specs.Numbers.{NumberParts, nothing, plus, minus, number_of}
use Rattle.lrat_checker.specs.CnfTexts.{CnfAnswer, ClausesRead, after_fixed, counted, after_count, with_number}
use Rattle.lrat_checker.specs.Working.WordLists.{IsWide, IsWideBelow}
use Rattle.lrat_checker.specs.declared.fault.CnfFault.TheVariants.{Header, TooLarge, UnknownVariable}

module _ (bytes : List ℕ) (last : ℕ) (more : List WordParts → CnfAnswer) where
  pub fixed_none : (left : List WordParts) → left ≡ [] → after_fixed bytes last more left ≡ Err (Header last)
  fixed_none left e = ap (after_fixed bytes last more) e

  pub fixed_same : (left ws : List WordParts) (w : WordParts) → left ≡ w ∷ ws → bytes_eq w.bytes bytes ≡ true → after_fixed bytes last more left ≡ more ws
  fixed_same left ws w e same = ap (after_fixed bytes last more) e ∙ rw same refl

  pub fixed_other : (left ws : List WordParts) (w : WordParts) → left ≡ w ∷ ws → bytes_eq w.bytes bytes ≡ false → after_fixed bytes last more left ≡ Err (Header w.line)
  fixed_other left ws w e other = ap (after_fixed bytes last more) e ∙ rw other refl

module _ (most last : ℕ) (more : ℕ → List WordParts → CnfAnswer) where
  pub count_none : (left : List WordParts) → left ≡ [] → after_count most last more left ≡ Err (Header last)
  count_none left e = ap (after_count most last more) e

  pub count_some : (left ws : List WordParts) (w : WordParts) → left ≡ w ∷ ws → after_count most last more left ≡ counted most w.line (λ k. more k ws) (number_of w.bytes)
  count_some left ws w e = ap (after_count most last more) e

module _ (most line : ℕ) (more : ℕ → CnfAnswer) where
  pub counted_within : (k : ℕ) → k ≤ most → counted most line more (Some (plus k)) ≡ more k
  counted_within k within = let e : nat_le k most ≡ true = grind (arith, nat_tests) in rw e refl

  pub counted_past : (k : ℕ) → most < k → counted most line more (Some (plus k)) ≡ Err (TooLarge line)
  counted_past k past = let e : nat_le k most ≡ false = grind (arith, nat_tests) in rw e refl

  pub counted_wide : (o : Option NumberParts) → most < 2 ^ 64 → IsWide o → counted most line more o ≡ Err (TooLarge line)
  counted_wide None few wide = absurd wide
  counted_wide (Some nothing) few wide = absurd wide
  counted_wide (Some (plus k)) few wide = counted_past k (omega (arith, few, wide))
  counted_wide (Some (minus k)) few wide = absurd wide

  pub counted_below : (o : Option NumberParts) → IsWideBelow o → counted most line more o ≡ Err (Header line)
  counted_below None wide = absurd wide
  counted_below (Some nothing) wide = absurd wide
  counted_below (Some (plus k)) wide = absurd wide
  counted_below (Some (minus k)) wide = refl

-- a variable of 2^64 or more is unknown
module _ (variables line : ℕ) (r : ClausesRead) where
  past_all : (k : ℕ) → variables < 2 ^ 64 → 2 ^ 64 ≤ k → nat_le k variables ≡ false
  past_all k few wide = grind (arith, nat_tests)

  pub variable_wide : (o : Option NumberParts) → variables < 2 ^ 64 → IsWide o → with_number variables r line o ≡ Err (UnknownVariable line)
  variable_wide None few wide = absurd wide
  variable_wide (Some nothing) few wide = absurd wide
  variable_wide (Some (plus k)) few wide = rw (past_all k few wide) refl
  variable_wide (Some (minus k)) few wide = absurd wide

  pub variable_wide_below : (o : Option NumberParts) → variables < 2 ^ 64 → IsWideBelow o → with_number variables r line o ≡ Err (UnknownVariable line)
  variable_wide_below None few wide = absurd wide
  variable_wide_below (Some nothing) few wide = absurd wide
  variable_wide_below (Some (plus k)) few wide = absurd wide
  variable_wide_below (Some (minus k)) few wide = rw (past_all k few wide) refl
