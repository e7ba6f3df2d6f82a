-- Words of a line of a proof that are no number that may come there.
use Rattle.std.proofs.Common.{◌≡◌, ℕ, ◌≤◌, ◌^◌, List, refl, nat_lt, false, Option, Some, None, Err, arith}
use Rattle.std.proofs.lemmas.Bool.Decides.{nat_tests}
use Rattle.lrat_checker.specs.Numbers.{NumberParts, nothing, plus, minus}
use Rattle.lrat_checker.specs.ProofTexts.{with_id, with_literal, with_hint, with_resolvent, with_deleted}
use Rattle.lrat_checker.specs.Working.WordLists.{IsWide, IsWideBelow}
use Rattle.lrat_checker.specs.declared.literal.Literal.{Literal}
use Rattle.lrat_checker.specs.declared.proof.Line.{Line}
use Rattle.lrat_checker.specs.declared.fault.ProofFault.TheVariants.{NotId, NotLiteral, NotHint}

pub not_below : (limit k : ℕ) → limit ≤ k → nat_lt k limit ≡ false
not_below limit k past = grind (arith, nat_tests)

module _ (lines : List Line) (line : ℕ) where
  pub id_wide : (o : Option NumberParts) → IsWide o → with_id lines line o ≡ Err (NotId line)
  id_wide None wide = absurd wide
  id_wide (Some nothing) wide = absurd wide
  id_wide (Some (plus k)) wide = rw (not_below (2 ^ 64) k wide) refl
  id_wide (Some (minus k)) wide = absurd wide

  pub id_wide_below : (o : Option NumberParts) → IsWideBelow o → with_id lines line o ≡ Err (NotId line)
  id_wide_below None wide = absurd wide
  id_wide_below (Some nothing) wide = absurd wide
  id_wide_below (Some (plus k)) wide = absurd wide
  id_wide_below (Some (minus k)) wide = refl

  module _ (id : ℕ) (clause : List Literal) where
    pub literal_wide : (o : Option NumberParts) → IsWide o → with_literal lines id clause line o ≡ Err (NotLiteral line)
    literal_wide None wide = absurd wide
    literal_wide (Some nothing) wide = absurd wide
    literal_wide (Some (plus k)) wide = rw (not_below (2 ^ 31) k (omega (arith, wide))) refl
    literal_wide (Some (minus k)) wide = absurd wide

    pub literal_wide_below : (o : Option NumberParts) → IsWideBelow o → with_literal lines id clause line o ≡ Err (NotLiteral line)
    literal_wide_below None wide = absurd wide
    literal_wide_below (Some nothing) wide = absurd wide
    literal_wide_below (Some (plus k)) wide = absurd wide
    literal_wide_below (Some (minus k)) wide = rw (not_below (2 ^ 31) k (omega (arith, wide))) refl

    module _ (hints : List ℕ) where
      pub hint_wide : (o : Option NumberParts) → IsWide o → with_hint lines id clause hints line o ≡ Err (NotHint line)
      hint_wide None wide = absurd wide
      hint_wide (Some nothing) wide = absurd wide
      hint_wide (Some (plus k)) wide = rw (not_below (2 ^ 64) k wide) refl
      hint_wide (Some (minus k)) wide = absurd wide

      pub hint_wide_below : (o : Option NumberParts) → IsWideBelow o → with_hint lines id clause hints line o ≡ Err (NotHint line)
      hint_wide_below None wide = absurd wide
      hint_wide_below (Some nothing) wide = absurd wide
      hint_wide_below (Some (plus k)) wide = absurd wide
      hint_wide_below (Some (minus k)) wide = rw (not_below (2 ^ 64) k wide) refl

      pub resolvent_wide : (o : Option NumberParts) → IsWide o → with_resolvent lines id clause hints line o ≡ Err (NotHint line)
      resolvent_wide None wide = absurd wide
      resolvent_wide (Some nothing) wide = absurd wide
      resolvent_wide (Some (plus k)) wide = rw (not_below (2 ^ 64) k wide) refl
      resolvent_wide (Some (minus k)) wide = absurd wide

      pub resolvent_wide_below : (o : Option NumberParts) → IsWideBelow o → with_resolvent lines id clause hints line o ≡ Err (NotHint line)
      resolvent_wide_below None wide = absurd wide
      resolvent_wide_below (Some nothing) wide = absurd wide
      resolvent_wide_below (Some (plus k)) wide = absurd wide
      resolvent_wide_below (Some (minus k)) wide = rw (not_below (2 ^ 64) k wide) refl

  module _ (ids : List ℕ) where
    pub deleted_wide : (o : Option NumberParts) → IsWide o → with_deleted lines ids line o ≡ Err (NotId line)
    deleted_wide None wide = absurd wide
    deleted_wide (Some nothing) wide = absurd wide
    deleted_wide (Some (plus k)) wide = rw (not_below (2 ^ 64) k wide) refl
    deleted_wide (Some (minus k)) wide = absurd wide

    pub deleted_wide_below : (o : Option NumberParts) → IsWideBelow o → with_deleted lines ids line o ≡ Err (NotId line)
    deleted_wide_below None wide = absurd wide
    deleted_wide_below (Some nothing) wide = absurd wide
    deleted_wide_below (Some (plus k)) wide = absurd wide
    deleted_wide_below (Some (minus k)) wide = refl
