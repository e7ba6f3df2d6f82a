-- The limit of a problem on the pairs of a walk without tests.
use Rattle.std.proofs.Common.{◌≡◌, ◌≤◌, ℕ, Bool, true, false, cond, Option, Some, None, refl, sym, ◌∙◌, subst}
use Rattle.std.specs.Prelude.{IsSome}
use Rattle.std.specs.Bool.{IsTrue}
use Rattle.kat_model.specs.Problems.{ProblemParts}
use Rattle.certificate.specs.Decisions.{has_short, untested_limit}
use Rattle.walk_up_to.specs.Decisions.{IsWithinLimit, HasPairsPast}
use Rattle.bisim_worklist.specs.Working.Limits.{limit_of}

abbrev limit_if : Bool → Option ℕ
limit_if true = Some untested_limit
limit_if false = None

limit_is_if : (q : ProblemParts) → limit_of q ≡ limit_if (has_short q)
limit_is_if q = go (has_short q)
  where
    go : (b : Bool) → cond b (Some untested_limit) None ≡ limit_if b
    go true = refl
    go false = refl

pub short_where_some : (q : ProblemParts) (limit : Option ℕ) → limit ≡ limit_of q → IsSome limit → IsTrue (has_short q)
short_where_some q limit same some = go (has_short q) (subst IsSome (same ∙ limit_is_if q) some)
  where
    go : (b : Bool) → IsSome (limit_if b) → b ≡ true
    go true e = refl
    go false e = absurd cc

pub short_where_past : (q : ProblemParts) (limit : Option ℕ) → limit ≡ limit_of q → HasPairsPast q limit → IsTrue (has_short q)
short_where_past q limit same past = short_where_some q limit same (subst IsSome (sym past.limited) refl)

pub few_where_limited : (q : ProblemParts) (limit : Option ℕ) (n : ℕ) → limit ≡ limit_of q → IsWithinLimit limit n → IsTrue (has_short q) → n ≤ untested_limit
few_where_limited q limit n same within short = go (has_short q) short (subst (λ o. IsWithinLimit o n) (same ∙ limit_is_if q) within)
  where
    go : (b : Bool) → b ≡ true → IsWithinLimit (limit_if b) n → n ≤ untested_limit
    go true e w = w
    go false e w = absurd cc
