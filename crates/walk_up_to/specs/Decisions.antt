-- The evidence that a walk up to congruence returns for a problem, and why it stops at its limit.
use Rattle.std.specs.Prelude.{◌≡◌, ◌≤◌, ◌<◌, ◌+◌, ℕ, List, ◌∷◌, length, Option, Some, None}
use Rattle.kat_model.specs.Problems.{ProblemParts}
use Rattle.kat_model.specs.Relations.{Same}
use Rattle.kat_model.specs.Pairs.{SetPair}
use Rattle.certificate.specs.Accepted.{set_pairs}
use Rattle.certificate.specs.declared.evidence.Evidence.{Evidence}
use Rattle.certificate.specs.declared.evidence.Evidence.TheVariants.{Equal, Different}
use Rattle.certificate.specs.Decisions.{HasNoRedundantPair, IsConcise, IsShortest}
use Rattle.walk_up_to.specs.Walks.{closed_pair}

-- n pairs may be listed
abbrev pub IsWithinLimit : Option ℕ → ℕ → Type 0
IsWithinLimit None n = Unit {0}
IsWithinLimit (Some m) n = n ≤ m

-- a concise certificate with at most as many pairs as the limit, or a shortest refuting string
abbrev pub IsDecisionUpTo : ProblemParts → Option ℕ → Evidence → Type 0
IsDecisionUpTo q limit (Equal c) = Same q × IsConcise q c × IsWithinLimit limit (length (set_pairs c))
IsDecisionUpTo q limit (Different x) = (Same q → ⊥) × IsShortest q x

-- there are more pairs than the limit from the closed sides on, and none is redundant
pub record HasPairsPast (q : ProblemParts) (limit : Option ℕ) : Type 0 where
  pub most : ℕ
  pub limited : limit ≡ Some most
  pub rest : List SetPair
  pub needed : HasNoRedundantPair q (closed_pair q ∷ rest)
  pub many : most < length rest + 1
