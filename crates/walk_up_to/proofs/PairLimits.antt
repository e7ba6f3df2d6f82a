-- The limit on listed pairs: when an additional pair may be listed, and when the limit is reached.
use Rattle.std.proofs.Common.{◌≡◌, ◌≤◌, ◌+◌, ℕ, true, false, nat_le, List, ◌∷◌, length, Option, Some, None, refl, ap, subst, arith}
use Rattle.std.specs.Option.{option_map_or}
use Rattle.std.proofs.lemmas.Bool.{leb-true, leb-false}
use Rattle.std.proofs.lemmas.List.{length-map}
use Rattle.kat_model.specs.Problems.{ProblemParts}
use Rattle.kat_model.specs.Pairs.{SetPair}
use Rattle.certificate.specs.Decisions.{HasNoRedundantPair}
use Rattle.walk_up_to.specs.Walks.{Entry, pairs_of, closed_pair}
use Rattle.walk_up_to.specs.Decisions.{IsWithinLimit, HasPairsPast}
use Rattle.walk_up_to.specs.Working.IdWalks.{IsPastLimit}
use Rattle.walk_up_to.proofs.Endings.{begins}

pub room_for_one : (limit : Option ℕ) (n : ℕ) → option_map_or (λ m. nat_le m n) limit false ≡ false → IsWithinLimit limit (n + 1)
room_for_one None n e = tt
room_for_one (Some m) n e = let more = leb-false m n e in omega (arith, more)

pub full_limit : (limit : Option ℕ) (n : ℕ) → option_map_or (λ m. nat_le m n) limit false ≡ true → (m : ℕ) × (limit ≡ Some m) × (m ≤ n)
full_limit None n e = absurd cc
full_limit (Some m) n e = (m, refl, leb-true m n e)

-- the pairs of a walk past the limit have no redundant one
pub pairs_past : (q : ProblemParts) (limit : Option ℕ) → IsPastLimit q limit → HasPairsPast q limit
pairs_past q limit past =
    let b = begins q past.entries past.walk.first in
    let count : length b.0 + 1 ≡ length past.entries = rest_length b in
    record {
      most = past.most;
      limited = past.limited;
      rest = b.0;
      needed = subst (HasNoRedundantPair q) b.1 past.walk.needed;
      many = omega (arith, past.many, count);
    }
  where
    rest_length : (b : (rest : List SetPair) × (pairs_of past.entries ≡ closed_pair q ∷ rest)) → length b.0 + 1 ≡ length past.entries
    rest_length b = let whole = ap length b.1 in let mapped = length-map past.entries (λ (e : Entry). e.pair) in omega (arith, whole, mapped)
