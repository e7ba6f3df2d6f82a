-- The entries of a walk and their pairs.
use Rattle.std.proofs.Common.{◌≡◌, ◌≤◌, ℕ, List, [], ◌∷◌, ◌++◌, Option, Some, None, refl, ap, arith}
use Rattle.kat_model.specs.Members.{Has}
use Rattle.kat_model.specs.Pairs.{SetPair}
use Rattle.kat_model.proofs.Lists.{map_has, has_map}
use Rattle.walk_up_to.specs.Walks.{StepOrigin, Entry, pairs_of, IsFoundBy}

pub pairs_of-append : (es fs : List Entry) → pairs_of (es ++ fs) ≡ pairs_of es ++ pairs_of fs
pairs_of-append [] fs = refl
pairs_of-append (e ∷ es) fs = ap (λ ps. e.pair ∷ ps) (pairs_of-append es fs)

pub has_pair : (es : List Entry) (e : Entry) → Has es e → Has (pairs_of es) e.pair
has_pair es e h = map_has (λ (x : Entry). x.pair) es e h

pub pair_has : (es : List Entry) (p : SetPair) → Has (pairs_of es) p → (e : Entry) × Has es e × (e.pair ≡ p)
pair_has es p h = has_map (λ (x : Entry). x.pair) es p h

-- an origin found by a place is found by later places
pub found_later : (k n : ℕ) (o : Option StepOrigin) → k ≤ n → IsFoundBy k o → IsFoundBy n o
found_later k n None l h = tt
found_later k n (Some o) l h = omega arith
