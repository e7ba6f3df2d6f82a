-- A test, for many atoms at once, that next sets are congruent. For each set it knows some terms that are surely in it,
-- and the only terms that it may have beyond those of the other set.
use Rattle.std.specs.Prelude.{◌⊎◌, List, Option, Some, None}
use Rattle.kat_model.specs.Trees.{Term}
use Rattle.kat_model.specs.Members.{Has, IsSubset}
use Rattle.kat_model.specs.Pairs.{SetPair, sat}

-- the set has all sure terms, and each of its terms is in the other set or is open
pub record IsBetween (sure opened : List Term) (es fs : List Term) : Type 0 where
  pub has : IsSubset sure es
  pub only : (x : Term) → Has es x → Has fs x ⊎ Has opened x

-- there is a universal term, and the set has it
abbrev pub HasUniversal : Option Term → List Term → Type 0
HasUniversal None es = ⊥
HasUniversal (Some u) es = Has es u

-- saturating the set by the pairs yields all these terms, or the universal term
abbrev pub IsReached : Option Term → List SetPair → List Term → List Term → Type 0
IsReached universal pairs es targets = IsSubset targets (sat pairs es) ⊎ HasUniversal universal (sat pairs es)

-- saturating the sure terms of each side yields the open terms of the other
pub record IsCovered (universal : Option Term) (pairs : List SetPair) (sure_left sure_right open_left open_right : List Term) : Type 0 where
  pub lefts : IsReached universal pairs sure_right open_left
  pub rights : IsReached universal pairs sure_left open_right
