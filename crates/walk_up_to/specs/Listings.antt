-- The pairs of a walk as the program stores them, as ids of their terms.
use Rattle.std.specs.Prelude.{◌≡◌, ◌<◌, ℕ, List, [], ◌∷◌, map, slice_get, Option, Some, None}
use Rattle.kat_model.specs.Members.{Has}
use Rattle.kat_model.specs.Pairs.{SetPair}
use Rattle.term_nodes.specs.NumberSets.{terms_of}
use Rattle.term_nodes.specs.NodeLists.{NodeParts}
use Rattle.certificate.specs.PairParts.{PairParts}
use Rattle.walk_up_to.specs.Walks.{StepOrigin, Entry}
use Rattle.walk_pairs.specs.IdSets.{IsIdSet}
use Rattle.walk_pairs.specs.declared.items.Side.{Side}
use Rattle.walk_pairs.specs.declared.items.Side.TheVariants.{Left, Right}

pub record IdEntry : Type 0 where
  pub left : List ℕ
  pub right : List ℕ
  pub origin : Option StepOrigin

-- the set of the pair on this side, and on the other side
abbrev pub set_on : Side → IdEntry → List ℕ
set_on Left e = e.left
set_on Right e = e.right

abbrev pub set_across : Side → IdEntry → List ℕ
set_across Left e = e.right
set_across Right e = e.left

abbrev pub pair_of : NodeParts → IdEntry → SetPair
pair_of store e = record { left = terms_of store e.left; right = terms_of store e.right }

abbrev pub entry_of : NodeParts → IdEntry → Entry
entry_of store e = record { pair = pair_of store e; origin = e.origin }

abbrev pub entries_of : NodeParts → List IdEntry → List Entry
entries_of store es = map (entry_of store) es

-- both sets of each pair are sets of ids
abbrev pub AreIdSets : NodeParts → ℕ → List IdEntry → Type 0
AreIdSets store n es = (e : IdEntry) → Has es e → IsIdSet store n e.left × IsIdSet store n e.right

-- each pair but the first comes from an earlier one
abbrev pub ComesEarlier : ℕ → Option StepOrigin → Type 0
ComesEarlier k None = k ≡ 0
ComesEarlier k (Some o) = o.place < k

abbrev pub AreTraced : List IdEntry → Type 0
AreTraced es = (k : ℕ) (e : IdEntry) → slice_get es k ≡ Some e → ComesEarlier k e.origin

-- the step that led to the pair at a place
abbrev pub origin_in : Option IdEntry → Option StepOrigin
origin_in None = None
origin_in (Some e) = e.origin

abbrev pub origin_of : List IdEntry → ℕ → Option StepOrigin
origin_of es k = origin_in (slice_get es k)

-- the steps lead back from the pair at a place to the first
abbrev pub LeadsBack : List IdEntry → ℕ → List StepOrigin → Type 0
LeadsBack es k [] = k ≡ 0
LeadsBack es k (o ∷ os) = (origin_of es k ≡ Some o) × LeadsBack es o.place os

-- the pair of a certificate without tests
abbrev pub untested_of : IdEntry → PairParts
untested_of e = record { left = e.left; right = e.right; test = None }
