-- The tables of the walk of both graphs in step, as the lists of the definitions.
use Rattle.std.specs.Prelude.{◌≡◌, ◌↔◌, ℕ, suc, Bool, true, false, List, ◌∷◌, ◌++◌, reverse, vec_len, Option, Some, None, slice_get}
use Rattle.kat_model.specs.Members.{Has}
use Rattle.flow_model.specs.Graphs.{Pair}
use Rattle.flow_model.specs.Matches.{Match}
use Rattle.flow_pieces.specs.SameTexts.{walk_pairs}
use Rattle.flow_matches.specs.declared.text.TextWalk.{TextWalk}

abbrev pub Pairs : Type 0
Pairs = List (ℕ × ℕ)

-- the pairs that wait, the next one first
abbrev pub waiting_of : TextWalk → Pairs
waiting_of walk = reverse walk.waiting.items

-- the tables have the partners that the pairs of a list give
pub record HasMet (walk : TextWalk) (met : Pairs) : Type 0 where
  pub before : (k l : ℕ) → (slice_get walk.before.items k ≡ Some (Some l)) ↔ Has {X = ℕ × ℕ} met (k, l)
  pub after : (k l : ℕ) → (slice_get walk.after.items l ≡ Some (Some k)) ↔ Has {X = ℕ × ℕ} met (k, l)

pub record SamePartners (old new : TextWalk) : Type 0 where
  pub before : new.before.items ≡ old.before.items
  pub after : new.after.items ≡ old.after.items

-- the tables have the same numbers of places
pub record SameLengths (old new : TextWalk) : Type 0 where
  pub before : vec_len new.before ≡ vec_len old.before
  pub after : vec_len new.after ≡ vec_len old.after

-- where there are next pairs, they wait before the others; else the answer is `false`
abbrev pub AddsPairs : Bool → Option Pairs → TextWalk → TextWalk → Type 0
AddsPairs true (Some next) old new = waiting_of new ≡ next ++ waiting_of old
AddsPairs false None old new = Unit {0}
AddsPairs same o old new = ⊥

-- one step of the walk: it continues with the pairs that the tables then have, or there is no list of pairs
abbrev pub Visits : Pair → List Match → ℕ × ℕ → Bool → TextWalk → TextWalk → Type 0
Visits p ms q true old new =
    (n : ℕ) (met : Pairs) → HasMet old met → (more : Pairs) × HasMet new more × (walk_pairs p ms (suc n) met (q ∷ waiting_of old) ≡ walk_pairs p ms n more (waiting_of new))
Visits p ms q false old new =
    (n : ℕ) (met : Pairs) → HasMet old met → walk_pairs p ms (suc n) met (q ∷ waiting_of old) ≡ None
