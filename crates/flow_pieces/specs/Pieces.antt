-- Pieces: runs of both graphs from a match to the next matched blocks.
use Rattle.std.specs.Prelude.{◌≡◌, ◌↔◌, ℕ, Bool, ◌==◌, List}
use Rattle.std.specs.List.{list_any}
use Rattle.kat_model.specs.Members.{Has}
use Rattle.flow_model.specs.Sorts.{State}
use Rattle.flow_model.specs.Graphs.{Graph, Pair}
use Rattle.flow_model.specs.Interpretations.{Interpretation}
use Rattle.flow_ways.specs.Stops.{Stop, came_to, returned, stop_from}
use Rattle.flow_model.specs.Matches.{Match}
use Rattle.flow_pieces.specs.Matches.{Relates}

-- whether a block of the first graph, or of the second, is matched
abbrev pub is_matched_before : List Match → ℕ → Bool
is_matched_before ms k = list_any (λ m. m.before == k) ms

abbrev pub is_matched_after : List Match → ℕ → Bool
is_matched_after ms k = list_any (λ m. m.after == k) ms

-- the run from a block ends so: it returns, or jumps to a matched block
abbrev pub Ends : Interpretation → Graph → (ℕ → Bool) → ℕ → State → Stop → Type 0
Ends I g is_matched k s end = (n : ℕ) × (stop_from I g is_matched n k s ≡ end)

-- some match of two blocks relates the states there
abbrev pub AreRelatedAt : Interpretation → Pair → List Match → ℕ → ℕ → State → State → Type 0
AreRelatedAt I p ms k l s t = (m : Match) × Has ms m × (m.before ≡ k) × (m.after ≡ l) × Relates I p m s t

-- What a piece says of two states at its match: the runs from there return the same values, and if one jumps to a matched
-- block, so does the other, and the states there are related by a match of both blocks.
pub record EndAlike (I : Interpretation) (p : Pair) (ms : List Match) (m : Match) (s t : State) : Type 0 where
  pub returns : (vs : List ℕ) → Ends I p.before (is_matched_before ms) m.before s (returned vs) ↔ Ends I p.after (is_matched_after ms) m.after t (returned vs)
  pub forth : (k : ℕ) (s' : State) → Ends I p.before (is_matched_before ms) m.before s (came_to k s') →
      (l : ℕ) × (t' : State) × Ends I p.after (is_matched_after ms) m.after t (came_to l t') × AreRelatedAt I p ms k l s' t'
  pub back : (l : ℕ) (t' : State) → Ends I p.after (is_matched_after ms) m.after t (came_to l t') →
      (k : ℕ) × (s' : State) × Ends I p.before (is_matched_before ms) m.before s (came_to k s') × AreRelatedAt I p ms k l s' t'

-- the piece of a match holds
abbrev pub PieceHolds : Pair → List Match → Match → Type 0
PieceHolds p ms m = (I : Interpretation) (s t : State) → Relates I p m s t → EndAlike I p ms m s t
