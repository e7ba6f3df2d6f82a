-- Pieces whose graphs agree: runs from the states after the openings follow each other.
use Rattle.std.proofs.Common.{ℕ, ◌%◌, Bool, List, ◌∷◌, map, refl, subst}
use Rattle.kat_model.specs.Stores.{modulus}
use Rattle.kat_model.specs.declared.expression.Width.TheVariants.{W32}
use Rattle.flow_model.specs.declared.sort.Sort.{Sort}
use Rattle.flow_model.specs.Sorts.{State, IsState}
use Rattle.flow_model.specs.Graphs.{Graph, Pair}
use Rattle.flow_model.specs.Interpretations.{Interpretation, value}
use Rattle.flow_ways.specs.Sorted.{IsSortedGraph}
use Rattle.flow_ways.specs.Stops.{Stop, came_to, returned, stuck, unfinished, IsSettled}
use Rattle.flow_model.specs.Matches.{Match}
use Rattle.flow_pieces.specs.Matches.{Relates}
use Rattle.flow_pieces.specs.Pieces.{Ends, is_matched_before, is_matched_after, AreRelatedAt}
use Rattle.flow_pieces.specs.PieceGraphs.{Side, side_before, side_after}
use Rattle.flow_pieces.specs.PieceQuestions.{IsProper, IsAgreed}
use Rattle.flow_pieces.proofs.Followed.{Flipped, AreStops, stops_flipped, Follows}
use Rattle.flow_pieces.proofs.SideRuns.{taken, Gives, stop_of_return, return_of_stop}
use Rattle.flow_pieces.proofs.SortedStates.{IsStateAt, stop_state}
use Rattle.flow_pieces.proofs.TakenExits.{given_alike}
use Rattle.flow_pieces.proofs.CommonStates.{common, common_state, opened, opens, before_state, after_state}

-- the list that a stop gives
stop_list : (I : Interpretation) (side : Side) (a : Stop) → IsSettled a → (vs : List ℕ) × Gives I side a vs
stop_list I side (came_to k s) h = (map (value I s) (taken I s (side.leaves k) side.otherwise), refl)
stop_list I side (returned vs) h = ((0 % modulus W32) ∷ vs, refl)
stop_list I side stuck h = absurd h
stop_list I side unfinished h = absurd h

-- a run that ends at a block has a state there
state_at_end : (I : Interpretation) (sorts : List Sort) (g : Graph) (is_place : ℕ → Bool) → IsSortedGraph sorts g → (k : ℕ) (s : State) → IsState sorts s → (a : Stop) → Ends I g is_place k s a → IsStateAt sorts a
state_at_end I sorts g is_place sorted k s is a (n, e) = subst (IsStateAt sorts) e (stop_state I sorts g is_place sorted n k s is)

module _ (I : Interpretation) (p : Pair) (ms : List Match) (first : IsSortedGraph p.sorts p.before) (second : IsSortedGraph p.sorts p.after) (m : Match) (proper : IsProper p m) (agreed : IsAgreed p ms m) (s t : State) (related : Relates I p m s t) where
  abbrev pub start_before : State
  start_before = opened I p m s t proper related m.back

  abbrev pub start_after : State
  start_after = opened I p m s t proper related m.forth

  alike : (vs : List ℕ) (a b : Stop) → Ends I p.before (is_matched_before ms) m.before start_before a → Ends I p.after (is_matched_after ms) m.after start_after b →
      Gives I (side_before p ms m agreed.exits) a vs → Gives I (side_after p ms m agreed.exits) b vs → AreStops (AreRelatedAt I p ms) a b
  alike vs a b e f h g =
      given_alike I p ms m agreed.exits agreed.are_exits agreed.marked vs a b
      (state_at_end I p.sorts p.before (is_matched_before ms) first m.before start_before (before_state I p m s t proper related) a e)
      (state_at_end I p.sorts p.after (is_matched_after ms) second m.after start_after (after_state I p m s t proper related) b f) h g

  pub agreed_forth : Follows I p.before (is_matched_before ms) p.after (is_matched_after ms) (AreRelatedAt I p ms) m.before m.after start_before start_after
  agreed_forth a settled e =
      let list = stop_list I (side_before p ms m agreed.exits) a settled in
      let u = common I p m s t proper related in
      let one = return_of_stop I (side_before p ms m agreed.exits) u start_before list.0 (opens I p m s t proper related m.back) a e list.1 in
      let other = (agreed.agree I u (common_state I p m s t proper related) list.0).0 one in
      let next = stop_of_return I (side_after p ms m agreed.exits) u start_after list.0 (opens I p m s t proper related m.forth) other in
      (next.0, next.1, alike list.0 a next.0 e next.1 list.1 next.2)

  pub agreed_back : Follows I p.after (is_matched_after ms) p.before (is_matched_before ms) (Flipped (AreRelatedAt I p ms)) m.after m.before start_after start_before
  agreed_back b settled e =
      let list = stop_list I (side_after p ms m agreed.exits) b settled in
      let u = common I p m s t proper related in
      let one = return_of_stop I (side_after p ms m agreed.exits) u start_after list.0 (opens I p m s t proper related m.forth) b e list.1 in
      let other = (agreed.agree I u (common_state I p m s t proper related) list.0).1 one in
      let next = stop_of_return I (side_before p ms m agreed.exits) u start_before list.0 (opens I p m s t proper related m.back) other in
      (next.0, next.1, stops_flipped (AreRelatedAt I p ms) next.0 b (alike list.0 next.0 b next.1 e next.2 list.1))
