-- Pieces are enough: a run that returns follows matched blocks to its end.
use Rattle.std.proofs.Common.{ℕ, List, refl, subst}
use Rattle.kat_model.specs.Members.{Has}
use Rattle.flow_model.specs.Sorts.{State, IsState}
use Rattle.flow_model.specs.Graphs.{Pair}
use Rattle.flow_model.specs.Interpretations.{Interpretation}
use Rattle.flow_ways.specs.Stops.{came_to, returned, stuck, unfinished}
use Rattle.flow_model.specs.Matches.{Match}
use Rattle.flow_pieces.specs.Matches.{Relates, entry_match}
use Rattle.flow_pieces.specs.Pieces.{is_matched_before, is_matched_after, AreRelatedAt, EndAlike, PieceHolds}
use Rattle.flow_pieces.specs.PieceQuestions.{plain_match}
use Rattle.flow_pieces.specs.Laws.{PiecesAreEnough}
use Rattle.flow_pieces.proofs.Followed.{Flipped, Follows, FollowsOn, followed}

module _ (I : Interpretation) (p : Pair) (ms : List Match) where
  -- a piece that holds is followed both ways

  forth_at : (m : Match) (s t : State) → EndAlike I p ms m s t → Follows I p.before (is_matched_before ms) p.after (is_matched_after ms) (AreRelatedAt I p ms) m.before m.after s t
  forth_at m s t alike (came_to k u) h e = let next = alike.forth k u e in (came_to next.0 next.1, next.2, next.3)
  forth_at m s t alike (returned vs) h e = (returned vs, (alike.returns vs).0 e, refl)
  forth_at m s t alike stuck h e = absurd h
  forth_at m s t alike unfinished h e = absurd h

  back_at : (m : Match) (s t : State) → EndAlike I p ms m s t → Follows I p.after (is_matched_after ms) p.before (is_matched_before ms) (Flipped (AreRelatedAt I p ms)) m.after m.before t s
  back_at m s t alike (came_to l v) h e = let next = alike.back l v e in (came_to next.0 next.1, next.2, next.3)
  back_at m s t alike (returned vs) h e = (returned vs, (alike.returns vs).1 e, refl)
  back_at m s t alike stuck h e = absurd h
  back_at m s t alike unfinished h e = absurd h

  module _ (pieces : (m : Match) → Has ms m → PieceHolds p ms m) where
    pub forth : FollowsOn I p.before (is_matched_before ms) p.after (is_matched_after ms) (AreRelatedAt I p ms)
    forth k l s t (m, member, at_k, at_l, related) =
        subst (λ x. Follows I p.before (is_matched_before ms) p.after (is_matched_after ms) (AreRelatedAt I p ms) x l s t) at_k
        (subst (λ x. Follows I p.before (is_matched_before ms) p.after (is_matched_after ms) (AreRelatedAt I p ms) m.before x s t) at_l
        (forth_at m s t (pieces m member I s t related)))

    pub back : FollowsOn I p.after (is_matched_after ms) p.before (is_matched_before ms) (Flipped (AreRelatedAt I p ms))
    back l k t s (m, member, at_k, at_l, related) =
        subst (λ x. Follows I p.after (is_matched_after ms) p.before (is_matched_before ms) (Flipped (AreRelatedAt I p ms)) l x t s) at_k
        (subst (λ x. Follows I p.after (is_matched_after ms) p.before (is_matched_before ms) (Flipped (AreRelatedAt I p ms)) x m.before t s) at_l
        (back_at m s t (pieces m member I s t related)))

-- a state is related with itself by a match without equations and condition
pub plainly_related : (I : Interpretation) (p : Pair) (k l : ℕ) (s : State) → IsState p.sorts s → Relates I p (plain_match k l) s s
plainly_related I p k l s is = record {
  before_state = is;
  after_state = is;
  forth = λ e h live. absurd h;
  back = λ e h live. absurd h;
  shared = λ x h live. refl;
  keeping = λ e h. absurd h;
  condition = refl;
}

pub enough : PiecesAreEnough
enough p ms entry pieces I s is vs = (
  followed I p.before (is_matched_before ms) p.after (is_matched_after ms) (AreRelatedAt I p ms) (forth I p ms pieces) 0 0 s s vs at_entry,
  followed I p.after (is_matched_after ms) p.before (is_matched_before ms) (Flipped (AreRelatedAt I p ms)) (back I p ms pieces) 0 0 s s vs at_entry,
)
  where
    at_entry : AreRelatedAt I p ms 0 0 s s
    at_entry = (entry_match, entry, refl, refl, plainly_related I p 0 0 s is)
