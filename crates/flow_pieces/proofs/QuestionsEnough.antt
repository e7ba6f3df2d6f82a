-- Agreed pieces are enough: states are related up to variables that are not live.
use Rattle.std.proofs.Common.{◌⊎◌, inl, inr, List, refl, sym, ◌∙◌, ap, subst}
use Rattle.kat_model.specs.Members.{Has}
use Rattle.flow_model.specs.Sorts.{State}
use Rattle.flow_model.specs.Graphs.{Pair}
use Rattle.flow_model.specs.Interpretations.{Interpretation}
use Rattle.flow_ways.specs.Sorted.{IsSortedGraph}
use Rattle.flow_ways.specs.Stops.{Stop}
use Rattle.flow_model.specs.Matches.{Match}
use Rattle.flow_pieces.specs.Matches.{is_shared, Relates, entry_match}
use Rattle.flow_pieces.specs.Pieces.{is_matched_before, is_matched_after, AreRelatedAt}
use Rattle.flow_pieces.specs.PieceQuestions.{IsProper, IsAgreed, HasSameText}
use Rattle.flow_pieces.specs.Laws.{AgreedPiecesAreEnough}
use Rattle.flow_pieces.proofs.Followed.{Relation, Flipped, AreStops, stops_more, Follows, FollowsOn, followed}
use Rattle.flow_pieces.proofs.SortedStates.{state_length}
use Rattle.flow_pieces.proofs.LiveRelations.{AgreeAt, agree_trans, LiveRelated, follows_alike}
use Rattle.flow_pieces.proofs.CommonStates.{before_agrees, after_agrees}
use Rattle.flow_pieces.proofs.AgreedPieces.{start_before, start_after, agreed_forth, agreed_back}
use Rattle.flow_pieces.proofs.SameTexts.{same_forth, same_back}
use Rattle.flow_pieces.proofs.Enough.{plainly_related}

module _ (I : Interpretation) (p : Pair) (ms : List Match) where
  -- states that agree with two states at a match on what is live, and from which runs follow each other
  record FollowsFrom (m : Match) (s t : State) : Type 0 where
    pub one : State
    pub other : State
    pub before : AgreeAt p.before m.before one s
    pub after : AgreeAt p.after m.after other t
    pub forth : Follows I p.before (is_matched_before ms) p.after (is_matched_after ms) (AreRelatedAt I p ms) m.before m.after one other
    pub back : Follows I p.after (is_matched_after ms) p.before (is_matched_before ms) (Flipped (AreRelatedAt I p ms)) m.after m.before other one

  module _ (first : IsSortedGraph p.sorts p.before) (second : IsSortedGraph p.sorts p.after) where
    agreed_from : (m : Match) (s t : State) → IsProper p m → IsAgreed p ms m → Relates I p m s t → FollowsFrom m s t
    agreed_from m s t proper agreed related = record {
      one = start_before I p ms first second m proper agreed s t related;
      other = start_after I p ms first second m proper agreed s t related;
      before = before_agrees I p m s t proper related;
      after = after_agrees I p m s t proper related;
      forth = agreed_forth I p ms first second m proper agreed s t related;
      back = agreed_back I p ms first second m proper agreed s t related;
    }

    text_from : (m : Match) (s t : State) → HasSameText p ms m → Relates I p m s t → FollowsFrom m s t
    text_from m s t text related = record {
      one = s;
      other = s;
      before = (refl, λ x live. refl);
      after = (state_length p.sorts s related.before_state ∙ sym (state_length p.sorts t related.after_state), λ x live. sym (related.shared x (ap (λ n. is_shared n x) text.plain) live));
      forth = same_forth I p ms m text first s related.before_state;
      back = same_back I p ms m text first s related.before_state;
    }

    module _ (pieces : (m : Match) → Has ms m → IsProper p m × (IsAgreed p ms m ⊎ HasSameText p ms m)) where
      from_match : (m : Match) (s t : State) → Has ms m → Relates I p m s t → FollowsFrom m s t
      from_match m s t member related = by_kind (pieces m member).1
        where
          by_kind : IsAgreed p ms m ⊎ HasSameText p ms m → FollowsFrom m s t
          by_kind (inl agreed) = agreed_from m s t (pieces m member).0 agreed related
          by_kind (inr text) = text_from m s t text related

      -- states related up to variables that are not live
      abbrev Related : Relation
      Related = LiveRelated p.before p.after (AreRelatedAt I p ms)

      flipped : (a b : Stop) → AreStops (LiveRelated p.after p.before (Flipped (AreRelatedAt I p ms))) a b → AreStops (Flipped Related) a b
      flipped a b h = stops_more (LiveRelated p.after p.before (Flipped (AreRelatedAt I p ms))) (Flipped Related) (λ l k t s (v, u, r, q, e). (u, v, r, e, q)) a b h

      forth_at : (m : Match) (u v s t : State) → Has ms m → Relates I p m u v → AgreeAt p.before m.before u s → AgreeAt p.after m.after v t → Follows I p.before (is_matched_before ms) p.after (is_matched_after ms) Related m.before m.after s t
      forth_at m u v s t member related e q =
          let from = from_match m u v member related in
          follows_alike I p.sorts p.before (is_matched_before ms) p.after (is_matched_after ms) (AreRelatedAt I p ms) first second m.before m.after from.one from.other s t from.forth
          (agree_trans p.before m.before from.one u s from.before e) (agree_trans p.after m.after from.other v t from.after q)

      back_at : (m : Match) (u v s t : State) → Has ms m → Relates I p m u v → AgreeAt p.before m.before u s → AgreeAt p.after m.after v t → Follows I p.after (is_matched_after ms) p.before (is_matched_before ms) (Flipped Related) m.after m.before t s
      back_at m u v s t member related e q b settled ends =
          let from = from_match m u v member related in
          let next = follows_alike I p.sorts p.after (is_matched_after ms) p.before (is_matched_before ms) (Flipped (AreRelatedAt I p ms)) second first m.after m.before from.other from.one t s from.back
          (agree_trans p.after m.after from.other v t from.after q) (agree_trans p.before m.before from.one u s from.before e) b settled ends in
          (next.0, next.1, flipped b next.0 next.2)

      forth : FollowsOn I p.before (is_matched_before ms) p.after (is_matched_after ms) Related
      forth k l s t (u, v, (m, member, at_k, at_l, related), e, q) =
          subst (λ x. Follows I p.before (is_matched_before ms) p.after (is_matched_after ms) Related x l s t) at_k
          (subst (λ x. Follows I p.before (is_matched_before ms) p.after (is_matched_after ms) Related m.before x s t) at_l
          (forth_at m u v s t member related (subst (λ x. AgreeAt p.before x u s) (sym at_k) e) (subst (λ x. AgreeAt p.after x v t) (sym at_l) q)))

      back : FollowsOn I p.after (is_matched_after ms) p.before (is_matched_before ms) (Flipped Related)
      back l k t s (u, v, (m, member, at_k, at_l, related), e, q) =
          subst (λ x. Follows I p.after (is_matched_after ms) p.before (is_matched_before ms) (Flipped Related) l x t s) at_k
          (subst (λ x. Follows I p.after (is_matched_after ms) p.before (is_matched_before ms) (Flipped Related) x m.before t s) at_l
          (back_at m u v s t member related (subst (λ x. AgreeAt p.before x u s) (sym at_k) e) (subst (λ x. AgreeAt p.after x v t) (sym at_l) q)))

pub questions_enough : AgreedPiecesAreEnough
questions_enough p ms first second entry pieces I s is vs = (
  followed I p.before (is_matched_before ms) p.after (is_matched_after ms) (LiveRelated p.before p.after (AreRelatedAt I p ms)) (forth I p ms first second pieces) 0 0 s s vs at_entry,
  followed I p.after (is_matched_after ms) p.before (is_matched_before ms) (Flipped (LiveRelated p.before p.after (AreRelatedAt I p ms))) (back I p ms first second pieces) 0 0 s s vs at_entry,
)
  where
    at_entry : LiveRelated p.before p.after (AreRelatedAt I p ms) 0 0 s s
    at_entry = (s, s, (entry_match, entry, refl, refl, plainly_related I p 0 0 s is), (refl, λ x live. refl), (refl, λ x live. refl))
