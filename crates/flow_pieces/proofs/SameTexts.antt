-- Pieces with the same text: both graphs run alike from one state.
use Rattle.std.proofs.Common.{◌≡◌, inl, inr, ℕ, zero, suc, Bool, true, false, List, map, Option, Some, None, slice_get, if◌then◌else◌, refl, sym, ap, subst}
use Rattle.kat_model.specs.Members.{Has}
use Rattle.flow_model.specs.Sorts.{State, IsState}
use Rattle.flow_model.specs.Graphs.{JumpTree, goto, branch, return, abort, Pair}
use Rattle.flow_model.specs.Interpretations.{Interpretation, value, holds}
use Rattle.flow_model.specs.Runs.{after_statements}
use Rattle.flow_ways.specs.Sorted.{IsSortedGraph}
use Rattle.flow_ways.specs.Stops.{Stop, came_to, returned, stuck, unfinished, jump_stop, jump_stop_if, block_stop, stop_from, IsSettled}
use Rattle.flow_model.specs.Matches.{Match}
use Rattle.flow_pieces.specs.Pieces.{is_matched_before, is_matched_after, AreRelatedAt}
use Rattle.flow_pieces.specs.PieceQuestions.{plain_match, LeadAlike, JumpAlike, AreAlike, HasSameText}
use Rattle.flow_pieces.proofs.Followed.{Flipped, AreStops, stops_flipped, Follows}
use Rattle.flow_pieces.proofs.SortedStates.{IsStateAt, stop_state}
use Rattle.flow_pieces.proofs.Enough.{plainly_related}

module _ (I : Interpretation) (p : Pair) (ms : List Match) where
  -- both runs reach plainly matched blocks in one state, return the same values, or end alike
  abbrev SameStops : Stop → Stop → Type 0
  SameStops (came_to k s) (came_to l t) = (s ≡ t) × Has ms (plain_match k l)
  SameStops (returned vs) (returned ws) = vs ≡ ws
  SameStops stuck stuck = Unit {0}
  SameStops unfinished unfinished = Unit {0}
  SameStops a b = ⊥

  module _ (pairs : List (ℕ × ℕ)) where
    -- the runs go on alike where jumps lead alike
    abbrev GoSame : (ℕ → State → Stop) → (ℕ → State → Stop) → Type 0
    GoSame go there = (k l : ℕ) → LeadAlike ms pairs k l → (s : State) → SameStops (go k s) (there l s)

    jump_same : (go there : ℕ → State → Stop) → GoSame go there → (i j : JumpTree) → JumpAlike ms pairs i j → (s : State) → SameStops (jump_stop I go i s) (jump_stop I there j s)
    jump_same go there f (goto k) (goto l) h s = f k l h s
    jump_same go there f (goto k) (branch c l m) h s = absurd h
    jump_same go there f (goto k) (return fs) h s = absurd h
    jump_same go there f (goto k) abort h s = absurd h
    jump_same go there f (branch b k j) (goto l) h s = absurd h
    jump_same go there f (branch b k j) (branch c l m) (same, first, second) s =
        subst (λ d. SameStops (go (if holds I s b then k else j) s) (there (if holds I s d then l else m) s)) same (by_truth (holds I s b))
      where
        by_truth : (d : Bool) → SameStops (go (if d then k else j) s) (there (if d then l else m) s)
        by_truth true = f k l first s
        by_truth false = f j m second s
    jump_same go there f (branch b k j) (return fs) h s = absurd h
    jump_same go there f (branch b k j) abort h s = absurd h
    jump_same go there f (return es) (goto l) h s = absurd h
    jump_same go there f (return es) (branch c l m) h s = absurd h
    jump_same go there f (return es) (return fs) h s = ap (map (value I s)) h
    jump_same go there f (return es) abort h s = absurd h
    jump_same go there f abort (goto l) h s = absurd h
    jump_same go there f abort (branch c l m) h s = absurd h
    jump_same go there f abort (return fs) h s = absurd h
    jump_same go there f abort abort h s = tt

    statements_same : (go there : ℕ → State → Stop) → GoSame go there → (i j : JumpTree) → JumpAlike ms pairs i j → (o : Option State) → SameStops (jump_stop_if I go i o) (jump_stop_if I there j o)
    statements_same go there f i j h None = tt
    statements_same go there f i j h (Some s) = jump_same go there f i j h s

    block_same : (go there : ℕ → State → Stop) → GoSame go there → (k l : ℕ) → AreAlike p ms pairs k l → (s : State) → SameStops (block_stop I go (slice_get p.before k) s) (block_stop I there (slice_get p.after l) s)
    block_same go there f k l h s =
        subst (λ o. SameStops (block_stop I go o s) (block_stop I there (slice_get p.after l) s)) (sym h.block_before)
        (subst (λ o. SameStops (block_stop I go (Some h.before) s) (block_stop I there o s)) (sym h.block_after)
        (subst (λ stmts. SameStops (jump_stop_if I go h.before.jump (after_statements I s h.before.statements)) (jump_stop_if I there h.after.jump (after_statements I s stmts))) h.statements
        (statements_same go there f h.before.jump h.after.jump h.jumps (after_statements I s h.before.statements))))

    module _ (alike : (k l : ℕ) → Has pairs (k, l) → AreAlike p ms pairs k l) where
      abbrev RunSame : ℕ → Type 0
      RunSame n = (k l : ℕ) → Has pairs (k, l) → (s : State) → SameStops (stop_from I p.before (is_matched_before ms) n k s) (stop_from I p.after (is_matched_after ms) n l s)

      next_same : (n : ℕ) → RunSame n →
          GoSame (λ k s. if is_matched_before ms k then came_to k s else stop_from I p.before (is_matched_before ms) n k s) (λ l s. if is_matched_after ms l then came_to l s else stop_from I p.after (is_matched_after ms) n l s)
      next_same n same k l (inl (first, second, member)) s =
          subst (λ c. SameStops (if c then came_to k s else stop_from I p.before (is_matched_before ms) n k s) (if is_matched_after ms l then came_to l s else stop_from I p.after (is_matched_after ms) n l s)) (sym first)
          (subst (λ c. SameStops (came_to k s) (if c then came_to l s else stop_from I p.after (is_matched_after ms) n l s)) (sym second) (refl, member))
      next_same n same k l (inr (first, second, member)) s =
          subst (λ c. SameStops (if c then came_to k s else stop_from I p.before (is_matched_before ms) n k s) (if is_matched_after ms l then came_to l s else stop_from I p.after (is_matched_after ms) n l s)) (sym first)
          (subst (λ c. SameStops (stop_from I p.before (is_matched_before ms) n k s) (if c then came_to l s else stop_from I p.after (is_matched_after ms) n l s)) (sym second) (same k l member s))

      runs_same : (n : ℕ) → RunSame n
      runs_same zero k l h s = tt
      runs_same (suc n) k l h s =
          block_same (λ i u. if is_matched_before ms i then came_to i u else stop_from I p.before (is_matched_before ms) n i u) (λ j u. if is_matched_after ms j then came_to j u else stop_from I p.after (is_matched_after ms) n j u)
          (next_same n (runs_same n)) k l (alike k l h) s

  -- ---- the states where both runs stop are related

  same_settled : (a b : Stop) → SameStops a b → IsSettled b → IsSettled a
  same_settled (came_to k s) b r h = tt
  same_settled (returned vs) b r h = tt
  same_settled stuck (came_to l t) r h = absurd r
  same_settled stuck (returned ws) r h = absurd r
  same_settled stuck stuck r h = h
  same_settled stuck unfinished r h = absurd r
  same_settled unfinished (came_to l t) r h = absurd r
  same_settled unfinished (returned ws) r h = absurd r
  same_settled unfinished stuck r h = absurd r
  same_settled unfinished unfinished r h = h

  same_related : (a b : Stop) → IsStateAt p.sorts a → IsSettled a → SameStops a b → AreStops (AreRelatedAt I p ms) a b
  same_related (came_to k s) (came_to l t) is h (same, member) =
      subst (λ u. AreRelatedAt I p ms k l s u) same (plain_match k l, member, refl, refl, plainly_related I p k l s is)
  same_related (came_to k s) (returned ws) is h r = absurd r
  same_related (came_to k s) stuck is h r = absurd r
  same_related (came_to k s) unfinished is h r = absurd r
  same_related (returned vs) (came_to l t) is h r = absurd r
  same_related (returned vs) (returned ws) is h r = r
  same_related (returned vs) stuck is h r = absurd r
  same_related (returned vs) unfinished is h r = absurd r
  same_related stuck b is h r = absurd h
  same_related unfinished b is h r = absurd h

  module _ (m : Match) (text : HasSameText p ms m) (sorted : IsSortedGraph p.sorts p.before) (s : State) (is : IsState p.sorts s) where
    same_at : (n : ℕ) → SameStops (stop_from I p.before (is_matched_before ms) n m.before s) (stop_from I p.after (is_matched_after ms) n m.after s)
    same_at n = runs_same text.pairs text.alike n m.before m.after text.first s

    pub same_forth : Follows I p.before (is_matched_before ms) p.after (is_matched_after ms) (AreRelatedAt I p ms) m.before m.after s s
    same_forth a h (n, e) =
        let b = stop_from I p.after (is_matched_after ms) n m.after s in
        let state = subst (IsStateAt p.sorts) e (stop_state I p.sorts p.before (is_matched_before ms) sorted n m.before s is) in
        (b, (n, refl), same_related a b state h (subst (λ c. SameStops c b) e (same_at n)))

    pub same_back : Follows I p.after (is_matched_after ms) p.before (is_matched_before ms) (Flipped (AreRelatedAt I p ms)) m.after m.before s s
    same_back b h (n, e) =
        let a = stop_from I p.before (is_matched_before ms) n m.before s in
        let same = subst (SameStops a) e (same_at n) in
        (a, (n, refl), stops_flipped (AreRelatedAt I p ms) a b (same_related a b (stop_state I p.sorts p.before (is_matched_before ms) sorted n m.before s is) (same_settled a b same h) same))
