-- The walk from the entry leaves the blocks that are reached; a walk that stops at places meets a back edge where a loop
-- has no place.
use Rattle.std.proofs.Common.{◌≡◌, ◌↔◌, inl, inr, ⊎_elim, ℕ, suc, ◌<◌, ◌≤◌, Bool, true, false, not, IsTrue, ◌&&◌, ◌||◌, List, [], ◌∷◌, length, reverse, Some, None, slice_get, nat_eq, if◌then◌else◌, refl, sym, ◌∙◌, ap, subst, arith}
use Rattle.std.specs.List.{range_with_len}
use Rattle.std.proofs.lemmas.Bool.{false≢true, eq-eqb, ne_eqb, and_parts, and_from, or_right, cases_lt}
use Rattle.std.proofs.lemmas.List.{get_or_past, reverse-append}
use Rattle.std.proofs.lemmas.Option.{slice_get_within}
use Rattle.std.proofs.lemmas.List.FromFn.{length-map-range_with_len, get_or-map-range_with_len}
use Rattle.kat_model.specs.Members.{Has, HasNoDoubles}
use Rattle.kat_model.proofs.Lists.{has_right}
use Rattle.kat_model.proofs.Filters.{has_filter, filter_has}
use Rattle.flow_model.specs.Graphs.{Block, Graph}
use Rattle.flow_places.specs.Walks.{Walk, is_among, walk_from, no_walk}
use Rattle.flow_places.specs.Places.{entry_walk, is_reached, is_marked, is_cut, has_marks, place_marks, is_place, places, cut_walk}
use Rattle.flow_places.specs.Loops.{targets_of, targets, IsReached, entry, jumped, Avoids, one_jump, more_jumps, HasUncutLoop}
use Rattle.flow_places.proofs.Walked.{among_has, has_among, in_range, IsBlock, block_reached, IsWayTo, IsHandled, AreInOrder, IsWalk, GoesTo, Follows, FollowsAll, follows_all, goes_well, none_left, left_closed}

-- the path to a block that is reached if it is there
root : (g : Graph) (stops : ℕ → Bool) (k : ℕ) → ((block : Block) → slice_get g k ≡ Some block → IsReached g k) → IsWayTo g stops [] k
root g stops k h = record { leads = tt; distinct = tt; members = λ j m. absurd m; reaches = h }

-- a whole walk has left what it has reached
come_to : (g : Graph) (stops : ℕ → Bool) (w : Walk) (k : ℕ) → IsWalk g stops [] w → IsHandled g w.heads w.left k → IsBlock g k → Has w.left k
come_to g stops w k i (inl h) there = ⊎_elim (λ a. a) absurd (i.seen k h)
come_to g stops w k i (inr (inl h)) there = h
come_to g stops w k i (inr (inr e)) there = let never : None ≡ Some there.0 = sym e ∙ there.1 in absurd cc

-- the walk from the entry

pub entry_goes : (g : Graph) → GoesTo g (λ k. false) [] 0 no_walk (entry_walk g)
entry_goes g =
    goes_well g (λ k. false) (suc (length g)) [] 0 no_walk (omega arith) (root g (λ k. false) 0 (λ block e. entry 0 block refl e)) (none_left g (λ k. false))

left_by_entry : (g : Graph) (k : ℕ) → IsReached g k → Has (entry_walk g).left k
left_by_entry g k (entry j block e f) =
    come_to g (λ k. false) (entry_walk g) j (entry_goes g).goes.walk (subst (IsHandled g (entry_walk g).heads (entry_walk g).left) (sym e) (entry_goes g).handled) (block, f)
left_by_entry g k (jumped j l block r h f) =
    left_closed g (λ k. false) (entry_walk g) j l (entry_goes g).goes.walk (left_by_entry g j r) h refl (block, f)

pub reached_exactly : (g : Graph) (k : ℕ) → (is_reached g k ≡ true) ↔ IsReached g k
reached_exactly g k = (
  (λ e. (entry_goes g).goes.walk.reached k (among_has (entry_walk g).left k e)),
  (λ r. has_among (entry_walk g).left k (left_by_entry g k r)),
)

-- places

place_parts : (g : Graph) (k : ℕ) → k < length g → is_place g k ≡ (is_reached g k && (nat_eq k 0 || is_cut g k))
place_parts g k h =
    get_or-map-range_with_len (λ k. is_reached g k && (nat_eq k 0 || is_cut g k)) 0 (length g) k k false h (omega arith)

-- each block has a mark
pub length-marks : (g : Graph) → length (place_marks g) ≡ length g
length-marks g = length-map-range_with_len (λ k. is_reached g k && (nat_eq k 0 || is_cut g k)) 0 (length g)

pub place_within : (g : Graph) (k : ℕ) → is_place g k ≡ true → k < length g
place_within g k e = ⊎_elim (λ h. h) (λ h. absurd (false≢true (sym (past h) ∙ e))) (cases_lt k (length g))
  where
    past : length g ≤ k → is_place g k ≡ false
    past h = get_or_past (place_marks g) k false (let l = length-marks g in omega (arith, l, h))

pub place_reached : (g : Graph) (k : ℕ) → is_place g k ≡ true → IsReached g k
place_reached g k e =
    (reached_exactly g k).0 ((and_parts (is_reached g k) (nat_eq k 0 || is_cut g k) (sym (place_parts g k (place_within g k e)) ∙ e)).0)

pub place_has : (g : Graph) (k : ℕ) → is_place g k ≡ true → Has (places g) k
place_has g k e =
    filter_has (is_place g) (range_with_len 0 (length g)) k (in_range 0 (length g) k (omega arith) (let h = place_within g k e in omega (arith, h))) e

pub has_place : (g : Graph) (k : ℕ) → Has (places g) k → is_place g k ≡ true
has_place g k h = (has_filter (is_place g) (range_with_len 0 (length g)) k h).1

-- the entry of a graph is a place
pub entry_is_place : (g : Graph) (block : Block) → slice_get g 0 ≡ Some block → is_place g 0 ≡ true
entry_is_place g block e =
    let r = (reached_exactly g 0).1 (entry 0 block refl e) in
    let b = block_reached g 0 (entry 0 block refl e) in
    place_parts g 0 (let h = some_blocks g block e in h) ∙ ap (λ x. x && true) r
  where
    some_blocks : (g : Graph) (block : Block) → slice_get g 0 ≡ Some block → 0 < length g
    some_blocks [] block e = absurd cc
    some_blocks (b ∷ g) block e = omega arith

-- the walk that stops at places

pub cut_follows : (g : Graph) → FollowsAll g (is_place g) (λ k. false) [] (places g) no_walk (cut_walk g)
cut_follows g =
    follows_all g (is_place g) (λ k. false) [] (walk_from g (is_place g) (suc (length g)) []) (places g) no_walk
    (λ k v h i. one_place k v h i) (none_left g (is_place g))
  where
    one_place : (k : ℕ) (v : Walk) → Has (places g) k → IsWalk g (is_place g) [] v → Follows g (is_place g) (λ k. false) [] k v (walk_from g (is_place g) (suc (length g)) [] k v)
    one_place k v h i =
        let to = goes_well g (is_place g) (suc (length g)) [] k v (omega arith) (root g (is_place g) k (λ block e. place_reached g k (has_place g k h))) i in
        record { goes = to.goes; handled = λ s. to.handled }

-- every block that is reached has been left
pub left_by_cuts : (g : Graph) (k : ℕ) → IsReached g k → Has (cut_walk g).left k
left_by_cuts g k (entry j block e f) =
    let place : is_place g j ≡ true = subst (λ x. is_place g x ≡ true) (sym e) (entry_is_place g block (subst (λ x. slice_get g x ≡ Some block) e f)) in
    come_to g (is_place g) (cut_walk g) j (cut_follows g).goes.walk ((cut_follows g).handled j (place_has g j place) refl) (block, f)
left_by_cuts g k (jumped j l block r h f) =
    at_target g j l block h f (left_by_cuts g j r) (is_place g l) refl
  where
    at_target : (g : Graph) (j l : ℕ) (block : Block) → Has (targets g j) l → slice_get g l ≡ Some block → Has (cut_walk g).left j → (b : Bool) → is_place g l ≡ b → Has (cut_walk g).left l
    at_target g j l block h f before true e =
        come_to g (is_place g) (cut_walk g) l (cut_follows g).goes.walk ((cut_follows g).handled l (place_has g l e) refl) (block, f)
    at_target g j l block h f before false e = left_closed g (is_place g) (cut_walk g) j l (cut_follows g).goes.walk before h e (block, f)

-- a back edge shows a loop without a place
pub loop_shown : (g : Graph) (k : ℕ) → Has (cut_walk g).heads k → HasUncutLoop g
loop_shown g k h = let l = (cut_follows g).goes.walk.loops k h in (k, l.0, l.1)

no_targets : (g : Graph) (k l : ℕ) → slice_get g k ≡ None → Has (targets g k) l → ⊥
no_targets g k l e h = subst (λ ks. Has ks l) (ap targets_of e) h

no_way_on : (g : Graph) (stops : ℕ → Bool) (k l : ℕ) → slice_get g k ≡ None → Avoids g stops k l → ⊥
no_way_on g stops k l e (one_jump a b h s) = no_targets g a b e h
no_way_on g stops k l e (more_jumps a b c h s rest) = no_targets g a b e h

-- in a walk without back edges jumps lead from a block to blocks that were left before
later_left : (g : Graph) (stops : ℕ → Bool) (left : List ℕ) (k l : ℕ) → AreInOrder g stops [] left → Has left k → Avoids g stops k l → IsBlock g l →
    (older : List ℕ) → ((j : ℕ) → Has (targets g k) j → stops j ≡ false → IsHandled g [] older j) → ((j : ℕ) → Has older j → (Has left j) × ((i : ℕ) → Has (targets g j) i → stops i ≡ false → IsHandled g [] older i)) → Has older l
later_left g stops left k l o h (one_jump a b t s) there older here rest = by_kind (here b t s)
  where
    by_kind : IsHandled g [] older b → Has older b
    by_kind (inl m) = absurd m
    by_kind (inr (inl m)) = m
    by_kind (inr (inr e)) = let never : None ≡ Some there.0 = sym e ∙ there.1 in absurd cc
later_left g stops left k l o h (more_jumps a b c t s on) there older here rest =
    by_kind (λ m. later_left g stops left b c o (rest b m).0 on there older (rest b m).1 rest) (here b t s)
  where
    by_kind : (Has older b → Has older c) → IsHandled g [] older b → Has older c
    by_kind f (inl m) = absurd m
    by_kind f (inr (inl m)) = f m
    by_kind f (inr (inr e)) = absurd (no_way_on g stops b c e on)

-- the targets of an older block are older
older_targets : (g : Graph) (stops : ℕ → Bool) (older : List ℕ) (j : ℕ) → AreInOrder g stops [] older → Has older j → (i : ℕ) → Has (targets g j) i → stops i ≡ false → IsHandled g [] older i
older_targets g stops [] j o h i t s = absurd h
older_targets g stops (x ∷ older) j o (inl e) i t s = weaker (o.0 i (subst (λ y. Has (targets g y) i) (sym e) t) s)
  where
    weaker : IsHandled g [] older i → IsHandled g [] (x ∷ older) i
    weaker (inl m) = absurd m
    weaker (inr (inl m)) = inr (inl (inr m))
    weaker (inr (inr n)) = inr (inr n)
older_targets g stops (x ∷ older) j o (inr h) i t s = weaker (older_targets g stops older j o.1 h i t s)
  where
    weaker : IsHandled g [] older i → IsHandled g [] (x ∷ older) i
    weaker (inl m) = absurd m
    weaker (inr (inl m)) = inr (inl (inr m))
    weaker (inr (inr n)) = inr (inr n)

-- a walk without back edges has no loop
no_loop : (g : Graph) (stops : ℕ → Bool) (left : List ℕ) (k : ℕ) → AreInOrder g stops [] left → HasNoDoubles left → Has left k → Avoids g stops k k → IsBlock g k → ⊥
no_loop g stops [] k o d h loop there = h
no_loop g stops (j ∷ older) k o d (inl e) loop there =
    d.0 (subst (Has older) (sym e)
    (later_left g stops (j ∷ older) k k o (inl e) loop there older (subst (λ y. (i : ℕ) → Has (targets g y) i → stops i ≡ false → IsHandled g [] older i) e o.0)
    (λ i m. (inr m, older_targets g stops older i o.1 m))))
no_loop g stops (j ∷ older) k o d (inr h) loop there = no_loop g stops older k o.1 d.1 h loop there

-- where the walk meets no back edge, each loop that is reached has a place
pub no_loop_left : (g : Graph) → (cut_walk g).heads ≡ [] → HasUncutLoop g → ⊥
no_loop_left g e (k, r, loop) =
    no_loop g (is_place g) (cut_walk g).left k (subst (λ hs. AreInOrder g (is_place g) hs (cut_walk g).left) e (cut_follows g).goes.walk.in_order) (cut_follows g).goes.walk.distinct (left_by_cuts g k r) loop (block_reached g k r)

-- places that are not marked

order_without : (g : Graph) (stops : ℕ → Bool) (heads left : List ℕ) → ((k : ℕ) → Has heads k → stops k ≡ true) → AreInOrder g (λ k. false) heads left → AreInOrder g stops [] left
order_without g stops heads [] f o = tt
order_without g stops heads (k ∷ older) f o = ((λ l h s. by_kind l s (o.0 l h refl)), order_without g stops heads older f o.1)
  where
    by_kind : (l : ℕ) → stops l ≡ false → IsHandled g heads older l → IsHandled g [] older l
    by_kind l s (inl m) = absurd (false≢true (sym s ∙ f l m))
    by_kind l s (inr m) = inr m

head_is_place : (g : Graph) (k : ℕ) → has_marks g ≡ false → Has (entry_walk g).heads k → is_place g k ≡ true
head_is_place g k e h =
    let reached : IsReached g k = ((entry_goes g).goes.walk.loops k h).0 in
    let there = block_reached g k reached in
    place_parts g k (slice_get_within g k there.0 there.1)
    ∙ and_from (is_reached g k) (nat_eq k 0 || is_cut g k) ((reached_exactly g k).1 reached)
    (or_right (nat_eq k 0) (is_cut g k) (subst (λ b. (if b then is_marked g k else is_among (entry_walk g).heads k) ≡ true) (sym e) (has_among (entry_walk g).heads k h)))

-- where no block that is reached is marked, each loop that is reached has a place
pub unmarked_cut : (g : Graph) → has_marks g ≡ false → HasUncutLoop g → ⊥
unmarked_cut g e (k, r, loop) =
    no_loop g (is_place g) (entry_walk g).left k (order_without g (is_place g) (entry_walk g).heads (entry_walk g).left (λ l h. head_is_place g l e h) (entry_goes g).goes.walk.in_order)
    (entry_goes g).goes.walk.distinct (left_by_entry g k r) loop (block_reached g k r)

-- the back edges that the program has met show whether a loop is left
pub loop_given : (g : Graph) (heads : List ℕ) (k : ℕ) → reverse heads ≡ (cut_walk g).heads → Has heads k → HasUncutLoop g
loop_given g [] k e h = absurd h
loop_given g (l ∷ heads) k e h = loop_shown g l (subst (λ hs. Has hs l) e (subst (λ hs. Has hs l) (sym (reverse-append (l ∷ []) heads)) (has_right (reverse heads) (l ∷ []) l (inl refl))))

pub no_loop_given : (g : Graph) (heads : List ℕ) → reverse heads ≡ (cut_walk g).heads → length heads ≡ 0 → HasUncutLoop g → ⊥
no_loop_given g [] e l = no_loop_left g (sym e)
no_loop_given g (k ∷ heads) e l = absurd (omega (arith, l))

pub empty_shows : (g : Graph) (heads : List ℕ) (n : ℕ) (r : Bool) → length heads ≡ n → r ≡ nat_eq n 0 → reverse heads ≡ (cut_walk g).heads → (IsTrue (not r) → HasUncutLoop g) × (HasUncutLoop g → IsTrue (not r))
empty_shows g [] n r l e h = (
  (λ t. absurd (false≢true (sym (ap not (e ∙ eq-eqb n 0 (sym l))) ∙ t))),
  (λ u. absurd (no_loop_given g [] h refl u)),
)
empty_shows g (k ∷ heads) n r l e h = (
  (λ t. loop_given g (k ∷ heads) k h (inl refl)),
  (λ u. ap not (e ∙ ne_eqb n 0 (λ z. omega (arith, l, z)))),
)
