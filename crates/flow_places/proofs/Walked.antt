-- What a depth-first walk leaves: the blocks that it has left are in order, each block before those that lead to it
-- along jumps that are no back edges, and the target of a back edge is on a loop.
use Rattle.std.proofs.Common.{◌≡◌, ◌⊎◌, inl, inr, ⊎_elim, ℕ, zero, suc, ◌+◌, ◌<◌, ◌≤◌, Bool, true, false, List, [], ◌∷◌, length, Option, Some, None, slice_get, nat_eq, if◌then◌else◌, refl, sym, ◌∙◌, ap, subst, arith}
use Rattle.std.specs.List.{range_with_len}
use Rattle.std.proofs.lemmas.Bool.{false≢true, eqb-true, eq-eqb, cases_eq}
use Rattle.std.proofs.lemmas.Option.{slice_get_within}
use Rattle.std.proofs.lemmas.List.FromFn.{length-range_with_len}
use Rattle.kat_model.specs.Members.{Has, IsSubset, HasNoDoubles}
use Rattle.kat_model.proofs.Lists.{has_any, any_has}
use Rattle.kat_model.proofs.Counting.{no_doubles_within}
use Rattle.flow_model.specs.Graphs.{Block, Graph}
use Rattle.flow_ways.specs.Liveness.{jump_targets}
use Rattle.flow_places.specs.Walks.{Walk, is_among, with_head, with_left, walk_all, walk_into, walk_from, no_walk}
use Rattle.flow_places.specs.Loops.{targets_of, targets, IsReached, entry, jumped, Avoids, one_jump, more_jumps}

-- members

pub among_has : (ks : List ℕ) (k : ℕ) → is_among ks k ≡ true → Has ks k
among_has ks k e = let h = has_any (λ l. nat_eq l k) ks e in subst (Has ks) (eqb-true h.0 k h.2) h.1

pub has_among : (ks : List ℕ) (k : ℕ) → Has ks k → is_among ks k ≡ true
has_among ks k h = any_has (λ l. nat_eq l k) ks k h (eq-eqb k k refl)

not_among : (ks : List ℕ) (k : ℕ) → is_among ks k ≡ false → Has ks k → ⊥
not_among ks k e h = false≢true (sym e ∙ has_among ks k h)

first_or_later : (a n k : ℕ) → a ≤ k → k < a + suc n → (a ≡ k) ⊎ (a ≡ k → ⊥) → (a + 1 ≤ k → k < (a + 1) + n → Has (range_with_len (a + 1) n) k) → Has (range_with_len a (suc n)) k
first_or_later a n k h l (inl e) later = inl e
first_or_later a n k h l (inr ne) later = inr (later (omega arith) (omega arith))

pub in_range : (a n k : ℕ) → a ≤ k → k < a + n → Has (range_with_len a n) k
in_range a zero k h l = absurd (omega arith)
in_range a (suc n) k h l = first_or_later a n k h l (cases_eq a k) (in_range (a + 1) n k)

-- blocks

abbrev pub IsBlock : Graph → ℕ → Type 0
IsBlock g k = (block : Block) × (slice_get g k ≡ Some block)

pub block_reached : (g : Graph) (k : ℕ) → IsReached g k → IsBlock g k
block_reached g k (entry j block e f) = (block, f)
block_reached g k (jumped j l block r h f) = (block, f)

-- different blocks of the graph are at most as many as the graph has
pub blocks_within : (g : Graph) (ks : List ℕ) → HasNoDoubles ks → ((k : ℕ) → Has ks k → IsBlock g k) → length ks ≤ length g
blocks_within g ks distinct there =
    let within : IsSubset ks (range_with_len 0 (length g)) = λ k h. let b = there k h in in_range 0 (length g) k (omega arith) (let l = slice_get_within g k b.0 b.1 in omega (arith, l)) in
    omega (arith, no_doubles_within ks (range_with_len 0 (length g)) distinct within, length-range_with_len 0 (length g))

-- loops

pub one_more_jump : (g : Graph) (stops : ℕ → Bool) (h j k : ℕ) → Avoids g stops h j → Has (targets g j) k → stops k ≡ false → Avoids g stops h k
one_more_jump g stops h j k (one_jump a b t s) m o = more_jumps a b k t s (one_jump b k m o)
one_more_jump g stops h j k (more_jumps a b c t s rest) m o = more_jumps a b k t s (one_more_jump g stops b j k rest m o)

-- the path leads to the block along jumps that the walk follows
abbrev pub LeadsTo : Graph → (ℕ → Bool) → List ℕ → ℕ → Type 0
LeadsTo g stops [] k = Unit {0}
LeadsTo g stops (j ∷ path) k = Has (targets g j) k × (stops k ≡ false) × LeadsTo g stops path j

around : (g : Graph) (stops : ℕ → Bool) (path : List ℕ) (k h : ℕ) → LeadsTo g stops path k → Has path h → Avoids g stops h k
around g stops [] k h leads m = absurd m
around g stops (j ∷ path) k h (t, s, leads) (inl e) = subst (λ x. Avoids g stops x k) e (one_jump j k t s)
around g stops (j ∷ path) k h (t, s, leads) (inr m) = one_more_jump g stops h j k (around g stops path j h leads m) t s

-- the path to a block: its blocks differ and are reached, and the block is reached if it is there
pub record IsWayTo (g : Graph) (stops : ℕ → Bool) (path : List ℕ) (k : ℕ) : Type 0 where
  pub leads : LeadsTo g stops path k
  pub distinct : HasNoDoubles path
  pub members : (j : ℕ) → Has path j → IsReached g j
  pub reaches : (block : Block) → slice_get g k ≡ Some block → IsReached g k

-- order

-- a block is the target of a back edge, or was left, or is not there
abbrev pub IsHandled : Graph → List ℕ → List ℕ → ℕ → Type 0
IsHandled g heads left k = Has heads k ⊎ (Has left k ⊎ (slice_get g k ≡ None))

abbrev pub AreHandled : Graph → (ℕ → Bool) → List ℕ → List ℕ → List ℕ → Type 0
AreHandled g stops heads left ks = (k : ℕ) → Has ks k → stops k ≡ false → IsHandled g heads left k

-- the targets of each block that was left were left before it, but for those of back edges
abbrev pub AreInOrder : Graph → (ℕ → Bool) → List ℕ → List ℕ → Type 0
AreInOrder g stops heads [] = Unit {0}
AreInOrder g stops heads (k ∷ older) = AreHandled g stops heads older (targets g k) × AreInOrder g stops heads older

handled_more : (g : Graph) (heads more left later : List ℕ) (k : ℕ) → IsSubset heads more → IsSubset left later → IsHandled g heads left k → IsHandled g more later k
handled_more g heads more left later k a b (inl h) = inl (a k h)
handled_more g heads more left later k a b (inr (inl h)) = inr (inl (b k h))
handled_more g heads more left later k a b (inr (inr e)) = inr (inr e)

in_order_more : (g : Graph) (stops : ℕ → Bool) (heads more left : List ℕ) → IsSubset heads more → AreInOrder g stops heads left → AreInOrder g stops more left
in_order_more g stops heads more [] a o = tt
in_order_more g stops heads more (k ∷ older) a o = (
  (λ l h s. handled_more g heads more older older l a (λ x m. m) (o.0 l h s)),
  in_order_more g stops heads more older a o.1,
)

pub handled_in : (g : Graph) (stops : ℕ → Bool) (heads left : List ℕ) (k : ℕ) → AreInOrder g stops heads left → Has left k → AreHandled g stops heads left (targets g k)
handled_in g stops heads [] k o m = absurd m
handled_in g stops heads (j ∷ older) k o (inl e) = λ l h s.
    handled_more g heads heads older (j ∷ older) l (λ x n. n) (λ x n. inr n) (o.0 l (subst (λ x. Has (targets g x) l) (sym e) h) s)
handled_in g stops heads (j ∷ older) k o (inr m) = λ l h s.
    handled_more g heads heads older (j ∷ older) l (λ x n. n) (λ x n. inr n) (handled_in g stops heads older k o.1 m l h s)

-- what holds of a walk, with the blocks on its path
pub record IsWalk (g : Graph) (stops : ℕ → Bool) (path : List ℕ) (w : Walk) : Type 0 where
  pub in_order : AreInOrder g stops w.heads w.left
  pub distinct : HasNoDoubles w.left
  pub apart : (k : ℕ) → Has w.left k → Has path k → ⊥
  pub reached : (k : ℕ) → Has w.left k → IsReached g k
  pub loops : (k : ℕ) → Has w.heads k → IsReached g k × Avoids g stops k k
  pub seen : (k : ℕ) → Has w.heads k → Has w.left k ⊎ Has path k

-- a walk goes on to another
pub record GoesOn (g : Graph) (stops : ℕ → Bool) (path : List ℕ) (v w : Walk) : Type 0 where
  pub walk : IsWalk g stops path w
  pub heads : IsSubset v.heads w.heads
  pub left : IsSubset v.left w.left

pub record GoesTo (g : Graph) (stops : ℕ → Bool) (path : List ℕ) (k : ℕ) (v w : Walk) : Type 0 where
  pub goes : GoesOn g stops path v w
  pub handled : IsHandled g w.heads w.left k

-- a walk goes on to another, which has reached the block unless it is left out
pub record Follows (g : Graph) (stops skips : ℕ → Bool) (path : List ℕ) (k : ℕ) (v w : Walk) : Type 0 where
  pub goes : GoesOn g stops path v w
  pub handled : skips k ≡ false → IsHandled g w.heads w.left k

pub record FollowsAll (g : Graph) (stops skips : ℕ → Bool) (path ks : List ℕ) (v w : Walk) : Type 0 where
  pub goes : GoesOn g stops path v w
  pub handled : AreHandled g skips w.heads w.left ks

stays : (g : Graph) (stops : ℕ → Bool) (path : List ℕ) (w : Walk) → IsWalk g stops path w → GoesOn g stops path w w
stays g stops path w i = record { walk = i; heads = λ k h. h; left = λ k h. h }

pub follows_all : (g : Graph) (stops skips : ℕ → Bool) (path : List ℕ) (go : ℕ → Walk → Walk) (ks : List ℕ) (w : Walk) →
    ((k : ℕ) (v : Walk) → Has ks k → IsWalk g stops path v → Follows g stops skips path k v (go k v)) → IsWalk g stops path w → FollowsAll g stops skips path ks w (walk_all go ks w)
follows_all g stops skips path go [] w f i = record { goes = stays g stops path w i; handled = λ k h. absurd h }
follows_all g stops skips path go (k ∷ ks) w f i =
    let first = f k w (inl refl) i in
    let rest = follows_all g stops skips path go ks (go k w) (λ l v m. f l v (inr m)) first.goes.walk in
    record {
      goes = record {
        walk = rest.goes.walk;
        heads = λ l h. rest.goes.heads l (first.goes.heads l h);
        left = λ l h. rest.goes.left l (first.goes.left l h);
      };
      handled = λ l h s. by_place first rest l h s;
    }
  where
    by_place : Follows g stops skips path k w (go k w) → FollowsAll g stops skips path ks (go k w) (walk_all go ks (go k w)) → AreHandled g skips (walk_all go ks (go k w)).heads (walk_all go ks (go k w)).left (k ∷ ks)
    by_place first rest l (inl e) s =
        handled_more g (go k w).heads (walk_all go ks (go k w)).heads (go k w).left (walk_all go ks (go k w)).left l rest.goes.heads rest.goes.left
        (subst (IsHandled g (go k w).heads (go k w).left) e (first.handled (subst (λ x. skips x ≡ false) (sym e) s)))
    by_place first rest l (inr m) s = rest.handled l m s

-- the walk goes well to a block, if it may go at least as deep as there are blocks
abbrev pub GoesWell : Graph → (ℕ → Bool) → ℕ → Type 0
GoesWell g stops n =
    (path : List ℕ) (k : ℕ) (w : Walk) → length g < n + length path → IsWayTo g stops path k → IsWalk g stops path w → GoesTo g stops path k w (walk_from g stops n path k w)

on_longer_path : (g : Graph) (path : List ℕ) (k : ℕ) → IsReached g k → ((j : ℕ) → Has path j → IsReached g j) → (j : ℕ) → Has (k ∷ path) j → IsReached g j
on_longer_path g path k here members j (inl e) = subst (IsReached g) e here
on_longer_path g path k here members j (inr m) = members j m

-- one target of a jump
one_target : (g : Graph) (stops : ℕ → Bool) (n : ℕ) → GoesWell g stops n → (path : List ℕ) (k l : ℕ) (v : Walk) → length g < suc n + length path → IsWayTo g stops path k → IsBlock g k → (Has path k → ⊥) →
    Has (targets g k) l → IsWalk g stops (k ∷ path) v → Follows g stops stops (k ∷ path) l v (if stops l then v else walk_from g stops n (k ∷ path) l v)
one_target g stops n f path k l v deep way there off t i = by_stop (stops l) refl
  where
    here : IsReached g k
    here = way.reaches there.0 there.1

    by_stop : (b : Bool) → stops l ≡ b → Follows g stops stops (k ∷ path) l v (if b then v else walk_from g stops n (k ∷ path) l v)
    by_stop true e = record { goes = stays g stops (k ∷ path) v i; handled = λ s. absurd (false≢true (sym s ∙ e)) }
    by_stop false e =
        let to : GoesTo g stops (k ∷ path) l v (walk_from g stops n (k ∷ path) l v) = f (k ∷ path) l v (omega (arith, deep)) (record {
          leads = (t, e, way.leads);
          distinct = (off, way.distinct);
          members = on_longer_path g path k here way.members;
          reaches = λ block b. jumped k l block here t b;
        }) i in
        record { goes = to.goes; handled = λ s. to.handled }

entered : (g : Graph) (stops : ℕ → Bool) (path : List ℕ) (k : ℕ) (w : Walk) → (Has w.left k → ⊥) → IsWalk g stops path w → IsWalk g stops (k ∷ path) w
entered g stops path k w new i = record {
  in_order = i.in_order;
  distinct = i.distinct;
  apart = λ j h m. off j h m;
  reached = i.reached;
  loops = i.loops;
  seen = λ j h. ⊎_elim (λ a. inl a) (λ b. inr (inr b)) (i.seen j h);
}
  where
    off : (j : ℕ) → Has w.left j → Has (k ∷ path) j → ⊥
    off j h (inl e) = new (subst (Has w.left) (sym e) h)
    off j h (inr m) = i.apart j h m

-- a block is left after its targets
left_after : (g : Graph) (stops : ℕ → Bool) (path : List ℕ) (k : ℕ) (v w : Walk) → IsReached g k → (Has path k → ⊥) → FollowsAll g stops stops (k ∷ path) (targets g k) v w → GoesTo g stops path k v (with_left k w)
left_after g stops path k v w here off all = record {
  goes = record {
    walk = record {
      in_order = (all.handled, all.goes.walk.in_order);
      distinct = ((λ h. all.goes.walk.apart k h (inl refl)), all.goes.walk.distinct);
      apart = λ j h m. off_path j h m;
      reached = on_longer_path g w.left k here all.goes.walk.reached;
      loops = all.goes.walk.loops;
      seen = λ j h. was_seen j (all.goes.walk.seen j h);
    };
    heads = all.goes.heads;
    left = λ j h. inr (all.goes.left j h);
  };
  handled = inr (inl (inl refl));
}
  where
    off_path : (j : ℕ) → Has (k ∷ w.left) j → Has path j → ⊥
    off_path j (inl e) m = off (subst (Has path) (sym e) m)
    off_path j (inr h) m = all.goes.walk.apart j h (inr m)

    was_seen : (j : ℕ) → Has w.left j ⊎ Has (k ∷ path) j → Has (k ∷ w.left) j ⊎ Has path j
    was_seen j (inl h) = inl (inr h)
    was_seen j (inr (inl e)) = inl (inl e)
    was_seen j (inr (inr m)) = inr m

one_deeper : (g : Graph) (stops : ℕ → Bool) (n : ℕ) → GoesWell g stops n → GoesWell g stops (suc n)
one_deeper g stops n f path k w deep way i = by_path (is_among path k) refl
  where
    by_block : (o : Option Block) → slice_get g k ≡ o → (Has path k → ⊥) → (Has w.left k → ⊥) → GoesTo g stops path k w (walk_into (λ l next. if stops l then next else walk_from g stops n (k ∷ path) l next) k o w)
    by_block None e off new = record { goes = stays g stops path w i; handled = inr (inr e) }
    by_block (Some block) e off new =
        left_after g stops path k w (walk_all (λ l next. if stops l then next else walk_from g stops n (k ∷ path) l next) (jump_targets block.jump) w) (way.reaches block e) off
        (subst (λ ks. FollowsAll g stops stops (k ∷ path) ks w (walk_all (λ l next. if stops l then next else walk_from g stops n (k ∷ path) l next) (jump_targets block.jump) w)) (sym (ap targets_of e))
        (follows_all g stops stops (k ∷ path) (λ l next. if stops l then next else walk_from g stops n (k ∷ path) l next) (jump_targets block.jump) w
        (λ l v t j. one_target g stops n f path k l v deep way (block, e) off (subst (λ ks. Has ks l) (sym (ap targets_of e)) t) j)
        (entered g stops path k w new i)))

    by_left : (b : Bool) → is_among w.left k ≡ b → (Has path k → ⊥) →
        GoesTo g stops path k w (if b then w else walk_into (λ l next. if stops l then next else walk_from g stops n (k ∷ path) l next) k (slice_get g k) w)
    by_left true e off = record { goes = stays g stops path w i; handled = inr (inl (among_has w.left k e)) }
    by_left false e off = by_block (slice_get g k) refl off (not_among w.left k e)

    on_loops : Has path k → (j : ℕ) → Has (k ∷ w.heads) j → IsReached g j × Avoids g stops j j
    on_loops m j (inl e) = subst (λ x. IsReached g x × Avoids g stops x x) e (way.members k m, around g stops path k k way.leads m)
    on_loops m j (inr h) = i.loops j h

    were_seen : Has path k → (j : ℕ) → Has (k ∷ w.heads) j → Has w.left j ⊎ Has path j
    were_seen m j (inl e) = inr (subst (Has path) e m)
    were_seen m j (inr h) = i.seen j h

    by_path : (b : Bool) → is_among path k ≡ b →
        GoesTo g stops path k w (if b then with_head k w else if is_among w.left k then w else walk_into (λ l next. if stops l then next else walk_from g stops n (k ∷ path) l next) k (slice_get g k) w)
    by_path true e =
        let m = among_has path k e in
        record {
          goes = record {
            walk = record {
              in_order = in_order_more g stops w.heads (k ∷ w.heads) w.left (λ j h. inr h) i.in_order;
              distinct = i.distinct;
              apart = i.apart;
              reached = i.reached;
              loops = on_loops m;
              seen = were_seen m;
            };
            heads = λ j h. inr h;
            left = λ j h. h;
          };
          handled = inl (inl refl);
        }
    by_path false e = by_left (is_among w.left k) refl (not_among path k e)

pub goes_well : (g : Graph) (stops : ℕ → Bool) (n : ℕ) → GoesWell g stops n
goes_well g stops zero path k w deep way i =
    let few = blocks_within g path way.distinct (λ j m. block_reached g j (way.members j m)) in
    absurd (omega (arith, few, deep))
goes_well g stops (suc n) path k w deep way i = one_deeper g stops n (goes_well g stops n) path k w deep way i

pub none_left : (g : Graph) (stops : ℕ → Bool) → IsWalk g stops [] no_walk
none_left g stops = record {
  in_order = tt;
  distinct = tt;
  apart = λ k h m. h;
  reached = λ k h. absurd h;
  loops = λ k h. absurd h;
  seen = λ k h. absurd h;
}

-- the blocks that a whole walk has left are closed under the jumps that it follows
pub left_closed : (g : Graph) (stops : ℕ → Bool) (w : Walk) (k l : ℕ) → IsWalk g stops [] w → Has w.left k → Has (targets g k) l → stops l ≡ false → IsBlock g l → Has w.left l
left_closed g stops w k l i h t s there = by_kind (handled_in g stops w.heads w.left k i.in_order h l t s)
  where
    by_kind : IsHandled g w.heads w.left l → Has w.left l
    by_kind (inl m) = ⊎_elim (λ a. a) absurd (i.seen l m)
    by_kind (inr (inl m)) = m
    by_kind (inr (inr e)) = let never : None ≡ Some there.0 = sym e ∙ there.1 in absurd cc
