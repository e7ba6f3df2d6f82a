-- The blocks of a piece are closed: a jump from one of them leads to one of them, to a matched block, or to no block.
use Rattle.std.proofs.Common.{◌≡◌, ◌⊎◌, inl, inr, ⊎_elim, ℕ, zero, suc, ◌+◌, ◌<◌, Bool, true, false, nat_eq, List, [], ◌∷◌, length, filter, flat_map, Option, Some, None, slice_get, if◌then◌else◌, refl, sym, ◌∙◌, ap, subst, arith}
use Rattle.std.proofs.lemmas.Bool.{false≢true, eqb-true}
use Rattle.kat_model.specs.Members.{Has, IsSubset, HasNoDoubles}
use Rattle.kat_model.proofs.Filters.{filter_has}
use Rattle.kat_model.proofs.Lists.{flat_map_has}
use Rattle.kat_model.proofs.RowMembers.{with_all_new_has}
use Rattle.flow_model.specs.Graphs.{Block, Graph}
use Rattle.flow_ways.specs.Liveness.{jump_targets}
use Rattle.flow_places.specs.Walks.{Walk, is_among, with_head, with_left, walk_all, walk_into, walk_from, no_walk, blocks_from}
use Rattle.flow_places.specs.Loops.{targets_of, targets}
use Rattle.flow_places.proofs.Walked.{among_has, has_among, IsBlock, blocks_within}
use Rattle.flow_pieces.specs.PieceGraphs.{arrivals_of}

-- a block that the walk has met: it was left, is on the path, or is not there
abbrev IsMet : Graph → List ℕ → List ℕ → ℕ → Type 0
IsMet g path left k = Has left k ⊎ (Has path k ⊎ (slice_get g k ≡ None))

-- the targets of each block that was left were met
abbrev AreMet : Graph → (ℕ → Bool) → List ℕ → List ℕ → Type 0
AreMet g stops path left = (k l : ℕ) → Has left k → Has (targets g k) l → stops l ≡ false → IsMet g path left l

record Keeps (g : Graph) (stops : ℕ → Bool) (path : List ℕ) (v w : Walk) : Type 0 where
  pub met : AreMet g stops path w.left
  pub left : IsSubset v.left w.left

record Meets (g : Graph) (stops : ℕ → Bool) (path ks : List ℕ) (v w : Walk) : Type 0 where
  pub keeps : Keeps g stops path v w
  pub met : (k : ℕ) → Has ks k → stops k ≡ false → IsMet g path w.left k

record MeetsOne (g : Graph) (stops : ℕ → Bool) (path : List ℕ) (k : ℕ) (v w : Walk) : Type 0 where
  pub keeps : Keeps g stops path v w
  pub met : IsMet g path w.left k

still_met : (g : Graph) (path left later : List ℕ) (k : ℕ) → IsSubset left later → IsMet g path left k → IsMet g path later k
still_met g path left later k f (inl h) = inl (f k h)
still_met g path left later k f (inr m) = inr m

stays : (g : Graph) (stops : ℕ → Bool) (path : List ℕ) (w : Walk) → AreMet g stops path w.left → Keeps g stops path w w
stays g stops path w i = record { met = i; left = λ k h. h }

module _ (g : Graph) (stops : ℕ → Bool) where
  all_met : (path : List ℕ) (go : ℕ → Walk → Walk) (ks : List ℕ) (w : Walk) →
      ((k : ℕ) (v : Walk) → Has ks k → AreMet g stops path v.left → Meets g stops path (k ∷ []) v (go k v)) → AreMet g stops path w.left → Meets g stops path ks w (walk_all go ks w)
  all_met path go [] w f i = record { keeps = stays g stops path w i; met = λ k h s. absurd h }
  all_met path go (k ∷ ks) w f i =
      let first = f k w (inl refl) i in
      let rest = all_met path go ks (go k w) (λ l v h. f l v (inr h)) first.keeps.met in
      record {
        keeps = record { met = rest.keeps.met; left = λ l h. rest.keeps.left l (first.keeps.left l h) };
        met = λ l h s. by_place first rest l h s;
      }
    where
      by_place : Meets g stops path (k ∷ []) w (go k w) → Meets g stops path ks (go k w) (walk_all go ks (go k w)) → (l : ℕ) → Has (k ∷ ks) l → stops l ≡ false → IsMet g path (walk_all go ks (go k w)).left l
      by_place first rest l (inl e) s =
          still_met g path (go k w).left (walk_all go ks (go k w)).left l rest.keeps.left (first.met l (inl e) s)
      by_place first rest l (inr h) s = rest.met l h s

  -- the walk from a block, if it may go at least as deep as there are blocks
  abbrev MeetsBelow : ℕ → Type 0
  MeetsBelow n =
      (path : List ℕ) (k : ℕ) (w : Walk) → length g < n + length path → HasNoDoubles path → ((j : ℕ) → Has path j → IsBlock g j) → AreMet g stops path w.left →
      MeetsOne g stops path k w (walk_from g stops n path k w)

  one_target : (n : ℕ) → MeetsBelow n → (path : List ℕ) → length g < n + length path → HasNoDoubles path → ((j : ℕ) → Has path j → IsBlock g j) →
      (l : ℕ) (v : Walk) → AreMet g stops path v.left → Meets g stops path (l ∷ []) v (if stops l then v else walk_from g stops n path l v)
  one_target n f path deep distinct there l v i = by_stop (stops l) refl
    where
      by_stop : (b : Bool) → stops l ≡ b → Meets g stops path (l ∷ []) v (if b then v else walk_from g stops n path l v)
      by_stop true e = record {
        keeps = stays g stops path v i;
        met = λ k h s. absurd (⊎_elim (λ q. false≢true (sym s ∙ (ap stops (sym q) ∙ e))) (λ a. a) h);
      }
      by_stop false e =
          let to = f path l v deep distinct there i in
          record {
            keeps = to.keeps;
            met = λ k h s. ⊎_elim (λ q. subst (IsMet g path (walk_from g stops n path l v).left) q to.met) absurd h;
          }

  -- a block is left after its targets
  left_after : (path : List ℕ) (k : ℕ) (v w : Walk) → Meets g stops (k ∷ path) (targets g k) v w → MeetsOne g stops path k v (with_left k w)
  left_after path k v w all = record {
    keeps = record { met = closed; left = λ j h. inr (all.keeps.left j h) };
    met = inl (inl refl);
  }
    where
      off_path : (l : ℕ) → IsMet g (k ∷ path) w.left l → IsMet g path (k ∷ w.left) l
      off_path l (inl h) = inl (inr h)
      off_path l (inr (inl (inl e))) = inl (inl e)
      off_path l (inr (inl (inr h))) = inr (inl h)
      off_path l (inr (inr e)) = inr (inr e)

      closed : AreMet g stops path (k ∷ w.left)
      closed j l (inl e) t s = off_path l (all.met l (subst (λ x. Has (targets g x) l) (sym e) t) s)
      closed j l (inr h) t s = off_path l (all.keeps.met j l h t s)

  on_path : (path : List ℕ) (k : ℕ) (block : Block) → slice_get g k ≡ Some block → ((j : ℕ) → Has path j → IsBlock g j) → (j : ℕ) → Has (k ∷ path) j → IsBlock g j
  on_path path k block e there j (inl q) = subst (IsBlock g) q (block, e)
  on_path path k block e there j (inr h) = there j h

  longer_path : (path left : List ℕ) (k : ℕ) → AreMet g stops path left → AreMet g stops (k ∷ path) left
  longer_path path left k i j l h t s = longer (i j l h t s)
    where
      longer : IsMet g path left l → IsMet g (k ∷ path) left l
      longer (inl m) = inl m
      longer (inr (inl m)) = inr (inl (inr m))
      longer (inr (inr e)) = inr (inr e)

  one_deeper : (n : ℕ) → MeetsBelow n → MeetsBelow (suc n)
  one_deeper n f path k w deep distinct there i = by_path (is_among path k) refl
    where
      by_block : (o : Option Block) → slice_get g k ≡ o → (Has path k → ⊥) → MeetsOne g stops path k w (walk_into (λ l next. if stops l then next else walk_from g stops n (k ∷ path) l next) k o w)
      by_block None e off = record { keeps = stays g stops path w i; met = inr (inr e) }
      by_block (Some block) e off =
          left_after path k w (walk_all (λ l next. if stops l then next else walk_from g stops n (k ∷ path) l next) (jump_targets block.jump) w)
          (subst (λ ks. Meets g stops (k ∷ path) ks w (walk_all (λ l next. if stops l then next else walk_from g stops n (k ∷ path) l next) (jump_targets block.jump) w)) (sym (ap targets_of e))
          (all_met (k ∷ path) (λ l next. if stops l then next else walk_from g stops n (k ∷ path) l next) (jump_targets block.jump) w
          (λ l v h j. one_target n f (k ∷ path) (omega (arith, deep)) (off, distinct) (on_path path k block e there) l v j)
          (longer_path path w.left k i)))

      by_left : (b : Bool) → is_among w.left k ≡ b → (Has path k → ⊥) →
          MeetsOne g stops path k w (if b then w else walk_into (λ l next. if stops l then next else walk_from g stops n (k ∷ path) l next) k (slice_get g k) w)
      by_left true e off = record { keeps = stays g stops path w i; met = inl (among_has w.left k e) }
      by_left false e off = by_block (slice_get g k) refl off

      by_path : (b : Bool) → is_among path k ≡ b →
          MeetsOne g stops path k w (if b then with_head k w else if is_among w.left k then w else walk_into (λ l next. if stops l then next else walk_from g stops n (k ∷ path) l next) k (slice_get g k) w)
      by_path true e = record { keeps = record { met = i; left = λ j h. h }; met = inr (inl (among_has path k e)) }
      by_path false e = by_left (is_among w.left k) refl (λ h. false≢true (sym e ∙ has_among path k h))

  meets_below : (n : ℕ) → MeetsBelow n
  meets_below zero path k w deep distinct there i = absurd (let few = blocks_within g path distinct there in omega (arith, few, deep))
  meets_below (suc n) path k w deep distinct there i = one_deeper n (meets_below n) path k w deep distinct there i

  walked : (k : ℕ) → MeetsOne g stops [] k no_walk (walk_from g stops (suc (length g)) [] k no_walk)
  walked k = meets_below (suc (length g)) [] k no_walk (omega arith) tt (λ j h. absurd h) (λ j l h t s. absurd h)

  in_blocks : (k l : ℕ) → IsMet g [] (blocks_from g stops k) l → Has (blocks_from g stops k) l ⊎ (slice_get g l ≡ None)
  in_blocks k l (inl h) = inl h
  in_blocks k l (inr (inl h)) = absurd h
  in_blocks k l (inr (inr e)) = inr e

  -- the first block of a piece is one of its blocks, if it is there
  pub first_inside : (k : ℕ) → Has (blocks_from g stops k) k ⊎ (slice_get g k ≡ None)
  first_inside k = in_blocks k k (walked k).met

  -- a jump to a block that is not matched stays inside
  pub stays_inside : (k j l : ℕ) → Has (blocks_from g stops k) j → Has (targets g j) l → stops l ≡ false → Has (blocks_from g stops k) l ⊎ (slice_get g l ≡ None)
  stays_inside k j l h t s = in_blocks k l ((walked k).keeps.met j l h t s)

  -- a jump to a matched block leads to an arrival
  pub arrives : (ks : List ℕ) (j l : ℕ) → Has ks j → Has (targets g j) l → stops l ≡ true → Has (arrivals_of g stops ks) l
  arrives ks j l h t s =
      with_all_new_has nat_eq (λ a b. eqb-true a b) [] (filter stops (flat_map (targets g) ks)) l
      (filter_has stops (flat_map (targets g) ks) l (flat_map_has (targets g) ks j l h t) s)
