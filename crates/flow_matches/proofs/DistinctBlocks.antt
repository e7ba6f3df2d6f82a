-- The blocks of a piece are blocks of the graph, each once; so are the arrivals.
use Rattle.std.proofs.Common.{◌≡◌, ◌⊎◌, inl, inr, ⊎_elim, ℕ, zero, suc, Bool, true, false, nat_eq, List, [], ◌∷◌, ◌++◌, length, filter, flat_map, Option, Some, None, slice_get, if◌then◌else◌, refl, sym, ◌∙◌, subst}
use Rattle.std.specs.List.{list_any}
use Rattle.std.proofs.lemmas.Bool.{false≢true, eq-eqb}
use Rattle.kat_model.specs.Members.{Has, HasNoDoubles}
use Rattle.kat_model.specs.UniqueRows.{with_new, with_all_new}
use Rattle.kat_model.proofs.Filters.{has_filter}
use Rattle.kat_model.proofs.Lists.{any_has, has_append, no_doubles_pushed}
use Rattle.flow_model.specs.Graphs.{Block, Graph}
use Rattle.flow_ways.specs.Liveness.{jump_targets}
use Rattle.flow_places.specs.Walks.{Walk, is_among, with_left, walk_all, walk_into, walk_from, no_walk, blocks_from}
use Rattle.flow_places.specs.Loops.{targets}
use Rattle.flow_pieces.specs.PieceGraphs.{arrivals_of}

-- the walk has left blocks of the graph, each once, and none that is on the path
record IsFresh (g : Graph) (path : List ℕ) (w : Walk) : Type 0 where
  pub distinct : HasNoDoubles w.left
  pub apart : (k : ℕ) → Has w.left k → Has path k → ⊥
  pub there : (k : ℕ) → Has w.left k → (block : Block) × (slice_get g k ≡ Some block)

module _ (g : Graph) (stops : ℕ → Bool) where
  all_fresh : (path : List ℕ) (go : ℕ → Walk → Walk) → ((k : ℕ) (w : Walk) → IsFresh g path w → IsFresh g path (go k w)) →
      (ks : List ℕ) (w : Walk) → IsFresh g path w → IsFresh g path (walk_all go ks w)
  all_fresh path go f [] w i = i
  all_fresh path go f (k ∷ ks) w i = all_fresh path go f ks (go k w) (f k w i)

  fresh_if : (path : List ℕ) (b : Bool) (v w : Walk) → IsFresh g path v → IsFresh g path w → IsFresh g path (if b then v else w)
  fresh_if path true v w i j = i
  fresh_if path false v w i j = j

  left_fresh : (path : List ℕ) (k : ℕ) (w : Walk) (block : Block) → slice_get g k ≡ Some block → (Has path k → ⊥) → IsFresh g (k ∷ path) w → IsFresh g path (with_left k w)
  left_fresh path k w block e off i = record {
    distinct = ((λ h. i.apart k h (inl refl)), i.distinct);
    apart = λ j. ⊎_elim (λ q h. off (subst (Has path) (sym q) h)) (λ m h. i.apart j m (inr h));
    there = λ j. ⊎_elim (λ q. subst (λ l. (b : Block) × (slice_get g l ≡ Some b)) q (block, e)) (i.there j);
  }

  on_path : (path : List ℕ) (k : ℕ) (w : Walk) → (Has w.left k → ⊥) → IsFresh g path w → IsFresh g (k ∷ path) w
  on_path path k w off i = record {
    distinct = i.distinct;
    apart = λ j m. ⊎_elim (λ q. off (subst (Has w.left) (sym q) m)) (i.apart j m);
    there = i.there;
  }

  fresh_from : (n : ℕ) (path : List ℕ) (k : ℕ) (w : Walk) → IsFresh g path w → IsFresh g path (walk_from g stops n path k w)
  fresh_from zero path k w i = i
  fresh_from (suc n) path k w i = by_path (is_among path k) refl (λ j v. fresh_from n (k ∷ path) j v)
    where
      by_block : (o : Option Block) → slice_get g k ≡ o → (Has path k → ⊥) → (Has w.left k → ⊥) →
          ((j : ℕ) (v : Walk) → IsFresh g (k ∷ path) v → IsFresh g (k ∷ path) (walk_from g stops n (k ∷ path) j v)) →
          IsFresh g path (walk_into (λ l next. if stops l then next else walk_from g stops n (k ∷ path) l next) k o w)
      by_block None e off new go = i
      by_block (Some block) e off new go =
          left_fresh path k (walk_all (λ l next. if stops l then next else walk_from g stops n (k ∷ path) l next) (jump_targets block.jump) w) block e off
          (all_fresh (k ∷ path) (λ l next. if stops l then next else walk_from g stops n (k ∷ path) l next)
          (λ l v j. fresh_if (k ∷ path) (stops l) v (walk_from g stops n (k ∷ path) l v) j (go l v j))
          (jump_targets block.jump) w (on_path path k w new i))

      by_left : (b : Bool) → is_among w.left k ≡ b → (Has path k → ⊥) →
          ((j : ℕ) (v : Walk) → IsFresh g (k ∷ path) v → IsFresh g (k ∷ path) (walk_from g stops n (k ∷ path) j v)) →
          IsFresh g path (if b then w else walk_into (λ l next. if stops l then next else walk_from g stops n (k ∷ path) l next) k (slice_get g k) w)
      by_left true e off go = i
      by_left false e off go =
          by_block (slice_get g k) refl off (λ h. false≢true (sym e ∙ any_has (λ l. nat_eq l k) w.left k h (eq-eqb k k refl))) go

      by_path : (b : Bool) → is_among path k ≡ b →
          ((j : ℕ) (v : Walk) → IsFresh g (k ∷ path) v → IsFresh g (k ∷ path) (walk_from g stops n (k ∷ path) j v)) →
          IsFresh g path (if b then record { left = w.left; heads = k ∷ w.heads } else if is_among w.left k then w else walk_into (λ l next. if stops l then next else walk_from g stops n (k ∷ path) l next) k (slice_get g k) w)
      by_path true e go = record { distinct = i.distinct; apart = i.apart; there = i.there }
      by_path false e go =
          by_left (is_among w.left k) refl (λ h. false≢true (sym e ∙ any_has (λ l. nat_eq l k) path k h (eq-eqb k k refl))) go

  whole_fresh : (k : ℕ) → IsFresh g [] (walk_from g stops (suc (length g)) [] k no_walk)
  whole_fresh k = fresh_from (suc (length g)) [] k no_walk (record { distinct = tt; apart = λ j h. absurd h; there = λ j h. absurd h })

  pub distinct_blocks : (k : ℕ) → HasNoDoubles (blocks_from g stops k)
  distinct_blocks k = (whole_fresh k).distinct

  pub blocks_there : (k j : ℕ) → Has (blocks_from g stops k) j → (block : Block) × (slice_get g j ≡ Some block)
  blocks_there k j h = (whole_fresh k).there j h

  -- the first block is the first one of the list, if it is there
  pub first_of_blocks : (k : ℕ) → (blocks_from g stops k ≡ []) ⊎ ((rest : List ℕ) × (blocks_from g stops k ≡ k ∷ rest))
  first_of_blocks k = by_block (slice_get g k)
    where
      by_block : (o : Option Block) →
          ((walk_into (λ l next. if stops l then next else walk_from g stops (length g) (k ∷ []) l next) k o no_walk).left ≡ [])
          ⊎ ((rest : List ℕ) × ((walk_into (λ l next. if stops l then next else walk_from g stops (length g) (k ∷ []) l next) k o no_walk).left ≡ k ∷ rest))
      by_block None = inl refl
      by_block (Some block) =
          inr ((walk_all (λ l next. if stops l then next else walk_from g stops (length g) (k ∷ []) l next) (jump_targets block.jump) no_walk).left, refl)

-- ---- each new number once

new_distinct : (xs : List ℕ) (x : ℕ) → HasNoDoubles xs → HasNoDoubles (with_new nat_eq xs x)
new_distinct xs x d = by_test (list_any (nat_eq x) xs) refl
  where
    by_test : (b : Bool) → list_any (nat_eq x) xs ≡ b → HasNoDoubles (if b then xs else xs ++ x ∷ [])
    by_test true e = d
    by_test false e = no_doubles_pushed xs x d (λ h. false≢true (sym e ∙ any_has (nat_eq x) xs x h (eq-eqb x x refl)))

all_distinct : (xs ys : List ℕ) → HasNoDoubles xs → HasNoDoubles (with_all_new nat_eq xs ys)
all_distinct xs [] d = d
all_distinct xs (y ∷ ys) d = all_distinct (with_new nat_eq xs y) ys (new_distinct xs y d)

new_member : (xs : List ℕ) (y x : ℕ) → Has (with_new nat_eq xs y) x → Has xs x ⊎ (y ≡ x)
new_member xs y x = by_test (list_any (nat_eq y) xs)
  where
    by_test : (b : Bool) → Has (if b then xs else xs ++ y ∷ []) x → Has xs x ⊎ (y ≡ x)
    by_test true h = inl h
    by_test false h = ⊎_elim inl (λ m. ⊎_elim inr absurd m) (has_append xs (y ∷ []) x h)

all_members : (xs ys : List ℕ) (x : ℕ) → Has (with_all_new nat_eq xs ys) x → Has xs x ⊎ Has ys x
all_members xs [] x h = inl h
all_members xs (y ∷ ys) x h =
    ⊎_elim (λ m. ⊎_elim inl (λ e. inr (inl e)) (new_member xs y x m)) (λ m. inr (inr m)) (all_members (with_new nat_eq xs y) ys x h)

pub distinct_arrivals : (g : Graph) (stops : ℕ → Bool) (ks : List ℕ) → HasNoDoubles (arrivals_of g stops ks)
distinct_arrivals g stops ks = all_distinct [] (filter stops (flat_map (targets g) ks)) tt

pub arrival_stops : (g : Graph) (stops : ℕ → Bool) (ks : List ℕ) (k : ℕ) → Has (arrivals_of g stops ks) k → stops k ≡ true
arrival_stops g stops ks k h =
    ⊎_elim absurd (λ m. (has_filter stops (flat_map (targets g) ks) k m).1) (all_members [] (filter stops (flat_map (targets g) ks)) k h)
