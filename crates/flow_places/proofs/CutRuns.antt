-- Runs from places reach places, return or get stuck within the number of blocks of the graph.
use Rattle.std.proofs.Common.{◌≡◌, inl, inr, ℕ, zero, suc, ◌<◌, ◌≤◌, Bool, true, false, List, [], ◌∷◌, length, Option, Some, None, slice_get, if◌then◌else◌, refl, sym, ap, subst, arith}
use Rattle.kat_model.specs.Members.{Has}
use Rattle.flow_model.specs.Sorts.{State}
use Rattle.flow_model.specs.Graphs.{JumpTree, goto, branch, return, abort, Block, Graph}
use Rattle.flow_model.specs.Interpretations.{Interpretation, holds}
use Rattle.flow_model.specs.Runs.{after_statements}
use Rattle.flow_ways.specs.Liveness.{jump_targets}
use Rattle.flow_ways.specs.Stops.{Stop, came_to, unfinished, jump_stop, jump_stop_if, block_stop, stop_from, IsSettled}
use Rattle.flow_places.specs.Places.{is_place, cut_walk}
use Rattle.flow_places.specs.Loops.{targets_of, targets, HasUncutLoop}
use Rattle.flow_places.specs.Laws.{JumpsInside, ComesToEnd}
use Rattle.flow_places.proofs.Walked.{IsHandled, AreInOrder, block_reached, blocks_within}
use Rattle.flow_places.proofs.Reaching.{cut_follows, left_by_cuts, loop_shown, place_reached}

-- where a run goes from a block on
abbrev on_from : Interpretation → Graph → (ℕ → Bool) → ℕ → ℕ → State → Stop
on_from I g p n l t = if p l then came_to l t else stop_from I g p n l t

-- a jump has one stop if the runs from its targets do
jump_same : (I : Interpretation) (go other : ℕ → State → Stop) (jump : JumpTree) (t : State) → ((l : ℕ) → Has (jump_targets jump) l → IsSettled (other l t) → go l t ≡ other l t) →
    IsSettled (jump_stop I other jump t) → jump_stop I go jump t ≡ jump_stop I other jump t
jump_same I go other (goto l) t f h = f l (inl refl) h
jump_same I go other (branch b x y) t f h = by_truth (holds I t b) h
  where
    by_truth : (v : Bool) → IsSettled (other (if v then x else y) t) → go (if v then x else y) t ≡ other (if v then x else y) t
    by_truth true k = f x (inl refl) k
    by_truth false k = f y (inr (inl refl)) k
jump_same I go other (return es) t f h = refl
jump_same I go other abort t f h = refl

block_same : (I : Interpretation) (go other : ℕ → State → Stop) (block : Block) (s : State) → ((l : ℕ) (t : State) → Has (jump_targets block.jump) l → IsSettled (other l t) → go l t ≡ other l t) →
    IsSettled (block_stop I other (Some block) s) → block_stop I go (Some block) s ≡ block_stop I other (Some block) s
block_same I go other block s f h = by_end (after_statements I s block.statements) h
  where
    by_end : (o : Option State) → IsSettled (jump_stop_if I other block.jump o) → jump_stop_if I go block.jump o ≡ jump_stop_if I other block.jump o
    by_end None k = refl
    by_end (Some t) k = jump_same I go other block.jump t (λ l m. f l t m) k

nowhere : (I : Interpretation) (g : Graph) (p : ℕ → Bool) (m l : ℕ) (t : State) → slice_get g l ≡ None → IsSettled (stop_from I g p m l t) → ⊥
nowhere I g p zero l t e h = h
nowhere I g p (suc m) l t e h = subst (λ o. IsSettled (block_stop I (on_from I g p m) o t)) e h

-- more blocks do not change where the run from a block of the list ends
abbrev SettlesFrom : Interpretation → Graph → (ℕ → Bool) → List ℕ → Type 0
SettlesFrom I g p left =
    (k : ℕ) → Has left k → (n m : ℕ) (s : State) → length left ≤ n → IsSettled (stop_from I g p m k s) → stop_from I g p n k s ≡ stop_from I g p m k s

target_settles : (I : Interpretation) (g : Graph) (p : ℕ → Bool) (older : List ℕ) → SettlesFrom I g p older → (k l : ℕ) → ((j : ℕ) → Has (targets g k) j → p j ≡ false → IsHandled g [] older j) →
    Has (targets g k) l → (n m : ℕ) (t : State) → length older ≤ n → IsSettled (on_from I g p m l t) → on_from I g p n l t ≡ on_from I g p m l t
target_settles I g p older f k l o h n m t le q = by_place (p l) refl q
  where
    by_kind : IsHandled g [] older l → IsSettled (stop_from I g p m l t) → stop_from I g p n l t ≡ stop_from I g p m l t
    by_kind (inl a) r = absurd a
    by_kind (inr (inl a)) r = f l a n m t le r
    by_kind (inr (inr e)) r = absurd (nowhere I g p m l t e r)

    by_place : (b : Bool) → p l ≡ b → IsSettled (if b then came_to l t else stop_from I g p m l t) → (if b then came_to l t else stop_from I g p n l t) ≡ (if b then came_to l t else stop_from I g p m l t)
    by_place true e r = refl
    by_place false e r = by_kind (o l h e) r

first_settles : (I : Interpretation) (g : Graph) (p : ℕ → Bool) (k : ℕ) (older : List ℕ) → SettlesFrom I g p older → ((j : ℕ) → Has (targets g k) j → p j ≡ false → IsHandled g [] older j) →
    (n m : ℕ) (s : State) → suc (length older) ≤ n → IsSettled (stop_from I g p m k s) → stop_from I g p n k s ≡ stop_from I g p m k s
first_settles I g p k older f o zero m s le h = absurd (omega (arith, le))
first_settles I g p k older f o (suc n) zero s le h = absurd h
first_settles I g p k older f o (suc n) (suc m) s le h = at_block (slice_get g k) refl h
  where
    at_block : (b : Option Block) → slice_get g k ≡ b → IsSettled (block_stop I (on_from I g p m) b s) → block_stop I (on_from I g p n) b s ≡ block_stop I (on_from I g p m) b s
    at_block None e q = refl
    at_block (Some block) e q =
        block_same I (on_from I g p n) (on_from I g p m) block s
        (λ l t j r. target_settles I g p older f k l o (subst (λ ks. Has ks l) (sym (ap targets_of e)) j) n m t (omega (arith, le)) r) q

settles_from : (I : Interpretation) (g : Graph) (p : ℕ → Bool) (left : List ℕ) → AreInOrder g p [] left → SettlesFrom I g p left
settles_from I g p [] o k h n m s le q = absurd h
settles_from I g p (j ∷ older) o k (inl e) n m s le q =
    first_settles I g p k older (settles_from I g p older o.1) (subst (λ x. (i : ℕ) → Has (targets g x) i → p i ≡ false → IsHandled g [] older i) e o.0) n m s le q
settles_from I g p (j ∷ older) o k (inr h) n m s le q = settles_from I g p older o.1 k h n m s (omega (arith, le)) q

-- within the graph

there_is_none : (g : Graph) (k : ℕ) → slice_get g k ≡ None → k < length g → ⊥
there_is_none [] k e h = absurd (omega (arith, h))
there_is_none (b ∷ g) zero e h = absurd cc
there_is_none (b ∷ g) (suc k) e h = there_is_none g k e (omega (arith, h))

jump_ends : (I : Interpretation) (go : ℕ → State → Stop) (jump : JumpTree) (t : State) → ((l : ℕ) → Has (jump_targets jump) l → go l t ≡ unfinished → ⊥) → jump_stop I go jump t ≡ unfinished → ⊥
jump_ends I go (goto l) t f h = f l (inl refl) h
jump_ends I go (branch b x y) t f h = by_truth (holds I t b) h
  where
    by_truth : (v : Bool) → go (if v then x else y) t ≡ unfinished → ⊥
    by_truth true k = f x (inl refl) k
    by_truth false k = f y (inr (inl refl)) k
jump_ends I go (return es) t f h = absurd cc
jump_ends I go abort t f h = absurd cc

block_ends : (I : Interpretation) (go : ℕ → State → Stop) (block : Block) (s : State) → ((l : ℕ) (t : State) → Has (jump_targets block.jump) l → go l t ≡ unfinished → ⊥) → block_stop I go (Some block) s ≡ unfinished → ⊥
block_ends I go block s f h = by_end (after_statements I s block.statements) h
  where
    by_end : (o : Option State) → jump_stop_if I go block.jump o ≡ unfinished → ⊥
    by_end None k = absurd cc
    by_end (Some t) k = jump_ends I go block.jump t (λ l m. f l t m) k

abbrev EndsFrom : Interpretation → Graph → (ℕ → Bool) → List ℕ → Type 0
EndsFrom I g p left =
    (k : ℕ) → Has left k → (n : ℕ) (s : State) → length left ≤ n → stop_from I g p n k s ≡ unfinished → ⊥

target_ends : (I : Interpretation) (g : Graph) (p : ℕ → Bool) (older : List ℕ) → JumpsInside g → EndsFrom I g p older → (k l : ℕ) → ((j : ℕ) → Has (targets g k) j → p j ≡ false → IsHandled g [] older j) →
    Has (targets g k) l → (n : ℕ) (t : State) → length older ≤ n → on_from I g p n l t ≡ unfinished → ⊥
target_ends I g p older inside f k l o h n t le q = by_place (p l) refl q
  where
    by_kind : IsHandled g [] older l → stop_from I g p n l t ≡ unfinished → ⊥
    by_kind (inl a) r = absurd a
    by_kind (inr (inl a)) r = f l a n t le r
    by_kind (inr (inr e)) r = there_is_none g l e (inside k l h)

    by_place : (b : Bool) → p l ≡ b → (if b then came_to l t else stop_from I g p n l t) ≡ unfinished → ⊥
    by_place true e r = absurd cc
    by_place false e r = by_kind (o l h e) r

first_ends : (I : Interpretation) (g : Graph) (p : ℕ → Bool) (k : ℕ) (older : List ℕ) → JumpsInside g → EndsFrom I g p older → ((j : ℕ) → Has (targets g k) j → p j ≡ false → IsHandled g [] older j) →
    (n : ℕ) (s : State) → suc (length older) ≤ n → stop_from I g p n k s ≡ unfinished → ⊥
first_ends I g p k older inside f o zero s le h = absurd (omega (arith, le))
first_ends I g p k older inside f o (suc n) s le h = at_block (slice_get g k) refl h
  where
    at_block : (b : Option Block) → slice_get g k ≡ b → block_stop I (on_from I g p n) b s ≡ unfinished → ⊥
    at_block None e q = absurd cc
    at_block (Some block) e q =
        block_ends I (on_from I g p n) block s
        (λ l t j r. target_ends I g p older inside f k l o (subst (λ ks. Has ks l) (sym (ap targets_of e)) j) n t (omega (arith, le)) r) q

ends_from : (I : Interpretation) (g : Graph) (p : ℕ → Bool) (left : List ℕ) → JumpsInside g → AreInOrder g p [] left → EndsFrom I g p left
ends_from I g p [] inside o k h n s le q = absurd h
ends_from I g p (j ∷ older) inside o k (inl e) n s le q =
    first_ends I g p k older inside (ends_from I g p older inside o.1) (subst (λ x. (i : ℕ) → Has (targets g x) i → p i ≡ false → IsHandled g [] older i) e o.0) n s le q
ends_from I g p (j ∷ older) inside o k (inr h) n s le q = ends_from I g p older inside o.1 k h n s (omega (arith, le)) q

no_heads : (g : Graph) (heads : List ℕ) → ((k : ℕ) → Has heads k → ⊥) → heads ≡ []
no_heads g [] f = refl
no_heads g (k ∷ heads) f = absurd (f k (inl refl))

-- without an uncut loop, runs from places end
pub comes_to_end : (I : Interpretation) (g : Graph) (k : ℕ) (s : State) → (HasUncutLoop g → ⊥) → is_place g k ≡ true → ComesToEnd I g k s
comes_to_end I g k s cut place =
    let walk = (cut_follows g).goes.walk in
    let none : (cut_walk g).heads ≡ [] = no_heads g (cut_walk g).heads (λ j h. cut (loop_shown g j h)) in
    let order : AreInOrder g (is_place g) [] (cut_walk g).left = subst (λ hs. AreInOrder g (is_place g) hs (cut_walk g).left) none walk.in_order in
    let few : length (cut_walk g).left ≤ length g = blocks_within g (cut_walk g).left walk.distinct (λ j h. block_reached g j (walk.reached j h)) in
    let left : Has (cut_walk g).left k = left_by_cuts g k (place_reached g k place) in
    record {
      settles = λ n q. settles_from I g (is_place g) (cut_walk g).left order k left (length g) n s few q;
      ends = λ inside q. ends_from I g (is_place g) (cut_walk g).left inside order k left (length g) s few q;
    }
