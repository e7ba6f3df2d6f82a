-- The test of liveness is true on the least sets: after the number of blocks of the graph nothing is added.
use Rattle.std.proofs.Common.{◌≡◌, ◌⊎◌, ◌↔◌, inl, inr, ⊎_elim, ℕ, zero, suc, ◌<◌, ◌≤◌, Bool, true, false, not, ◌&&◌, ◌||◌, List, [], ◌∷◌, length, Option, Some, None, slice_get, if◌then◌else◌, refl, sym, ◌∙◌, ap, subst, arith}
use Rattle.std.specs.List.{list_any, range_with_len}
use Rattle.std.proofs.lemmas.Bool.{false≢true, and_parts, and_from, or_cases, or_left, or_right, cases_Bool, cases_lt}
use Rattle.std.proofs.lemmas.List.FromFn.{length-range_with_len}
use Rattle.std.proofs.lemmas.Option.{slice_get_past}
use Rattle.kat_model.specs.Members.{Has}
use Rattle.kat_model.proofs.Lists.{has_any, any_has}
use Rattle.flow_model.specs.Graphs.{StatementTree, assign, claim, Block, Graph}
use Rattle.flow_ways.specs.Liveness.{any_reads, cond_reads, is_target, live_before, jump_reads, jump_targets, IsLive, is_read, is_left}
use Rattle.flow_places.specs.Live.{live_at_jump, live_at_block, live_within, live}
use Rattle.flow_places.proofs.Walked.{in_range}

or_same : (a b c : Bool) → (b ≡ true → c ≡ true) → (a || b) ≡ true → (a || c) ≡ true
or_same a b c f e = ⊎_elim (λ h. or_left a c h) (λ h. or_right a c (f h)) (or_cases a b e)

and_same : (a b c : Bool) → (b ≡ true → c ≡ true) → (a && b) ≡ true → (a && c) ≡ true
and_same a b c f e = let p = and_parts a b e in and_from a c p.0 (f p.1)

-- what is live after the statements may be more
pub live_before_more : (x : ℕ) (stmts : List StatementTree) (b c : Bool) → (b ≡ true → c ≡ true) → live_before x stmts b ≡ true → live_before x stmts c ≡ true
live_before_more x [] b c f e = f e
live_before_more x (assign ks es ∷ rest) b c f e =
    or_same (any_reads x es) (not (is_target x ks) && live_before x rest b) (not (is_target x ks) && live_before x rest c)
    (λ h. and_same (not (is_target x ks)) (live_before x rest b) (live_before x rest c) (λ k. live_before_more x rest b c f k) h) e
live_before_more x (claim a ∷ rest) b c f e =
    or_same (cond_reads x a) (live_before x rest b) (live_before x rest c) (λ k. live_before_more x rest b c f k) e

any_more : (f h : ℕ → Bool) → ((k : ℕ) → f k ≡ true → h k ≡ true) → (ks : List ℕ) → list_any f ks ≡ true → list_any h ks ≡ true
any_more f h m ks e = let a = has_any f ks e in any_has h ks a.0 a.1 (m a.0 a.2)

pub live_at_block_more : (x : ℕ) (f h : ℕ → Bool) → ((k : ℕ) → f k ≡ true → h k ≡ true) → (o : Option Block) → live_at_block x f o ≡ true → live_at_block x h o ≡ true
live_at_block_more x f h m None e = absurd (false≢true e)
live_at_block_more x f h m (Some block) e =
    live_before_more x block.statements (live_at_jump x f block.jump) (live_at_jump x h block.jump)
    (λ a. or_same (jump_reads x block.jump) (list_any f (jump_targets block.jump)) (list_any h (jump_targets block.jump)) (any_more f h m (jump_targets block.jump)) a) e

within_more : (g : Graph) (x n k : ℕ) → live_within g x n k ≡ true → live_within g x (suc n) k ≡ true
within_more g x zero k e = absurd (false≢true e)
within_more g x (suc n) k e =
    live_at_block_more x (live_within g x n) (live_within g x (suc n)) (λ l h. within_more g x n l h) (slice_get g k) e

-- what passes the test is live
block_sound : (g : Graph) (x k : ℕ) (at_target : ℕ → Bool) → ((l : ℕ) → at_target l ≡ true → IsLive g x l) → (block : Block) → slice_get g k ≡ Some block →
    live_before x block.statements (live_at_jump x at_target block.jump) ≡ true → IsLive g x k
block_sound g x k at_target f block e h = by_jump (cases_Bool (list_any at_target (jump_targets block.jump)))
  where
    by_jump : (list_any at_target (jump_targets block.jump) ≡ true) ⊎ (list_any at_target (jump_targets block.jump) ≡ false) → IsLive g x k
    by_jump (inl q) =
        let a = has_any at_target (jump_targets block.jump) q in
        is_left k a.0 block e a.1 (live_before_more x block.statements (live_at_jump x at_target block.jump) true (λ r. refl) h) (f a.0 a.2)
    by_jump (inr q) =
        is_read k block e (live_before_more x block.statements (live_at_jump x at_target block.jump) (jump_reads x block.jump)
        (λ r. ⊎_elim (λ a. a) (λ a. absurd (false≢true (sym q ∙ a))) (or_cases (jump_reads x block.jump) (list_any at_target (jump_targets block.jump)) r)) h)

pub sound_at : (g : Graph) (x k : ℕ) (at_target : ℕ → Bool) → ((l : ℕ) → at_target l ≡ true → IsLive g x l) → live_at_block x at_target (slice_get g k) ≡ true → IsLive g x k
sound_at g x k at_target f h = at_block (slice_get g k) refl h
  where
    at_block : (o : Option Block) → slice_get g k ≡ o → live_at_block x at_target o ≡ true → IsLive g x k
    at_block None e q = absurd (false≢true q)
    at_block (Some block) e q = block_sound g x k at_target f block e q

pub within_sound : (g : Graph) (x n k : ℕ) → live_within g x n k ≡ true → IsLive g x k
within_sound g x zero k e = absurd (false≢true e)
within_sound g x (suc n) k e = sound_at g x k (live_within g x n) (λ l h. within_sound g x n l h) e

-- a set that is closed under the equations has all that is live
pub closed_has : (g : Graph) (x : ℕ) (f : ℕ → Bool) → ((k : ℕ) → live_at_block x f (slice_get g k) ≡ true → f k ≡ true) → (k : ℕ) → IsLive g x k → f k ≡ true
closed_has g x f c k (is_read j block e r) =
    c j (subst (λ o. live_at_block x f o ≡ true) (sym e)
    (live_before_more x block.statements (jump_reads x block.jump) (live_at_jump x f block.jump) (λ a. or_left (jump_reads x block.jump) (list_any f (jump_targets block.jump)) a) r))
closed_has g x f c k (is_left j l block e h t v) =
    c j (subst (λ o. live_at_block x f o ≡ true) (sym e)
    (live_before_more x block.statements true (live_at_jump x f block.jump)
    (λ a. or_right (jump_reads x block.jump) (list_any f (jump_targets block.jump)) (any_has f (jump_targets block.jump) l h (closed_has g x f c l v))) t))

-- counting

abbrev count : (ℕ → Bool) → List ℕ → ℕ
count f [] = 0
count f (k ∷ ks) = if f k then suc (count f ks) else count f ks

count_within : (f : ℕ → Bool) (ks : List ℕ) → count f ks ≤ length ks
count_within f [] = omega arith
count_within f (k ∷ ks) = by_test (f k) (count_within f ks)
  where
    by_test : (b : Bool) → count f ks ≤ length ks → (if b then suc (count f ks) else count f ks) ≤ suc (length ks)
    by_test true le = omega arith
    by_test false le = omega arith

-- where nothing is added to a set, or its count grows
abbrev AddsNone : (ℕ → Bool) → (ℕ → Bool) → List ℕ → Type 0
AddsNone f h ks = (k : ℕ) → Has ks k → h k ≡ true → f k ≡ true

grown : (f h : ℕ → Bool) → ((k : ℕ) → f k ≡ true → h k ≡ true) → (ks : List ℕ) → (AddsNone f h ks × (count f ks ≤ count h ks)) ⊎ (count f ks < count h ks)
grown f h m [] = inl ((λ k a. absurd a), omega arith)
grown f h m (k ∷ ks) = by_tests (f k) (h k) (m k) refl refl (grown f h m ks)
  where
    none : (f k ≡ true) ⊎ (h k ≡ false) → AddsNone f h ks → AddsNone f h (k ∷ ks)
    none (inl q) a j (inl e) t = subst (λ x. f x ≡ true) e q
    none (inr q) a j (inl e) t = absurd (false≢true (sym q ∙ ap h e ∙ t))
    none q a j (inr b) t = a j b t

    by_tests : (p q : Bool) → (p ≡ true → q ≡ true) → f k ≡ p → h k ≡ q → (AddsNone f h ks × (count f ks ≤ count h ks)) ⊎ (count f ks < count h ks) →
        (AddsNone f h (k ∷ ks) × ((if p then suc (count f ks) else count f ks) ≤ (if q then suc (count h ks) else count h ks))) ⊎ ((if p then suc (count f ks) else count f ks) < (if q then suc (count h ks) else count h ks))
    by_tests true true i a b (inl r) = inl (none (inl a) r.0, omega (arith, r.1))
    by_tests true true i a b (inr r) = inr (omega (arith, r))
    by_tests true false i a b r = absurd (false≢true (i refl))
    by_tests false true i a b (inl r) = inr (omega (arith, r.1))
    by_tests false true i a b (inr r) = inr (omega (arith, r))
    by_tests false false i a b (inl r) = inl (none (inr b) r.0, r.1)
    by_tests false false i a b (inr r) = inr r

-- another block adds nothing
abbrev IsStable : Graph → ℕ → ℕ → Type 0
IsStable g x n = (k : ℕ) → live_within g x (suc n) k ≡ true → live_within g x n k ≡ true

stays_stable : (g : Graph) (x n : ℕ) → IsStable g x n → IsStable g x (suc n)
stays_stable g x n s k e = live_at_block_more x (live_within g x (suc n)) (live_within g x n) s (slice_get g k) e

-- blocks that there are not are never live
stable_from : (g : Graph) (x n : ℕ) → AddsNone (live_within g x n) (live_within g x (suc n)) (range_with_len 0 (length g)) → IsStable g x n
stable_from g x n a k e = by_place (cases_lt k (length g))
  where
    by_place : (k < length g) ⊎ (length g ≤ k) → live_within g x n k ≡ true
    by_place (inl h) = a k (in_range 0 (length g) k (omega arith) (omega (arith, h))) e
    by_place (inr h) = absurd (false≢true (sym (ap (live_at_block x (live_within g x n)) (slice_get_past g k h)) ∙ e))

stable_or_more : (g : Graph) (x n : ℕ) → IsStable g x n ⊎ (n < count (live_within g x (suc n)) (range_with_len 0 (length g)))
stable_or_more g x zero = by_growth (grown (live_within g x zero) (live_within g x 1) (within_more g x zero) (range_with_len 0 (length g)))
  where
    by_growth : (AddsNone (live_within g x zero) (live_within g x 1) (range_with_len 0 (length g)) × (count (live_within g x zero) (range_with_len 0 (length g)) ≤ count (live_within g x 1) (range_with_len 0 (length g))))
        ⊎ (count (live_within g x zero) (range_with_len 0 (length g)) < count (live_within g x 1) (range_with_len 0 (length g))) →
        IsStable g x zero ⊎ (0 < count (live_within g x 1) (range_with_len 0 (length g)))
    by_growth (inl r) = inl (stable_from g x zero r.0)
    by_growth (inr r) = inr (omega (arith, r))
stable_or_more g x (suc n) = by_before (stable_or_more g x n)
  where
    by_growth : n < count (live_within g x (suc n)) (range_with_len 0 (length g)) →
        (AddsNone (live_within g x (suc n)) (live_within g x (suc (suc n))) (range_with_len 0 (length g)) × (count (live_within g x (suc n)) (range_with_len 0 (length g)) ≤ count (live_within g x (suc (suc n))) (range_with_len 0 (length g))))
        ⊎ (count (live_within g x (suc n)) (range_with_len 0 (length g)) < count (live_within g x (suc (suc n))) (range_with_len 0 (length g))) →
        IsStable g x (suc n) ⊎ (suc n < count (live_within g x (suc (suc n))) (range_with_len 0 (length g)))
    by_growth h (inl r) = inl (stable_from g x (suc n) r.0)
    by_growth h (inr r) = inr (omega (arith, h, r))

    by_before : IsStable g x n ⊎ (n < count (live_within g x (suc n)) (range_with_len 0 (length g))) →
        IsStable g x (suc n) ⊎ (suc n < count (live_within g x (suc (suc n))) (range_with_len 0 (length g)))
    by_before (inl s) = inl (stays_stable g x n s)
    by_before (inr h) = by_growth h (grown (live_within g x (suc n)) (live_within g x (suc (suc n))) (within_more g x (suc n)) (range_with_len 0 (length g)))

stable_at_end : (g : Graph) (x : ℕ) → IsStable g x (length g)
stable_at_end g x = by_count (stable_or_more g x (length g))
  where
    by_count : IsStable g x (length g) ⊎ (length g < count (live_within g x (suc (length g))) (range_with_len 0 (length g))) → IsStable g x (length g)
    by_count (inl s) = s
    by_count (inr h) =
        absurd (omega (arith, h, count_within (live_within g x (suc (length g))) (range_with_len 0 (length g)), length-range_with_len 0 (length g)))

-- the test is true of what is live
pub live_exactly : (g : Graph) (k x : ℕ) → (live g k x ≡ true) ↔ IsLive g x k
live_exactly g k x = (
  (λ e. within_sound g x (length g) k e),
  (λ v. closed_has g x (live_within g x (length g)) (λ l h. stable_at_end g x l h) k v),
)
