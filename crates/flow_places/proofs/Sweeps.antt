-- Sweeps over the table of live variables.
use Rattle.std.proofs.Common.{◌≡◌, ◌≢◌, ◌⊎◌, inl, inr, ⊎_elim, ℕ, zero, suc, ◌<◌, ◌≤◌, Bool, true, false, ◌||◌, List, [], ◌∷◌, ◌++◌, length, set, get_or, Some, option_map, slice_get, slice_index_or, refl, sym, ◌∙◌, ap, subst, arith}
use Rattle.std.proofs.lemmas.Bool.{false≢true, or_cases, or_left, or_right, cases_eq}
use Rattle.std.specs.Prelude.{Vec}
use Rattle.std.specs.declared.alloc.Global.{Global}
use Rattle.std.proofs.lemmas.Option.{slice_get_past, slice_get-map, slice_get-get_or}
use Rattle.flow_model.specs.declared.graph.Block.{Block as ABlock}
use Rattle.flow_model.specs.Polish.{block_of, graph_of}
use Rattle.flow_model.specs.Graphs.{Graph}
use Rattle.flow_ways.specs.Liveness.{IsLive}
use Rattle.flow_places.specs.Live.{live_at_block, live_within, live}
use Rattle.flow_places.specs.Tables.{noted, IsSwept, IsNoted}
use Rattle.flow_places.proofs.LiveTests.{live_at_block_more, sound_at, live_exactly}

-- no block has been brought up to date
pub none_swept : (g : Graph) (x first : ℕ) (old : ℕ → Bool) → length g ≤ first → IsSwept g x first old old
none_swept g x first old h = record {
  kept = λ k e. e;
  sound = λ f k e. f k e;
  reached = λ k le e. absurd (false≢true (sym (ap (live_at_block x old) (slice_get_past g k (omega (arith, h, le)))) ∙ e));
}

-- another block is up to date
pub one_swept : (g : Graph) (x k : ℕ) (old mid new : ℕ → Bool) → IsSwept g x (suc k) old mid → new k ≡ (live_at_block x mid (slice_get g k) || mid k) → ((j : ℕ) → j ≢ k → new j ≡ mid j) → IsSwept g x k old new
one_swept g x k old mid new swept here elsewhere = record { kept = λ j e. keeps j (swept.kept j e); sound = λ f j e. sound f j e (cases_eq j k); reached = λ j le e. reached j le e (cases_eq j k) }
  where
    keeps : (j : ℕ) → mid j ≡ true → new j ≡ true
    keeps j e =
        ⊎_elim
        (λ q. subst (λ i. new i ≡ true) (sym q) (here ∙ or_right (live_at_block x mid (slice_get g k)) (mid k) (subst (λ i. mid i ≡ true) q e)))
        (λ n. elsewhere j n ∙ e) (cases_eq j k)

    sound : ((j : ℕ) → old j ≡ true → IsLive g x j) → (j : ℕ) → new j ≡ true → (j ≡ k) ⊎ (j ≡ k → ⊥) → IsLive g x j
    sound f j e (inl q) =
        ⊎_elim
        (λ a. subst (IsLive g x) (sym q) (sound_at g x k mid (λ l h. swept.sound f l h) a))
        (λ a. swept.sound f j (subst (λ i. mid i ≡ true) (sym q) a))
        (or_cases (live_at_block x mid (slice_get g k)) (mid k) (sym here ∙ subst (λ i. new i ≡ true) q e))
    sound f j e (inr n) = swept.sound f j (sym (elsewhere j n) ∙ e)

    reached : (j : ℕ) → k ≤ j → live_at_block x old (slice_get g j) ≡ true → (j ≡ k) ⊎ (j ≡ k → ⊥) → new j ≡ true
    reached j le e (inl q) =
        subst (λ i. new i ≡ true) (sym q)
        (here ∙ or_left (live_at_block x mid (slice_get g k)) (mid k) (live_at_block_more x old mid (λ l h. swept.kept l h) (slice_get g k) (subst (λ i. live_at_block x old (slice_get g i) ≡ true) q e)))
    reached j le e (inr n) = keeps j (swept.reached j (omega (arith, le)) e)

-- after n sweeps all that is live within n blocks is noted

pub none_noted : (g : Graph) (x : ℕ) (table : ℕ → Bool) → ((k : ℕ) → table k ≡ false) → IsNoted g x 0 table
none_noted g x table f = record { sound = λ k e. absurd (false≢true (sym (f k) ∙ e)); complete = λ k e. absurd (false≢true e) }

pub noted_more : (g : Graph) (x n : ℕ) (old new : ℕ → Bool) → IsNoted g x n old → IsSwept g x 0 old new → IsNoted g x (suc n) new
noted_more g x n old new i swept = record {
  sound = λ k e. swept.sound i.sound k e;
  complete = λ k e. swept.reached k (omega arith) (live_at_block_more x (live_within g x n) old i.complete (slice_get g k) e);
}

-- where a sweep changes nothing, all that is live is noted
pub noted_all : (g : Graph) (x n m : ℕ) (table : ℕ → Bool) → IsNoted g x n table → IsSwept g x 0 table table → IsNoted g x m table
noted_all g x n zero table i swept = record { sound = i.sound; complete = λ k e. absurd (false≢true e) }
noted_all g x n (suc m) table i swept = noted_more g x m table table (noted_all g x n m table i swept) swept

same_truth : (a b : Bool) → (a ≡ true → b ≡ true) → (b ≡ true → a ≡ true) → a ≡ b
same_truth true b f h = sym (f refl)
same_truth false true f h = h refl
same_truth false false f h = refl

-- what is noted is what is live
pub noted_is_live : (g : Graph) (x k : ℕ) (table : ℕ → Bool) → IsNoted g x (length g) table → table k ≡ live g k x
noted_is_live g x k table i =
    same_truth (table k) (live g k x) (λ e. (live_exactly g k x).1 (i.sound k e)) (λ e. i.complete k e)

-- rows of the table

pub noted_here : (table : List (Vec Bool Global)) (k x : ℕ) (row : Vec Bool Global) → k < length table → noted (set table k row) x k ≡ slice_index_or row.items x false
noted_here [] k x row h = absurd (omega (arith, h))
noted_here (r ∷ table) zero x row h = refl
noted_here (r ∷ table) (suc k) x row h = noted_here table k x row (omega (arith, h))

pub noted_there : (table : List (Vec Bool Global)) (k j x : ℕ) (row : Vec Bool Global) → j ≢ k → noted (set table k row) x j ≡ noted table x j
noted_there [] k j x row h = refl
noted_there (r ∷ table) zero zero x row h = absurd (h refl)
noted_there (r ∷ table) zero (suc j) x row h = refl
noted_there (r ∷ table) (suc k) zero x row h = refl
noted_there (r ∷ table) (suc k) (suc j) x row h = noted_there table k j x row (λ e. h (ap suc e))

pub block_there : (bs : List ABlock) (k : ℕ) (b : ABlock) → k < length bs → b ≡ get_or bs k b → slice_get (graph_of bs) k ≡ Some (block_of b)
block_there bs k b h e =
    slice_get-map block_of bs k ∙ ap (option_map block_of) (slice_get-get_or bs k b h ∙ ap (λ c. Some c) (sym e))

pub noted_pushed : (table : List (Vec Bool Global)) (row : Vec Bool Global) (x k : ℕ) → ((y j : ℕ) → noted table y j ≡ false) → row.items ≡ [] → noted (table ++ row ∷ []) x k ≡ false
noted_pushed [] row x zero f e = ap (λ bs. slice_index_or bs x false) e
noted_pushed [] row x (suc k) f e = refl
noted_pushed (r ∷ table) row x zero f e = f x zero
noted_pushed (r ∷ table) row x (suc k) f e = noted_pushed table row x k (λ y j. f y (suc j)) e

pub both_false : (a b : Bool) → (a || b) ≡ false → (a ≡ false) × (b ≡ false)
both_false true b e = absurd (false≢true (sym e))
both_false false b e = (refl, e)
