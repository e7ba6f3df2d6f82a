-- Marks of blocks, and lists of blocks in order.
use Rattle.std.proofs.Common.{◌≡◌, ℕ, zero, suc, ◌+◌, Bool, true, false, List, [], ◌∷◌, ◌++◌, length, Some, None, slice_get, option_map, if◌then◌else◌, refl, ◌∙◌, ap, arith}
use Rattle.std.specs.List.{filter, range_with_len}
use Rattle.std.proofs.lemmas.List.{length-map}
use Rattle.std.proofs.lemmas.Option.{slice_get-map}
use Rattle.flow_model.specs.declared.graph.Block.{Block as ABlock}
use Rattle.flow_model.specs.Polish.{block_of, graph_of}
use Rattle.flow_places.specs.Walks.{Walk, walk_all}
use Rattle.flow_places.specs.Places.{has_mark, is_marked}

pub depth_is : (bs : List ABlock) → length bs + 1 ≡ suc (length (graph_of bs))
depth_is bs = omega (arith, length-map bs block_of)

pub mark_there : (bs : List ABlock) (k : ℕ) (b : ABlock) → slice_get bs k ≡ Some b → is_marked (graph_of bs) k ≡ b.is_cut
mark_there bs k b e = ap has_mark (slice_get-map block_of bs k ∙ ap (option_map block_of) e)

pub no_mark_there : (bs : List ABlock) (k : ℕ) → slice_get bs k ≡ None → is_marked (graph_of bs) k ≡ false
no_mark_there bs k e = ap has_mark (slice_get-map block_of bs k ∙ ap (option_map block_of) e)

-- lists of numbers in order

pub range_pushed : (a n : ℕ) → range_with_len a (suc n) ≡ range_with_len a n ++ (a + n) ∷ []
range_pushed a zero = ap (λ k. k ∷ []) (omega arith)
range_pushed a (suc n) = ap (λ ks. a ∷ ks) (range_pushed (a + 1) n ∙ ap (λ k. range_with_len (a + 1) n ++ k ∷ []) (omega arith))

walk_all-append : (go : ℕ → Walk → Walk) (xs ys : List ℕ) (w : Walk) → walk_all go (xs ++ ys) w ≡ walk_all go ys (walk_all go xs w)
walk_all-append go [] ys w = refl
walk_all-append go (x ∷ xs) ys w = walk_all-append go xs ys (go x w)

pub filter-pushed : (p : ℕ → Bool) (xs : List ℕ) (x : ℕ) → filter p (xs ++ x ∷ []) ≡ filter p xs ++ (if p x then x ∷ [] else [])
filter-pushed p [] x = refl
filter-pushed p (y ∷ xs) x = by_test (p y) (filter-pushed p xs x)
  where
    by_test : (b : Bool) → filter p (xs ++ x ∷ []) ≡ filter p xs ++ (if p x then x ∷ [] else []) →
        (if b then y ∷ filter p (xs ++ x ∷ []) else filter p (xs ++ x ∷ [])) ≡ (if b then y ∷ filter p xs else filter p xs) ++ (if p x then x ∷ [] else [])
    by_test true e = ap (λ zs. y ∷ zs) e
    by_test false e = e

one_at_most : (go : ℕ → Walk → Walk) (b : Bool) (k : ℕ) (w : Walk) → walk_all go (if b then k ∷ [] else []) w ≡ (if b then go k w else w)
one_at_most go true k w = refl
one_at_most go false k w = refl

-- the walk from another block
pub one_place_more : (go : ℕ → Walk → Walk) (p : ℕ → Bool) (n : ℕ) (w : Walk) → walk_all go (filter p (range_with_len 0 (suc n))) w ≡ (if p n then go n (walk_all go (filter p (range_with_len 0 n)) w) else walk_all go (filter p (range_with_len 0 n)) w)
one_place_more go p n w =
    let last : 0 + n ≡ n = omega arith in
    ap (λ ks. walk_all go (filter p ks) w) (range_pushed 0 n ∙ ap (λ k. range_with_len 0 n ++ k ∷ []) last)
    ∙ ap (λ ks. walk_all go ks w) (filter-pushed p (range_with_len 0 n) n)
    ∙ walk_all-append go (filter p (range_with_len 0 n)) (if p n then n ∷ [] else []) w
    ∙ one_at_most go (p n) n (walk_all go (filter p (range_with_len 0 n)) w)
