-- Properties of each derived hypothesis: of what is made from pairs of rows, and of elements past those of a first list.
use Rattle.std.proofs.Common.{◌≡◌, ℕ, zero, suc, ◌≤◌, List, [], ◌∷◌, ◌++◌, length, flat_map, slice_get, All, Some, subst, arith}
use Rattle.std.proofs.lemmas.List.Elements.{All-get_or, All-weaker}
use Rattle.std.proofs.lemmas.Option.{slice_get_within, get_or_from_slice_get}
use Rattle.abstraction.specs.Derived.{of_pairs}
use Rattle.abstraction.proofs.EachElement.{All-flat_map}

module _ {X : Type 0} (P : X → Type 0) where
  pub All-slice_get : (xs : List X) (k : ℕ) (x : X) → All P xs → slice_get xs k ≡ Some x → P x
  All-slice_get xs k x all e = subst P (get_or_from_slice_get xs k x x e) (All-get_or P xs k x (slice_get_within xs k x e) all)

  -- an element past the first list is an element of the second
  pub All-slice_get_past : (xs ys : List X) (k : ℕ) (x : X) → length xs ≤ k → All P ys → slice_get (xs ++ ys) k ≡ Some x → P x
  All-slice_get_past [] ys k x past all e = All-slice_get ys k x all e
  All-slice_get_past (y ∷ xs) ys zero x past all e = absurd (omega arith)
  All-slice_get_past (y ∷ xs) ys (suc k) x past all e = All-slice_get_past xs ys k x (omega arith) all e

  -- the property holds for everything made from pairs of rows of two lists
  pub All-of_pairs : {Y Z : Type 0} (Q : Y → Type 0) (R : Z → Type 0) (make : Y → Z → List X) → ((y : Y) (z : Z) → Q y → R z → All P (make y z)) →
      (ys : List Y) (zs : List Z) → All Q ys → All R zs → All P (of_pairs make ys zs)
  All-of_pairs Q R make each ys zs all_q all_r =
      All-flat_map P (λ y. flat_map (make y) zs) ys
      (All-weaker Q (λ y. All P (flat_map (make y) zs))
      (λ y q. All-flat_map P (make y) zs (All-weaker R (λ z. All P (make y z)) (λ z r. each y z q r) zs all_r))
      ys all_q)
