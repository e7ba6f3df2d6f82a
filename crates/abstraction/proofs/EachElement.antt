-- Properties of each element of lists that are built from other lists.
use Rattle.std.proofs.Common.{ℕ, List, [], ◌∷◌, ◌++◌, flat_map, get_or, All, Bool, true, false, if◌then◌else◌}
use Rattle.std.specs.List.{list_any}
use Rattle.std.proofs.lemmas.List.Elements.{All-nil, All-head, All-tail, All-append, All-push}
use Rattle.linear_forms.specs.declared.comparison.Atomic.{Atomic}
use Rattle.kat_model.specs.UniqueRows.{with_new, with_all_new}
use Rattle.abstraction.specs.Rounds.{is_appended, append_all}

module _ {X : Type 0} (P : X → Type 0) where
  pub All-if : (b : Bool) (xs ys : List X) → All P xs → All P ys → All P (if b then xs else ys)
  All-if true xs ys p q = p
  All-if false xs ys p q = q

  pub All-every : ((x : X) → P x) → (xs : List X) → All P xs
  All-every each xs k d l = each (get_or xs k d)

  pub All-with_all_new : (same : X → X → Bool) (xs ys : List X) → All P xs → All P ys → All P (with_all_new same xs ys)
  All-with_all_new same xs [] p q = p
  All-with_all_new same xs (y ∷ ys) p q =
      All-with_all_new same (with_new same xs y) ys
      (All-if (list_any (same y) xs) xs (xs ++ y ∷ []) p (All-push P xs y p (All-head P y ys q)))
      (All-tail P y ys q)

  pub All-flat_map : {Y : Type 0} (make : Y → List X) (ys : List Y) → All (λ y. All P (make y)) ys → All P (flat_map make ys)
  All-flat_map make [] all = All-nil P
  All-flat_map make (y ∷ ys) all =
      All-append P (make y) (flat_map make ys) (All-head (λ z. All P (make z)) y ys all) (All-flat_map make ys (All-tail (λ z. All P (make z)) y ys all))

pub All-append_all : (P : Atomic → Type 0) (most : ℕ) (table more : List Atomic) → All P table → All P more → All P (append_all most table more)
All-append_all P most table [] p q = p
All-append_all P most table (a ∷ more) p q =
    All-append_all P most (if is_appended most table a then table ++ a ∷ [] else table) more
    (All-if P (is_appended most table a) (table ++ a ∷ []) table (All-push P table a p (All-head P a more q)) p)
    (All-tail P a more q)
