-- Measures of a balanced tree as its list grows.
use Rattle.std.proofs.Common.{◌≡◌, ℕ, zero, suc, ◌+◌, ◌/◌, ◌<◌, ◌≤◌, max, Bool, true, ◌&&◌, List, [], ◌∷◌, ◌++◌, length, take, drop, refl, sym, ap, ◌∙◌, arith, length-append}
use Rattle.std.proofs.lemmas.List.{take-append-drop, length-take, length-drop}
use Rattle.kat_model.specs.Balanced.{balanced_within, balanced}

-- a measure of a node is computed from those of its children by an associative operation
module _ {X V : Type 0} (unit : X) (node : X → X → X) (f : X → V) (op : V → V → V) (groups : (u v w : V) → op (op u v) w ≡ op u (op v w)) (at_node : (x y : X) → f (node x y) ≡ op (f x) (f y)) where
  abbrev run : V → List X → V
  run v [] = v
  run v (x ∷ xs) = run (op v (f x)) xs

  run-append : (v : V) (xs ys : List X) → run v (xs ++ ys) ≡ run (run v xs) ys
  run-append v [] ys = refl
  run-append v (x ∷ xs) ys = run-append (op v (f x)) xs ys

  runs_within : (n : ℕ) (xs : List X) → length xs ≤ n → 0 < length xs → (v : V) → run v xs ≡ op v (f (balanced_within unit node n xs))
  runs_within zero xs le some v = absurd (omega arith)
  runs_within (suc n) [] le some v = absurd (omega arith)
  runs_within (suc n) (x ∷ []) le some v = refl
  runs_within (suc n) (x ∷ y ∷ xs) le some v =
      let l = x ∷ y ∷ xs in
      let i = length (x ∷ y ∷ xs) / 2 in
      let a = balanced_within unit node n (take i l) in
      let b = balanced_within unit node n (drop i l) in
      let left = length-take i l in
      let right = length-drop i l in
      sym (ap (run v) (take-append-drop i l))
      ∙ run-append v (take i l) (drop i l)
      ∙ runs_within n (drop i l) (omega arith) (omega arith) (run v (take i l))
      ∙ ap (λ (u : V). op u (f b)) (runs_within n (take i l) (omega arith) (omega arith) v)
      ∙ groups v (f a) (f b)
      ∙ ap (op v) (sym (at_node a b))

  pub grown : (xs : List X) (x : X) → 0 < length xs → (v : V) → op v (f (balanced unit node (xs ++ x ∷ []))) ≡ op v (op (f (balanced unit node xs)) (f x))
  grown xs x some v =
      let longer = length-append xs (x ∷ []) in
      sym (runs_within (length (xs ++ x ∷ [])) (xs ++ x ∷ []) (omega arith) (omega arith) v)
      ∙ run-append v xs (x ∷ [])
      ∙ ap (λ (u : V). op u (f x)) (runs_within (length xs) xs (omega arith) some v)
      ∙ groups v (f (balanced unit node xs)) (f x)

abbrev counted_node : ℕ → ℕ → ℕ
counted_node m n = m + n + 1

counts_group : (k m n : ℕ) → counted_node (counted_node k m) n ≡ counted_node k (counted_node m n)
counts_group k m n = omega arith

maxima_group : (k m n : ℕ) → max (max k m) n ≡ max k (max m n)
maxima_group k m n = omega arith

tests_group : (a b c : Bool) → (a && b && c) ≡ (a && (b && c))
tests_group true b c = refl
tests_group _ b c = refl

module _ {X : Type 0} (unit : X) (node : X → X → X) where
  pub size_grown : (f : X → ℕ) → ((x y : X) → f (node x y) ≡ f x + f y + 1) → (xs : List X) (x : X) → 0 < length xs → f (balanced unit node (xs ++ x ∷ [])) ≡ f (balanced unit node xs) + f x + 1
  size_grown f at_node xs x some =
      let h : 0 + f (balanced unit node (xs ++ x ∷ [])) + 1 ≡ 0 + (f (balanced unit node xs) + f x + 1) + 1 = grown unit node f counted_node counts_group at_node xs x some 0 in
      omega arith

  pub most_grown : (f : X → ℕ) → ((x y : X) → f (node x y) ≡ max (f x) (f y)) → (xs : List X) (x : X) → 0 < length xs → f (balanced unit node (xs ++ x ∷ [])) ≡ max (f (balanced unit node xs)) (f x)
  most_grown f at_node xs x some =
      let h : max 0 (f (balanced unit node (xs ++ x ∷ []))) ≡ max 0 (max (f (balanced unit node xs)) (f x)) = grown unit node f max maxima_group at_node xs x some 0 in
      omega arith

  pub test_grown : (f : X → Bool) → ((x y : X) → f (node x y) ≡ (f x && f y)) → (xs : List X) (x : X) → 0 < length xs → f (balanced unit node (xs ++ x ∷ [])) ≡ (f (balanced unit node xs) && f x)
  test_grown f at_node xs x some = grown unit node f (λ a b. a && b) tests_group at_node xs x some true
