-- Balanced trees over a list, over its halves, and over its last members.
use Rattle.std.proofs.Common.{◌≡◌, ℕ, zero, suc, ◌+◌, ◌-◌, ◌/◌, ◌≤◌, List, [], ◌∷◌, ◌++◌, map, length, take, drop, refl, sym, ap, ◌∙◌, subst, arith}
use Rattle.std.proofs.lemmas.List.{take-append-drop, length-map, length-take, length-drop, length-append, drop-take, drop-drop, take-take, take-map, drop-map, take_all, drop_all}
use Rattle.std.proofs.Math.Seq.{take-append_seam, drop-append_seam}
use mathlib.Core.Path.{ap₂}
use Rattle.kat_model.specs.Balanced.{balanced_within, balanced}

module _ {X : Type 0} (unit : X) (node : X → X → X) where
  -- what holds for the empty list, for one member, and for the node over the trees of two lists holds for every list
  -- and its tree
  pub balanced_within_holds : (P : List X → X → Type 0) → P [] unit → ((x : X) → P (x ∷ []) x) → ((xs ys : List X) (a b : X) → P xs a → P ys b → P (xs ++ ys) (node a b)) → (n : ℕ) (xs : List X) → length xs ≤ n → P xs (balanced_within unit node n xs)
  balanced_within_holds P none one two zero [] le = none
  balanced_within_holds P none one two zero (x ∷ xs) le = absurd (omega arith)
  balanced_within_holds P none one two (suc n) [] le = none
  balanced_within_holds P none one two (suc n) (x ∷ []) le = one x
  balanced_within_holds P none one two (suc n) (x ∷ y ∷ xs) le =
      let l = x ∷ y ∷ xs in
      let i = length (x ∷ y ∷ xs) / 2 in
      let first = balanced_within_holds P none one two n (take i l) (omega (arith, length-take i l)) in
      let rest = balanced_within_holds P none one two n (drop i l) (omega (arith, length-drop i l)) in
      subst (λ zs. P zs (balanced_within unit node (suc n) l)) (take-append-drop i l) (two (take i l) (drop i l) _ _ first rest)

  pub balanced_holds : (P : List X → X → Type 0) → P [] unit → ((x : X) → P (x ∷ []) x) → ((xs ys : List X) (a b : X) → P xs a → P ys b → P (xs ++ ys) (node a b)) → (xs : List X) → P xs (balanced unit node xs)
  balanced_holds P none one two xs = balanced_within_holds P none one two (length xs) xs (omega arith)

  -- every bound that is at least the length gives the same tree
  pub balanced_within_more : (n m : ℕ) (xs : List X) → length xs ≤ n → length xs ≤ m → balanced_within unit node n xs ≡ balanced_within unit node m xs
  balanced_within_more zero zero xs h k = refl
  balanced_within_more zero (suc m) [] h k = refl
  balanced_within_more zero (suc m) (x ∷ xs) h k = absurd (omega arith)
  balanced_within_more (suc n) zero [] h k = refl
  balanced_within_more (suc n) zero (x ∷ xs) h k = absurd (omega arith)
  balanced_within_more (suc n) (suc m) [] h k = refl
  balanced_within_more (suc n) (suc m) (x ∷ []) h k = refl
  balanced_within_more (suc n) (suc m) (x ∷ y ∷ xs) h k =
      let l = x ∷ y ∷ xs in
      let i = length (x ∷ y ∷ xs) / 2 in
      let a = length-take i l in
      let b = length-drop i l in
      ap₂ node (balanced_within_more n m (take i l) (omega arith) (omega arith)) (balanced_within_more n m (drop i l) (omega arith) (omega arith))

  pub balanced_within-enough : (n : ℕ) (xs : List X) → length xs ≤ n → balanced_within unit node n xs ≡ balanced unit node xs
  balanced_within-enough n xs h = balanced_within_more n (length xs) xs h (omega arith)

  -- the tree of two or more members is the node over the trees of both halves
  pub balanced-halves : (xs : List X) → 2 ≤ length xs → balanced unit node xs ≡ node (balanced unit node (take (length xs / 2) xs)) (balanced unit node (drop (length xs / 2) xs))
  balanced-halves [] h = absurd (omega arith)
  balanced-halves (x ∷ []) h = absurd (omega arith)
  balanced-halves (x ∷ y ∷ xs) h =
      let l = x ∷ y ∷ xs in
      let i = length (x ∷ y ∷ xs) / 2 in
      let n = length (y ∷ xs) in
      let a = length-take i l in
      let b = length-drop i l in
      ap₂ node (balanced_within-enough n (take i l) (omega arith)) (balanced_within-enough n (drop i l) (omega arith))

  -- the tree of the members from an index on, if there are two or more
  pub balanced-last : {Y : Type 0} (f : Y → X) (l : List Y) (low half count : ℕ) → length l ≡ low + count → 2 ≤ count → half ≡ count / 2 → balanced unit node (map f (drop low l)) ≡ node (balanced unit node (map f (drop low (take (low + half) l)))) (balanced unit node (map f (drop (low + half) l)))
  balanced-last f l low half count e h k =
      let n : length (map f (drop low l)) ≡ count = omega (arith, length-map (drop low l) f, length-drop low l) in
      let m : length (map f (drop low l)) / 2 ≡ half = ap (λ z. z / 2) n ∙ sym k in
      let a : take half (map f (drop low l)) ≡ map f (drop low (take (low + half) l)) = take-map f half (drop low l) ∙ ap (map f) (sym (drop-take low half l)) in
      let b : drop half (map f (drop low l)) ≡ map f (drop (low + half) l) = drop-map f half (drop low l) ∙ ap (map f) (drop-drop half low l) in
      balanced-halves (map f (drop low l)) (omega arith) ∙ rw (m, a, b) refl

  -- the trees of the last members, if they are taken from the list in two parts, the later part first
  pub balanced-parts : {Y : Type 0} (f : Y → X) (l rest : List Y) (len left count : ℕ) (s r : X) → len ≡ length l → left ≡ length rest → count ≤ len → 2 ≤ count → rest ≡ take (len - (count - count / 2)) l → s ≡ balanced unit node (map f (drop (left - count / 2) rest)) → r ≡ balanced unit node (map f (drop (len - (count - count / 2)) l)) → node s r ≡ balanced unit node (map f (drop (len - count) l))
  balanced-parts f l rest len left count s r e d within two cut es er =
      let mid : len - (count - count / 2) ≡ len - count + count / 2 = omega arith in
      let first : rest ≡ take (len - count + count / 2) l = cut ∙ ap (λ n. take n l) mid in
      let n : length rest ≡ len - count + count / 2 = omega (arith, ap length first, length-take (len - count + count / 2) l) in
      let low : left - count / 2 ≡ len - count = omega arith in
      let whole : length l ≡ len - count + count = omega arith in
      let split = balanced-last f l (len - count) (count / 2) count whole two refl in
      rw (es, er, low, first, mid) (sym split)

  -- the first members, and the tree of the last ones, if the last ones are none
  pub before-none : {Y : Type 0} (l : List Y) (len count : ℕ) → len ≡ length l → count ≡ 0 → l ≡ take (len - count) l
  before-none l len count e z = sym (take_all (len - count) l (omega arith))

  pub balanced-none : {Y : Type 0} (f : Y → X) (l : List Y) (len count : ℕ) → len ≡ length l → count ≡ 0 → unit ≡ balanced unit node (map f (drop (len - count) l))
  balanced-none f l len count e z = ap (λ ys. balanced unit node (map f ys)) (sym (drop_all (len - count) l (omega arith)))

  pub one-of-none : (len count : ℕ) → len ≡ 0 → count ≡ 1 → count ≤ len → ⊥
  one-of-none len count none one within = omega arith

  -- the same, if the last ones are one member
  pub before-one : {Y : Type 0} (l rest : List Y) (y : Y) (len count : ℕ) → len ≡ length l → count ≡ 1 → l ≡ rest ++ y ∷ [] → rest ≡ take (len - count) l
  before-one l rest y len count e one whole =
      let n : len ≡ length rest + 1 = e ∙ ap length whole ∙ length-append rest (y ∷ []) in
      let place : len - count ≡ length rest = omega arith in
      rw (place, whole) (sym (take-append_seam rest (y ∷ [])))

  pub balanced-one : {Y : Type 0} (f : Y → X) (l rest : List Y) (y : Y) (len count : ℕ) → len ≡ length l → count ≡ 1 → l ≡ rest ++ y ∷ [] → f y ≡ balanced unit node (map f (drop (len - count) l))
  balanced-one f l rest y len count e one whole =
      let n : len ≡ length rest + 1 = e ∙ ap length whole ∙ length-append rest (y ∷ []) in
      let place : len - count ≡ length rest = omega arith in
      rw (place, whole) (ap (λ ys. balanced unit node (map f ys)) (sym (drop-append_seam rest (y ∷ []))))

  -- the first members, if the last ones are taken from the list in two parts
  pub before-parts : {Y : Type 0} (l rest first : List Y) (len left count : ℕ) → len ≡ length l → left ≡ length rest → count ≤ len → rest ≡ take (len - (count - count / 2)) l → first ≡ take (left - count / 2) rest → first ≡ take (len - count) l
  before-parts l rest first len left count e d within cut again =
      let n : length rest ≡ len - (count - count / 2) = omega (arith, ap length cut, length-take (len - (count - count / 2)) l) in
      let place : left - count / 2 ≡ len - count = omega arith in
      again ∙ rw (place, cut) (take-take (len - count) (len - (count - count / 2)) l (omega arith))
