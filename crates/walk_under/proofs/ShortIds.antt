-- The short hypotheses of a problem, one hypothesis after the other.
use Rattle.std.proofs.Common.{◌≡◌, ◌<◌, ◌+◌, ⊎_elim, ℕ, suc, Bool, true, false, cond, List, [], ◌∷◌, ◌++◌, length, map, drop, get_or, Some, sym, ap, ◌∙◌, subst, arith, append_assoc}
use Rattle.std.specs.List.{filter}
use Rattle.std.proofs.Math.Seq.{drop-cons}
use Rattle.std.proofs.lemmas.Option.{slice_get-get_or}
use Rattle.kat_model.specs.Trees.{Term}
use Rattle.kat_model.proofs.Places.{has_at}
use Rattle.kat_model.specs.Members.{Has}
use Rattle.kat_model.specs.Degrees.{is_short}
use Rattle.kat_model.specs.Problems.{IsInRange, AreInRange}

-- each of a list of terms in range is in range
pub in_range_each : (tests actions : ℕ) (es : List Term) → AreInRange tests actions es → (e : Term) → Has es e → IsInRange tests actions e
in_range_each tests actions [] all e h = absurd h
in_range_each tests actions (x ∷ es) all e h = ⊎_elim (λ s. subst (IsInRange tests actions) s all.0) (in_range_each tests actions es all.1 e) h

module _ {X : Type 0} (f : X → Term) (xs : List X) (k : ℕ) (x : X) (lt : k < length xs) (is : x ≡ get_or xs k x) (done : List Term) (all : done ++ filter is_short (map f (drop k xs)) ≡ filter is_short (map f xs)) where
  abbrev rest : List Term
  rest = filter is_short (map f (drop (k + 1) xs))

  next : drop k xs ≡ x ∷ drop (k + 1) xs
  next =
      let more : suc k ≡ k + 1 = omega arith in
      subst (λ n. drop k xs ≡ x ∷ drop n xs) more (subst (λ (y : X). drop k xs ≡ y ∷ drop (suc k) xs) (sym is) (drop-cons xs k x lt))

  split : (b : Bool) → is_short (f x) ≡ b → done ++ cond b (f x ∷ rest) rest ≡ filter is_short (map f xs)
  split b e = ap (λ c. done ++ cond c (f x ∷ rest) rest) (sym e) ∙ ap (λ (l : List X). done ++ filter is_short (map f l)) (sym next) ∙ all

  pub short_more : is_short (f x) ≡ true → (done ++ f x ∷ []) ++ rest ≡ filter is_short (map f xs)
  short_more e = append_assoc done (f x ∷ []) rest ∙ split true e

  pub short_past : is_short (f x) ≡ false → done ++ rest ≡ filter is_short (map f xs)
  short_past e = split false e

-- an item read in range is in the list
pub read_item : {X : Type 0} (xs : List X) (k : ℕ) (x : X) → k < length xs → x ≡ get_or xs k x → Has xs x
read_item xs k x lt is = has_at xs k x (slice_get-get_or xs k x lt ∙ ap Some (sym is))
