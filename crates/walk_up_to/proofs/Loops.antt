-- Loops that append what each item gives.
use Rattle.std.proofs.Common.{◌≡◌, ◌≤◌, ◌<◌, ◌+◌, ℕ, List, [], ◌∷◌, ◌++◌, length, drop, get_or, append_assoc, append-nil, sym, ap, ◌∙◌}
use Rattle.std.proofs.lemmas.List.{drop_more, drop_all}

module _ {X Y : Type 0} (F : List X → List Y) (xs : List X) (i : ℕ) (before all : List Y) (so_far : before ++ F (drop i xs) ≡ all) where
  module _ (x : X) (low : i < length xs) (is : x ≡ get_or xs i x) where
    cut : drop i xs ≡ x ∷ drop (i + 1) xs
    cut = drop_more xs i x low ∙ ap (λ y. y ∷ drop (i + 1) xs) (sym is)

    pub given_next : (after : List Y) (y : Y) → F (x ∷ drop (i + 1) xs) ≡ y ∷ F (drop (i + 1) xs) → after ≡ before ++ y ∷ [] → after ++ F (drop (i + 1) xs) ≡ all
    given_next after y gives pushed =
        ap (λ l. l ++ F (drop (i + 1) xs)) pushed ∙ append_assoc before (y ∷ []) (F (drop (i + 1) xs)) ∙ ap (λ l. before ++ l) (sym gives) ∙ ap (λ l. before ++ F l) (sym cut) ∙ so_far

    pub passed_next : (after : List Y) → F (x ∷ drop (i + 1) xs) ≡ F (drop (i + 1) xs) → after ≡ before → after ++ F (drop (i + 1) xs) ≡ all
    passed_next after gives same =
        ap (λ l. l ++ F (drop (i + 1) xs)) same ∙ ap (λ l. before ++ l) (sym gives) ∙ ap (λ l. before ++ F l) (sym cut) ∙ so_far

  pub all_given : F [] ≡ [] → length xs ≤ i → before ≡ all
  all_given none past = sym (append-nil before) ∙ ap (λ l. before ++ l) (sym none) ∙ ap (λ l. before ++ F l) (sym (drop_all i xs past)) ∙ so_far
