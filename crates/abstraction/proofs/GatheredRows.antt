-- What a loop gathers from the rows so far, and from one more.
use Rattle.std.proofs.Common.{◌≡◌, ℕ, ◌+◌, ◌<◌, ◌≤◌, List, [], ◌∷◌, ◌++◌, length, take, get_or, sym, ap, ◌∙◌}
use Rattle.std.specs.List.{flat_map}
use Rattle.std.proofs.lemmas.List.{append-nil, take_all, take_more, flat_map_more}

pub gathered_none : {X Y : Type 0} (f : X → List Y) (xs : List X) (old : List Y) → old ≡ old ++ flat_map f (take 0 xs)
gathered_none f xs old = sym (append-nil old)

pub gathered_all : {X Y : Type 0} (f : X → List Y) (xs : List X) (i : ℕ) → length xs ≤ i → (old now : List Y) → now ≡ old ++ flat_map f (take i xs) → now ≡ old ++ flat_map f xs
gathered_all f xs i le old now e = e ∙ ap (λ l. old ++ flat_map f l) (take_all i xs le)

pub taken_more : {X : Type 0} (xs : List X) (i : ℕ) (x : X) → i < length xs → x ≡ get_or xs i x → take i xs ++ x ∷ [] ≡ take (i + 1) xs
taken_more xs i x lt at = ap (λ y. take i xs ++ y ∷ []) at ∙ sym (take_more xs i x lt)

pub gathered_more : {X Y : Type 0} (f : X → List Y) (xs : List X) (i : ℕ) (x : X) → i < length xs → x ≡ get_or xs i x → (old now new : List Y) →
    new ≡ now ++ f x → now ≡ old ++ flat_map f (take i xs) → new ≡ old ++ flat_map f (take (i + 1) xs)
gathered_more f xs i x lt at old now new more before =
    more ∙ ap (λ l. l ++ f x) before ∙ flat_map_more f old (take i xs) x
    ∙ ap (λ l. old ++ flat_map f l) (taken_more xs i x lt at)
