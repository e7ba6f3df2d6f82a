-- What a loop makes of the first members of a list, with another member.
use Rattle.std.proofs.Common.{◌≡◌, ◌<◌, ℕ, ◌+◌, List, [], ◌∷◌, ◌++◌, length, map, take, get_or, sym, ap, ◌∙◌}
use Rattle.std.proofs.lemmas.List.{map_more}

pub mapped_more : {X Y : Type 0} (f : X → Y) (xs : List X) (i : ℕ) (d : X) (before after : List Y) → i < length xs → before ≡ map f (take i xs) → after ≡ before ++ f (get_or xs i d) ∷ [] → after ≡ map f (take (i + 1) xs)
mapped_more f xs i d before after lt made added = added ∙ ap (λ ys. ys ++ f (get_or xs i d) ∷ []) made ∙ sym (map_more f xs i d lt)
