-- Views of the members that a loop appends are those of the members that it visits.
use Rattle.std.proofs.Common.{◌≡◌, ◌<◌, ℕ, ◌+◌, List, [], ◌∷◌, ◌++◌, length, map, take, get_or, sym, ap, ◌∙◌}
use Rattle.std.proofs.lemmas.List.{map_more}
use Rattle.flow_ways.proofs.CourseLists.{map_pushed}

-- members of a list by their places
pub mapped_next : {X Y Z : Type 0} (f : X → Z) (g : Y → Z) (xs : List X) (i : ℕ) (d : X) (before after : List Y) (y : Y) → i < length xs → map g before ≡ map f (take i xs) → after ≡ before ++ y ∷ [] → g y ≡ f (get_or xs i d) → map g after ≡ map f (take (i + 1) xs)
mapped_next f g xs i d before after y lt made added is =
    ap (map g) added ∙ map_pushed g before y ∙ ap (λ zs. zs ++ g y ∷ []) made ∙ ap (λ z. map f (take i xs) ++ z ∷ []) is ∙ sym (map_more f xs i d lt)
