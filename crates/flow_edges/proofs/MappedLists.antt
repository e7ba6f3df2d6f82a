-- Views of the members that a loop appends are those of the members that it visits.
use Rattle.std.proofs.Common.{◌≡◌, ◌<◌, ℕ, ◌+◌, List, [], ◌∷◌, ◌++◌, length, map, flat_map, take, get_or, sym, ap, ◌∙◌}
use Rattle.std.proofs.lemmas.List.{map_more, take_more}
use Rattle.flow_ways.proofs.CourseLists.{map_pushed}
use Rattle.flow_edges.proofs.SplitLists.{split_more}

-- members of a list by their places
pub mapped_next : {X Y Z : Type 0} (f : X → Z) (g : Y → Z) (xs : List X) (i : ℕ) (d : X) (before after : List Y) (y : Y) → i < length xs → map g before ≡ map f (take i xs) → after ≡ before ++ y ∷ [] → g y ≡ f (get_or xs i d) → map g after ≡ map f (take (i + 1) xs)
mapped_next f g xs i d before after y lt made added is =
    ap (map g) added ∙ map_pushed g before y ∙ ap (λ zs. zs ++ g y ∷ []) made ∙ ap (λ z. map f (take i xs) ++ z ∷ []) is ∙ sym (map_more f xs i d lt)

-- the same where what is appended is computed from what a member is seen as
pub mapped_more : {W X Y Z : Type 0} (f : W → Z) (v : X → W) (g : Y → Z) (xs : List X) (i : ℕ) (d : X) (before after : List Y) (y : Y) → i < length xs → map g before ≡ map f (map v (take i xs)) → after ≡ before ++ y ∷ [] → g y ≡ f (v (get_or xs i d)) → map g after ≡ map f (map v (take (i + 1) xs))
mapped_more f v g xs i d before after y lt made added is =
    ap (map g) added ∙ map_pushed g before y ∙ ap (λ zs. zs ++ g y ∷ []) made ∙ ap (λ z. map f (map v (take i xs)) ++ z ∷ []) is
    ∙ sym (ap (map f) (map_more v xs i d lt) ∙ map_pushed f (map v (take i xs)) (v (get_or xs i d)))

-- members in the order in which an iterator gives them
pub mapped_given : {W X Y Z : Type 0} (f : W → Z) (v : X → W) (g : Y → Z) (xs : List X) (x : X) (before after : List Y) (y : Y) → map g before ≡ map f (map v xs) → after ≡ before ++ y ∷ [] → g y ≡ f (v x) → map g after ≡ map f (map v (xs ++ x ∷ []))
mapped_given f v g xs x before after y made added is =
    ap (map g) added ∙ map_pushed g before y ∙ ap (λ zs. zs ++ g y ∷ []) made ∙ ap (λ z. map f (map v xs) ++ z ∷ []) is
    ∙ sym (ap (map f) (map_pushed v xs x) ∙ map_pushed f (map v xs) (v x))

-- lists of what members give, one after the other
pub listed_more : {W X Z : Type 0} (f : W → List Z) (v : X → W) (xs : List X) (i : ℕ) (d : X) (before after : List Z) → i < length xs → before ≡ flat_map f (map v (take i xs)) → after ≡ before ++ f (v (get_or xs i d)) → after ≡ flat_map f (map v (take (i + 1) xs))
listed_more f v xs i d before after lt made added =
    split_more f v (take i xs) (get_or xs i d) before after added made ∙ ap (λ ys. flat_map f (map v ys)) (sym (take_more xs i d lt))
