-- Lists to which a loop adds a member, or some, for each member that it visits, or for those that pass a test.
use Rattle.std.proofs.Common.{◌≡◌, ◌<◌, ℕ, ◌+◌, Bool, true, false, List, [], ◌∷◌, ◌++◌, length, map, filter, flat_map, take, get_or, cond, refl, sym, ap, ◌∙◌, append_assoc}
use Rattle.std.proofs.lemmas.List.{map-append, map_more, take_more}
use Rattle.std.proofs.lemmas.List.Elements.{filter_more}
use Rattle.std.proofs.lemmas.Grind.{flat_map-append}

pub map_twice : {X Y Z : Type 0} (f : Y → Z) (g : X → Y) (xs : List X) → map f (map g xs) ≡ map (λ x. f (g x)) xs
map_twice f g [] = refl
map_twice f g (x ∷ xs) = ap (λ ys. f (g x) ∷ ys) (map_twice f g xs)

pub filter_map_of : {X Y : Type 0} (p : Y → Bool) (g : X → Y) (xs : List X) → filter p (map g xs) ≡ map g (filter (λ x. p (g x)) xs)
filter_map_of p g [] = refl
filter_map_of p g (x ∷ xs) = by_test (p (g x)) (filter_map_of p g xs)
  where
    by_test : (b : Bool) → filter p (map g xs) ≡ map g (filter (λ z. p (g z)) xs) → cond b (g x ∷ filter p (map g xs)) (filter p (map g xs)) ≡ map g (cond b (x ∷ filter (λ z. p (g z)) xs) (filter (λ z. p (g z)) xs))
    by_test true e = ap (λ ys. g x ∷ ys) e
    by_test false e = e

-- what is added to a list that has some members of its own
pub then_one : {X : Type 0} (start old new more all : List X) (x : X) → old ≡ start ++ more → new ≡ old ++ x ∷ [] → all ≡ more ++ x ∷ [] → new ≡ start ++ all
then_one start old new more all x made added is =
    added ∙ ap (λ xs. xs ++ x ∷ []) made ∙ append_assoc start more (x ∷ []) ∙ ap (λ xs. start ++ xs) (sym is)

module _ {X Y Z : Type 0} (g : Y → Z) (f : X → Z) (start : List Z) (xs : List X) (i : ℕ) (d : X) (old new : List Y) (y : Y) (lt : i < length xs) (added : new ≡ old ++ y ∷ []) (is : g y ≡ f (get_or xs i d)) where
  view_added : map g new ≡ map g old ++ f (get_or xs i d) ∷ []
  view_added = ap (map g) added ∙ map-append g old (y ∷ []) ∙ ap (λ z. map g old ++ z ∷ []) is

  pub mapped_push : map g old ≡ start ++ map f (take i xs) → map g new ≡ start ++ map f (take (i + 1) xs)
  mapped_push made = then_one start (map g old) (map g new) (map f (take i xs)) (map f (take (i + 1) xs)) (f (get_or xs i d)) made view_added (map_more f xs i d lt)

  pub filtered_push : (p : X → Bool) → p (get_or xs i d) ≡ true → map g old ≡ start ++ map f (filter p (take i xs)) → map g new ≡ start ++ map f (filter p (take (i + 1) xs))
  filtered_push p passes made =
      then_one start (map g old) (map g new) (map f (filter p (take i xs))) (map f (filter p (take (i + 1) xs))) (f (get_or xs i d)) made view_added
      (ap (map f) (filter_more p xs i d lt ∙ ap (λ b. filter p (take i xs) ++ cond b (get_or xs i d ∷ []) []) passes) ∙ map-append f (filter p (take i xs)) (get_or xs i d ∷ []))

pub filtered_skip : {X Z : Type 0} (f : X → Z) (start now : List Z) (xs : List X) (i : ℕ) (d : X) (p : X → Bool) → i < length xs → p (get_or xs i d) ≡ false → now ≡ start ++ map f (filter p (take i xs)) → now ≡ start ++ map f (filter p (take (i + 1) xs))
filtered_skip f start now xs i d p lt fails made =
    made ∙ ap (λ ys. start ++ map f ys) (sym (filter_more p xs i d lt ∙ ap (λ b. filter p (take i xs) ++ cond b (get_or xs i d ∷ []) []) fails ∙ none_after (filter p (take i xs))))
  where
    none_after : {X : Type 0} (ys : List X) → ys ++ [] ≡ ys
    none_after [] = refl
    none_after (y ∷ ys) = ap (λ zs. y ∷ zs) (none_after ys)

pub flat_push : {X Z : Type 0} (f : X → List Z) (start old new : List Z) (more : List Z) (xs : List X) (i : ℕ) (d : X) → i < length xs → old ≡ start ++ flat_map f (take i xs) → new ≡ old ++ more → more ≡ f (get_or xs i d) → new ≡ start ++ flat_map f (take (i + 1) xs)
flat_push f start old new more xs i d lt made added is =
    added
    ∙ ap (λ ys. ys ++ more) made
    ∙ append_assoc start (flat_map f (take i xs)) more
    ∙ ap (λ ys. start ++ ys) (ap (λ ys. flat_map f (take i xs) ++ ys) (is ∙ one_alone (f (get_or xs i d))) ∙ sym (ap (flat_map f) (take_more xs i d lt) ∙ flat_map-append f (take i xs) (get_or xs i d ∷ [])))
  where
    one_alone : {Z : Type 0} (ys : List Z) → ys ≡ ys ++ []
    one_alone [] = refl
    one_alone (y ∷ ys) = ap (λ zs. y ∷ zs) (one_alone ys)

-- a list that is made in four parts
pub four_parts : {X : Type 0} (a b c d : List X) (x : X) (p q r : List X) → a ≡ x ∷ [] → b ≡ a ++ p → c ≡ b ++ q → d ≡ c ++ r → d ≡ x ∷ ((p ++ q) ++ r)
four_parts a b c d x p q r e f g h = h ∙ ap (λ l. l ++ r) (g ∙ ap (λ l. l ++ q) (f ∙ ap (λ l. l ++ p) e))
