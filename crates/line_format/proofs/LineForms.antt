-- A line as its first word, followed by the others, each after a blank; and the text of lines.
use Rattle.std.proofs.Common.{◌≡◌, ℕ, List, [], ◌∷◌, ◌++◌, map, refl, sym, ap, ◌∙◌, append-nil, codes}
use Rattle.std.proofs.lemmas.Grind.{flat_map-append}
use Rattle.std.specs.List.{flat_map}
use Rattle.line_format.specs.Lines.{line_of, after_blanks, with_feed, text_of_lines}

-- a line is its first word, followed by the others, each after a blank
pub line_of-cons : (w : List ℕ) (ws : List (List ℕ)) → line_of (w ∷ ws) ≡ w ++ after_blanks ws
line_of-cons w [] = sym (append-nil w)
line_of-cons w (v ∷ ws) = ap (λ l. w ++ 32 ∷ l) (line_of-cons v ws)

pub flat_map-map : {X Y Z : Type 0} (f : X → Y) (g : Y → List Z) (xs : List X) → flat_map g (map f xs) ≡ flat_map (λ x. g (f x)) xs
flat_map-map f g [] = refl
flat_map-map f g (x ∷ xs) = ap (λ l. g (f x) ++ l) (flat_map-map f g xs)

-- the text of lines and the line `end`
pub lines_then_end : {L : Type 0} (spell : L → List ℕ) (ls : List L) → text_of_lines (map spell ls ++ codes "end" ∷ []) ≡ flat_map (λ l. with_feed (spell l)) ls ++ with_feed (codes "end")
lines_then_end spell ls = flat_map-append with_feed (map spell ls) (codes "end" ∷ []) ∙ ap (λ l. l ++ with_feed (codes "end")) (flat_map-map spell with_feed ls)
