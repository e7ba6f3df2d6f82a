-- Loops that take each element of a list and append its row: the rows so far and those of the remaining elements.
use Rattle.std.proofs.Common.{◌≡◌, List, [], ◌∷◌, ◌++◌, length, map, sym, ap, ◌∙◌}
use Rattle.std.proofs.lemmas.List.{append-nil, append_assoc, nil_from_length}

module _ {X Y : Type 0} (row : X → Y) (done : List Y) (rest : List X) (whole : List Y) (invariant : done ++ map row rest ≡ whole) where
  -- one step: the first remaining element gives a row
  pub moved : (new : List Y) (next : List X) (x : X) (y : Y) → new ≡ done ++ y ∷ [] → y ≡ row x → rest ≡ x ∷ next → new ++ map row next ≡ whole
  moved new next x y appended is step =
      ap (λ l. l ++ map row next) appended ∙ append_assoc done (y ∷ []) (map row next) ∙ ap (λ z. done ++ z ∷ map row next) is
      ∙ ap (λ l. done ++ map row l) (sym step) ∙ invariant

  -- nothing remains
  pub moved_all : length rest ≡ 0 → done ≡ whole
  moved_all none = sym (append-nil done) ∙ ap (λ l. done ++ map row l) (sym (nil_from_length rest none)) ∙ invariant
