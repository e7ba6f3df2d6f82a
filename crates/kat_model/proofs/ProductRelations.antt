-- A balanced product relates two states exactly when its members relate them in turn.
use Rattle.std.proofs.Common.{◌↔◌, List, [], ◌∷◌, ◌++◌, refl, sym, subst}
use Rattle.kat_model.specs.Trees.{Term, one, product}
use Rattle.kat_model.specs.Relations.{Frame, RelatesIn, RelateInTurn}
use Rattle.kat_model.specs.Balanced.{product_of}
use Rattle.kat_model.proofs.BalancedTrees.{balanced_holds}

module _ {S : Type 0} (frame : Frame S) where
  -- a chain through two lists has a state between them
  pub in_turn_parts : (es fs : List Term) (i j : S) → frame.IsState i → RelateInTurn frame (es ++ fs) i j → (k : S) × frame.IsState k × RelateInTurn frame es i k × RelateInTurn frame fs k j
  in_turn_parts [] fs i j s r = (i, s, refl, r)
  in_turn_parts (e ∷ es) fs i j s r =
      let p = in_turn_parts es fs r.0 j r.1 r.3 in
      (p.0, p.1, (r.0, r.1, r.2, p.2), p.3)

  pub in_turn_append : (es fs : List Term) (i k j : S) → RelateInTurn frame es i k → RelateInTurn frame fs k j → RelateInTurn frame (es ++ fs) i j
  in_turn_append [] fs i k j p q = subst (λ s. RelateInTurn frame fs s j) (sym p) q
  in_turn_append (e ∷ es) fs i k j p q = (p.0, p.1, p.2, in_turn_append es fs p.0 k j p.3 q)

  -- what the term relates, the terms of the list relate in turn
  abbrev IsInTurn : List Term → Term → Type 0
  IsInTurn es e = (i j : S) → frame.IsState i → frame.IsState j → RelatesIn frame e i j ↔ RelateInTurn frame es i j

  pub product_of_relations : (es : List Term) (i j : S) → frame.IsState i → frame.IsState j → RelatesIn frame (product_of es) i j ↔ RelateInTurn frame es i j
  product_of_relations es = balanced_holds one product IsInTurn none single two es
    where
      none : IsInTurn [] one
      none i j si sj = ((λ r. r), (λ r. r))

      single : (e : Term) → IsInTurn (e ∷ []) e
      single e i j si sj = ((λ r. (j, sj, r, refl)), (λ r. subst (λ k. RelatesIn frame e i k) r.3 r.2))

      two : (es fs : List Term) (a b : Term) → IsInTurn es a → IsInTurn fs b → IsInTurn (es ++ fs) (product a b)
      two es fs a b p q i j si sj = (
        (λ r. in_turn_append es fs i r.0 j ((p i r.0 si r.1).0 r.2) ((q r.0 j r.1 sj).0 r.3)),
        (λ r. let m = in_turn_parts es fs i j si r in (m.0, m.1, (p i m.0 si m.1).1 m.2, (q m.0 j m.1 sj).1 m.3)),
      )
