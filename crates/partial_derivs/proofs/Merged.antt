-- Moves from a table have one guard for each target.
use Rattle.std.proofs.Common.{◌≡◌, ℕ, Bool, true, eqb, List, [], ◌∷◌, refl, ap, ◌∙◌, subst}
use Rattle.std.specs.List.{IsDistinct}
use Rattle.std.specs.Map.{keys_of}
use Rattle.std.proofs.lemmas.Bool.{and_parts, and_from, eqb-true, eq-eqb}
use Rattle.kat_model.specs.Members.{Has, HasNoDoubles}
use Rattle.kat_model.proofs.Lists.{has_map, map_has}
use Rattle.kat_model.proofs.Places.{no_doubles}
use Rattle.partial_derivs.specs.declared.moves.Guarded.{Guarded}
use Rattle.partial_derivs.specs.declared.gathered.Target.{Target}
use Rattle.partial_derivs.specs.Moves.{AreMerged}
use Rattle.partial_derivs.specs.Working.Gathered.{move_of, moves_of, same_target}

pub same_target_is : (x y : Target) → same_target x y ≡ true → x ≡ y
same_target_is x y e =
    let p = and_parts (eqb x.act y.act) (eqb x.to y.to) e in
    λ i. record { act = eqb-true x.act y.act p.0 i; to = eqb-true x.to y.to p.1 i }

pub same_target_own : (x : Target) → same_target x x ≡ true
same_target_own x = and_from (eqb x.act x.act) (eqb x.to x.to) (eq-eqb x.act x.act refl) (eq-eqb x.to x.to refl)

no_key : (xs : List (Target × ℕ)) (x : Target × ℕ) → (Has (keys_of xs) x.0 → ⊥) → (n : Guarded) → Has (moves_of xs) n → n.act ≡ x.0.act → n.to ≡ x.0.to → ⊥
no_key xs x none n h act to =
    let r = has_map move_of xs n h in
    let acts : r.0.0.act ≡ x.0.act = ap (λ (k : Guarded). k.act) r.2 ∙ act in
    let tos : r.0.0.to ≡ x.0.to = ap (λ (k : Guarded). k.to) r.2 ∙ to in
    let key : r.0.0 ≡ x.0 = λ i. record { act = acts i; to = tos i } in
    none (subst (Has (keys_of xs)) key (map_has (λ (z : Target × ℕ). z.0) xs r.0 r.1))

merged_from : (xs : List (Target × ℕ)) → HasNoDoubles (keys_of xs) → AreMerged (moves_of xs)
merged_from [] h = tt
merged_from (x ∷ xs) h = (no_key xs x h.0, merged_from xs h.1)

pub moves_merged : (eq : Target → Target → Bool) → ((x : Target) → eq x x ≡ true) → (xs : List (Target × ℕ)) → IsDistinct eq (keys_of xs) → AreMerged (moves_of xs)
moves_merged eq own xs distinct = merged_from xs (no_doubles eq own (keys_of xs) distinct)
