-- The strings of one move that a term accepts, by its form.
use Rattle.std.proofs.Common.{◌≡◌, ℕ, ⊎_elim, List, [], ◌∷◌, ◌++◌, eqb, Bool, true, ◌&&◌, ◌||◌, refl, sym, ap, ◌∙◌, subst}
use Rattle.std.specs.Bool.{IsTrue}
use Rattle.std.specs.Cmp.{both_ways}
use Rattle.std.proofs.lemmas.Bool.{eqb-true, eq-eqb, or_cases, or_left, or_right, and_parts, and_from}
use Rattle.kat_model.specs.Trees.{Term, act, product, star}
use Rattle.kat_model.specs.Steps.{Atom, dot, out, next}
use Rattle.kat_model.specs.Strings.{Move, last_atom, accepts}
use Rattle.kat_model.proofs.Lists.{has_map}
use Rattle.kat_model.proofs.Acceptance.{accepts_act, act_accepts, accepts_step, step_accepts, accepts-dot}
use Rattle.kat_model.proofs.Cuts.{accepts_product, product_accepts, star_accepts_piece}

pub accepts_move-act : (a : ℕ) (atom : Atom) (m : Move) → accepts (act a) atom (m ∷ []) ≡ eqb a m.act
accepts_move-act a atom m = both_ways _ _ there back
  where
    there : IsTrue (accepts (act a) atom (m ∷ [])) → IsTrue (eqb a m.act)
    there h =
        let r = accepts_act a atom (m ∷ []) h in
        let whole = r.1 in
        let same : m ≡ record { act = a; atom = r.0 } = cc in
        eq-eqb a m.act (sym (ap (λ (x : Move). x.act) same))

    back : IsTrue (eqb a m.act) → IsTrue (accepts (act a) atom (m ∷ []))
    back h = subst (λ k. IsTrue (accepts (act a) atom (record { act = k; atom = m.atom } ∷ []))) (eqb-true a m.act h) (act_accepts a atom m.atom)

module _ (e f : Term) (atom : Atom) (m : Move) where
  -- the first term accepts the move, or the second does
  abbrev either_part : Bool
  either_part = (accepts e atom (m ∷ []) && out f m.atom) || (out e atom && accepts f atom (m ∷ []))

  of_cut : (before after : List Move) → m ∷ [] ≡ before ++ after → IsTrue (accepts e atom before) → IsTrue (accepts f (last_atom atom before) after) → IsTrue either_part
  of_cut [] after whole first second =
      or_right (accepts e atom (m ∷ []) && out f m.atom) (out e atom && accepts f atom (m ∷ []))
      (and_from (out e atom) (accepts f atom (m ∷ [])) first (subst (λ l. IsTrue (accepts f atom l)) (sym whole) second))
  of_cut (n ∷ []) after whole first second =
      let same : n ≡ m = cc in
      let none : after ≡ [] = cc in
      or_left (accepts e atom (m ∷ []) && out f m.atom) (out e atom && accepts f atom (m ∷ []))
      (and_from (accepts e atom (m ∷ [])) (out f m.atom)
      (subst (λ (k : Move). IsTrue (accepts e atom (k ∷ []))) same first)
      (subst (λ (k : Move). IsTrue (accepts f k.atom [])) same (subst (λ l. IsTrue (accepts f n.atom l)) none second)))
  of_cut (n ∷ k ∷ ms) after whole first second = absurd cc

  pub accepts_move-product : accepts (product e f) atom (m ∷ []) ≡ either_part
  accepts_move-product = both_ways _ _ there back
    where
      there : IsTrue (accepts (product e f) atom (m ∷ [])) → IsTrue either_part
      there h = let c = accepts_product e f atom (m ∷ []) h in of_cut c.before c.after c.whole c.first c.second

      back : IsTrue either_part → IsTrue (accepts (product e f) atom (m ∷ []))
      back h =
          ⊎_elim
          (λ l. let p = and_parts (accepts e atom (m ∷ [])) (out f m.atom) l in product_accepts e f atom (m ∷ []) [] p.0 p.1)
          (λ r. let p = and_parts (out e atom) (accepts f atom (m ∷ [])) r in product_accepts e f atom [] (m ∷ []) p.0 p.1)
          (or_cases (accepts e atom (m ∷ []) && out f m.atom) (out e atom && accepts f atom (m ∷ [])) h)

pub accepts_move-star : (e : Term) (atom : Atom) (m : Move) → accepts (star e) atom (m ∷ []) ≡ accepts e atom (m ∷ [])
accepts_move-star e atom m = both_ways _ _ there back
  where
    there : IsTrue (accepts (star e) atom (m ∷ [])) → IsTrue (accepts e atom (m ∷ []))
    there h =
        let x = accepts_step (star e) atom m [] h in
        let y = has_map (λ z. dot z (star e)) (next e atom m.act) x.0 x.1 in
        let ends : IsTrue (out (dot y.0 (star e)) m.atom) = subst (λ z. IsTrue (out z m.atom)) (sym y.2) x.2 in
        step_accepts e atom m [] y.0 y.1 (and_parts (out y.0 m.atom) true (sym (accepts-dot y.0 (star e) m.atom []) ∙ ends)).0

    back : IsTrue (accepts e atom (m ∷ [])) → IsTrue (accepts (star e) atom (m ∷ []))
    back h = star_accepts_piece e atom (m ∷ []) [] h refl
