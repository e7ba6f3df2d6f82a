-- The targets of the moves of a set by an action form its next set.
use Rattle.std.proofs.Common.{◌≡◌, ℕ, inl, inr, ⊎_elim, List, [], ◌∷◌, Bool, true, false, ◌&&◌, cond, nat_eq, refl, sym, ap, ◌∙◌, subst}
use Rattle.std.proofs.lemmas.Bool.{false≢true, eqb-true, eq-eqb}
use Rattle.kat_model.specs.Trees.{Term}
use Rattle.kat_model.specs.Members.{Has, SameMembers}
use Rattle.kat_model.specs.Steps.{Atom, set_next}
use Rattle.kat_model.proofs.Lists.{has_map, map_has}
use Rattle.term_nodes.specs.NodeLists.{NodeParts}
use Rattle.term_nodes.specs.NodeTrees.{tree_at}
use Rattle.term_nodes.specs.NumberSets.{terms_of}
use Rattle.test_diagrams.specs.Functions.{DiagramsParts, value_of, IsAtomOf}
use Rattle.partial_derivs.specs.declared.moves.Guarded.{Guarded}
use Rattle.partial_derivs.specs.declared.moves.Steps.{Steps}
use Rattle.partial_derivs.specs.Moves.{IsTermOf, AreTargets, LeadsTo, IsStepsOf}
use Rattle.walk_pairs.specs.Items.{led, led_to}

-- moves lead exactly to the terms of their targets
module _ (store : NodeParts) (d : DiagramsParts) (act : ℕ) (atom : Atom) where
  led_leads : (moves : List Guarded) (t : ℕ) → Has (led d moves act atom) t → LeadsTo store d moves atom act (tree_at store t)
  led_leads [] t h = absurd h
  led_leads (m ∷ ms) t h = go (λ r. later (led_leads ms t r)) (nat_eq m.act act) refl (value_of d m.guard atom) refl h
    where
      later : LeadsTo store d ms atom act (tree_at store t) → LeadsTo store d (m ∷ ms) atom act (tree_at store t)
      later r = record { through = r.through; member = inr r.member; action = r.action; guard = r.guard; tree = r.tree }

      go : (Has (led d ms act atom) t → LeadsTo store d (m ∷ ms) atom act (tree_at store t)) → (a : Bool) → nat_eq m.act act ≡ a → (b : Bool) → value_of d m.guard atom ≡ b
          → Has (cond (a && b) (m.to ∷ led d ms act atom) (led d ms act atom)) t → LeadsTo store d (m ∷ ms) atom act (tree_at store t)
      go rest true e true v k = ⊎_elim (λ s. record { through = m; member = inl refl; action = eqb-true m.act act e; guard = v; tree = ap (tree_at store) s }) rest k
      go rest true e false v k = rest k
      go rest false e b v k = rest k

  led_has : (moves : List Guarded) (m : Guarded) → Has moves m → m.act ≡ act → value_of d m.guard atom ≡ true → Has (led d moves act atom) m.to
  led_has [] m h a v = absurd h
  led_has (n ∷ ms) m h a v = go (λ r. led_has ms m r a v) (nat_eq n.act act) refl (value_of d n.guard atom) refl h
    where
      go : (Has ms m → Has (led d ms act atom) m.to) → (x : Bool) → nat_eq n.act act ≡ x → (y : Bool) → value_of d n.guard atom ≡ y
          → Has (n ∷ ms) m → Has (cond (x && y) (n.to ∷ led d ms act atom) (led d ms act atom)) m.to
      go rest true e true f k = ⊎_elim (λ s. inl (ap (λ (z : Guarded). z.to) s)) (λ r. inr (rest r)) k
      go rest true e false f k = ⊎_elim (λ s. absurd (false≢true (sym f ∙ subst (λ (z : Guarded). value_of d z.guard atom ≡ true) (sym s) v))) rest k
      go rest false e y f k = ⊎_elim (λ s. absurd (false≢true (sym e ∙ eq-eqb n.act act (ap (λ (z : Guarded). z.act) s ∙ a)))) rest k

  -- so ids with the same members as these targets denote the next set
  pub next_of_ids : (es : List Term) (steps : Steps) (ids : List ℕ) → IsStepsOf store d es steps → IsAtomOf d atom → SameMembers ids (led d steps.moves.items act atom) → SameMembers (set_next es atom act) (terms_of store ids)
  next_of_ids es steps ids is fits same x = (
    (λ h.
        let r = (is.leads atom fits act x).0 h in
        subst (Has (terms_of store ids)) r.tree (map_has (tree_at store) ids r.through.to ((same r.through.to).1 (led_has steps.moves.items r.through r.member r.action r.guard)))),
    (λ h.
        let f = has_map (tree_at store) ids x h in
        (is.leads atom fits act x).1 (subst (LeadsTo store d steps.moves.items atom act) f.2 (led_leads steps.moves.items f.0 ((same f.0).0 f.1)))),
  )

pub target_term : (store : NodeParts) (n : ℕ) (moves : List Guarded) → AreTargets store n moves → (t : ℕ) → Has (led_to moves) t → IsTermOf store n t
target_term store n moves are t h = let f = has_map (λ (m : Guarded). m.to) moves t h in subst (IsTermOf store n) f.2 (are f.0 f.1)
