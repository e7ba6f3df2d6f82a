-- The bars of the moves of short hypotheses determine which moves the hypotheses accept.
use Rattle.std.proofs.Common.{◌≡◌, ◌↔◌, ℕ, true, false, List, [], ◌∷◌, refl, ⊎_elim, sym, ap, ◌∙◌}
use Rattle.std.specs.Bool.{IsTrue}
use Rattle.std.proofs.lemmas.Bool.{or_left, or_cases, false≢true}
use Rattle.kat_model.specs.Trees.{Term}
use Rattle.kat_model.specs.Steps.{Atom, out, set_out, set_next}
use Rattle.kat_model.specs.Strings.{set_accepts}
use Rattle.kat_model.proofs.Acceptance.{set_accepts-cons}
use Rattle.kat_model.proofs.Lists.{has_any, any_has}
use Rattle.term_nodes.specs.NodeLists.{NodeParts}
use Rattle.term_nodes.specs.NodeTrees.{tree_at}
use Rattle.test_diagrams.specs.Functions.{DiagramsParts, value_of, IsAtomOf}
use Rattle.partial_derivs.specs.declared.moves.Steps.{Steps}
use Rattle.partial_derivs.specs.Moves.{IsStepsOf, LeadsTo}
use Rattle.walk_regions.specs.declared.bars.Bar.{Bar}
use Rattle.walk_regions.specs.Bars.{IsBarred}
use Rattle.walk_regions.specs.Working.Querying.{AreBarsOf}

-- a set of one term accepts what the term accepts
single_out : (e : Term) (a : Atom) → set_out (e ∷ []) a ≡ true → out e a ≡ true
single_out e a h = ⊎_elim (λ t. t) (λ f. absurd (false≢true f)) (or_cases (out e a) false h)

module _ (store : NodeParts) (d : DiagramsParts) (shorts : List Term) (steps : Steps) (is : IsStepsOf store d shorts steps) (act : ℕ) (bars : List Bar) (are : AreBarsOf store d steps.moves.items act bars) (x y : Atom) (of_x : IsAtomOf d x) (of_y : IsAtomOf d y) where
  pub given_moves : IsTrue (set_accepts shorts x (record { act = act; atom = y } ∷ [])) ↔ IsBarred d bars x y
  given_moves = (there, back)
    where
      there : IsTrue (set_accepts shorts x (record { act = act; atom = y } ∷ [])) → IsBarred d bars x y
      there h =
          let t = has_any (λ e. out e y) (set_next shorts x act) (sym (set_accepts-cons shorts x (record { act = act; atom = y }) []) ∙ h) in
          let l = (is.leads x of_x act t.0).0 t.1 in
          let r = are.there l.through l.member l.action in (
            r.0,
            r.1,
            ap (λ id. value_of d id x) r.2.from ∙ l.guard,
            r.2.to.value y of_y ∙ or_left (out (tree_at store l.through.to) y) false (ap (λ e. out e y) l.tree ∙ t.2),
          )

      back : IsBarred d bars x y → IsTrue (set_accepts shorts x (record { act = act; atom = y } ∷ []))
      back k =
          let m = are.back k.0 k.1 in
          let l : LeadsTo store d steps.moves.items x act (tree_at store m.0.to) =
          record { through = m.0; member = m.1; action = m.2; guard = sym (ap (λ id. value_of d id x) m.3.from) ∙ k.2; tree = refl } in
          let h = (is.leads x of_x act (tree_at store m.0.to)).1 l in
          set_accepts-cons shorts x (record { act = act; atom = y }) []
          ∙ any_has (λ e. out e y) (set_next shorts x act) (tree_at store m.0.to) h (single_out (tree_at store m.0.to) y (sym (m.3.to.value y of_y) ∙ k.3))
