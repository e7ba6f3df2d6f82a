-- The derivative of a term from the derivatives of its parts.
use Rattle.std.specs.Prelude.{◌↔◌}
use Rattle.std.proofs.Common.{◌≡◌, ◌⊎◌, inl, inr, ⊎_elim, ℕ, true, false, ◌&&◌, List, [], ◌∷◌, refl, sym, ap, ◌∙◌, subst}
use Rattle.std.specs.Bool.{IsTrue}
use Rattle.kat_model.specs.Trees.{Term, one, act, product, star}
use Rattle.kat_model.specs.Members.{Has}
use Rattle.kat_model.specs.Problems.{HasTestsBelow}
use Rattle.kat_model.specs.Steps.{Atom, dot, out, next}
use Rattle.kat_model.proofs.Lists.{has_map, map_has, has_next_act, next_act_has, has_next_product, next_product_first, next_product_second}
use Rattle.term_nodes.specs.NodeLists.{NodeParts, IsTerm}
use Rattle.term_nodes.specs.NodeTrees.{tree_at}
use Rattle.test_diagrams.specs.Functions.{DiagramsParts, value_of, IsDiagramId, IsAtomOf, IsDiagramOf, KeepsFunctions}
use Rattle.partial_derivs.specs.declared.moves.Guarded.{Guarded}
use Rattle.partial_derivs.specs.declared.moves.Steps.{Steps}
use Rattle.partial_derivs.specs.Moves.{IsTermOf, AreGuards, AreTargets, AreMerged, LeadsTo, IsDerivativeOf, Keeps}
use Rattle.partial_derivs.specs.Working.Gathered.{AddsUnder, Follows}
use Rattle.partial_derivs.proofs.Kept.{AreTargets-kept, LeadsTo-kept, LeadsTo-was, LeadsTo-more, LeadsTo-less}

-- an action has one move
pub action_moves : (store : NodeParts) (d : DiagramsParts) (a : ℕ) (always to : ℕ) (steps : Steps) → IsDiagramOf d steps.accepts (λ atom. false) → IsDiagramOf d always (λ atom. true) → IsTerm store to → tree_at store to ≡ one
    → steps.moves.items ≡ record { guard = always; act = a; to = to } ∷ [] → IsDerivativeOf store d (act a) steps
action_moves store d a always to steps accepts constant is_id tree moves = record {
  accepts = accepts;
  guards = subst (AreGuards d) (sym moves) (λ m h. ⊎_elim (λ e. subst (λ (k : Guarded). IsDiagramId d k.guard) e constant.in_range) absurd h);
  targets = subst (AreTargets store d.tests) (sym moves) (λ m h. ⊎_elim (λ e. subst (λ (k : Guarded). IsTermOf store d.tests k.to) e own) absurd h);
  leads = λ atom fits b x. subst (λ l. (Has (next (act a) atom b) x) ↔ (LeadsTo store d l atom b x)) (sym moves) (there atom fits b x, back atom b x);
  merged = subst AreMerged (sym moves) ((λ n h. absurd h), tt);
}
  where
    own : IsTermOf store d.tests to
    own = record { is_id = is_id; in_range = subst (HasTestsBelow d.tests) (sym tree) tt }

    there : (atom : Atom) → IsAtomOf d atom → (b : ℕ) (x : Term) → Has (next (act a) atom b) x → LeadsTo store d (record { guard = always; act = a; to = to } ∷ []) atom b x
    there atom fits b x h =
        let same = has_next_act atom b a x h in
        record { through = record { guard = always; act = a; to = to }; member = inl refl; action = sym same.0; guard = constant.value atom fits; tree = tree ∙ same.1 }

    back : (atom : Atom) (b : ℕ) (x : Term) → LeadsTo store d (record { guard = always; act = a; to = to } ∷ []) atom b x → Has (next (act a) atom b) x
    back atom b x r =
        let own_move : record { guard = always; act = a; to = to } ≡ r.through = ⊎_elim (λ e. e) absurd r.member in
        let action : a ≡ b = subst (λ (k : Guarded). k.act ≡ b) (sym own_move) r.action in
        let left : tree_at store to ≡ x = subst (λ (k : Guarded). tree_at store k.to ≡ x) (sym own_move) r.tree in
        subst (Has (next (act a) atom b)) (sym tree ∙ left) (next_act_has atom b a (sym action))

-- a product: the moves of the first term, each followed by the second, and the moves of the second where the first
-- accepts
module _ (s t : NodeParts) (b c d g : DiagramsParts) (e : Term) (tail : ℕ) (first second steps : Steps) (mid : List Guarded) (trees : Keeps s t b c) (under_kept : KeepsFunctions c d) (both_kept : KeepsFunctions d g) (is_first : IsDerivativeOf s b e first) (is_second : IsDerivativeOf s b (tree_at s tail) second) (follows : Follows s t b c mid first.moves.items tail) (under : AddsUnder c d mid steps.moves.items second.moves.items first.accepts) (both : IsDiagramOf g steps.accepts (λ atom. value_of d first.accepts atom && value_of d second.accepts atom)) (merged : AreMerged steps.moves.items) where
  pub product_steps : IsDerivativeOf t g (product e (tree_at s tail)) steps
  product_steps = record {
    accepts = record { in_range = both.in_range; value = λ atom fits. both.value atom fits ∙ (λ k. (first_out atom fits k && second_out atom fits k)) };
    guards = λ m h. both_kept.ids m.guard (under.guards m h);
    targets = subst (λ n. AreTargets t n steps.moves.items) (sym both_kept.tests) (subst (λ n. AreTargets t n steps.moves.items) (sym under_kept.tests) (under.targets t c.tests follows.targets (AreTargets-kept s t b c trees second.moves.items is_second.targets)));
    leads = λ atom fits a x. (there atom fits a x, back atom fits a x);
    merged = merged;
  }
    where
      fits_c : (atom : Atom) → IsAtomOf g atom → IsAtomOf c atom
      fits_c atom fits = fits ∙ both_kept.tests ∙ under_kept.tests

      fits_b : (atom : Atom) → IsAtomOf g atom → IsAtomOf b atom
      fits_b atom fits = fits_c atom fits ∙ trees.functions.tests

      accepts_c : (atom : Atom) → IsAtomOf g atom → value_of c first.accepts atom ≡ out e atom
      accepts_c atom fits = trees.functions.values first.accepts is_first.accepts.in_range atom ∙ is_first.accepts.value atom (fits_b atom fits)

      first_out : (atom : Atom) → IsAtomOf g atom → value_of d first.accepts atom ≡ out e atom
      first_out atom fits = under_kept.values first.accepts (trees.functions.ids first.accepts is_first.accepts.in_range) atom ∙ accepts_c atom fits

      second_out : (atom : Atom) → IsAtomOf g atom → value_of d second.accepts atom ≡ out (tree_at s tail) atom
      second_out atom fits =
          under_kept.values second.accepts (trees.functions.ids second.accepts is_second.accepts.in_range) atom
          ∙ trees.functions.values second.accepts is_second.accepts.in_range atom ∙ is_second.accepts.value atom (fits_b atom fits)

      from_under : (atom : Atom) → IsAtomOf g atom → (a : ℕ) (x : Term) → LeadsTo t c mid atom a x ⊎ (IsTrue (value_of c first.accepts atom) × LeadsTo t c second.moves.items atom a x) → LeadsTo t g steps.moves.items atom a x
      from_under atom fits a x p = LeadsTo-more d g both_kept t steps.moves.items atom a x under.guards ((under.leads t atom (fits ∙ both_kept.tests) a x).1 p)

      there : (atom : Atom) → IsAtomOf g atom → (a : ℕ) (x : Term) → Has (next (product e (tree_at s tail)) atom a) x → LeadsTo t g steps.moves.items atom a x
      there atom fits a x h =
          ⊎_elim
          (λ p. from_under atom fits a x (inl ((follows.leads atom (fits_c atom fits) a x).1 (p.0, (is_first.leads atom (fits_b atom fits) a p.0).0 p.1, p.2))))
          (λ q. from_under atom fits a x (inr (
            accepts_c atom fits ∙ q.0,
            LeadsTo-kept s t b c trees b.tests second.moves.items atom a x is_second.guards is_second.targets ((is_second.leads atom (fits_b atom fits) a x).0 q.1),
          )))
          (has_next_product atom a e (tree_at s tail) x h)

      back : (atom : Atom) → IsAtomOf g atom → (a : ℕ) (x : Term) → LeadsTo t g steps.moves.items atom a x → Has (next (product e (tree_at s tail)) atom a) x
      back atom fits a x r =
          ⊎_elim
          (λ p.
          let q = (follows.leads atom (fits_c atom fits) a x).0 p in
          subst (Has (next (product e (tree_at s tail)) atom a)) q.2 (next_product_first atom a e (tree_at s tail) q.0 ((is_first.leads atom (fits_b atom fits) a q.0).1 q.1)))
          (λ p.
          next_product_second atom a e (tree_at s tail) x (sym (accepts_c atom fits) ∙ p.0)
          ((is_second.leads atom (fits_b atom fits) a x).1 (LeadsTo-was s t b c trees b.tests second.moves.items atom a x is_second.guards is_second.targets p.1)))
          ((under.leads t atom (fits ∙ both_kept.tests) a x).0 (LeadsTo-less d g both_kept t steps.moves.items atom a x under.guards r))

-- a star: the moves of the inner term, each followed by the star
module _ (s t : NodeParts) (b c : DiagramsParts) (e : Term) (own : ℕ) (inner steps : Steps) (kept : Keeps s t b c) (is_inner : IsDerivativeOf s b e inner) (tree : tree_at s own ≡ star e) (follows : Follows s t b c steps.moves.items inner.moves.items own) (accepts : IsDiagramOf c steps.accepts (λ atom. true)) (merged : AreMerged steps.moves.items) where
  pub star_steps : IsDerivativeOf t c (star e) steps
  star_steps = record {
    accepts = accepts;
    guards = follows.guards;
    targets = follows.targets;
    leads = λ atom fits a x. (there atom fits a x, back atom fits a x);
    merged = merged;
  }
    where
      there : (atom : Atom) → IsAtomOf c atom → (a : ℕ) (x : Term) → Has (next (star e) atom a) x → LeadsTo t c steps.moves.items atom a x
      there atom fits a x h =
          let p = has_map (λ y. dot y (star e)) (next e atom a) x h in
          (follows.leads atom fits a x).1 (p.0, (is_inner.leads atom (fits ∙ kept.functions.tests) a p.0).0 p.1, ap (dot p.0) tree ∙ p.2)

      back : (atom : Atom) → IsAtomOf c atom → (a : ℕ) (x : Term) → LeadsTo t c steps.moves.items atom a x → Has (next (star e) atom a) x
      back atom fits a x r =
          let q = (follows.leads atom fits a x).0 r in
          subst (Has (next (star e) atom a)) (ap (dot q.0) (sym tree) ∙ q.2) (map_has (λ y. dot y (star e)) (next e atom a) q.0 ((is_inner.leads atom (fits ∙ kept.functions.tests) a q.0).1 q.1))
