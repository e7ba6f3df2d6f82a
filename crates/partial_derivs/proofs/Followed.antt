-- Moves followed by a term.
use Rattle.std.proofs.Common.{◌≡◌, inl, inr, ⊎_elim, ℕ, ◌<◌, ◌+◌, List, [], ◌∷◌, ◌++◌, length, get_or, take, refl, sym, ap, ◌∙◌, subst}
use Rattle.std.specs.Bool.{IsTrue}
use Rattle.kat_model.specs.Trees.{Term}
use Rattle.kat_model.specs.Problems.{HasTestsBelow}
use Rattle.kat_model.specs.Steps.{Atom, dot}
use Rattle.kat_model.proofs.Lists.{has_right, has_append}
use Rattle.term_nodes.specs.NodeLists.{NodeParts, IsTerm}
use Rattle.term_nodes.specs.NodeTrees.{tree_at}
use Rattle.term_nodes.specs.Growth.{Grows}
use Rattle.test_diagrams.specs.Functions.{DiagramsParts, value_of, IsDiagramId, IsAtomOf, KeepsFunctions}
use Rattle.test_diagrams.proofs.Kept.{KeepsFunctions-itself}
use Rattle.partial_derivs.specs.declared.moves.Guarded.{Guarded}
use Rattle.partial_derivs.specs.Moves.{IsTermOf, AreGuards, AreTargets, LeadsTo, Keeps}
use Rattle.partial_derivs.specs.Working.Gathered.{AddsMove, AddsFollowed, Follows}
use Rattle.partial_derivs.proofs.Items.{has_item, take_item}
use Rattle.kat_model.proofs.Ranges.{HasTestsBelow-dot}
use Rattle.partial_derivs.proofs.Kept.{AreTargets-trees, LeadsTo-kept, LeadsTo-was, LeadsTo-left}

-- the id of the product of two terms in range is the id of a term in range
pub dot_in_range : (s t : NodeParts) (n i j id : ℕ) → IsTermOf s n i → IsTermOf s n j → IsTerm t id → tree_at t id ≡ dot (tree_at s i) (tree_at s j) → IsTermOf t n id
dot_in_range s t n i j id p q is same = record { is_id = is; in_range = subst (HasTestsBelow n) (sym same) (HasTestsBelow-dot n (tree_at s i) (tree_at s j) p.in_range q.in_range) }

-- one move followed by the term
module _ (s t : NodeParts) (c d : DiagramsParts) (old new : List Guarded) (m : Guarded) (tail id : ℕ) (trees : Grows s t) (functions : KeepsFunctions c d) (guards : AreGuards c old) (targets : AreTargets s c.tests old) (to : IsTermOf s c.tests m.to) (tail_there : IsTermOf s c.tests tail) (is : IsTerm t id) (same : tree_at t id ≡ dot (tree_at s m.to) (tree_at s tail)) (adds : AddsMove c d old new (record { guard = m.guard; act = m.act; to = id })) where
  trees_only : Keeps s t c c
  trees_only = record { trees = trees; functions = KeepsFunctions-itself c }

  pub adds_followed : AddsFollowed s t c d old new m tail
  adds_followed = record {
    guards = adds.guards;
    targets = subst (λ n. AreTargets t n new) (sym functions.tests) (adds.targets t c.tests (AreTargets-trees s t trees c.tests old targets) (dot_in_range s t c.tests m.to tail id to tail_there is same));
    leads = λ atom fits a e. (
      (λ r. ⊎_elim (λ p. inl (LeadsTo-was s t c c trees_only c.tests old atom a e guards targets p)) (λ q. inr (q.0, q.1, sym same ∙ q.2)) ((adds.leads t atom fits a e).0 r)),
      (λ h.
          ⊎_elim
          (λ p. (adds.leads t atom fits a e).1 (inl (LeadsTo-kept s t c c trees_only c.tests old atom a e guards targets p)))
          (λ q. (adds.leads t atom fits a e).1 (inr (q.0, q.1, same ∙ q.2)))
          h),
    );
  }

-- moves followed by the term, and then an additional move
module _ (s t u : NodeParts) (b c d : DiagramsParts) (mid new done : List Guarded) (m : Guarded) (tail : ℕ) (first : Keeps s t b c) (second : KeepsFunctions c d) (own_guard : IsDiagramId b m.guard) (to : IsTerm s m.to) (tail_there : IsTerm s tail) (before : Follows s t b c mid done tail) (last : AddsFollowed t u c d mid new m tail) where
  same_dot : dot (tree_at t m.to) (tree_at t tail) ≡ dot (tree_at s m.to) (tree_at s tail)
  same_dot = λ k. dot (first.trees.trees m.to to k) (first.trees.trees tail tail_there k)

  pub more_followed : Follows s u b d new (done ++ m ∷ []) tail
  more_followed = record {
    guards = last.guards;
    targets = last.targets;
    leads = λ atom fits a e. (there atom fits a e, back atom fits a e);
  }
    where
      there : (atom : Atom) → IsAtomOf d atom → (a : ℕ) (e : Term) → LeadsTo u d new atom a e → (x : Term) × LeadsTo s b (done ++ m ∷ []) atom a x × (dot x (tree_at s tail) ≡ e)
      there atom fits a e r =
          ⊎_elim
          (λ p. let q = (before.leads atom (fits ∙ second.tests) a e).0 p in (q.0, LeadsTo-left s b atom a q.0 done (m ∷ []) q.1, q.2))
          (λ q. (
            tree_at s m.to,
            record { through = m; member = has_right done (m ∷ []) m (inl refl); action = q.0; guard = sym (first.functions.values m.guard own_guard atom) ∙ q.1; tree = refl },
            sym same_dot ∙ q.2,
          ))
          ((last.leads atom fits a e).0 r)

      back : (atom : Atom) → IsAtomOf d atom → (a : ℕ) (e : Term) → (x : Term) × LeadsTo s b (done ++ m ∷ []) atom a x × (dot x (tree_at s tail) ≡ e) → LeadsTo u d new atom a e
      back atom fits a e (x, r, q) =
          ⊎_elim
          (λ w. (last.leads atom fits a e).1 (inl ((before.leads atom (fits ∙ second.tests) a e).1 (x, record { through = r.through; member = w; action = r.action; guard = r.guard; tree = r.tree }, q))))
          (λ w.
          let own : m ≡ r.through = ⊎_elim (λ z. z) absurd w in
          let own_act : m.act ≡ a = subst (λ (k : Guarded). k.act ≡ a) (sym own) r.action in
          let own_open : IsTrue (value_of b m.guard atom) = subst (λ (k : Guarded). IsTrue (value_of b k.guard atom)) (sym own) r.guard in
          let own_tree : tree_at s m.to ≡ x = subst (λ (k : Guarded). tree_at s k.to ≡ x) (sym own) r.tree in
          (last.leads atom fits a e).1 (inr (own_act, first.functions.values m.guard own_guard atom ∙ own_open, same_dot ∙ ap (λ z. dot z (tree_at s tail)) own_tree ∙ q)))
          (has_append done (m ∷ []) r.through r.member)

-- the loop step over moves
pub step_followed : (s t u : NodeParts) (b c d : DiagramsParts) (mid new moves : List Guarded) (i : ℕ) (m : Guarded) (tail : ℕ) → i < length moves → m ≡ get_or moves i m → AreGuards b moves → AreTargets s b.tests moves → IsTermOf s b.tests tail
    → Keeps s t b c → Follows s t b c mid (take i moves) tail → AddsFollowed t u c d mid new m tail → KeepsFunctions c d → Follows s u b d new (take (i + 1) moves) tail
step_followed s t u b c d mid new moves i m tail lt is guards targets tail_there first before last second =
    let member = has_item moves i m lt is in
    subst (λ l. Follows s u b d new l tail) (sym (take_item moves i m lt is))
    (more_followed s t u b c d mid new (take i moves) m tail first second (guards m member) (targets m member).is_id tail_there.is_id before last)
