-- Adding moves that apply only where a guard is true.
use Rattle.std.proofs.Common.{◌≡◌, ◌⊎◌, inl, inr, ⊎_elim, ℕ, ◌<◌, ◌+◌, ◌&&◌, List, [], ◌∷◌, ◌++◌, take, length, get_or, refl, sym, ◌∙◌, subst}
use Rattle.std.specs.Bool.{IsTrue}
use Rattle.std.proofs.lemmas.Bool.{and_parts, and_from}
use Rattle.kat_model.specs.Trees.{Term}
use Rattle.kat_model.specs.Steps.{Atom}
use Rattle.kat_model.proofs.Lists.{has_left, has_right, has_append}
use Rattle.term_nodes.specs.NodeLists.{NodeParts}
use Rattle.term_nodes.specs.NodeTrees.{tree_at}
use Rattle.test_diagrams.specs.Functions.{DiagramsParts, value_of, IsDiagramId, IsAtomOf, IsDiagramOf, KeepsFunctions}
use Rattle.partial_derivs.specs.declared.moves.Guarded.{Guarded}
use Rattle.partial_derivs.specs.Moves.{AreGuards, LeadsTo}
use Rattle.partial_derivs.specs.Working.Gathered.{AddsMove, AddsUnder}
use Rattle.partial_derivs.proofs.Items.{has_item, has_take, take_item}
use Rattle.partial_derivs.proofs.Kept.{LeadsTo-more, LeadsTo-less, LeadsTo-left, LeadsTo-right}

-- one move, with the conjunction of its own guard and the given one
module _ (b c d : DiagramsParts) (old new : List Guarded) (m : Guarded) (guard both : ℕ) (first : KeepsFunctions b c) (guards : AreGuards b old) (value : IsDiagramOf c both (λ atom. value_of b m.guard atom && value_of b guard atom)) (adds : AddsMove c d old new (record { guard = both; act = m.act; to = m.to })) (second : KeepsFunctions c d) where
  pub one_under : AddsUnder b d old new (m ∷ []) guard
  one_under = record {
    guards = adds.guards;
    targets = λ store n there own. adds.targets store n there (own m (inl refl));
    leads = λ store atom fits a e. (there store atom fits a e, back store atom fits a e);
  }
    where
      there : (store : NodeParts) (atom : Atom) → IsAtomOf d atom → (a : ℕ) (e : Term) → LeadsTo store d new atom a e → LeadsTo store b old atom a e ⊎ (IsTrue (value_of b guard atom) × LeadsTo store b (m ∷ []) atom a e)
      there store atom fits a e r =
          ⊎_elim
          (λ p. inl (LeadsTo-less b c first store old atom a e guards p))
          (λ q.
          let parts = and_parts (value_of b m.guard atom) (value_of b guard atom) (sym (value.value atom (fits ∙ second.tests)) ∙ q.1) in
          inr (parts.1, record { through = m; member = inl refl; action = q.0; guard = parts.0; tree = q.2 }))
          ((adds.leads store atom fits a e).0 r)

      back : (store : NodeParts) (atom : Atom) → IsAtomOf d atom → (a : ℕ) (e : Term) → LeadsTo store b old atom a e ⊎ (IsTrue (value_of b guard atom) × LeadsTo store b (m ∷ []) atom a e) → LeadsTo store d new atom a e
      back store atom fits a e h =
          ⊎_elim
          (λ p. (adds.leads store atom fits a e).1 (inl (LeadsTo-more b c first store old atom a e guards p)))
          (λ q.
          let own : m ≡ q.1.through = ⊎_elim (λ s. s) absurd q.1.member in
          let open_too : IsTrue (value_of b m.guard atom) = subst (λ (k : Guarded). IsTrue (value_of b k.guard atom)) (sym own) q.1.guard in
          (adds.leads store atom fits a e).1 (inr (
            subst (λ (k : Guarded). k.act ≡ a) (sym own) q.1.action,
            value.value atom (fits ∙ second.tests) ∙ and_from (value_of b m.guard atom) (value_of b guard atom) open_too q.0,
            subst (λ (k : Guarded). tree_at store k.to ≡ e) (sym own) q.1.tree,
          )))
          h

-- several moves, and then an additional one
module _ (b c d : DiagramsParts) (old mid new done : List Guarded) (m : Guarded) (guard : ℕ) (first : KeepsFunctions b c) (done_guards : AreGuards b done) (own_guard : IsDiagramId b m.guard) (guard_id : IsDiagramId b guard) (before : AddsUnder b c old mid done guard) (last : AddsUnder c d mid new (m ∷ []) guard) (second : KeepsFunctions c d) where
  single_guards : AreGuards b (m ∷ [])
  single_guards k h = ⊎_elim (λ e. subst (λ (n : Guarded). IsDiagramId b n.guard) e own_guard) absurd h

  pub more_under : AddsUnder b d old new (done ++ m ∷ []) guard
  more_under = record {
    guards = last.guards;
    targets = λ store n there own. last.targets store n (before.targets store n there (λ k h. own k (has_left done (m ∷ []) k h))) (λ k h. own k (has_right done (m ∷ []) k h));
    leads = λ store atom fits a e. (there store atom fits a e, back store atom fits a e);
  }
    where
      there : (store : NodeParts) (atom : Atom) → IsAtomOf d atom → (a : ℕ) (e : Term) → LeadsTo store d new atom a e → LeadsTo store b old atom a e ⊎ (IsTrue (value_of b guard atom) × LeadsTo store b (done ++ m ∷ []) atom a e)
      there store atom fits a e r =
          ⊎_elim
          (λ p.
          ⊎_elim
          inl
          (λ q. inr (q.0, LeadsTo-left store b atom a e done (m ∷ []) q.1))
          ((before.leads store atom (fits ∙ second.tests) a e).0 p))
          (λ q. inr (sym (first.values guard guard_id atom) ∙ q.0, LeadsTo-right store b atom a e done (m ∷ []) (LeadsTo-less b c first store (m ∷ []) atom a e single_guards q.1)))
          ((last.leads store atom fits a e).0 r)

      back : (store : NodeParts) (atom : Atom) → IsAtomOf d atom → (a : ℕ) (e : Term) → LeadsTo store b old atom a e ⊎ (IsTrue (value_of b guard atom) × LeadsTo store b (done ++ m ∷ []) atom a e) → LeadsTo store d new atom a e
      back store atom fits a e h =
          let by_before = λ (p : LeadsTo store b old atom a e ⊎ (IsTrue (value_of b guard atom) × LeadsTo store b done atom a e)). (last.leads store atom fits a e).1 (inl ((before.leads store atom (fits ∙ second.tests) a e).1 p)) in
          ⊎_elim
          (λ p. by_before (inl p))
          (λ q.
          ⊎_elim
          (λ w. by_before (inr (q.0, record { through = q.1.through; member = w; action = q.1.action; guard = q.1.guard; tree = q.1.tree })))
          (λ w.
          let own : LeadsTo store b (m ∷ []) atom a e = record { through = q.1.through; member = w; action = q.1.action; guard = q.1.guard; tree = q.1.tree } in
          (last.leads store atom fits a e).1 (inr (first.values guard guard_id atom ∙ q.0, LeadsTo-more b c first store (m ∷ []) atom a e single_guards own)))
          (has_append done (m ∷ []) q.1.through q.1.member))
          h

-- the loop step over moves
pub step_under : (b c d : DiagramsParts) (old mid new moves : List Guarded) (i : ℕ) (m : Guarded) (guard : ℕ) → i < length moves → m ≡ get_or moves i m → AreGuards b moves → IsDiagramId b guard
    → KeepsFunctions b c → AddsUnder b c old mid (take i moves) guard → AddsUnder c d mid new (m ∷ []) guard → KeepsFunctions c d → AddsUnder b d old new (take (i + 1) moves) guard
step_under b c d old mid new moves i m guard lt is guards id first before last second =
    subst (λ l. AddsUnder b d old new l guard) (sym (take_item moves i m lt is))
    (more_under b c d old mid new (take i moves) m guard first (λ k h. guards k (has_take moves i k h)) (guards m (has_item moves i m lt is)) id before last second)
