-- Adding a move to moves that have one guard for each target.
use Rattle.std.proofs.Common.{◌≡◌, ◌⊎◌, inl, inr, ⊎_elim, ℕ, Bool, true, false, ◌||◌, Option, Some, None, List, refl, sym, ap, ◌∙◌, subst}
use Rattle.std.specs.Bool.{IsTrue}
use Rattle.std.specs.Map.{lookup}
use Rattle.std.proofs.lemmas.Bool.{false≢true, or_cases, or_left, or_right}
use Rattle.indexmap.specs.IndexMap.{insert_entry}
use Rattle.kat_model.specs.Trees.{Term}
use Rattle.kat_model.specs.Members.{Has}
use Rattle.kat_model.specs.Steps.{Atom}
use Rattle.kat_model.proofs.Lists.{has_map, map_has}
use Rattle.term_nodes.specs.NodeLists.{NodeParts}
use Rattle.term_nodes.specs.NodeTrees.{tree_at}
use Rattle.test_diagrams.specs.Functions.{DiagramsParts, value_of, IsDiagramId, IsAtomOf, IsDiagramOf, KeepsFunctions}
use Rattle.partial_derivs.specs.declared.moves.Guarded.{Guarded}
use Rattle.partial_derivs.specs.declared.gathered.Target.{Target}
use Rattle.partial_derivs.specs.Moves.{IsTermOf, AreGuards, AreTargets, LeadsTo}
use Rattle.partial_derivs.specs.Working.Gathered.{move_of, moves_of, guard_at, AddsMove}
use Rattle.partial_derivs.proofs.Entries.{insert_entry_has, has_insert_entry, has_kept, lookup_has}

-- a lookup of a target returns the guard of a move
pub found_guard : (c : DiagramsParts) (eq : Target → Target → Bool) → ((x y : Target) → eq x y ≡ true → x ≡ y) → (entries : List (Target × ℕ)) (target : Target) (id : ℕ) → AreGuards c (moves_of entries) → lookup (eq target) entries ≡ Some id → IsDiagramId c id
found_guard c eq same entries target id guards e = guards (move_of (target, id)) (map_has move_of entries (target, id) (lookup_has eq same target entries id e))

-- a guard that is true exists
guard_there : (c : DiagramsParts) (atom : Atom) (found : Option ℕ) → IsTrue (guard_at c found atom) → (id : ℕ) × (found ≡ Some id) × IsTrue (value_of c id atom)
guard_there c atom None h = absurd (false≢true h)
guard_there c atom (Some id) h = (id, refl, h)

module _ (eq : Target → Target → Bool) (same : (x y : Target) → eq x y ≡ true → x ≡ y) (entries : List (Target × ℕ)) (target : Target) (joined : ℕ) where
  -- a move after the insert is an old move or the new one
  added_has : (m : Guarded) → Has (moves_of (insert_entry eq entries target joined)) m → Has (moves_of entries) m ⊎ (m ≡ move_of (target, joined))
  added_has m h =
      let r = has_map move_of (insert_entry eq entries target joined) m h in
      ⊎_elim
      (λ old. inl (subst (Has (moves_of entries)) r.2 (map_has move_of entries r.0 old)))
      (λ new. inr (sym r.2 ∙ ap move_of new))
      (insert_entry_has eq same target joined entries r.0 r.1)

  has_added : Has (moves_of (insert_entry eq entries target joined)) (move_of (target, joined))
  has_added = map_has move_of (insert_entry eq entries target joined) (target, joined) (has_insert_entry eq same target joined entries)

  -- an old move remains, or it has the inserted target
  stays : (m : Guarded) → Has (moves_of entries) m
      → Has (moves_of (insert_entry eq entries target joined)) m ⊎ ((m.act ≡ target.act) × (m.to ≡ target.to) × (lookup (eq target) entries ≡ Some m.guard))
  stays m h =
      let r = has_map move_of entries m h in
      ⊎_elim
      (λ new. inl (subst (Has (moves_of (insert_entry eq entries target joined))) r.2 (map_has move_of (insert_entry eq entries target joined) r.0 new)))
      (λ own. inr (
        ap (λ (n : Guarded). n.act) (sym r.2) ∙ ap (λ (t : Target). t.act) own.0,
        ap (λ (n : Guarded). n.to) (sym r.2) ∙ ap (λ (t : Target). t.to) own.0,
        own.1 ∙ ap (λ (n : Guarded). Some n.guard) r.2,
      ))
      (has_kept eq same target joined entries r.0 r.1)

module _ (c d : DiagramsParts) (eq : Target → Target → Bool) (same : (x y : Target) → eq x y ≡ true → x ≡ y) (entries : List (Target × ℕ)) (target : Target) (guard joined : ℕ) (kept : KeepsFunctions c d) (guards : AreGuards c (moves_of entries)) (value : IsDiagramOf d joined (λ atom. guard_at c (lookup (eq target) entries) atom || value_of c guard atom)) where
  added_guards : AreGuards d (moves_of (insert_entry eq entries target joined))
  added_guards m h =
      ⊎_elim
      (λ old. kept.ids m.guard (guards m old))
      (λ new. subst (λ (n : Guarded). IsDiagramId d n.guard) (sym new) value.in_range)
      (added_has eq same entries target joined m h)

  added_targets : (store : NodeParts) (n : ℕ) → AreTargets store n (moves_of entries) → IsTermOf store n target.to → AreTargets store n (moves_of (insert_entry eq entries target joined))
  added_targets store n old own m h =
      ⊎_elim
      (λ there. old m there)
      (λ new. subst (λ (k : Guarded). IsTermOf store n k.to) (sym new) own)
      (added_has eq same entries target joined m h)

  module _ (store : NodeParts) (atom : Atom) (fits : IsAtomOf d atom) (a : ℕ) (e : Term) where
    -- if the old guard of the target is true, the old moves lead there
    was_open : IsTrue (guard_at c (lookup (eq target) entries) atom) → target.act ≡ a → tree_at store target.to ≡ e → LeadsTo store c (moves_of entries) atom a e
    was_open t act tree =
        let r = guard_there c atom (lookup (eq target) entries) t in
        record {
          through = move_of (target, r.0);
          member = map_has move_of entries (target, r.0) (lookup_has eq same target entries r.0 r.1);
          action = act;
          guard = r.2;
          tree = tree;
        }

    leads_by_new : (m : Guarded) → m ≡ move_of (target, joined) → m.act ≡ a → IsTrue (value_of d m.guard atom) → tree_at store m.to ≡ e
        → LeadsTo store c (moves_of entries) atom a e ⊎ ((target.act ≡ a) × IsTrue (value_of c guard atom) × (tree_at store target.to ≡ e))
    leads_by_new m new act t tree =
        let own_act : target.act ≡ a = subst (λ (k : Guarded). k.act ≡ a) new act in
        let own_tree : tree_at store target.to ≡ e = subst (λ (k : Guarded). tree_at store k.to ≡ e) new tree in
        let own_guard : IsTrue (value_of d joined atom) = subst (λ (k : Guarded). IsTrue (value_of d k.guard atom)) new t in
        ⊎_elim
        (λ old. inl (was_open old own_act own_tree))
        (λ more. inr (own_act, more, own_tree))
        (or_cases (guard_at c (lookup (eq target) entries) atom) (value_of c guard atom) (sym (value.value atom fits) ∙ own_guard))

    added_leads : LeadsTo store d (moves_of (insert_entry eq entries target joined)) atom a e
        → LeadsTo store c (moves_of entries) atom a e ⊎ ((target.act ≡ a) × IsTrue (value_of c guard atom) × (tree_at store target.to ≡ e))
    added_leads r =
        ⊎_elim
        (λ old. inl (record { through = r.through; member = old; action = r.action; guard = sym (kept.values r.through.guard (guards r.through old) atom) ∙ r.guard; tree = r.tree }))
        (λ new. leads_by_new r.through new r.action r.guard r.tree)
        (added_has eq same entries target joined r.through r.member)

    open_now : IsTrue (guard_at c (lookup (eq target) entries) atom) ⊎ IsTrue (value_of c guard atom) → target.act ≡ a → tree_at store target.to ≡ e
        → LeadsTo store d (moves_of (insert_entry eq entries target joined)) atom a e
    open_now t act tree = record {
      through = move_of (target, joined);
      member = has_added eq same entries target joined;
      action = act;
      guard = value.value atom fits ∙ ⊎_elim (λ p. or_left (guard_at c (lookup (eq target) entries) atom) (value_of c guard atom) p) (λ q. or_right (guard_at c (lookup (eq target) entries) atom) (value_of c guard atom) q) t;
      tree = tree;
    }

    leads_still : LeadsTo store c (moves_of entries) atom a e → LeadsTo store d (moves_of (insert_entry eq entries target joined)) atom a e
    leads_still r =
        ⊎_elim
        (λ new. record { through = r.through; member = new; action = r.action; guard = kept.values r.through.guard (guards r.through r.member) atom ∙ r.guard; tree = r.tree })
        (λ own. open_now (inl (ap (λ (o : Option ℕ). guard_at c o atom) own.2 ∙ r.guard)) (sym own.0 ∙ r.action) (ap (tree_at store) (sym own.1) ∙ r.tree))
        (stays eq same entries target joined r.through r.member)

  -- after an insert the table has the old moves and the new one
  pub adds_move : (new : List (Target × ℕ)) → new ≡ insert_entry eq entries target joined → AddsMove c d (moves_of entries) (moves_of new) (record { guard = guard; act = target.act; to = target.to })
  adds_move new e = subst (λ l. AddsMove c d (moves_of entries) (moves_of l) (record { guard = guard; act = target.act; to = target.to })) (sym e) (record {
    guards = added_guards;
    targets = added_targets;
    leads = λ store atom fits a e. (
      (λ r. added_leads store atom fits a e r),
      (λ r. ⊎_elim (λ old. leads_still store atom fits a e old) (λ own. open_now store atom fits a e (inr own.1) own.0 own.2) r),
    );
  })

-- omitting a move whose guard is always false loses nothing
pub adds_never : (d : DiagramsParts) (moves : List Guarded) (m : Guarded) → AreGuards d moves → IsDiagramOf d m.guard (λ atom. false) → AddsMove d d moves moves m
adds_never d moves m guards never = record {
  guards = guards;
  targets = λ store n old own. old;
  leads = λ store atom fits a e. (inl, λ h. ⊎_elim (λ old. old) (λ new. absurd (false≢true (sym (never.value atom fits) ∙ new.1))) h);
}
