-- What stays unchanged when the store and the diagrams grow.
use Rattle.std.proofs.Common.{ℕ, Bool, List, ◌++◌, sym, ◌∙◌, subst}
use Rattle.std.specs.Bool.{IsTrue}
use Rattle.kat_model.specs.Trees.{Term}
use Rattle.kat_model.specs.Members.{Has}
use Rattle.kat_model.specs.Problems.{HasTestsBelow}
use Rattle.kat_model.specs.Steps.{Atom}
use Rattle.term_nodes.specs.NodeLists.{NodeParts}
use Rattle.term_nodes.specs.Growth.{Grows}
use Rattle.term_nodes.proofs.Growing.{Grows-itself, Grows-trans}
use Rattle.test_diagrams.specs.Functions.{DiagramsParts, IsAtomOf, KeepsFunctions}
use Rattle.test_diagrams.proofs.Kept.{KeepsFunctions-itself, KeepsFunctions-trans, IsDiagramOf-kept}
use Rattle.partial_derivs.specs.declared.moves.Guarded.{Guarded}
use Rattle.partial_derivs.specs.declared.moves.Steps.{Steps}
use Rattle.partial_derivs.specs.Moves.{IsTermOf, AreGuards, AreTargets, LeadsTo, IsStepsBy, HasIds, Keeps}
use Rattle.kat_model.proofs.Lists.{has_left, has_right}

pub Keeps-itself : (s : NodeParts) (c : DiagramsParts) → Keeps s s c c
Keeps-itself s c = record { trees = Grows-itself s; functions = KeepsFunctions-itself c }

pub Keeps-trans : (s t u : NodeParts) (b c d : DiagramsParts) → Keeps s t b c → Keeps t u c d → Keeps s u b d
Keeps-trans s t u b c d first second = record {
  trees = Grows-trans s t u first.trees second.trees;
  functions = KeepsFunctions-trans b c d first.functions second.functions;
}

pub Keeps-functions : (s : NodeParts) (c d : DiagramsParts) → KeepsFunctions c d → Keeps s s c d
Keeps-functions s c d kept = record { trees = Grows-itself s; functions = kept }

pub Keeps-trees : (s t : NodeParts) (d : DiagramsParts) → Grows s t → Keeps s t d d
Keeps-trees s t d kept = record { trees = kept; functions = KeepsFunctions-itself d }

module _ (s t : NodeParts) (kept : Grows s t) (n : ℕ) where
  pub IsTermOf-trees : (i : ℕ) → IsTermOf s n i → IsTermOf t n i
  IsTermOf-trees i h = record {
    is_id = kept.term_numbers i h.is_id;
    in_range = subst (HasTestsBelow n) (sym (kept.trees i h.is_id)) h.in_range;
  }

  pub AreTargets-trees : (moves : List Guarded) → AreTargets s n moves → AreTargets t n moves
  AreTargets-trees moves h m k = IsTermOf-trees m.to (h m k)

module _ (s t : NodeParts) (c d : DiagramsParts) (kept : Keeps s t c d) where
  pub IsTermOf-kept : (i : ℕ) → IsTermOf s c.tests i → IsTermOf t d.tests i
  IsTermOf-kept i h = subst (λ n. IsTermOf t n i) (sym kept.functions.tests) (IsTermOf-trees s t kept.trees c.tests i h)

  pub AreTargets-kept : (moves : List Guarded) → AreTargets s c.tests moves → AreTargets t d.tests moves
  AreTargets-kept moves h m k = IsTermOf-kept m.to (h m k)

  pub AreGuards-kept : (moves : List Guarded) → AreGuards c moves → AreGuards d moves
  AreGuards-kept moves h m k = kept.functions.ids m.guard (h m k)

  pub HasIds-kept : (steps : Steps) → HasIds c steps → HasIds d steps
  HasIds-kept steps h = record { accepts = kept.functions.ids steps.accepts h.accepts; guards = AreGuards-kept steps.moves.items h.guards }

  -- an atom of the new collection is an atom of the old one
  pub was_atom : (atom : Atom) → IsAtomOf d atom → IsAtomOf c atom
  was_atom atom fits = fits ∙ kept.functions.tests

  pub LeadsTo-kept : (n : ℕ) (moves : List Guarded) (atom : Atom) (a : ℕ) (e : Term) → AreGuards c moves → AreTargets s n moves → LeadsTo s c moves atom a e → LeadsTo t d moves atom a e
  LeadsTo-kept n moves atom a e guards targets r = record {
    through = r.through;
    member = r.member;
    action = r.action;
    guard = subst IsTrue (sym (kept.functions.values r.through.guard (guards r.through r.member) atom)) r.guard;
    tree = kept.trees.trees r.through.to (targets r.through r.member).is_id ∙ r.tree;
  }

  pub LeadsTo-was : (n : ℕ) (moves : List Guarded) (atom : Atom) (a : ℕ) (e : Term) → AreGuards c moves → AreTargets s n moves → LeadsTo t d moves atom a e → LeadsTo s c moves atom a e
  LeadsTo-was n moves atom a e guards targets r = record {
    through = r.through;
    member = r.member;
    action = r.action;
    guard = subst IsTrue (kept.functions.values r.through.guard (guards r.through r.member) atom) r.guard;
    tree = sym (kept.trees.trees r.through.to (targets r.through r.member).is_id) ∙ r.tree;
  }

  -- steps stay correct
  pub IsStepsBy-kept : (accepted : Atom → Bool) (left : Atom → ℕ → List Term) (steps : Steps) → IsStepsBy s c accepted left steps → IsStepsBy t d accepted left steps
  IsStepsBy-kept accepted left steps is = record {
    accepts = IsDiagramOf-kept c d kept.functions steps.accepts accepted is.accepts;
    guards = AreGuards-kept steps.moves.items is.guards;
    targets = AreTargets-kept steps.moves.items is.targets;
    leads = λ atom fits a e. (
      (λ h. LeadsTo-kept c.tests steps.moves.items atom a e is.guards is.targets ((is.leads atom (was_atom atom fits) a e).0 h)),
      (λ r. (is.leads atom (was_atom atom fits) a e).1 (LeadsTo-was c.tests steps.moves.items atom a e is.guards is.targets r)),
    );
    merged = is.merged;
  }

-- the same when only diagrams are added, for arbitrary terms
module _ (c d : DiagramsParts) (kept : KeepsFunctions c d) (store : NodeParts) where
  pub LeadsTo-more : (moves : List Guarded) (atom : Atom) (a : ℕ) (e : Term) → AreGuards c moves → LeadsTo store c moves atom a e → LeadsTo store d moves atom a e
  LeadsTo-more moves atom a e guards r = record {
    through = r.through;
    member = r.member;
    action = r.action;
    guard = subst IsTrue (sym (kept.values r.through.guard (guards r.through r.member) atom)) r.guard;
    tree = r.tree;
  }

  pub LeadsTo-less : (moves : List Guarded) (atom : Atom) (a : ℕ) (e : Term) → AreGuards c moves → LeadsTo store d moves atom a e → LeadsTo store c moves atom a e
  LeadsTo-less moves atom a e guards r = record {
    through = r.through;
    member = r.member;
    action = r.action;
    guard = subst IsTrue (kept.values r.through.guard (guards r.through r.member) atom) r.guard;
    tree = r.tree;
  }

-- a list leads to all terms to which a part of it leads
module _ (store : NodeParts) (d : DiagramsParts) (atom : Atom) (a : ℕ) (e : Term) where
  pub LeadsTo-by : (moves more : List Guarded) → ((m : Guarded) → Has moves m → Has more m) → LeadsTo store d moves atom a e → LeadsTo store d more atom a e
  LeadsTo-by moves more within r = record { through = r.through; member = within r.through r.member; action = r.action; guard = r.guard; tree = r.tree }

  pub LeadsTo-left : (moves more : List Guarded) → LeadsTo store d moves atom a e → LeadsTo store d (moves ++ more) atom a e
  LeadsTo-left moves more r = LeadsTo-by moves (moves ++ more) (λ m h. has_left moves more m h) r

  pub LeadsTo-right : (moves more : List Guarded) → LeadsTo store d more atom a e → LeadsTo store d (moves ++ more) atom a e
  LeadsTo-right moves more r = LeadsTo-by more (moves ++ more) (λ m h. has_right moves more m h) r
