-- Unions of steps.
use Rattle.std.specs.Prelude.{◌↔◌}
use Rattle.std.proofs.lemmas.List.{take_all, map_more}
use Rattle.term_nodes.specs.NodeTrees.{tree_at}
use Rattle.std.proofs.Common.{◌≡◌, ◌⊎◌, inl, inr, ⊎_elim, ℕ, ◌<◌, ◌≤◌, ◌+◌, length, get_or, take, Bool, true, false, ◌||◌, List, [], ◌∷◌, ◌++◌, map, sym, ap, ◌∙◌, subst}
use Rattle.std.specs.Bool.{IsTrue}
use Rattle.std.proofs.Math.Bool.{or-false}
use Rattle.std.proofs.lemmas.List.Folds.{list_any-append}
use Rattle.std.proofs.lemmas.List.Concat.{flat_map-append}
use Rattle.std.proofs.Common.{append-nil}
use Rattle.kat_model.specs.Trees.{Term, sum}
use Rattle.kat_model.specs.Members.{Has}
use Rattle.kat_model.specs.Steps.{Atom, out, next, set_out, set_next}
use Rattle.kat_model.proofs.Lists.{has_left, has_right, has_append}
use Rattle.term_nodes.specs.NodeLists.{NodeParts}
use Rattle.test_diagrams.specs.Functions.{DiagramsParts, value_of, IsAtomOf, IsDiagramOf, KeepsFunctions}
use Rattle.test_diagrams.proofs.Kept.{IsDiagramOf-kept}
use Rattle.partial_derivs.specs.declared.moves.Steps.{Steps}
use Rattle.partial_derivs.specs.declared.sets.Union.{Union}
use Rattle.partial_derivs.specs.Moves.{AreTargets, LeadsTo, IsStepsBy, IsDerivativeOf, HasIds, Keeps}
use Rattle.partial_derivs.specs.Working.Gathered.{moves_of, AddsUnder}
use Rattle.partial_derivs.specs.Working.Unions.{IsUnionBy, IsUnionOfIds, AddsSteps}
use Rattle.partial_derivs.proofs.Kept.{AreGuards-kept, AreTargets-kept, LeadsTo-kept, LeadsTo-was, LeadsTo-more, LeadsTo-less, IsStepsBy-kept, Keeps-functions}

pub ids_of_steps : (store : NodeParts) (d : DiagramsParts) (accepted : Atom → Bool) (left : Atom → ℕ → List Term) (steps : Steps) → IsStepsBy store d accepted left steps → HasIds d steps
ids_of_steps store d accepted left steps is = record { accepts = is.accepts.in_range; guards = is.guards }

pub IsUnionOfIds-kept : (c d : DiagramsParts) → KeepsFunctions c d → (union : Union) → IsUnionOfIds c union → IsUnionOfIds d union
IsUnionOfIds-kept c d kept union ids = record { accepts = kept.ids union.accepts ids.accepts; guards = λ m h. kept.ids m.guard (ids.guards m h) }

-- adding steps: their moves under the constant `true`, and the atoms that they accept
module _ (b c d : DiagramsParts) (old new : Union) (steps : Steps) (always : ℕ) (first : KeepsFunctions b c) (second : KeepsFunctions c d) (constant : IsDiagramOf b always (λ atom. true)) (ids : HasIds b steps) (old_ids : IsUnionOfIds b old) (under : AddsUnder b c (moves_of old.gathered.guards.entries) (moves_of new.gathered.guards.entries) steps.moves.items always) (either : IsDiagramOf d new.accepts (λ atom. value_of c old.accepts atom || value_of c steps.accepts atom)) where
  pub adds_steps : AddsSteps b d old new steps
  adds_steps store accepted also_accepted left also_left was is = record {
    accepts = record {
      in_range = either.in_range;
      value = λ atom fits. either.value atom fits ∙ (λ k. (old_value atom fits k || steps_value atom fits k));
    };
    guards = λ m h. second.ids m.guard (under.guards m h);
    targets = subst (λ n. AreTargets store n (moves_of new.gathered.guards.entries)) (sym (second.tests ∙ first.tests)) (under.targets store b.tests was.targets is.targets);
    leads = λ atom fits a e. (there atom fits a e, back atom fits a e);
  }
    where
      fits_first : (atom : Atom) → IsAtomOf d atom → IsAtomOf b atom
      fits_first atom fits = fits ∙ second.tests ∙ first.tests

      old_value : (atom : Atom) → IsAtomOf d atom → value_of c old.accepts atom ≡ accepted atom
      old_value atom fits = first.values old.accepts old_ids.accepts atom ∙ was.accepts.value atom (fits_first atom fits)

      steps_value : (atom : Atom) → IsAtomOf d atom → value_of c steps.accepts atom ≡ also_accepted atom
      steps_value atom fits = first.values steps.accepts ids.accepts atom ∙ is.accepts.value atom (fits_first atom fits)

      there : (atom : Atom) → IsAtomOf d atom → (a : ℕ) (e : Term) → Has (left atom a ++ also_left atom a) e → LeadsTo store d (moves_of new.gathered.guards.entries) atom a e
      there atom fits a e h =
          let fits_b = fits_first atom fits in
          let joined : LeadsTo store b (moves_of old.gathered.guards.entries) atom a e ⊎ (IsTrue (value_of b always atom) × LeadsTo store b steps.moves.items atom a e) =
          ⊎_elim (λ p. inl ((was.leads atom fits_b a e).0 p)) (λ q. inr (constant.value atom fits_b, (is.leads atom fits_b a e).0 q)) (has_append (left atom a) (also_left atom a) e h) in
          LeadsTo-more c d second store (moves_of new.gathered.guards.entries) atom a e under.guards ((under.leads store atom (fits ∙ second.tests) a e).1 joined)

      back : (atom : Atom) → IsAtomOf d atom → (a : ℕ) (e : Term) → LeadsTo store d (moves_of new.gathered.guards.entries) atom a e → Has (left atom a ++ also_left atom a) e
      back atom fits a e r =
          let fits_b = fits_first atom fits in
          ⊎_elim
          (λ p. has_left (left atom a) (also_left atom a) e ((was.leads atom fits_b a e).1 p))
          (λ q. has_right (left atom a) (also_left atom a) e ((is.leads atom fits_b a e).1 q.1))
          ((under.leads store atom (fits ∙ second.tests) a e).0 (LeadsTo-less c d second store (moves_of new.gathered.guards.entries) atom a e under.guards r))

-- a union stays correct when both collections grow
pub IsUnionBy-kept : (s t : NodeParts) (c d : DiagramsParts) → Keeps s t c d → (accepted : Atom → Bool) (left : Atom → ℕ → List Term) (union : Union) → IsUnionBy s c accepted left union → IsUnionBy t d accepted left union
IsUnionBy-kept s t c d kept accepted left union is =
    let moves = moves_of union.gathered.guards.entries in
    record {
      accepts = IsDiagramOf-kept c d kept.functions union.accepts accepted is.accepts;
      guards = AreGuards-kept s t c d kept moves is.guards;
      targets = AreTargets-kept s t c d kept moves is.targets;
      leads = λ atom fits a e. (
        (λ h. LeadsTo-kept s t c d kept c.tests moves atom a e is.guards is.targets ((is.leads atom (fits ∙ kept.functions.tests) a e).0 h)),
        (λ r. (is.leads atom (fits ∙ kept.functions.tests) a e).1 (LeadsTo-was s t c d kept c.tests moves atom a e is.guards is.targets r)),
      );
    }

-- the atoms that a set with an additional term accepts, and the terms that it leads to
pub set_out-more : (es : List Term) (e : Term) (atom : Atom) → set_out (es ++ e ∷ []) atom ≡ (set_out es atom || out e atom)
set_out-more es e atom = list_any-append (λ x. out x atom) es (e ∷ []) ∙ ap (λ b. set_out es atom || b) (or-false (out e atom))

pub set_next-more : (es : List Term) (e : Term) (atom : Atom) (a : ℕ) → set_next (es ++ e ∷ []) atom a ≡ set_next es atom a ++ next e atom a
set_next-more es e atom a = flat_map-append (λ x. next x atom a) es (e ∷ []) ∙ ap (λ l. set_next es atom a ++ l) (append-nil (next e atom a))

pub set_more : (store : NodeParts) (d : DiagramsParts) (es : List Term) (e : Term) (union : Union) → IsUnionBy store d (λ atom. set_out es atom || out e atom) (λ atom a. set_next es atom a ++ next e atom a) union
    → IsUnionBy store d (set_out (es ++ e ∷ [])) (set_next (es ++ e ∷ [])) union
set_more store d es e union is = record {
  accepts = record { in_range = is.accepts.in_range; value = λ atom fits. is.accepts.value atom fits ∙ sym (set_out-more es e atom) };
  guards = is.guards;
  targets = is.targets;
  leads = λ atom fits a x. subst (λ l. (Has l x) ↔ (LeadsTo store d (moves_of union.gathered.guards.entries) atom a x)) (sym (set_next-more es e atom a)) (is.leads atom fits a x);
}

-- adding the steps of two terms to the empty union gives the steps of their sum
pub sum_union : (store : NodeParts) (b c d : DiagramsParts) (none mid whole : Union) (first second : Steps) (e f : Term) → IsUnionBy store b (λ atom. false) (λ atom a. []) none → AddsSteps b c none mid first → KeepsFunctions b c → AddsSteps c d mid whole second
    → IsDerivativeOf store b e first → IsDerivativeOf store b f second → IsUnionBy store d (out (sum e f)) (next (sum e f)) whole
sum_union store b c d none mid whole first second e f empty one kept two is_first is_second =
    let now : IsDerivativeOf store c f second = IsStepsBy-kept store store b c (Keeps-functions store b c kept) (out f) (next f) second is_second in
    two store (out e) (out f) (next e) (next f) (one store (λ atom. false) (out e) (λ atom a. []) (next e) empty is_first) now

-- adding the steps of an additional term of a set
pub term_added : (s t : NodeParts) (b c d : DiagramsParts) (e : Term) (old new : Union) (steps : Steps) → Keeps s t b c → IsDerivativeOf t c e steps → AddsSteps c d old new steps
    → (es : List Term) → IsUnionBy s b (set_out es) (set_next es) old → IsUnionBy t d (set_out (es ++ e ∷ [])) (set_next (es ++ e ∷ [])) new
term_added s t b c d e old new steps kept is adds es before =
    set_more t d es e new (adds t (set_out es) (out e) (set_next es) (next e) (IsUnionBy-kept s t b c kept (set_out es) (set_next es) old before) is)

-- the loop step over terms
pub union_step : (first s t : NodeParts) (c d : DiagramsParts) (terms : List ℕ) (i x : ℕ) (old new : Union) → i < length terms → x ≡ get_or terms i x → tree_at s x ≡ tree_at first x
    → ((es : List Term) → IsUnionBy s c (set_out es) (set_next es) old → IsUnionBy t d (set_out (es ++ tree_at s x ∷ [])) (set_next (es ++ tree_at s x ∷ [])) new)
    → IsUnionBy s c (set_out (map (tree_at first) (take i terms))) (set_next (map (tree_at first) (take i terms))) old
    → IsUnionBy t d (set_out (map (tree_at first) (take (i + 1) terms))) (set_next (map (tree_at first) (take (i + 1) terms))) new
union_step first s t c d terms i x old new lt is tree adds before =
    let own : tree_at first (get_or terms i x) ≡ tree_at s x = ap (tree_at first) (sym is) ∙ sym tree in
    let all : map (tree_at first) (take (i + 1) terms) ≡ map (tree_at first) (take i terms) ++ tree_at s x ∷ [] = map_more (tree_at first) terms i x lt ∙ ap (λ e. map (tree_at first) (take i terms) ++ e ∷ []) own in
    subst (λ l. IsUnionBy t d (set_out l) (set_next l) new) (sym all) (adds (map (tree_at first) (take i terms)) before)

pub union_end : (first t : NodeParts) (d : DiagramsParts) (terms : List ℕ) (i : ℕ) (union : Union) → length terms ≤ i
    → IsUnionBy t d (set_out (map (tree_at first) (take i terms))) (set_next (map (tree_at first) (take i terms))) union
    → IsUnionBy t d (set_out (map (tree_at first) terms)) (set_next (map (tree_at first) terms)) union
union_end first t d terms i union le is = subst (λ l. IsUnionBy t d (set_out (map (tree_at first) l)) (set_next (map (tree_at first) l)) union) (take_all i terms le) is
