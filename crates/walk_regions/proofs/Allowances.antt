-- The moves that short hypotheses allow, one action after the other, and in later collections of diagrams.
use Rattle.std.proofs.Common.{◌≡◌, ⊎_elim, ℕ, not, List, [], ◌∷◌, ◌++◌, length, slice_get, Some, sym, ap, ◌∙◌, subst}
use Rattle.kat_model.specs.Trees.{Term}
use Rattle.kat_model.specs.Steps.{set_out, set_next}
use Rattle.kat_model.proofs.Places.{slice_get_last}
use Rattle.term_nodes.specs.NodeLists.{NodeParts}
use Rattle.test_diagrams.specs.Functions.{DiagramsParts, value_of, IsDiagramOf, KeepsFunctions}
use Rattle.test_diagrams.proofs.Kept.{IsDiagramOf-kept}
use Rattle.partial_derivs.specs.declared.moves.Guarded.{Guarded}
use Rattle.partial_derivs.specs.declared.moves.Steps.{Steps}
use Rattle.partial_derivs.specs.Moves.{IsStepsOf, AreTargets, Keeps}
use Rattle.partial_derivs.proofs.Kept.{IsStepsBy-kept}
use Rattle.walk_regions.specs.declared.allowed.AllowedMoves.{AllowedMoves}
use Rattle.walk_regions.specs.declared.bars.Bars.{Bars}
use Rattle.walk_regions.specs.Bars.{AreSoundBars}
use Rattle.walk_regions.specs.Working.Querying.{AreBarsOf}
use Rattle.walk_regions.specs.Allowance.{ShowMoves, IsAllowance}
use Rattle.walk_regions.proofs.ImageTables.{sound_bars_kept}
use Rattle.walk_regions.proofs.BarLists.{bars_of_kept}
use Rattle.walk_regions.proofs.GivenMoves.{given_moves}

-- the bars at each place are those of the moves by the action with that number
abbrev pub AreActionBars : NodeParts → DiagramsParts → List Guarded → List Bars → Type 0
AreActionBars store d moves list = (a : ℕ) (b : Bars) → slice_get list a ≡ Some b → AreSoundBars d b × AreBarsOf store d moves a b.bars.items

pub action_bars_none : (store : NodeParts) (d : DiagramsParts) (moves : List Guarded) → AreActionBars store d moves []
action_bars_none store d moves a b at = absurd cc

pub action_bars_more : (s t : NodeParts) (c d : DiagramsParts) → Keeps s t c d → (n : ℕ) (moves : List Guarded) (list : List Bars) (act : ℕ) (new : Bars) → AreTargets s n moves → length list ≡ act → AreActionBars s c moves list → AreSoundBars d new → AreBarsOf t d moves act new.bars.items
    → AreActionBars t d moves (list ++ new ∷ [])
action_bars_more s t c d kept n moves list act new targets count old sound are a b at =
    ⊎_elim
    (λ before. let o = old a b before in (sound_bars_kept c d kept.functions b o.0, bars_of_kept s t c d kept n moves a b.bars.items targets o.1))
    (λ last. subst (λ (x : Bars). AreSoundBars d x × AreBarsOf t d moves a x.bars.items) last.1 (sound, subst (λ k. AreBarsOf t d moves k new.bars.items) (sym (last.0 ∙ count)) are))
    (slice_get_last list new a b at)

module _ (s : NodeParts) (c : DiagramsParts) (shorts : List Term) (steps : Steps) (is : IsStepsOf s c shorts steps) (t : NodeParts) (d : DiagramsParts) (kept : Keeps s t c d) where
  steps_there : IsStepsOf t d shorts steps
  steps_there = IsStepsBy-kept s t c d kept (set_out shorts) (set_next shorts) steps is

  pub allowance : (b : DiagramsParts) (allowed : ℕ) → KeepsFunctions b d → IsDiagramOf b allowed (λ a. not (value_of c steps.accepts a)) → (m : AllowedMoves) (actions : ℕ) → m.allowed ≡ allowed → length m.actions.items ≡ actions → AreActionBars t d steps.moves.items m.actions.items → IsAllowance d shorts actions m
  allowance b allowed more own m actions same count bars = record {
    allowed = subst (λ id. IsDiagramOf d id (λ a. not (set_out shorts a))) (sym same) (record {
      in_range = more.ids allowed own.in_range;
      value = λ a fits.
          more.values allowed own.in_range a ∙ own.value a (fits ∙ more.tests)
          ∙ ap not (is.accepts.value a (fits ∙ kept.functions.tests));
    });
    count = count;
    moves = λ a x at. let o = bars a x at in record { sound = o.0; given = λ p q of_p of_q. given_moves t d shorts steps steps_there a x.bars.items o.1 p q of_p of_q };
  }

-- ---- when diagrams are added

pub allowance_kept : (c d : DiagramsParts) → KeepsFunctions c d → (shorts : List Term) (actions : ℕ) (m : AllowedMoves) → IsAllowance c shorts actions m → IsAllowance d shorts actions m
allowance_kept c d kept shorts actions m all = record {
  allowed = IsDiagramOf-kept c d kept m.allowed (λ a. not (set_out shorts a)) all.allowed;
  count = all.count;
  moves = λ a b at. show_kept c d kept shorts a b (all.moves a b at);
}
  where
    show_kept : (c d : DiagramsParts) → KeepsFunctions c d → (shorts : List Term) (act : ℕ) (b : Bars) → ShowMoves c shorts act b → ShowMoves d shorts act b
    show_kept c d kept shorts act b t = record {
      sound = sound_bars_kept c d kept b t.sound;
      given = λ x y of_x of_y.
          let own = t.given x y (of_x ∙ kept.tests) (of_y ∙ kept.tests) in (
            (λ h. let k = own.0 h in (k.0, k.1, kept.values k.0.from (t.sound.bars.froms k.0 k.1) x ∙ k.2, kept.values k.0.to (t.sound.bars.tos k.0 k.1) y ∙ k.3)),
            (λ k. own.1 (k.0, k.1, sym (kept.values k.0.from (t.sound.bars.froms k.0 k.1) x) ∙ k.2, sym (kept.values k.0.to (t.sound.bars.tos k.0 k.1) y) ∙ k.3)),
          );
    }
