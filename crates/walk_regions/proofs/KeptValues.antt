-- Diagrams that were built from two others, after diagrams are added.
use Rattle.std.proofs.Common.{ℕ, Bool, sym, ◌∙◌}
use mathlib.Core.Path.{ap₂}
use Rattle.test_diagrams.specs.Functions.{DiagramsParts, value_of, IsDiagramId, IsDiagramOf, KeepsFunctions}

pub of_two_kept : (g : Bool → Bool → Bool) (c d e : DiagramsParts) → KeepsFunctions c e → KeepsFunctions d e → (x y id : ℕ) → IsDiagramId c x → IsDiagramId c y
    → IsDiagramOf d id (λ a. g (value_of c x a) (value_of c y a)) → IsDiagramOf e id (λ a. g (value_of e x a) (value_of e y a))
of_two_kept g c d e ce de x y id in_x in_y is = record {
  in_range = de.ids id is.in_range;
  value = λ a fits.
      de.values id is.in_range a ∙ is.value a (fits ∙ de.tests) ∙ ap₂ g (sym (ce.values x in_x a)) (sym (ce.values y in_y a));
}
