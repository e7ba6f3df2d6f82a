-- Collections that keep older ids and their functions.
use Rattle.std.proofs.Common.{ℕ, Bool, refl, ◌∙◌}
use Rattle.kat_model.specs.Steps.{Atom}
use Rattle.test_diagrams.specs.Functions.{DiagramsParts, IsDiagramOf, KeepsFunctions}

pub KeepsFunctions-itself : (d : DiagramsParts) → KeepsFunctions d d
KeepsFunctions-itself d = record { tests = refl; ids = λ id h. h; values = λ id h atom. refl }

pub KeepsFunctions-trans : (a b c : DiagramsParts) → KeepsFunctions a b → KeepsFunctions b c → KeepsFunctions a c
KeepsFunctions-trans a b c first second = record {
  tests = second.tests ∙ first.tests;
  ids = λ id h. second.ids id (first.ids id h);
  values = λ id h atom. second.values id (first.ids id h) atom ∙ first.values id h atom;
}

module _ (old new : DiagramsParts) (kept : KeepsFunctions old new) where
  -- a diagram of a function stays one
  pub IsDiagramOf-kept : (id : ℕ) (function : Atom → Bool) → IsDiagramOf old id function → IsDiagramOf new id function
  IsDiagramOf-kept id function d = record {
    in_range = kept.ids id d.in_range;
    value = λ atom fits. kept.values id d.in_range atom ∙ d.value atom (fits ∙ kept.tests);
  }
