-- A function is a choice between its cofactors for the two values of a test (Shannon's expansion).
use Rattle.std.proofs.Common.{◌≡◌, ℕ, ◌<◌, ◌≤◌, arith, Bool, true, false, if◌then◌else◌, get_or, set, refl, sym, ap, ◌∙◌, length-set}
use Rattle.std.proofs.lemmas.List.{set-get_or}
use Rattle.kat_model.specs.Steps.{Atom}
use Rattle.test_diagrams.specs.Functions.{DiagramsParts, value_of, IsAtomOf, IsDiagramOf, KeepsFunctions}
use Rattle.test_diagrams.specs.Reduced.{level_of, IsReduced}
use Rattle.test_diagrams.specs.declared.diagrams.Operation.{Operation}
use Rattle.test_diagrams.specs.declared.diagrams.Operation.TheVariants.{And, Or, Not, Fix}
use Rattle.test_diagrams.specs.Operations.{HasOperands, function_of}
use Rattle.test_diagrams.specs.Working.Operations.{choice_of, top_of, IsOpen, IsCofactor}
use Rattle.test_diagrams.proofs.Tops.{level_above}
use Rattle.test_diagrams.proofs.Kept.{IsDiagramOf-kept}
use Rattle.test_diagrams.proofs.Results.{function_of-kept}

-- a diagram of a function that depends on no test up to this one has only later tests
pub level_above_function : (d : DiagramsParts) → IsReduced d → (id test : ℕ) (function : Atom → Bool) → test < d.tests → IsDiagramOf d id function
    → ((other : ℕ) → other ≤ test → (atom : Atom) → IsAtomOf d atom → (value : Bool) → function (set atom other value) ≡ function atom) → test < level_of d id
level_above_function d r id test function within is independent =
    level_above d r id test is.in_range within
    (λ other le atom fits value. is.value (set atom other value) (length-set atom other value ∙ fits) ∙ independent other le atom fits value ∙ sym (is.value atom fits))

-- no test is at the top of a diagram of a constant function
pub level_above_constant : (d : DiagramsParts) → IsReduced d → (id test : ℕ) (constant : Bool) → test < d.tests → IsDiagramOf d id (λ atom. constant) → test < level_of d id
level_above_constant d r id test constant within is = level_above_function d r id test (λ atom. constant) within is (λ other le atom fits value. refl)

-- the choice between the two cofactors of a function is the function
pub choice_of_halves : (test : ℕ) (low high whole : Atom → Bool) (atom : Atom) → low atom ≡ whole (set atom test false) → high atom ≡ whole (set atom test true)
    → (if get_or atom test false then high atom else low atom) ≡ whole atom
choice_of_halves test low high whole atom first second = by (get_or atom test false) ∙ ap whole (set-get_or atom test false)
  where
    by : (b : Bool) → (if b then high atom else low atom) ≡ whole (set atom test b)
    by true = second
    by false = first

-- the top test of the operands is a test of the collection
open_within : (d : DiagramsParts) (operation : Operation) → HasOperands d operation → IsOpen d operation → top_of d operation < d.tests
open_within d (And a b) operands is_open = is_open
open_within d (Or a b) operands is_open = is_open
open_within d (Not a) operands is_open = is_open
open_within d (Fix a test value) operands is_open = let within : test < d.tests = operands.1 in omega arith

-- the results for both cofactors of an operation, the second computed after the first
module _ (start middle end : DiagramsParts) (first_kept : KeepsFunctions start middle) (second_kept : KeepsFunctions middle end) (r : IsReduced end)
    (operation : Operation) (operands : HasOperands start operation) (is_open : IsOpen start operation) (low_part high_part : Operation) (test low high : ℕ) (top : test ≡ top_of start operation)
    (low_is : IsCofactor start operation test false low_part) (high_is : IsCofactor start operation test true high_part)
    (low_made : IsDiagramOf middle low (function_of start low_part)) (high_made : IsDiagramOf end high (function_of middle high_part)) where
  end_within : test < end.tests
  end_within = let within = open_within start operation operands is_open in omega (arith, within, second_kept.tests, first_kept.tests)

  fits_start : (atom : Atom) → IsAtomOf end atom → IsAtomOf start atom
  fits_start atom fits = fits ∙ second_kept.tests ∙ first_kept.tests

  low_end : IsDiagramOf end low (function_of start low_part)
  low_end = IsDiagramOf-kept middle end second_kept low (function_of start low_part) low_made

  high_end : IsDiagramOf end high (function_of start high_part)
  high_end = record {
    in_range = high_made.in_range;
    value = λ atom fits. high_made.value atom fits ∙ function_of-kept start middle first_kept high_part high_is.operands atom;
  }

  pub low_below : test < level_of end low
  low_below =
      level_above_function end r low test (function_of start low_part) end_within low_end
      (λ other le atom fits value. low_is.independent other le atom (fits_start atom fits) value)

  pub high_below : test < level_of end high
  high_below =
      level_above_function end r high test (function_of start high_part) end_within high_end
      (λ other le atom fits value. high_is.independent other le atom (fits_start atom fits) value)

  -- the branch with these results is the result of the operation
  pub branch_is_result : (last : DiagramsParts) (id : ℕ) → KeepsFunctions end last
      → IsDiagramOf last id (choice_of end test low high) → IsDiagramOf last id (function_of start operation)
  branch_is_result last id kept made = record {
    in_range = made.in_range;
    value = λ atom fits.
        let old : IsAtomOf end atom = fits ∙ kept.tests in
        made.value atom fits
        ∙ choice_of_halves test (value_of end low) (value_of end high) (function_of start operation) atom
        (low_end.value atom old ∙ low_is.function atom (fits_start atom old))
        (high_end.value atom old ∙ high_is.function atom (fits_start atom old));
  }
