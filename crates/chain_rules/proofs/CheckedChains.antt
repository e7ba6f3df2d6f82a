-- What the results of the check mean.
use Rattle.std.proofs.Common.{arith, ◌≡◌, ◌≢◌, ℕ, ◌↔◌, Bool, true, false, nat_eq, Result, Ok, Err, refl, sym, ◌∙◌}
use mathlib.Core.Path.{ap₂}
use Rattle.std.specs.Bool.{IsTrue}
use Rattle.std.specs.Result.{IfOk}
use Rattle.kat_model.specs.Trees.{Term, is_test}
use Rattle.kat_model.specs.Steps.{Atom, out}
use Rattle.kat_model.specs.Problems.{ProblemParts}
use Rattle.kat_model.specs.Relations.{Same}
use Rattle.test_diagrams.specs.Functions.{DiagramsParts, value_of, IsDiagramOf, KeepsFunctions}
use Rattle.test_diagrams.specs.Reduced.{IsReduced}
use Rattle.test_diagrams.proofs.Kept.{IsDiagramOf-kept}
use Rattle.test_diagrams.proofs.Apart.{same_id_same_function, same_function_same_id}
use Rattle.chain_rules.specs.Chains.{ChainTree, equation}
use Rattle.chain_rules.specs.Axioms.{AreEqualTests}
use Rattle.chain_rules.specs.Chained.{Answers}
use Rattle.chain_rules.specs.declared.answer.ChainAnswer.{ChainAnswer}
use Rattle.chain_rules.specs.declared.answer.ChainAnswer.TheVariants.{Accepted, Rejected}
use Rattle.chain_rules.proofs.Soundness.{chained_same}

-- if the check accepts a chain, both sides are the same
pub sound_answer : (q : ProblemParts) (c : ChainTree) (answer : ChainAnswer) → Answers q c answer → answer ≡ Accepted → Same q
sound_answer q c Accepted h e = chained_same q c h
sound_answer q c (Rejected reason) h e = absurd cc

-- two tests are true at the same atoms if and only if their diagrams have the same id
pub equal_ids : (tests : ℕ) (d : DiagramsParts) (i j : ℕ) (e f : Term) → d.tests ≡ tests → IsReduced d → IsDiagramOf d i (out e) → IsDiagramOf d j (out f) → IsTrue (is_test e) → IsTrue (is_test f) → (i ≡ j) ↔ AreEqualTests tests (equation e f)
equal_ids tests d i j e f same reduced of_e of_f is_e is_f = (
  (λ one. record {
    left = is_e;
    right = is_f;
    same = λ atom fits.
        let own = fits ∙ sym same in
        sym (of_e.value atom own) ∙ same_id_same_function d i j one atom own ∙ of_f.value atom own;
  }),
  (λ equal. same_function_same_id d reduced i j of_e.in_range of_f.in_range
      (λ atom fits. of_e.value atom fits ∙ equal.same atom (fits ∙ same) ∙ sym (of_f.value atom fits))),
)

-- comparing two ids
pub ids_compared : {X : Type 0} (i j : ℕ) (same : Bool) → same ≡ nat_eq i j → (i ≡ j) ↔ X → IsTrue same ↔ X
ids_compared i j true is f = ((λ h. f.0 (grind (arith, is))), (λ x. refl))
ids_compared i j false is f = ((λ h. absurd cc), (λ x. absurd (let other : i ≢ j = grind (arith, is) in other (f.1 x))))

-- an operation on two functions, of which the second was computed after the first
pub tail_joined : {E : Type 0} (op : Bool → Bool → Bool) (d1 d2 d3 : DiagramsParts) (a b : ℕ) (r : Result ℕ E) (f g : Atom → Bool) → KeepsFunctions d1 d2 → KeepsFunctions d2 d3 → IsDiagramOf d1 a f → IsDiagramOf d2 b g
    → IfOk r (λ id. IsDiagramOf d3 id (λ x. op (value_of d2 a x) (value_of d2 b x))) → IfOk r (λ id. IsDiagramOf d3 id (λ x. op (f x) (g x)))
tail_joined op d1 d2 d3 a b (Ok id) f g k2 k3 da db is =
    let first = IsDiagramOf-kept d1 d2 k2 a f da in
    record { in_range = is.in_range; value = λ x fits. is.value x fits ∙ ap₂ op (first.value x (fits ∙ k3.tests)) (db.value x (fits ∙ k3.tests)) }
tail_joined op d1 d2 d3 a b (Err e) f g k2 k3 da db is = tt
