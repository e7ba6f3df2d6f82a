-- The check of instances.
use Rattle.std.proofs.Common.{◌≡◌, ◌↔◌, ◌⊎◌, inl, inr, ℕ, Bool, false, Option, None, Some, Result, Ok, Err, IfOk, refl, sym, subst}
use Rattle.std.specs.Bool.{IsTrue}
use Rattle.std.specs.Option.{is_some, option_map}
use Rattle.std.proofs.lemmas.Bool.{both_ways}
use Rattle.kat_model.specs.Problems.{ProblemParts}
use Rattle.chain_rules.specs.Chains.{Equation}
use Rattle.chain_rules.specs.Axioms.{AreEqualTests, IsInstance}
use Rattle.chain_rules.specs.Working.LineViews.{equation_of}
use Rattle.chain_rules.specs.declared.chain.Axiom.{Axiom}
use Rattle.chain_rules.specs.declared.chain.Axiom.TheVariants.{Bool as by_tests}
use Rattle.chain_rules.specs.declared.fixed_points.ChainEnds.{ChainEnds}

-- instances of `Bool`, by the diagrams of both sides
pub bool_instances : {E : Type 0} (q : ProblemParts) (rule : Axiom) (tests : ℕ) (s : Equation) (r : Result Bool E) → rule ≡ by_tests → tests ≡ q.tests → IfOk r (λ same. IsTrue same ↔ AreEqualTests tests s) → IfOk r (λ same. IsTrue same ↔ IsInstance q rule None s)
bool_instances q rule tests s (Ok same) is own h =
    subst (λ (a : Axiom). IsTrue same ↔ IsInstance q a None s) (sym is) (
      (λ t. (refl, subst (λ (n : ℕ). AreEqualTests n s) own (h.0 t))),
      (λ i. h.1 (subst (λ (n : ℕ). AreEqualTests n s) (sym own) i.1)),
    )
bool_instances q rule tests s (Err e) is own h = tt

-- there is no premise
pub no_premise : (premise : Option ChainEnds) (some : Bool) → some ≡ is_some premise → some ≡ false → option_map equation_of premise ≡ None
no_premise None some own none = refl
no_premise (Some ends) some own none = absurd cc

-- an instance in the second order, if it is not one in the first
pub either_way : {A B : Type 0} (there back : Bool) → there ≡ false → IsTrue there ↔ A → IsTrue back ↔ B → IsTrue back ↔ (A ⊎ B)
either_way {A} {B} there back fails t b = ((λ h. inr (b.0 h)), by_side) where
  by_side : A ⊎ B → IsTrue back
  by_side (inl x) = absurd (both_ways there fails (t.1 x))
  by_side (inr y) = b.1 y
