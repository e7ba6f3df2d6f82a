-- Steps along the variables of an assignment.
use Rattle.std.proofs.Common.{◌≡◌, ℕ, suc, ◌+◌, Bool, ◌||◌, List, ◌∷◌, [], ◌++◌, Option, refl, ap, ◌∙◌, arith}
use Rattle.std.specs.List.{flat_map}
use Rattle.flow_model.specs.declared.sort.Sort.{Sort}
use Rattle.flow_forms.specs.Forms.{FlowFormTree}
use Rattle.flow_forms.specs.Comparisons.{FlowComparisonTree, FlowLiteralTree}
use Rattle.flow_problem.specs.Substitutions.{some_set, forms_from, forms_after, literal_after}
use Rattle.flow_problem.specs.FlowRounds.{comparisons_if_any, comparisons_before, with_comparisons}
use Rattle.flow_problem.specs.Edges.{assigned}
use Rattle.flow_abstraction.specs.LiteralsWith.{literal_with, comparisons_with}
use Rattle.flow_ways.proofs.CourseLists.{pushed_then}

next_is : (k : ℕ) → k + 1 ≡ suc k
next_is k = omega arith

pub unset_next : (r : Bool) (p : ℕ → Bool) (k : ℕ) (os : List (Option FlowFormTree)) → r ≡ some_set p (k + 1) os → r ≡ some_set p (suc k) os
unset_next r p k os e = e ∙ ap (λ n. some_set p n os) (next_is k)

pub set_next : (r b : Bool) (p : ℕ → Bool) (k : ℕ) (os : List (Option FlowFormTree)) → b ≡ some_set p (k + 1) os → r ≡ (p k || b) → r ≡ (p k || some_set p (suc k) os)
set_next r b p k os e f = f ∙ ap (λ x. p k || x) (unset_next b p k os e)

pub form_then : (k : ℕ) (sorts : List Sort) (os : List (Option FlowFormTree)) (f : FlowFormTree) (old mid new : List FlowFormTree) → mid ≡ old ++ f ∷ [] → new ≡ mid ++ forms_from (k + 1) sorts os → new ≡ old ++ f ∷ forms_from (suc k) sorts os
form_then k sorts os f old mid new e g =
    pushed_then old mid new (forms_from (k + 1) sorts os) f e g ∙ ap (λ n. old ++ f ∷ forms_from n sorts os) (next_is k)

-- ---- the forms of the variables are those after the assignment

module _ (sorts : List Sort) (os : List (Option FlowFormTree)) (env : List FlowFormTree) where
  pub literal_is : (c : FlowComparisonTree) (o : Option FlowLiteralTree) → env ≡ forms_after sorts os → o ≡ literal_with sorts os env c → o ≡ literal_after sorts os c
  literal_is c o e f = f ∙ ap (λ v. literal_with sorts os v c) e

  all_with : (cs : List FlowComparisonTree) → comparisons_with sorts os env cs ≡ flat_map (λ c. comparisons_if_any (literal_with sorts os env c)) cs
  all_with [] = refl
  all_with (c ∷ cs) = ap (λ ds. comparisons_if_any (literal_with sorts os env c) ++ ds) (all_with cs)

  pub assigned_before : (table old new : List FlowComparisonTree) → env ≡ forms_after sorts os → new ≡ with_comparisons old (comparisons_with sorts os env table) →
      new ≡ with_comparisons old (comparisons_before sorts table (assigned os))
  assigned_before table old new e f =
      f ∙ ap (with_comparisons old) (all_with table) ∙ ap (λ v. with_comparisons old (flat_map (λ c. comparisons_if_any (literal_with sorts os v c)) table)) e
