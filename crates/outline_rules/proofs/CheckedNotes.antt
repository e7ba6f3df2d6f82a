-- What the checks of all conditions of a task say of notes.
use Rattle.std.proofs.Common.{◌≡◌, ℕ, suc, List, [], ◌∷◌, ◌++◌, map, Option, Some, None, ap, ◌∙◌, subst, Bool}
use Rattle.kat_model.specs.Problems.{ProblemParts}
use Rattle.kat_model.specs.Members.{Has}
use Rattle.kat_model.specs.Steps.{Atom}
use Rattle.while_lang.specs.Flows.{FlowTree}
use Rattle.outline_rules.specs.declared.checks.Check.{Check}
use Rattle.outline_rules.specs.declared.notes.NoteNode.{NoteNode}
use Rattle.outline_rules.specs.Tasks.{TaskParts}
use Rattle.outline_rules.specs.Places.{last_place, places}
use Rattle.outline_rules.specs.Follows.{Condition, starts, ends, conditions_from, conditions, IsMet, HasTests}
use Rattle.outline_rules.specs.Reasons.{IsLeastUnmet}
use Rattle.outline_rules.specs.Working.Checks.{condition_of}
use Rattle.outline_rules.specs.Working.Sets.{ShowsLeastUnmet}

pub tests_known : (n m : ℕ) (xs ys : List NoteNode) → n ≡ m → xs ≡ ys → HasTests n xs → HasTests m ys
tests_known n m xs ys e f known = subst (λ k. HasTests k ys) e (subst (HasTests n) f known)

pub places_counted : (f tree : FlowTree) (last count : ℕ) → tree ≡ f → last ≡ last_place tree 0 → count ≡ suc last → count ≡ places f
places_counted f tree last count same at is = is ∙ ap suc (at ∙ ap (λ (g : FlowTree). last_place g 0) same)

-- the checks that were appended to an empty list
pub all_checked : (f tree : FlowTree) (none checks filled : List Check) → none ≡ [] → tree ≡ f → map condition_of checks ≡ map condition_of none ++ conditions_from tree 0 → filled ≡ checks
    → map condition_of filled ≡ conditions_from f 0
all_checked f tree none checks filled nothing same appended is =
    ap (map condition_of) is ∙ appended ∙ ap (λ (g : FlowTree). map condition_of none ++ conditions_from g 0) same ∙ ap (λ (l : List Check). map condition_of l ++ conditions_from f 0) nothing

pub all_conditions : (t : TaskParts) (tree : FlowTree) (last : ℕ) (cs : List Condition) → tree ≡ t.flow → last ≡ last_place tree 0 → cs ≡ conditions_from t.flow 0
    → starts t.pre ∷ (cs ++ ends last t.post ∷ []) ≡ conditions t
all_conditions t tree last cs same at is =
    ap (λ (l : List Condition). starts t.pre ∷ (l ++ ends last t.post ∷ [])) is
    ∙ ap (λ (n : ℕ). starts t.pre ∷ (conditions_from t.flow 0 ++ ends n t.post ∷ [])) (at ∙ ap (λ (g : FlowTree). last_place g 0) same)

module _ (q : ProblemParts) (note : ℕ → Atom → Bool) (cs ds : List Condition) (given : Option ℕ) (same : cs ≡ ds) (gives : ShowsLeastUnmet q note cs given) where
  pub least_given : (target : ℕ) → given ≡ Some target → IsLeastUnmet q note ds target
  least_given target is = subst (λ (l : List Condition). IsLeastUnmet q note l target) same (subst (ShowsLeastUnmet q note cs) is gives)

  pub none_given : given ≡ None → (c : Condition) → Has ds c → IsMet q note c
  none_given is = subst (λ (l : List Condition). (c : Condition) → Has l c → IsMet q note c) same (subst (ShowsLeastUnmet q note cs) is gives)
