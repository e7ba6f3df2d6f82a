-- The forms that an action sets.
use Rattle.std.proofs.Common.{◌≡◌, ℕ, suc, ◌+◌, ◌≤◌, ◌<◌, Bool, not, ◌&&◌, IsTrue, ◌↔◌, List, [], ◌∷◌, ◌++◌, length, Option, Some, None, if◌then◌else◌, refl, ◌∙◌, ap, arith}
use mathlib.Core.Path.{ap₂}
use Rattle.std.specs.Ordering.{is_eq}
use Rattle.flow_model.specs.declared.sort.Sort.{Sort}
use Rattle.flow_forms.specs.Forms.{FlowFormTree, variable}
use Rattle.flow_forms.specs.Order.{form_cmp}
use Rattle.flow_forms.specs.Expressions.{form_of_cell}
use Rattle.flow_forms.proofs.SameComparisons.{form_answers}
use Rattle.flow_ways.specs.Actions.{is_own, action_from}
use Rattle.flow_ways.proofs.CourseLists.{pushed_then}

pub own_answers : (r : Bool) (k : ℕ) (sort : Sort) (f own : FlowFormTree) → own ≡ form_of_cell sort (variable k) → IsTrue r ↔ (f ≡ own) → r ≡ is_own k sort f
own_answers r k sort f own e h = form_answers r f own h ∙ ap (λ x. is_eq (form_cmp f x)) e

pub set_then : (k : ℕ) (live : ℕ → Bool) (sorts : List Sort) (fs : List FlowFormTree) (set : Option FlowFormTree) (old mid new : List (Option FlowFormTree)) → mid ≡ old ++ set ∷ [] → new ≡ mid ++ action_from (k + 1) live sorts fs → new ≡ old ++ set ∷ action_from (suc k) live sorts fs
set_then k live sorts fs set old mid new e f =
    let next : k + 1 ≡ suc k = omega arith in
    pushed_then old mid new (action_from (k + 1) live sorts fs) set e f ∙ ap (λ n. old ++ set ∷ action_from n live sorts fs) next

-- only what is live of the variables that there are counts
pub action_same : (live other : ℕ → Bool) (k : ℕ) (sorts : List Sort) (fs : List FlowFormTree) → ((x : ℕ) → k ≤ x → x < k + length sorts → live x ≡ other x) → action_from k live sorts fs ≡ action_from k other sorts fs
action_same live other k [] fs h = refl
action_same live other k (sort ∷ sorts) [] h = refl
action_same live other k (sort ∷ sorts) (f ∷ fs) h =
    ap₂ (λ o os. o ∷ os)
    (ap (λ b. if b && not (is_own k sort f) then Some f else None) (h k (omega arith) (omega arith)))
    (action_same live other (suc k) sorts fs (λ x p q. h x (omega (arith, p)) (omega (arith, q))))
