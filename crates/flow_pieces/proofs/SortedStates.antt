-- Runs of sorted graphs keep states: an expression of a sort has a value of the sort.
use Rattle.std.proofs.Common.{◌≡◌, ℕ, zero, suc, ◌+◌, ◌-◌, ◌*◌, ◌^◌, Bool, true, false, List, [], ◌∷◌, length, map, set, Option, Some, None, slice_get, slice_index_or, if◌then◌else◌, refl, sym, ap, subst}
use Rattle.std.proofs.lemmas.Nat.{mod_below}
use Rattle.kat_model.specs.Stores.{modulus}
use Rattle.flow_model.specs.declared.sort.Sort.{Sort}
use Rattle.flow_model.specs.declared.sort.Sort.TheVariants.{Number, Opaque}
use Rattle.flow_model.specs.Sorts.{State, IsState, IsValue}
use Rattle.flow_model.specs.Expressions.{ExprTree}
use Rattle.flow_model.specs.Expressions as expr
use Rattle.flow_model.specs.Graphs.{StatementTree, assign, claim, JumpTree, goto, branch, return, abort, Block, Graph}
use Rattle.flow_model.specs.Interpretations.{Interpretation, is_negative, first, values, value, holds}
use Rattle.flow_model.specs.Runs.{with_values, after_statements}
use Rattle.flow_forms.specs.Expressions.{or_number, sort_of, IsSorted}
use Rattle.flow_forms.proofs.EquationValues.{positive}
use Rattle.flow_ways.specs.Sorted.{AreAssigned, AreSortedStatements, IsSortedBlock, IsSortedGraph}
use Rattle.flow_ways.specs.Stops.{Stop, came_to, jump_stop_if, block_stop, stop_from}

-- where the run reaches a block, it has a state there
abbrev pub IsStateAt : List Sort → Stop → Type 0
IsStateAt sorts (came_to k s) = IsState sorts s
IsStateAt sorts stop = Unit {0}

pub state_length : (sorts : List Sort) (s : State) → IsState sorts s → length s ≡ length sorts
state_length [] [] h = refl
state_length [] (n ∷ s) h = absurd h
state_length (sort ∷ sorts) [] h = absurd h
state_length (sort ∷ sorts) (n ∷ s) h = ap suc (state_length sorts s h.1)

variable_value : (sorts : List Sort) (s : State) (k : ℕ) (sort : Sort) → IsState sorts s → slice_get sorts k ≡ Some sort → IsValue sort (slice_index_or s k 0)
variable_value [] s zero sort h e = absurd cc
variable_value [] s (suc k) sort h e = absurd cc
variable_value (x ∷ sorts) [] k sort h e = absurd h
variable_value (x ∷ sorts) (n ∷ s) zero sort h e = let same : x ≡ sort = cc in subst (λ y. IsValue y n) same h.0
variable_value (x ∷ sorts) (n ∷ s) (suc k) sort h e = variable_value sorts s k sort h.1 e

pub value_of_sort : (I : Interpretation) (sorts : List Sort) (s : State) → IsState sorts s → (e : ExprTree) → IsSorted sorts false e → IsValue (sort_of sorts e) (value I s e)
value_of_sort I sorts s is (expr.number w n) h = mod_below n (modulus w) (positive w)
value_of_sort I sorts s is (expr.variable k) (sort, e) = subst (λ o. IsValue (or_number o) (slice_index_or s k 0)) (sym e) (variable_value sorts s k sort is e)
value_of_sort I sorts s is (expr.plus w e f) h = mod_below (first (values I s e) + first (values I s f)) (modulus w) (positive w)
value_of_sort I sorts s is (expr.minus w e f) h = mod_below (first (values I s e) + (modulus w - first (values I s f))) (modulus w) (positive w)
value_of_sort I sorts s is (expr.times w e f) h = mod_below (first (values I s e) * first (values I s f)) (modulus w) (positive w)
value_of_sort I sorts s is (expr.converted false from to e) h = mod_below (first (values I s e)) (modulus to) (positive to)
value_of_sort I sorts s is (expr.converted true from to e) h =
    mod_below (if is_negative from (first (values I s e)) then first (values I s e) + (2 ^ 64 - modulus from) else first (values I s e)) (modulus to) (positive to)
value_of_sort I sorts s is (expr.applied f (Number w) args) h = mod_below (I f (values I s args)) (modulus w) (positive w)
value_of_sort I sorts s is (expr.applied f (Opaque k) args) h = tt
value_of_sort I sorts s is expr.no_arguments h = absurd h
value_of_sort I sorts s is (expr.argument e rest) h = absurd h

set_state : (sorts : List Sort) (s : State) (k n : ℕ) (sort : Sort) → IsState sorts s → slice_get sorts k ≡ Some sort → IsValue sort n → IsState sorts (set s k n)
set_state [] s zero n sort h e v = absurd cc
set_state [] s (suc k) n sort h e v = absurd cc
set_state (x ∷ sorts) [] k n sort h e v = absurd h
set_state (x ∷ sorts) (m ∷ s) zero n sort h e v = let same : x ≡ sort = cc in (subst (λ y. IsValue y n) (sym same) v, h.1)
set_state (x ∷ sorts) (m ∷ s) (suc k) n sort h e v = (h.0, set_state sorts s k n sort h.1 e v)

-- a parallel assignment of values in the state t
pub assigned_state : (I : Interpretation) (sorts : List Sort) (t : State) → IsState sorts t → (s : State) → IsState sorts s → (ks : List ℕ) (es : List ExprTree) → AreAssigned sorts ks es → IsState sorts (with_values s ks (map (value I t) es))
assigned_state I sorts t other s is [] [] h = is
assigned_state I sorts t other s is [] (e ∷ es) h = absurd h
assigned_state I sorts t other s is (k ∷ ks) [] h = absurd h
assigned_state I sorts t other s is (k ∷ ks) (e ∷ es) (at, sorted, rest) =
    assigned_state I sorts t other (set s k (value I t e)) (set_state sorts s k (value I t e) (sort_of sorts e) is at (value_of_sort I sorts t other e sorted)) ks es rest

abbrev IsStateIf : List Sort → Option State → Type 0
IsStateIf sorts None = Unit {0}
IsStateIf sorts (Some s) = IsState sorts s

statements_state : (I : Interpretation) (sorts : List Sort) (stmts : List StatementTree) (s : State) → AreSortedStatements sorts stmts → IsState sorts s → IsStateIf sorts (after_statements I s stmts)
statements_state I sorts [] s h is = is
statements_state I sorts (assign ks es ∷ rest) s h is = statements_state I sorts rest (with_values s ks (map (value I s) es)) h.1 (assigned_state I sorts s is s is ks es h.0)
statements_state I sorts (claim b ∷ rest) s h is = by_truth (holds I s b) (statements_state I sorts rest s h.1 is)
  where
    by_truth : (c : Bool) → IsStateIf sorts (after_statements I s rest) → IsStateIf sorts (if c then after_statements I s rest else None)
    by_truth true later = later
    by_truth false later = tt

pub sorted_block : (sorts : List Sort) (g : Graph) (k : ℕ) (block : Block) → IsSortedGraph sorts g → slice_get g k ≡ Some block → IsSortedBlock sorts block
sorted_block sorts [] zero block h e = absurd cc
sorted_block sorts [] (suc k) block h e = absurd cc
sorted_block sorts (b ∷ g) zero block h e = let same : b ≡ block = cc in subst (IsSortedBlock sorts) same h.0
sorted_block sorts (b ∷ g) (suc k) block h e = sorted_block sorts g k block h.1 e

module _ (I : Interpretation) (sorts : List Sort) where
  abbrev StaysAt : (ℕ → State → Stop) → Type 0
  StaysAt go = (k : ℕ) (s : State) → IsState sorts s → IsStateAt sorts (go k s)

  jump_state : (go : ℕ → State → Stop) → StaysAt go → (jump : JumpTree) (o : Option State) → IsStateIf sorts o → IsStateAt sorts (jump_stop_if I go jump o)
  jump_state go f jump None is = tt
  jump_state go f (goto k) (Some s) is = f k s is
  jump_state go f (branch b k l) (Some s) is = f (if holds I s b then k else l) s is
  jump_state go f (return es) (Some s) is = tt
  jump_state go f abort (Some s) is = tt

  module _ (g : Graph) (is_place : ℕ → Bool) (sorted : IsSortedGraph sorts g) where
    pub stop_state : (n k : ℕ) (s : State) → IsState sorts s → IsStateAt sorts (stop_from I g is_place n k s)
    stop_state zero k s is = tt
    stop_state (suc n) k s is = by_block (next (λ l t it. stop_state n l t it)) (slice_get g k) refl
      where
        next : StaysAt (stop_from I g is_place n) → StaysAt (λ l t. if is_place l then came_to l t else stop_from I g is_place n l t)
        next later l t it = by_place (is_place l)
          where
            by_place : (b : Bool) → IsStateAt sorts (if b then came_to l t else stop_from I g is_place n l t)
            by_place true = it
            by_place false = later l t it

        by_block : StaysAt (λ l t. if is_place l then came_to l t else stop_from I g is_place n l t) → (o : Option Block) → slice_get g k ≡ o → IsStateAt sorts (block_stop I (λ l t. if is_place l then came_to l t else stop_from I g is_place n l t) o s)
        by_block on None e = tt
        by_block on (Some block) e =
            jump_state (λ l t. if is_place l then came_to l t else stop_from I g is_place n l t) on block.jump (after_statements I s block.statements)
            (statements_state I sorts block.statements s (sorted_block sorts g k block sorted e).0 is)
