-- The action of a way gives live variables the values that they have at the end of the way.
use Rattle.std.proofs.Common.{◌≡◌, ℕ, zero, suc, ◌+◌, Bool, true, false, not, ◌&&◌, List, [], ◌∷◌, length, Option, Some, None, slice_index_or, if◌then◌else◌, refl, sym, ◌∙◌, ap, subst, arith}
use Rattle.std.proofs.lemmas.Nat.{mod_below}
use Rattle.kat_model.specs.Stores.{modulus}
use Rattle.linear_forms.proofs.SameOrder.{is_eq-true}
use Rattle.flow_model.specs.declared.sort.Sort.{Sort}
use Rattle.flow_model.specs.declared.sort.Sort.TheVariants.{Number, Opaque}
use Rattle.flow_model.specs.Sorts.{State, IsState, IsValue}
use Rattle.flow_model.specs.Graphs.{Graph}
use Rattle.flow_model.specs.Interpretations.{Interpretation}
use Rattle.flow_forms.specs.Forms.{FlowFormTree, variable}
use Rattle.flow_forms.specs.Order.{form_cmp}
use Rattle.flow_forms.specs.Values.{polynomial, form_value}
use Rattle.flow_forms.specs.Expressions.{form_of_cell}
use Rattle.flow_forms.proofs.EquationValues.{positive}
use Rattle.flow_forms.proofs.SameForms.{same_form as equal_forms}
use Rattle.flow_ways.specs.Ways.{at_place, state_of}
use Rattle.flow_ways.specs.Stops.{Stop, came_to, returned, stuck, unfinished, stop_from, EndsAs}
use Rattle.flow_ways.specs.Sorted.{IsSortedGraph}
use Rattle.flow_ways.specs.Actions.{is_own, action_from, new_value, after_from, Acts, ActsAsRun}
use Rattle.flow_ways.proofs.States.{own_value}
use Rattle.flow_ways.proofs.WaysAreRuns.{ways_are_runs, way_lengths}

-- the value of a form is one of its sort
value_of_sort : (I : Interpretation) (s : State) (sort : Sort) (f : FlowFormTree) → IsValue sort (form_value I s sort f)
value_of_sort I s (Number w) f = mod_below (polynomial I s f) (modulus w) (positive w)
value_of_sort I s (Opaque k) f = tt

new_value_of_sort : (I : Interpretation) (s : State) (sort : Sort) (n : ℕ) (o : Option FlowFormTree) → IsValue sort n → IsValue sort (new_value I s sort n o)
new_value_of_sort I s sort n None h = h
new_value_of_sort I s sort n (Some f) h = value_of_sort I s sort f

state_after : (I : Interpretation) (s : State) (sorts : List Sort) (os : List (Option FlowFormTree)) (ns : State) → IsState sorts ns → IsState sorts (after_from I s sorts os ns)
state_after I s [] os [] h = h
state_after I s [] os (n ∷ ns) h = absurd h
state_after I s (sort ∷ sorts) os [] h = absurd h
state_after I s (sort ∷ sorts) [] (n ∷ ns) h = h
state_after I s (sort ∷ sorts) (o ∷ os) (n ∷ ns) h = (new_value_of_sort I s sort n o h.0, state_after I s sorts os ns h.1)

-- a live variable has the value of its form
set_value : (I : Interpretation) (s : State) (k : ℕ) (sort : Sort) (f : FlowFormTree) (n : ℕ) (alive own : Bool) → (own ≡ true → f ≡ form_of_cell sort (variable k)) → slice_index_or s k 0 ≡ n → IsValue sort n → alive ≡ true →
    new_value I s sort n (if alive && not own then Some f else None) ≡ form_value I s sort f
set_value I s k sort f n false own p e o h = absurd cc
set_value I s k sort f n true true p e o h = sym (ap (form_value I s sort) (p refl) ∙ own_value I s sort k n e o)
set_value I s k sort f n true false p e o h = refl

agree_from : (I : Interpretation) (s : State) (live : ℕ → Bool) (k : ℕ) (sorts : List Sort) (fs : List FlowFormTree) (ns : State) → length fs ≡ length sorts → ((j : ℕ) → slice_index_or s (k + j) 0 ≡ slice_index_or ns j 0) → IsState sorts ns →
    (x : ℕ) → live (k + x) ≡ true → slice_index_or (after_from I s sorts (action_from k live sorts fs) ns) x 0 ≡ slice_index_or (state_of I s sorts fs) x 0
agree_from I s live k [] fs [] l h o x e = refl
agree_from I s live k [] fs (n ∷ ns) l h o x e = absurd o
agree_from I s live k (sort ∷ sorts) [] ns l h o x e = absurd (omega (arith, l))
agree_from I s live k (sort ∷ sorts) (f ∷ fs) [] l h o x e = absurd o
agree_from I s live k (sort ∷ sorts) (f ∷ fs) (n ∷ ns) l h o zero e =
    set_value I s k sort f n (live k) (is_own k sort f)
    (λ q. equal_forms f (form_of_cell sort (variable k)) (is_eq-true (form_cmp f (form_of_cell sort (variable k))) q))
    (ap (λ i. slice_index_or s i 0) (omega arith) ∙ h 0) o.0 (ap live (omega arith) ∙ e)
agree_from I s live k (sort ∷ sorts) (f ∷ fs) (n ∷ ns) l h o (suc x) e =
    agree_from I s live (suc k) sorts fs ns (omega (arith, l))
    (λ j. ap (λ i. slice_index_or s i 0) (omega arith) ∙ h (suc j)) o.1 x
    (ap live (omega arith) ∙ e)

pub acts : (I : Interpretation) (s : State) (sorts : List Sort) (live : ℕ → Bool) (forms : List FlowFormTree) → length forms ≡ length sorts → IsState sorts s → Acts I s sorts live forms (state_of I s sorts forms)
acts I s sorts live forms l o = record {
  is_state = state_after I s sorts (action_from 0 live sorts forms) s o;
  agrees = λ x e. agree_from I s live 0 sorts forms s l (λ j. ap (λ i. slice_index_or s i 0) (omega arith)) o x (ap live (omega arith) ∙ e);
}

came_there : (I : Interpretation) (s : State) (sorts : List Sort) (l : ℕ) (forms : List FlowFormTree) (stop : Stop) → EndsAs I s sorts (at_place l forms) stop → stop ≡ came_to l (state_of I s sorts forms)
came_there I s sorts l forms (came_to k t) (p, q) = rw (p, q) refl
came_there I s sorts l forms (returned vs) h = absurd h
came_there I s sorts l forms stuck h = absurd h
came_there I s sorts l forms unfinished h = absurd h

pub acts_as_run : (I : Interpretation) (g : Graph) (sorts : List Sort) (is_place : ℕ → Bool) (live : ℕ → ℕ → Bool) (k : ℕ) (s : State) → IsSortedGraph sorts g → IsState sorts s → ActsAsRun I g sorts is_place live k s
acts_as_run I g sorts is_place live k s o p way l forms h e all =
    let ends = (ways_are_runs I g sorts is_place k s o p).sound way h all in (
      state_of I s sorts forms,
      came_there I s sorts l forms (stop_from I g is_place (length g) k s) (subst (λ x. EndsAs I s sorts x (stop_from I g is_place (length g) k s)) e ends),
      acts I s sorts (live l) forms (way_lengths g sorts is_place k way h l forms e) p,
    )
