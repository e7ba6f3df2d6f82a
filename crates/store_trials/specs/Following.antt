-- Stores from which a string can be followed: the tests have the values of its atoms, and its actions are assignments.
use Rattle.std.specs.Prelude.{ℕ, Bool, true, false, not, ◌&&◌, List, [], ◌∷◌, set, slice_get, filter, Option, Some, None}
use Rattle.kat_model.specs.Stores.{modulus, Store}
use Rattle.kat_model.specs.Steps.{Atom}
use Rattle.kat_model.specs.Strings.{Move, GuardedString}
use Rattle.linear_forms.specs.Values.{form_value}
use Rattle.abstraction.specs.declared.rows.ActionRow.{ActionRow}
use Rattle.abstraction.specs.declared.rows.ActionRow.TheVariants as action
use Rattle.abstraction.specs.declared.rows.TestRow.{TestRow}
use Rattle.abstraction.specs.Abstracts.{AbstractParts}
use Rattle.abstraction.specs.StoreFrames.{row_holds}

-- whether the second truth value is the first
abbrev pub is_value : Bool → Bool → Bool
is_value true c = c
is_value false c = not c

-- whether the tests have the values of the atom in a store; `m` is the number of values of a variable
abbrev pub has_values : ℕ → Store → List TestRow → Atom → Bool
has_values m s [] [] = true
has_values m s [] (b ∷ bs) = false
has_values m s (row ∷ rows) [] = false
has_values m s (row ∷ rows) (b ∷ bs) = is_value b (row_holds m s row) && has_values m s rows bs

-- the store after an action, if it is an assignment
abbrev pub store_after : ℕ → Option ActionRow → Store → Option Store
store_after m None s = None
store_after m (Some (action.Named k)) s = None
store_after m (Some (action.Assign x f)) s = Some (set s x (form_value m s f))

-- whether the moves can be followed from a store: the action before a move leads to a store with its atom, and the rest
-- can be followed from there
abbrev pub followed_on : AbstractParts → Move → (Store → Bool) → Option Store → Bool
followed_on a v rest None = false
followed_on a v rest (Some t) = has_values (modulus a.width) t a.tests v.atom && rest t

abbrev pub moves_followed : AbstractParts → List Move → Store → Bool
moves_followed a [] s = true
moves_followed a (v ∷ vs) s = followed_on a v (λ t. moves_followed a vs t) (store_after (modulus a.width) (slice_get a.actions v.act) s)

-- whether the string can be followed from a store
abbrev pub is_followed : AbstractParts → GuardedString → Store → Bool
is_followed a x s = has_values (modulus a.width) s a.tests x.first && moves_followed a x.rest s

-- the stores of the list from which the string can be followed
abbrev pub followers : AbstractParts → GuardedString → List Store → List Store
followers a x stores = filter (is_followed a x) stores
