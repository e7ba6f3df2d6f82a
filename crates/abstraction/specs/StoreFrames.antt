-- The stores of a file as a Kripke frame: tests are the truth of comparisons, and actions set variables.
use Rattle.std.specs.Prelude.{◌≡◌, ℕ, Bool, false, map, set, slice_get, Option, Some, None}
use Rattle.kat_model.specs.Trees.{Term}
use Rattle.kat_model.specs.Stores.{modulus, Store}
use Rattle.kat_model.specs.Relations.{Frame, RelatesIn}
use Rattle.linear_forms.specs.Values.{form_value}
use Rattle.linear_forms.specs.Comparisons.{atomic_holds}
use Rattle.while_lang.specs.Files.{FileParts}
use Rattle.while_lang.specs.Concrete.{IsStoreOf}
use Rattle.abstraction.specs.declared.rows.ActionRow.{ActionRow}
use Rattle.abstraction.specs.declared.rows.ActionRow.TheVariants as action
use Rattle.abstraction.specs.declared.rows.TestRow.{TestRow}
use Rattle.abstraction.specs.declared.rows.TestRow.TheVariants as test
use Rattle.abstraction.specs.Abstracts.{AbstractParts}

-- whether a test holds in a store; a declared test, which has no meaning in a store, is false
abbrev pub row_holds : ℕ → Store → TestRow → Bool
row_holds m s (test.Named k) = false
row_holds m s (test.Compare a) = atomic_holds m s a

-- an assignment sets its variable to the value of its form; a declared action relates no stores
abbrev pub Sets : ℕ → Option ActionRow → Store → Store → Type 0
Sets m (Some (action.Assign x f)) s t = t ≡ set s x (form_value m s f)
Sets m (Some (action.Named a)) s t = ⊥
Sets m None s t = ⊥

abbrev pub store_frame : FileParts → AbstractParts → Frame Store
store_frame f a = record {
  IsState = IsStoreOf f;
  atom = λ s. map (row_holds (modulus a.width) s) a.tests;
  Acts = λ k s t. Sets (modulus a.width) (slice_get a.actions k) s t;
}

-- the term leads from one store of the file to another
abbrev pub Moves : FileParts → AbstractParts → Term → Store → Store → Type 0
Moves f a e s t = RelatesIn (store_frame f a) e s t
