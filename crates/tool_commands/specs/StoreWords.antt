-- The store that a word gives: `zero`, or items `NAME=NUMBER` separated by commas.
use Rattle.std.specs.Prelude.{ℕ, List, [], ◌∷◌, map, set, replicate, slice_get, codes, Bool, true, false, ◌==◌, if◌then◌else◌, Option, None, Some, unwrap_or}
use Rattle.std.specs.Option.{option_map, option_and_then}
use Rattle.std.specs.List.{slice_split, before_first, after_first}
use Rattle.std.specs.Str.{bytes_eq}
use Rattle.kat_model.specs.Stores.{modulus, Store}
use Rattle.kat_model.specs.declared.expression.Width.{Width}
use Rattle.text_parser.specs.declared.meaning.Meaning.{Meaning}
use Rattle.text_parser.specs.declared.meaning.Meaning.TheVariants.{Var}
use Rattle.text_parser.specs.ScopeParts.{ScopeParts, meaning}
use Rattle.while_lang.specs.Files.{FileParts}
use Rattle.tool_commands.specs.Numbers.{number_below}

-- the variable with this meaning, if it is a variable
abbrev pub variable_meant : Option Meaning → Option ℕ
variable_meant (Some (Var k)) = Some k
variable_meant m = None

-- an item: the variable named before its first `=`, and the number of the width after it
abbrev pub setting_of : ScopeParts → Width → List ℕ → Option (ℕ × ℕ)
setting_of w width item =
    option_and_then
    (λ k. option_map (λ n. (k, n)) (number_below (modulus width) (after_first (λ b. b == 61) item)))
    (variable_meant (meaning w (before_first (λ b. b == 61) item)))

-- for each variable, from variable 0 on, the value from an item, if any
abbrev pub Values : Type 0
Values = List (Option ℕ)

-- whether the variable exists and has no value yet
abbrev pub is_free : Option (Option ℕ) → Bool
is_free (Some None) = true
is_free _ = false

-- an item gives a value to a variable without one
abbrev pub with_setting : Values → ℕ × ℕ → Option Values
with_setting vs x = if is_free (slice_get vs x.0) then Some (set vs x.0 (Some x.1)) else None

abbrev pub with_item : ScopeParts → Width → Values → List ℕ → Option Values
with_item w width vs item = option_and_then (with_setting vs) (setting_of w width item)

abbrev pub with_items : ScopeParts → Width → Values → List (List ℕ) → Option Values
with_items w width vs [] = Some vs
with_items w width vs (item ∷ items) = option_and_then (λ us. with_items w width us items) (with_item w width vs item)

-- the values that the word gives
abbrev pub values_of : FileParts → List ℕ → Option Values
values_of f word =
    if bytes_eq word (codes "zero") then Some (replicate f.vars None)
    else with_items f.scope f.width (replicate f.vars None) (slice_split (λ b. b == 44) word)

-- the store that the word gives, in which a variable without a value is 0
abbrev pub store_of : FileParts → List ℕ → Option Store
store_of f word = option_map (λ vs. map (λ v. unwrap_or v 0) vs) (values_of f word)
