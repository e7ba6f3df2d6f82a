-- Forms and comparisons as people write them: numbers above half of the numbers of a width are written with a minus sign.
use Rattle.std.specs.Prelude.{ℕ, ◌/◌, List, [], ◌++◌, codes, Bool, true, false, ◌&&◌, not, nat_eq, nat_lt, if◌then◌else◌, Option, Some, None}
use Rattle.std.specs.Fmt.{decimal}
use Rattle.text_parser.specs.declared.meaning.Meaning.{Meaning}
use Rattle.text_parser.specs.declared.meaning.Meaning.TheVariants.{Test, Action, Var}
use Rattle.linear_forms.specs.Forms.{FormTree, constant, var_term, product_term}
use Rattle.linear_forms.specs.Comparisons.{negative_number}
use Rattle.linear_forms.specs.declared.comparison.Atomic.{Atomic}
use Rattle.linear_forms.specs.declared.comparison.Atomic.TheVariants.{Zero, Less}
use Rattle.abstraction.specs.declared.rows.ActionRow.{ActionRow}
use Rattle.abstraction.specs.declared.rows.ActionRow.TheVariants as action
use Rattle.abstraction.specs.declared.rows.TestRow.{TestRow}
use Rattle.abstraction.specs.declared.rows.TestRow.TheVariants as test
use Rattle.kat_report.specs.Shows.{plus_text, times_text}

-- ---- numbers

-- whether two truth values are the same
abbrev pub is_same : Bool → Bool → Bool
is_same true b = b
is_same false b = not b

-- whether a number is above half of the numbers modulo m, and the number without the sign that it is written with
abbrev pub is_negative : ℕ → ℕ → Bool
is_negative m n = nat_lt (m / 2) n

abbrev pub magnitude : ℕ → ℕ → ℕ
magnitude m n = if is_negative m n then negative_number m n else n

-- the sign of a part of a sum
abbrev pub sign_text : Bool → Bool → List ℕ
sign_text true true = codes "0 - "
sign_text true false = []
sign_text false true = codes " - "
sign_text false false = codes " + "

-- ---- forms

-- the terms of a form with their signs, then its constant; a form that is only a constant is written as it is
abbrev pub signed_sum : ℕ → (Meaning → List ℕ) → Bool → FormTree → List ℕ
signed_sum m names true (constant c) = decimal c
signed_sum m names false (constant c) = if nat_eq c 0 then [] else sign_text false (is_negative m c) ++ decimal (magnitude m c)
signed_sum m names first (var_term k t rest) =
    sign_text first (is_negative m t) ++ times_text (magnitude m t) ++ names (Var k) ++ signed_sum m names false rest
signed_sum m names first (product_term f g t rest) =
    sign_text first (is_negative m t) ++ times_text (magnitude m t)
    ++ codes "(" ++ signed_sum m names true f ++ codes ")*(" ++ signed_sum m names true g ++ codes ")" ++ signed_sum m names false rest

abbrev pub signed_text : ℕ → (Meaning → List ℕ) → FormTree → List ℕ
signed_text m names f = signed_sum m names true f

-- a part of a form with this coefficient, if the coefficient has this sign; and whether no part was written yet
abbrev pub half_part : ℕ → Bool → Bool → ℕ → List ℕ → List ℕ
half_part m side first t text = if is_same (is_negative m t) side then plus_text first ++ times_text (magnitude m t) ++ text else []

abbrev pub still_first : ℕ → Bool → Bool → ℕ → Bool
still_first m side first t = first && not (is_same (is_negative m t) side)

-- the parts of a form with this sign, as a sum without signs; 0 if there is none
abbrev pub half_sum : ℕ → Bool → (Meaning → List ℕ) → Bool → FormTree → List ℕ
half_sum m side names true (constant c) = if is_same (is_negative m c) side then decimal (magnitude m c) else codes "0"
half_sum m side names false (constant c) = if is_same (is_negative m c) side && not (nat_eq c 0) then codes " + " ++ decimal (magnitude m c) else []
half_sum m side names first (var_term k t rest) =
    half_part m side first t (names (Var k)) ++ half_sum m side names (still_first m side first t) rest
half_sum m side names first (product_term f g t rest) =
    half_part m side first t (codes "(" ++ signed_sum m names true f ++ codes ")*(" ++ signed_sum m names true g ++ codes ")")
    ++ half_sum m side names (still_first m side first t) rest

abbrev pub half_text : ℕ → Bool → (Meaning → List ℕ) → FormTree → List ℕ
half_text m side names f = half_sum m side names true f

-- ---- comparisons and rows

-- a comparison that is true or false in a state. That a form is 0 is written as an equation of its two halves.
abbrev pub equation_word : Bool → List ℕ
equation_word true = codes " == "
equation_word false = codes " != "

abbrev pub order_word : Bool → List ℕ
order_word true = codes " < "
order_word false = codes " >= "

abbrev pub comparison_text : ℕ → (Meaning → List ℕ) → Bool → Atomic → List ℕ
comparison_text m names value (Zero f) = half_text m false names f ++ equation_word value ++ half_text m true names f
comparison_text m names value (Less f g) = signed_text m names f ++ order_word value ++ signed_text m names g

-- a test with its value: its name, with `!` if it is false, or its comparison
abbrev pub literal_text : ℕ → (Meaning → List ℕ) → Bool → TestRow → List ℕ
literal_text m names true (test.Named k) = names (Test k)
literal_text m names false (test.Named k) = codes "!" ++ names (Test k)
literal_text m names value (test.Compare a) = comparison_text m names value a

-- an action: its name, or its assignment
abbrev pub action_text : ℕ → (Meaning → List ℕ) → ActionRow → List ℕ
action_text m names (action.Named k) = names (Action k)
action_text m names (action.Assign x f) = names (Var x) ++ codes " := " ++ signed_text m names f

-- the same of a row that may be missing
abbrev pub test_at_text : ℕ → (Meaning → List ℕ) → Option TestRow → List ℕ
test_at_text m names None = []
test_at_text m names (Some row) = literal_text m names true row

abbrev pub action_at_text : ℕ → (Meaning → List ℕ) → Option ActionRow → List ℕ
action_at_text m names None = []
action_at_text m names (Some row) = action_text m names row
