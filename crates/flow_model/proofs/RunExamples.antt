-- Worked examples: conversions, signed comparisons, and the run of a loop.
use Rattle.std.specs.Prelude.{◌≡◌, refl, [], ◌∷◌, true, false}
use Rattle.kat_model.specs.declared.expression.Rel.TheVariants.{Lt, Eq}
use Rattle.kat_model.specs.declared.expression.Width.TheVariants.{W8, W32}
use Rattle.flow_model.specs.Expressions.{number, variable, plus, applied, argument, no_arguments}
use Rattle.flow_model.specs.Conditions.{compared, compared_signed}
use Rattle.flow_model.specs.declared.sort.Sort.TheVariants.{Number, Opaque}
use Rattle.flow_model.specs.Graphs.{Graph, assign, claim, goto, branch, return}
use Rattle.flow_model.specs.Interpretations.{Interpretation, conversion, value, holds}
use Rattle.flow_model.specs.Runs.{run_from, returned, stuck, unfinished}

-- 200 as a signed byte is -56
extended : conversion true W8 W32 200 ≡ 4294967240
extended = refl

kept : conversion true W8 W32 100 ≡ 100
kept = refl

narrowed : conversion true W32 W8 4294967240 ≡ 200
narrowed = refl

zero_extended : conversion false W8 W32 200 ≡ 200
zero_extended = refl

-- a function gives a number of any size, which is taken modulo 2 to the width of the result
abbrev adds : Interpretation
adds f ns = 300

called : value adds [] (applied 0 (Number W8) (argument (number W8 1) no_arguments)) ≡ 44
called = refl

opaque : value adds [] (applied 0 (Opaque 0) no_arguments) ≡ 300
opaque = refl

-- -56 is less than 1 as a signed byte
below_one : holds adds (200 ∷ []) (compared_signed Lt W8 (variable 0) (number W8 1)) ≡ true
below_one = refl

above_one : holds adds (200 ∷ []) (compared Lt (variable 0) (number W8 1)) ≡ false
above_one = refl

-- i := i + 1 until i == 3, then return i; `i, j := j, i` before it
abbrev count : Graph
count =
    record { is_cut = false; statements = assign (0 ∷ 1 ∷ []) (variable 1 ∷ variable 0 ∷ []) ∷ []; jump = goto 1 }
    ∷ record { is_cut = true; statements = []; jump = branch (compared Eq (variable 0) (number W8 3)) 3 2 }
    ∷ record { is_cut = false; statements = assign (0 ∷ []) (plus W8 (variable 0) (number W8 1) ∷ []) ∷ []; jump = goto 1 }
    ∷ record { is_cut = false; statements = claim (compared Eq (variable 1) (number W8 9)) ∷ []; jump = return (variable 0 ∷ variable 1 ∷ []) }
    ∷ []

counted : run_from adds count 8 0 (9 ∷ 1 ∷ []) ≡ returned (3 ∷ 9 ∷ [])
counted = refl

failed : run_from adds count 8 0 (8 ∷ 1 ∷ []) ≡ stuck
failed = refl

cut_off : run_from adds count 6 0 (9 ∷ 1 ∷ []) ≡ unfinished
cut_off = refl
