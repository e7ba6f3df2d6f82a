-- The hypotheses of an abstraction: the stated ones, those from assignments and comparisons, and facts of arithmetic.
use Rattle.std.specs.Prelude.{ℕ, ◌+◌, List, [], ◌∷◌, ◌++◌, flat_map, Option, Some, None}
use Rattle.std.specs.List.{enumerate_from}
use Rattle.kat_model.specs.Trees.{TestTree, prim, complement, Term, test, act, product}
use Rattle.kat_model.specs.Stores.{modulus}
use Rattle.linear_forms.specs.Comparisons.{substituted}
use Rattle.abstraction.specs.declared.rule.Rule.TheVariants.{Stated, Assign}
use Rattle.abstraction.specs.Comparisons.{Assignment}
use Rattle.abstraction.specs.Tables.{Tables}
use Rattle.abstraction.specs.Tests.{form_test}
use Rattle.abstraction.specs.Facts.{Hypothesis, TestRowOf, apart_fact, order_fact, equality_fact, bound_fact, constant_fact, three_way_fact}

-- the hypotheses that a file states, numbered from k
abbrev pub stated_from : ℕ → List Term → List Hypothesis
stated_from k [] = []
stated_from k (h ∷ hs) = record { rule = Stated k; term = h } ∷ stated_from (k + 1) hs

-- an assignment with its number among the actions
abbrev pub ActionRowOf : Type 0
ActionRowOf = ℕ × Assignment

-- no run of action i from psi ends outside test j, and no run from the complement of psi ends in it
abbrev pub keeps_before : ℕ → ℕ → Option TestTree → List Hypothesis
keeps_before i j None = []
keeps_before i j (Some psi) =
    record { rule = Assign i j; term = product (test psi) (product (act i) (test (complement (prim j)))) }
    ∷ record { rule = Assign i j; term = product (test (complement psi)) (product (act i) (test (prim j))) } ∷ []

-- a comparison holds after an assignment exactly when it holds before it with the form in place of the variable
abbrev pub assignment_facts : Tables → ActionRowOf → TestRowOf → List Hypothesis
assignment_facts t (i, a) (j, phi) = keeps_before i j (form_test t (substituted (modulus t.width) a.var a.form phi))

-- the rows of comparisons and of assignments, with their numbers
abbrev pub test_rows : Tables → List TestRowOf
test_rows t = enumerate_from t.tests t.comparisons

abbrev pub action_rows : Tables → List ActionRowOf
action_rows t = enumerate_from t.actions t.assignments

-- the results for each row of one list with each row of the other, in the order of the first list
abbrev pub of_pairs : {X Y Z : Type 0} → (X → Y → List Z) → List X → List Y → List Z
of_pairs make xs ys = flat_map (λ x. flat_map (make x) ys) xs

-- the hypotheses that hold in every store of the width
abbrev pub derived : Tables → List Hypothesis
derived t =
    of_pairs (assignment_facts t) (action_rows t) (test_rows t)
    ++ of_pairs (apart_fact (modulus t.width)) (test_rows t) (test_rows t)
    ++ of_pairs order_fact (test_rows t) (test_rows t)
    ++ of_pairs (equality_fact (modulus t.width)) (test_rows t) (test_rows t)
    ++ of_pairs bound_fact (test_rows t) (test_rows t)
    ++ of_pairs (constant_fact (modulus t.width)) (test_rows t) (test_rows t)
    ++ flat_map (λ a. of_pairs (three_way_fact (modulus t.width) a) (test_rows t) (test_rows t)) (test_rows t)

-- the stated hypotheses, then the derived ones
abbrev pub hypotheses : Tables → List Term → List Hypothesis
hypotheses t stated = stated_from 0 stated ++ derived t
