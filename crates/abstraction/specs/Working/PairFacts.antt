-- The facts of two comparisons, and all hypotheses that follow from some assignments and comparisons.
use Rattle.std.specs.Prelude.{ℕ, List, ◌++◌, flat_map}
use Rattle.kat_model.specs.Stores.{modulus}
use Rattle.abstraction.specs.declared.hypotheses.PairFact.{PairFact}
use Rattle.abstraction.specs.declared.hypotheses.PairFact.TheVariants.{Apart, Order, Equality, Bound, Constant}
use Rattle.abstraction.specs.Tables.{Tables}
use Rattle.abstraction.specs.Facts.{Hypothesis, TestRowOf, apart_fact, order_fact, equality_fact, bound_fact, constant_fact, three_way_fact}
use Rattle.abstraction.specs.Derived.{ActionRowOf, assignment_facts, of_pairs}

abbrev pub pair_fact : PairFact → ℕ → TestRowOf → TestRowOf → List Hypothesis
pair_fact Apart m a b = apart_fact m a b
pair_fact Order m a b = order_fact a b
pair_fact Equality m a b = equality_fact m a b
pair_fact Bound m a b = bound_fact a b
pair_fact Constant m a b = constant_fact m a b

abbrev pub facts_of : Tables → List ActionRowOf → List TestRowOf → List Hypothesis
facts_of t actions rows =
    of_pairs (assignment_facts t) actions rows
    ++ of_pairs (pair_fact Apart (modulus t.width)) rows rows
    ++ of_pairs (pair_fact Order (modulus t.width)) rows rows
    ++ of_pairs (pair_fact Equality (modulus t.width)) rows rows
    ++ of_pairs (pair_fact Bound (modulus t.width)) rows rows
    ++ of_pairs (pair_fact Constant (modulus t.width)) rows rows
    ++ flat_map (λ a. of_pairs (three_way_fact (modulus t.width) a) rows rows) rows
