-- The derived hypotheses, kind by kind.
use Rattle.std.proofs.Common.{◌≡◌, ℕ, List, ◌++◌, append_assoc, ◌∙◌}
use Rattle.std.specs.List.{flat_map}
use Rattle.kat_model.specs.Stores.{modulus}
use Rattle.abstraction.specs.Tables.{Tables}
use Rattle.abstraction.specs.Facts.{Hypothesis, TestRowOf, apart_fact, order_fact, equality_fact, bound_fact, constant_fact, three_way_fact}
use Rattle.abstraction.specs.Derived.{ActionRowOf, assignment_facts, of_pairs}
use Rattle.abstraction.specs.Working.PairFacts.{facts_of}

pub facts_joined : (t : Tables) (m : ℕ) (actions : List ActionRowOf) (rows : List TestRowOf) (old assigned one two three four five new : List Hypothesis) →
    m ≡ modulus t.width →
    assigned ≡ old ++ of_pairs (assignment_facts t) actions rows → one ≡ assigned ++ of_pairs (apart_fact m) rows rows → two ≡ one ++ of_pairs order_fact rows rows →
    three ≡ two ++ of_pairs (equality_fact m) rows rows → four ≡ three ++ of_pairs bound_fact rows rows → five ≡ four ++ of_pairs (constant_fact m) rows rows →
    new ≡ five ++ flat_map (λ a. of_pairs (three_way_fact m a) rows rows) rows → new ≡ old ++ facts_of t actions rows
facts_joined t m actions rows old assigned one two three four five new em e1 e2 e3 e4 e5 e6 e7 =
    e7 ∙ rw (e6, e5, e4, e3, e2, e1, em) (simp append_assoc)
