-- No derived hypothesis relates two stores of the file.
use Rattle.std.proofs.Common.{◌≡◌, ◌≤◌, ◌+◌, ℕ, suc, flat_map, List, [], ◌∷◌, ◌++◌, length, map, slice_get, All, Bool, true, false, if◌then◌else◌, nat_lt, Ok, Err, Some, refl, sym, ap, ◌∙◌, subst}
use Rattle.std.proofs.lemmas.List.Elements.{All-append, All-weaker, All-map}
use Rattle.std.proofs.lemmas.List.{map-append, length-map}
use Rattle.kat_model.specs.Trees.{Term}
use Rattle.kat_model.specs.Stores.{Store, modulus}
use Rattle.kat_model.specs.Relations.{Frame}
use Rattle.kat_model.specs.declared.limits.TheConstants.{MAX_TESTS, MAX_ACTIONS, MAX_TERM_NODES}
use Rattle.kat_model.specs.Problems.{problem_size}
use Rattle.linear_forms.proofs.StoredValues.{modulus_above_one}
use Rattle.while_lang.specs.Files.{FileParts}
use Rattle.abstraction.specs.declared.fault.AbstractFault.TheVariants.{TooManyTests, TooManyActions, ProblemTooLarge}
use Rattle.abstraction.specs.Tables.{Tables, first_comparisons, file_assignments}
use Rattle.abstraction.specs.Rounds.{tables_of}
use Rattle.abstraction.specs.Facts.{Hypothesis, TestRowOf, apart_fact, order_fact, equality_fact, bound_fact, constant_fact, three_way_fact}
use Rattle.abstraction.specs.Derived.{stated_from, assignment_facts, test_rows, action_rows, of_pairs, derived, hypotheses}
use Rattle.abstraction.specs.Abstracts.{AbstractParts, file_problem, abstract_parts, abstract_of, HasNumbersInRange}
use Rattle.abstraction.specs.StoreFrames.{Sets, store_frame}
use Rattle.abstraction.specs.Laws.{DerivedHold}
use Rattle.abstraction.proofs.EachElement.{All-flat_map}
use Rattle.abstraction.proofs.EachDerived.{All-of_pairs, All-slice_get_past}
use Rattle.abstraction.proofs.TableForms.{assignments_in_range, comparisons_atomic}
use Rattle.kat_model.proofs.RelatesNothing.{RelatesNone}
use Rattle.abstraction.proofs.TestRows.{IsTestRow}
use Rattle.abstraction.proofs.FactsHold.{HoldsIn, apart_fact_holds, order_fact_holds, equality_fact_holds, bound_fact_holds, constant_fact_holds, three_way_fact_holds}
use Rattle.abstraction.proofs.AssignmentFacts.{IsActionRow, assignment_facts_hold}
use Rattle.abstraction.proofs.StoreRows.{are_test_rows, are_action_rows}

-- for a frame whose tests are the truth of comparisons, and whose actions are assignments
module _ (frame : Frame Store) (t : Tables) (tests : All (IsTestRow (modulus t.width) frame.atom) (test_rows t)) (actions : All (IsActionRow (modulus t.width) frame) (action_rows t)) where
  abbrev m : ℕ
  m = modulus t.width

  abbrev Each : List Hypothesis → Type 0
  Each = All (HoldsIn frame)

  of_tests : (make : TestRowOf → TestRowOf → List Hypothesis) → ((a b : TestRowOf) → IsTestRow m frame.atom a → IsTestRow m frame.atom b → Each (make a b))
      → Each (of_pairs make (test_rows t) (test_rows t))
  of_tests make each = All-of_pairs (HoldsIn frame) (IsTestRow m frame.atom) (IsTestRow m frame.atom) make each (test_rows t) (test_rows t) tests tests

  of_actions : Each (of_pairs (assignment_facts t) (action_rows t) (test_rows t))
  of_actions =
      All-of_pairs (HoldsIn frame) (IsActionRow m frame) (IsTestRow m frame.atom) (assignment_facts t)
      (assignment_facts_hold frame t tests) (action_rows t) (test_rows t) actions tests

  of_threes : Each (flat_map (λ a. of_pairs (three_way_fact m a) (test_rows t) (test_rows t)) (test_rows t))
  of_threes =
      All-flat_map (HoldsIn frame) (λ a. of_pairs (three_way_fact m a) (test_rows t) (test_rows t)) (test_rows t)
      (All-weaker (IsTestRow m frame.atom) (λ a. Each (of_pairs (three_way_fact m a) (test_rows t) (test_rows t)))
      (λ a p. of_tests (three_way_fact m a) (λ b c q r. three_way_fact_holds m (modulus_above_one t.width) frame a b c p q r)) (test_rows t) tests)

  both : (xs ys : List Hypothesis) → Each xs → Each ys → Each (xs ++ ys)
  both = All-append (HoldsIn frame)

  pub derived_relate_none : Each (derived t)
  derived_relate_none =
      let h = modulus_above_one t.width in
      both _ (flat_map (λ a. of_pairs (three_way_fact m a) (test_rows t) (test_rows t)) (test_rows t))
      (both _ (of_pairs (constant_fact m) (test_rows t) (test_rows t))
      (both _ (of_pairs bound_fact (test_rows t) (test_rows t))
      (both _ (of_pairs (equality_fact m) (test_rows t) (test_rows t))
      (both _ (of_pairs order_fact (test_rows t) (test_rows t))
      (both (of_pairs (assignment_facts t) (action_rows t) (test_rows t)) (of_pairs (apart_fact m) (test_rows t) (test_rows t))
      of_actions
      (of_tests (apart_fact m) (apart_fact_holds m h frame)))
      (of_tests order_fact (order_fact_holds m h frame)))
      (of_tests (equality_fact m) (equality_fact_holds m h frame)))
      (of_tests bound_fact (bound_fact_holds m h frame)))
      (of_tests (constant_fact m) (constant_fact_holds m h frame)))
      of_threes

length-stated_from : (k : ℕ) (hs : List Term) → length (stated_from k hs) ≡ length hs
length-stated_from k [] = refl
length-stated_from k (h ∷ hs) = ap suc (length-stated_from (k + 1) hs)

-- the terms after the stated hypotheses are the terms of the derived ones
module _ (P : Term → Type 0) (t : Tables) (stated : List Term) where
  pub past_stated : (k : ℕ) (h : Term) → length stated ≤ k → All (λ hyp. P hyp.term) (derived t) → slice_get (map (λ hyp. hyp.term) (hypotheses t stated)) k ≡ Some h → P h
  past_stated k h past all e =
      All-slice_get_past P (map (λ hyp. hyp.term) (stated_from 0 stated)) (map (λ hyp. hyp.term) (derived t)) k h
      (subst (λ n. n ≤ k) (sym (length-map (stated_from 0 stated) (λ hyp. hyp.term) ∙ length-stated_from 0 stated)) past)
      (All-map P (λ hyp. hyp.term) (derived t) all)
      (ap (λ xs. slice_get xs k) (sym (map-append (λ hyp. hyp.term) (stated_from 0 stated) (derived t))) ∙ e)

-- an abstraction, if there is one, is the abstraction of the file
module _ {X Y : Type 0} (x y : X) (a b c : Y) where
  past_refusals : (p q r : Bool) → (if p then Err a else if q then Err b else if r then Err c else Ok x) ≡ Ok y → x ≡ y
  past_refusals true q r e = absurd cc
  past_refusals false true r e = absurd cc
  past_refusals false false true e = absurd cc
  past_refusals false false false e = cc

pub abstract_parts_of : (f : FileParts) (a : AbstractParts) → abstract_of f ≡ Ok a → abstract_parts f ≡ a
abstract_parts_of f a e =
    past_refusals (abstract_parts f) a TooManyTests TooManyActions ProblemTooLarge
    (nat_lt MAX_TESTS (f.tests + length (first_comparisons f))) (nat_lt MAX_ACTIONS (f.actions + length (file_assignments f)))
    (nat_lt MAX_TERM_NODES (problem_size (file_problem f)))
    e

pub derived_hold : (f : FileParts) (a : AbstractParts) → HasNumbersInRange f → abstract_of f ≡ Ok a → DerivedHold f a
derived_hold f a r e = subst (DerivedHold f) (abstract_parts_of f a e) hold
  where
    frame : Frame Store
    frame = store_frame f (abstract_parts f)

    hold : DerivedHold f (abstract_parts f)
    hold k h past at =
        past_stated (RelatesNone frame) (tables_of f) f.hyps k h past
        (derived_relate_none frame (tables_of f)
        (are_test_rows (modulus f.width) (tables_of f) (comparisons_atomic f r.goal))
        (are_action_rows (modulus f.width) (tables_of f) frame f.vars (λ s i. i.0) (λ i x g s u row step. subst (λ o. Sets (modulus f.width) o s u) row step) (assignments_in_range f r.goal)))
        at
