-- The hypotheses from assignments and comparisons relate no stores, if actions set variables.
use Rattle.std.proofs.Common.{◌≡◌, ◌<◌, ℕ, [], ◌∷◌, length, set, All, Option, Some, None, refl, sym, ap, ◌∙◌}
use Rattle.std.proofs.lemmas.Bool.{not-true, both_ways}
use Rattle.std.proofs.lemmas.List.Elements.{All-nil, All-cons}
use Rattle.kat_model.specs.Trees.{TestTree, prim, complement, test, act, product}
use Rattle.kat_model.specs.Stores.{Store, modulus}
use Rattle.kat_model.specs.Relations.{Frame}
use Rattle.linear_forms.specs.Values.{form_value}
use Rattle.linear_forms.specs.Comparisons.{atomic_holds, cond_form_holds, substituted}
use Rattle.linear_forms.specs.declared.comparison.Atomic.{Atomic}
use Rattle.linear_forms.specs.declared.comparison.CondForm.{CondForm}
use Rattle.linear_forms.proofs.StoredValues.{modulus_above_one}
use Rattle.linear_forms.proofs.Truths.{substituted_holds}
use Rattle.abstraction.specs.declared.rule.Rule.TheVariants.{Assign}
use Rattle.abstraction.specs.Comparisons.{Assignment}
use Rattle.abstraction.specs.Tables.{Tables}
use Rattle.abstraction.specs.Tests.{form_test}
use Rattle.abstraction.specs.Facts.{Hypothesis, TestRowOf}
use Rattle.abstraction.specs.Derived.{ActionRowOf, test_rows, keeps_before, assignment_facts}
use Rattle.kat_model.proofs.RelatesNothing.{around_action}
use Rattle.abstraction.proofs.TestRows.{IsTestRow, holds_at, fails_at, form_test_holds}
use Rattle.abstraction.proofs.FactsHold.{HoldsIn}

-- a row of an assignment: the action with its number sets the variable, which each state has, to the value of the form
pub record IsActionRow (m : ℕ) (frame : Frame Store) (row : ActionRowOf) : Type 0 where
  pub sets : (s t : Store) → frame.IsState s → frame.Acts row.0 s t → (row.1.var < length s) × (t ≡ set s row.1.var (form_value m s row.1.form))

module _ (frame : Frame Store) (t : Tables) (rows : All (IsTestRow (modulus t.width) frame.atom) (test_rows t)) where
  abbrev m : ℕ
  m = modulus t.width

  module _ (i j : ℕ) (a : Assignment) (phi : Atomic) (p : IsActionRow m frame (i, a)) (q : IsTestRow m frame.atom (j, phi)) where
    abbrev before : CondForm
    before = substituted m a.var a.form phi

    -- the comparison holds after the assignment exactly when the substituted one holds before it
    kept : (s u : Store) → frame.IsState s → frame.Acts i s u → cond_form_holds m s before ≡ atomic_holds m u phi
    kept s u state acts =
        let step = p.sets s u state acts in
        substituted_holds m s a.var a.form phi (modulus_above_one t.width) step.0 ∙ ap (λ x. atomic_holds m x phi) (sym step.1)

    -- the two hypotheses: no run from psi ends outside the test, and no run from the complement of psi ends in it
    abbrev ends_outside : TestTree → Hypothesis
    ends_outside psi = record { rule = Assign i j; term = product (test psi) (product (act i) (test (complement (prim j)))) }

    abbrev ends_inside : TestTree → Hypothesis
    ends_inside psi = record { rule = Assign i j; term = product (test (complement psi)) (product (act i) (test (prim j))) }

    outside_holds : (psi : TestTree) → form_test t before ≡ Some psi → HoldsIn frame (ends_outside psi)
    outside_holds psi e =
        around_action frame psi (complement (prim j)) i
        (λ s u state x acts y.
        both_ways _ (kept s u state acts ∙ fails_at m frame.atom j phi q u y) (sym (form_test_holds m frame.atom t rows before psi e s) ∙ x))

    inside_holds : (psi : TestTree) → form_test t before ≡ Some psi → HoldsIn frame (ends_inside psi)
    inside_holds psi e =
        around_action frame (complement psi) (prim j) i
        (λ s u state x acts y.
        both_ways _ (sym (form_test_holds m frame.atom t rows before psi e s) ∙ not-true _ x) (kept s u state acts ∙ holds_at m frame.atom j phi q u y))

    kept_holds : (r : Option TestTree) → form_test t before ≡ r → All (HoldsIn frame) (keeps_before i j r)
    kept_holds None e = All-nil (HoldsIn frame)
    kept_holds (Some psi) e =
        All-cons (HoldsIn frame) (ends_outside psi) (ends_inside psi ∷ []) (outside_holds psi e)
        (All-cons (HoldsIn frame) (ends_inside psi) [] (inside_holds psi e) (All-nil (HoldsIn frame)))

  pub assignment_facts_hold : (a : ActionRowOf) (b : TestRowOf) → IsActionRow m frame a → IsTestRow m frame.atom b → All (HoldsIn frame) (assignment_facts t a b)
  assignment_facts_hold (i, a) (j, phi) p q = kept_holds i j a phi p q (form_test t (substituted m a.var a.form phi)) refl
