-- What simple hypotheses relate in a frame: a test relates states to themselves, one action between tests relates the
-- ends of its steps.
use Rattle.std.proofs.Common.{◌≡◌, ℕ, inl, inr, ⊎_elim, List, [], ◌∷◌, true, refl, sym, ◌∙◌, subst}
use Rattle.std.proofs.lemmas.Bool.{and_parts, and_from, or_cases, or_left, or_right}
use Rattle.kat_model.specs.Trees.{Term, zero, one, test, act, sum, product, star, is_test}
use Rattle.kat_model.specs.Steps.{out}
use Rattle.kat_model.specs.Relations.{Frame, RelatesIn, RelateInTurn}
use Rattle.kat_model.proofs.ProductRelations.{in_turn_parts, in_turn_append}
use Rattle.goal_forms.specs.TestTerms.{are_tests, all_true, factors, StepForm, HasStepForm, RulesOut}

module _ {S : Type 0} (frame : Frame S) where
  -- a test relates each state at which it is true to itself
  pub test_relates : (e : Term) (i : S) → frame.IsState i → is_test e ≡ true → out e (frame.atom i) ≡ true → RelatesIn frame e i i
  test_relates zero i s t h = cc
  test_relates one i s t h = refl
  test_relates (test b) i s t h = (refl, h)
  test_relates (act a) i s t h = cc
  test_relates (sum e f) i s t h =
      let tests = and_parts (is_test e) (is_test f) t in
      ⊎_elim (λ p. inl (test_relates e i s tests.0 p)) (λ p. inr (test_relates f i s tests.1 p)) (or_cases (out e (frame.atom i)) (out f (frame.atom i)) h)
  test_relates (product e f) i s t h =
      let tests = and_parts (is_test e) (is_test f) t in
      let both = and_parts (out e (frame.atom i)) (out f (frame.atom i)) h in
      (i, s, test_relates e i s tests.0 both.0, test_relates f i s tests.1 both.1)
  test_relates (star e) i s t h = cc

  -- and so do several tests in sequence
  tests_relate : (es : List Term) (i : S) → frame.IsState i → are_tests es ≡ true → all_true es (frame.atom i) ≡ true → RelateInTurn frame es i i
  tests_relate [] i s tests h = refl
  tests_relate (e ∷ es) i s tests h =
      let t = and_parts (is_test e) (are_tests es) tests in
      let b = and_parts (out e (frame.atom i)) (all_true es (frame.atom i)) h in
      (i, s, test_relates e i s t.0 b.0, tests_relate es i s t.1 b.1)

  -- a term relates what its factors relate in sequence
  factors_relate : (e : Term) (i j : S) → frame.IsState i → frame.IsState j → RelateInTurn frame (factors e) i j → RelatesIn frame e i j
  factors_relate zero i j si sj r = absurd r.2
  factors_relate one i j si sj r = subst (λ k. i ≡ k) r.3 r.2
  factors_relate (test b) i j si sj r = (subst (λ k. i ≡ k) r.3 r.2.0, r.2.1)
  factors_relate (act a) i j si sj r = subst (λ k. frame.Acts a i k) r.3 r.2
  factors_relate (sum e f) i j si sj r = subst (λ k. RelatesIn frame (sum e f) i k) r.3 r.2
  factors_relate (product e f) i j si sj r =
      let m = in_turn_parts frame (factors e) (factors f) i j si r in
      (m.0, m.1, factors_relate e i m.0 si m.1 m.2, factors_relate f m.0 j m.1 sj m.3)
  factors_relate (star e) i j si sj r = subst (λ k. RelatesIn frame (star e) i k) r.3 r.2

  -- a hypothesis that rules out a step relates the states of the step
  pub ruled_out_relates : (h : Term) (a : ℕ) (i j : S) → frame.IsState i → frame.IsState j → RulesOut h a (frame.atom i) (frame.atom j) → frame.Acts a i j → RelatesIn frame h i j
  ruled_out_relates h a i j si sj r step =
      let s = r.form in
      let befores = tests_relate s.befores i si r.is_form.befores r.before in
      let afters = tests_relate s.afters j sj r.is_form.afters r.after in
      let acts : RelateInTurn frame (act s.act ∷ s.afters) i j = (j, sj, subst (λ b. frame.Acts b i j) (sym r.action) step, afters) in
      factors_relate h i j si sj (subst (λ es. RelateInTurn frame es i j) (sym r.is_form.factors) (in_turn_append frame s.befores (act s.act ∷ s.afters) i i j befores acts))

  -- a test relates each state only to itself, if it is true there
  pub test_related : (e : Term) (i j : S) → is_test e ≡ true → RelatesIn frame e i j → (i ≡ j) × (out e (frame.atom i) ≡ true)
  test_related zero i j t r = absurd r
  test_related one i j t r = (r, refl)
  test_related (test b) i j t r = r
  test_related (act a) i j t r = cc
  test_related (sum e f) i j t r =
      let tests = and_parts (is_test e) (is_test f) t in
      ⊎_elim
      (λ p. let h = test_related e i j tests.0 p in (h.0, or_left (out e (frame.atom i)) (out f (frame.atom i)) h.1))
      (λ p. let h = test_related f i j tests.1 p in (h.0, or_right (out e (frame.atom i)) (out f (frame.atom i)) h.1))
      r
  test_related (product e f) i j t r =
      let tests = and_parts (is_test e) (is_test f) t in
      let first = test_related e i r.0 tests.0 r.2 in
      let second = test_related f r.0 j tests.1 r.3 in
      (first.0 ∙ second.0, and_from (out e (frame.atom i)) (out f (frame.atom i)) first.1 (subst (λ k. out f (frame.atom k) ≡ true) (sym first.0) second.1))
  test_related (star e) i j t r = cc

  tests_related : (es : List Term) (i j : S) → are_tests es ≡ true → RelateInTurn frame es i j → (i ≡ j) × (all_true es (frame.atom i) ≡ true)
  tests_related [] i j t r = (r, refl)
  tests_related (e ∷ es) i j t r =
      let tests = and_parts (is_test e) (are_tests es) t in
      let first = test_related e i r.0 tests.0 r.2 in
      let rest = tests_related es r.0 j tests.1 r.3 in
      (first.0 ∙ rest.0, and_from (out e (frame.atom i)) (all_true es (frame.atom i)) first.1 (subst (λ k. all_true es (frame.atom k) ≡ true) (sym first.0) rest.1))

  -- the factors of a term relate in sequence what the term relates
  related_factors : (e : Term) (i j : S) → frame.IsState j → RelatesIn frame e i j → RelateInTurn frame (factors e) i j
  related_factors zero i j s r = absurd r
  related_factors one i j s r = (j, s, r, refl)
  related_factors (test b) i j s r = (j, s, r, refl)
  related_factors (act a) i j s r = (j, s, r, refl)
  related_factors (sum e f) i j s r = (j, s, r, refl)
  related_factors (product e f) i j s r = in_turn_append frame (factors e) (factors f) i r.0 j (related_factors e i r.0 r.1 r.2) (related_factors f r.0 j s r.3)
  related_factors (star e) i j s r = (j, s, r, refl)

  -- one action between tests relates states by that action, if the tests are true
  pub record IsStepBetween (form : StepForm) (i j : S) : Type 0 where
    pub acts : frame.Acts form.act i j
    pub before : all_true form.befores (frame.atom i) ≡ true
    pub after : all_true form.afters (frame.atom j) ≡ true

  pub step_related : (h : Term) (form : StepForm) (i j : S) → HasStepForm h form → frame.IsState i → frame.IsState j → RelatesIn frame h i j → IsStepBetween form i j
  step_related h form i j has si sj r =
      let turn = subst (λ es. RelateInTurn frame es i j) has.factors (related_factors h i j sj r) in
      let parts = in_turn_parts frame form.befores (act form.act ∷ form.afters) i j si turn in
      let befores = tests_related form.befores i parts.0 has.befores parts.2 in
      let acts = parts.3 in
      let afters = tests_related form.afters acts.0 j has.afters acts.3 in
      record {
        acts = subst (λ k. frame.Acts form.act i k) afters.0 (subst (λ k. frame.Acts form.act k acts.0) (sym befores.0) acts.2);
        before = befores.1;
        after = subst (λ k. all_true form.afters (frame.atom k) ≡ true) afters.0 afters.1;
      }
