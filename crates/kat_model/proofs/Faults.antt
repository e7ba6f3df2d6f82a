-- A question has no fault exactly when it is within the limits of a problem.
use Rattle.std.proofs.Common.{◌≡◌, ℕ, ◌≤◌, List, [], ◌∷◌, Option, Some, None, Bool, true, false, cond, nat_lt, refl}
use Rattle.std.specs.Option.{option_or, option_map}
use Rattle.std.proofs.lemmas.Bool.{ltb-true, ltb-false, lt-ltb, le-ltb}
use Rattle.kat_model.specs.Trees.{TestTree, bottom, top, prim, complement, meet, join, Term, zero, one, test, act, sum, product, star}
use Rattle.kat_model.specs.Problems.{ProblemParts, IsTestInRange, IsInRange, AreInRange, IsProblem, problem_size, first_test_out, first_out, first_out_of_all, bad_above, problem_fault, counted}
use Rattle.kat_model.specs.declared.problem.BadProblem.{BadProblem}
use Rattle.kat_model.specs.declared.problem.BadProblem.TheVariants.{TooManyTests, TooManyActions, TestRange, TooLarge}
use Rattle.kat_model.specs.declared.limits.TheConstants.{MAX_TESTS, MAX_ACTIONS, MAX_TERM_NODES}

-- the first of two faults is `None` exactly when both are
module _ {X : Type 0} where
  none_parts : (o p : Option X) → option_or o p ≡ None → (o ≡ None) × (p ≡ None)
  none_parts None p h = (refl, h)
  none_parts (Some x) p h = absurd cc

  none_both : (o p : Option X) → o ≡ None → p ≡ None → option_or o p ≡ None
  none_both None p h k = k
  none_both (Some x) p h k = h

  when_none : (b : Bool) (x : X) → cond b None (Some x) ≡ None → b ≡ true
  when_none true x h = refl
  when_none false x h = absurd cc

  unless_none : (b : Bool) (x : X) → cond b (Some x) None ≡ None → b ≡ false
  unless_none true x h = absurd cc
  unless_none false x h = refl

map_none : {X Y : Type 0} (f : X → Y) (o : Option X) → option_map f o ≡ None → o ≡ None
map_none f None h = refl
map_none f (Some x) h = absurd cc

test_in_range : (tests : ℕ) (b : TestTree) → first_test_out tests b ≡ None → IsTestInRange tests b
test_in_range tests bottom h = tt
test_in_range tests top h = tt
test_in_range tests (prim k) h = ltb-true k tests (when_none (nat_lt k tests) k h)
test_in_range tests (complement b) h = test_in_range tests b h
test_in_range tests (meet b c) h = let p = none_parts (first_test_out tests b) (first_test_out tests c) h in (test_in_range tests b p.0, test_in_range tests c p.1)
test_in_range tests (join b c) h = let p = none_parts (first_test_out tests b) (first_test_out tests c) h in (test_in_range tests b p.0, test_in_range tests c p.1)

no_test_out : (tests : ℕ) (b : TestTree) → IsTestInRange tests b → first_test_out tests b ≡ None
no_test_out tests bottom h = refl
no_test_out tests top h = refl
no_test_out tests (prim k) h = rw (lt-ltb k tests h) refl
no_test_out tests (complement b) h = no_test_out tests b h
no_test_out tests (meet b c) h = none_both (first_test_out tests b) _ (no_test_out tests b h.0) (no_test_out tests c h.1)
no_test_out tests (join b c) h = none_both (first_test_out tests b) _ (no_test_out tests b h.0) (no_test_out tests c h.1)

module _ (tests actions : ℕ) where
  term_in_range : (e : Term) → first_out tests actions e ≡ None → IsInRange tests actions e
  term_in_range zero h = tt
  term_in_range one h = tt
  term_in_range (test b) h = test_in_range tests b (map_none TestRange (first_test_out tests b) h)
  term_in_range (act a) h = ltb-true a actions (when_none (nat_lt a actions) _ h)
  term_in_range (sum e f) h = let p = none_parts (first_out tests actions e) (first_out tests actions f) h in (term_in_range e p.0, term_in_range f p.1)
  term_in_range (product e f) h = let p = none_parts (first_out tests actions e) (first_out tests actions f) h in (term_in_range e p.0, term_in_range f p.1)
  term_in_range (star e) h = term_in_range e h

  no_term_out : (e : Term) → IsInRange tests actions e → first_out tests actions e ≡ None
  no_term_out zero h = refl
  no_term_out one h = refl
  no_term_out (test b) h = rw (no_test_out tests b h) refl
  no_term_out (act a) h = rw (lt-ltb a actions h) refl
  no_term_out (sum e f) h = none_both (first_out tests actions e) _ (no_term_out e h.0) (no_term_out f h.1)
  no_term_out (product e f) h = none_both (first_out tests actions e) _ (no_term_out e h.0) (no_term_out f h.1)
  no_term_out (star e) h = no_term_out e h

  terms_in_range : (es : List Term) → first_out_of_all tests actions es ≡ None → AreInRange tests actions es
  terms_in_range [] h = tt
  terms_in_range (e ∷ es) h = let p = none_parts (first_out tests actions e) (first_out_of_all tests actions es) h in (term_in_range e p.0, terms_in_range es p.1)

  no_terms_out : (es : List Term) → AreInRange tests actions es → first_out_of_all tests actions es ≡ None
  no_terms_out [] h = refl
  no_terms_out (e ∷ es) h = none_both (first_out tests actions e) _ (no_term_out e h.0) (no_terms_out es h.1)

module _ (limit n : ℕ) (bad : BadProblem) where
  not_above : bad_above limit n bad ≡ None → n ≤ limit
  not_above h = ltb-false limit n (unless_none (nat_lt limit n) bad h)

  none_above : n ≤ limit → bad_above limit n bad ≡ None
  none_above h = rw (le-ltb limit n h) refl

pub faultless_is_problem : (q : ProblemParts) → problem_fault q ≡ None → IsProblem q
faultless_is_problem q h =
    let a = none_parts (bad_above MAX_TESTS q.tests (TooManyTests q.tests)) _ h in
    let b = none_parts (bad_above MAX_ACTIONS q.actions (TooManyActions q.actions)) _ a.1 in
    let c = none_parts (first_out_of_all q.tests q.actions q.hyps) _ b.1 in
    let d = none_parts (first_out q.tests q.actions q.left) _ c.1 in
    let e = none_parts (first_out q.tests q.actions q.right) _ d.1 in
    record {
      tests = not_above MAX_TESTS q.tests _ a.0;
      actions = not_above MAX_ACTIONS q.actions _ b.0;
      hyps = terms_in_range q.tests q.actions q.hyps c.0;
      left = term_in_range q.tests q.actions q.left d.0;
      right = term_in_range q.tests q.actions q.right e.0;
      size = not_above MAX_TERM_NODES (problem_size q) _ e.1;
    }

pub problem_has_no_fault : (q : ProblemParts) → IsProblem q → problem_fault q ≡ None
problem_has_no_fault q h =
    none_both (bad_above MAX_TESTS q.tests (TooManyTests q.tests)) _ (none_above MAX_TESTS q.tests (TooManyTests q.tests) h.tests)
    (none_both (bad_above MAX_ACTIONS q.actions (TooManyActions q.actions)) _ (none_above MAX_ACTIONS q.actions (TooManyActions q.actions) h.actions)
    (none_both (first_out_of_all q.tests q.actions q.hyps) _ (no_terms_out q.tests q.actions q.hyps h.hyps)
    (none_both (first_out q.tests q.actions q.left) _ (no_term_out q.tests q.actions q.left h.left)
    (none_both (first_out q.tests q.actions q.right) _ (no_term_out q.tests q.actions q.right h.right)
    (none_above MAX_TERM_NODES (problem_size q) (TooLarge (counted (problem_size q))) h.size)))))
