-- A problem within the limits is also within them with only its long hypotheses.
use Rattle.std.proofs.Common.{◌≡◌, ℕ, ◌+◌, ◌≤◌, List, [], ◌∷◌, arith, Bool, true, false, cond, None}
use Rattle.std.specs.List.{filter}
use Rattle.kat_model.specs.Trees.{Term, term_size}
use Rattle.kat_model.specs.Problems.{ProblemParts, IsProblem, AreInRange, terms_size, problem_fault}
use Rattle.kat_model.specs.Degrees.{is_long, long_hyps, with_hyps}
use Rattle.kat_model.proofs.Faults.{problem_has_no_fault}

module _ (p : Term → Bool) where
  range_filter : (tests actions : ℕ) (hs : List Term) → AreInRange tests actions hs → AreInRange tests actions (filter p hs)
  range_filter tests actions [] h = tt
  range_filter tests actions (e ∷ hs) h = go (p e) (range_filter tests actions hs h.1)
    where
      go : (b : Bool) → AreInRange tests actions (filter p hs) → AreInRange tests actions (cond b (e ∷ filter p hs) (filter p hs))
      go true r = (h.0, r)
      go false r = r

  size_filter : (hs : List Term) → terms_size (filter p hs) ≤ terms_size hs
  size_filter [] = omega arith
  size_filter (e ∷ hs) = go (p e) (size_filter hs)
    where
      go : (b : Bool) → terms_size (filter p hs) ≤ terms_size hs → terms_size (cond b (e ∷ filter p hs) (filter p hs)) ≤ term_size e + terms_size hs
      go true r = omega arith
      go false r = omega arith

pub long_is_problem : (q : ProblemParts) → IsProblem q → IsProblem (with_hyps q (long_hyps q))
long_is_problem q is = record {
  tests = is.tests;
  actions = is.actions;
  hyps = range_filter is_long q.tests q.actions q.hyps is.hyps;
  left = is.left;
  right = is.right;
  size = omega (arith, is.size, size_filter is_long q.hyps);
}

pub long_has_no_fault : (q : ProblemParts) → IsProblem q → problem_fault (with_hyps q (long_hyps q)) ≡ None
long_has_no_fault q is = problem_has_no_fault (with_hyps q (long_hyps q)) (long_is_problem q is)
