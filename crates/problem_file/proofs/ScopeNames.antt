-- The scopes of plain names are plain, and each adds one name to the previous one.
use Rattle.std.proofs.Common.{◌≡◌, ◌<◌, ◌≤◌, ◌+◌, ◌^◌, ℕ, zero, suc, Result, Ok, Err, IfOk, refl, sym, ap, subst, arith}
use Rattle.kat_model.specs.declared.limits.TheConstants.{MAX_TESTS, MAX_ACTIONS}
use Rattle.text_parser.specs.declared.meaning.Meaning.TheVariants.{Test, Action}
use Rattle.text_parser.specs.ScopeParts.{ScopeParts, declared}
use Rattle.problem_file.specs.Questions.{plain_name}
use Rattle.problem_file.specs.Working.Scopes.{IsPlain}
use Rattle.problem_file.specs.NumberedScopes.{tests_scope, numbered_scope}
use Rattle.problem_file.proofs.PlainNames.{plain_are_names}
use Rattle.problem_file.proofs.PlainScopes.{empty_declares, plain_as, test_declared, action_declared}

pub tests_plain : (tests : ℕ) → tests < 2 ^ 64 → IsPlain (tests_scope tests) tests 0
tests_plain zero few = empty_declares plain_name
tests_plain (suc k) few = plain_as (tests_scope (suc k)) (k + 1) (suc k) 0 0 (omega arith) refl (test_declared plain_name (tests_scope k) k 0 (tests_plain k (omega arith)) (plain_are_names (k + 1) 0 (omega arith) (omega arith)))

pub numbered_plain : (tests actions : ℕ) → tests < 2 ^ 64 → actions < 2 ^ 64 → IsPlain (numbered_scope tests actions) tests actions
numbered_plain tests zero few small = tests_plain tests few
numbered_plain tests (suc a) few small =
    plain_as (numbered_scope tests (suc a)) tests tests (a + 1) (suc a) refl (omega arith) (action_declared plain_name (numbered_scope tests a) tests a (numbered_plain tests a few (omega arith)) (plain_are_names tests (a + 1) (omega arith) (omega arith)))

pub plain_from : {E : Type 0} (tests actions : ℕ) → tests ≤ MAX_TESTS → actions ≤ MAX_ACTIONS → (r : Result ScopeParts E) → IfOk r (λ w. w ≡ numbered_scope tests actions) → IfOk r (λ w. IsPlain w tests actions)
plain_from tests actions few small (Ok w) e = subst (λ (v : ScopeParts). IsPlain v tests actions) (sym e) (numbered_plain tests actions (omega arith) (omega arith))
plain_from tests actions few small (Err e) h = tt

-- an additional test, and an additional action
pub tests_scope-more : (k : ℕ) → declared (tests_scope k) (plain_name (Test k)) (Test k) ≡ tests_scope (k + 1)
tests_scope-more k = let e : suc k ≡ k + 1 = omega arith in ap tests_scope e

pub numbered_scope-more : (tests a : ℕ) → declared (numbered_scope tests a) (plain_name (Action a)) (Action a) ≡ numbered_scope tests (a + 1)
numbered_scope-more tests a = let e : suc a ≡ a + 1 = omega arith in ap (numbered_scope tests) e
