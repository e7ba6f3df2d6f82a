-- Each name is new, and the scope declares it afterwards.
use Rattle.std.proofs.Common.{◌≡◌, ◌<◌, ◌+◌, List, ℕ, sym, ap, ◌∙◌, subst, arith}
use Rattle.text_parser.specs.declared.meaning.Meaning.TheVariants.{Test, Action}
use Rattle.text_parser.specs.ScopeParts.{ScopeParts, Means, IsIdentifier, IsUndeclared, declared}
use Rattle.problem_file.specs.Questions.{plain_name}
use Rattle.problem_file.proofs.PlainNames.{test_identifier, action_identifier, plain_are_names}
use Rattle.problem_file.specs.NumberedScopes.{tests_scope, numbered_scope}
use Rattle.problem_file.proofs.PlainScopes.{test_is_new, action_is_new}
use Rattle.problem_file.proofs.ScopeNames.{tests_plain, numbered_plain, tests_scope-more, numbered_scope-more}
use Rattle.problem_file.proofs.scope.numbered_scope.Goals as goal

pub declare-requires-clause-identifier : goal.declare-requires-clause-identifier
declare-requires-clause-identifier c =
    let text : plain_name (Test c.loop-k.k-counter) ≡ c.as_str.result.now = cc c.in_ok-name.ensures.ok in
    subst IsIdentifier text (test_identifier c.loop-k.k-counter (omega arith))

pub declare-requires-clause-undeclared : goal.declare-requires-clause-undeclared
declare-requires-clause-undeclared c =
    let k = c.loop-k.k-counter in
    let text : plain_name (Test k) ≡ c.as_str.result.now = cc c.in_ok-name.ensures.ok in
    subst (IsUndeclared c.loop-k.scope) text (subst (λ (w : ScopeParts). IsUndeclared w (plain_name (Test k))) (sym c.loop-k.invariant) (test_is_new plain_name (tests_scope k) k 0 (tests_plain k (omega arith)) (plain_are_names (k + 1) 0 (omega arith) (omega arith))))

pub declare-requires-clause-unnamed : goal.declare-requires-clause-unnamed
declare-requires-clause-unnamed c =
    λ name means.
    let k = c.loop-k.k-counter in
    let below : k < k = ((tests_plain k (omega arith)).only name (Test k) (subst (λ (w : ScopeParts). Means w name (Test k)) c.loop-k.invariant means)).1 in
    omega arith

pub loop-k-preserved : goal.loop-k-preserved
loop-k-preserved c =
    let k = c.loop-k.k-counter in
    let text : plain_name (Test k) ≡ c.as_str.result.now = cc c.in_ok-name.ensures.ok in
    c.in_ok-declare.ensures
    ∙ ap (λ (name : List ℕ). declared c.loop-k.scope name (Test k)) (sym text)
    ∙ ap (λ (w : ScopeParts). declared w (plain_name (Test k)) (Test k)) c.loop-k.invariant
    ∙ tests_scope-more k

pub declare-requires-in-loop-a-clause-identifier : goal.declare-requires-in-loop-a-clause-identifier
declare-requires-in-loop-a-clause-identifier c =
    let text : plain_name (Action c.loop-a.a-counter) ≡ c.as_str-in-loop-a.result.now = cc c.in_ok-name-2.ensures.ok in
    subst IsIdentifier text (action_identifier c.loop-a.a-counter (omega arith))

pub declare-requires-in-loop-a-clause-undeclared : goal.declare-requires-in-loop-a-clause-undeclared
declare-requires-in-loop-a-clause-undeclared c =
    let a = c.loop-a.a-counter in
    let text : plain_name (Action a) ≡ c.as_str-in-loop-a.result.now = cc c.in_ok-name-2.ensures.ok in
    subst (IsUndeclared c.loop-a.scope) text (subst (λ (w : ScopeParts). IsUndeclared w (plain_name (Action a))) (sym c.loop-a.invariant) (action_is_new plain_name (numbered_scope c.args.tests a) c.args.tests a (numbered_plain c.args.tests a (omega arith) (omega arith)) (plain_are_names c.args.tests (a + 1) (omega arith) (omega arith))))

pub declare-requires-in-loop-a-clause-unnamed : goal.declare-requires-in-loop-a-clause-unnamed
declare-requires-in-loop-a-clause-unnamed c =
    λ name means.
    let a = c.loop-a.a-counter in
    let below : a < a = ((numbered_plain c.args.tests a (omega arith) (omega arith)).only name (Action a) (subst (λ (w : ScopeParts). Means w name (Action a)) c.loop-a.invariant means)).1 in
    omega arith

pub loop-a-preserved : goal.loop-a-preserved
loop-a-preserved c =
    let a = c.loop-a.a-counter in
    let text : plain_name (Action a) ≡ c.as_str-in-loop-a.result.now = cc c.in_ok-name-2.ensures.ok in
    c.in_ok-declare-2.ensures
    ∙ ap (λ (name : List ℕ). declared c.loop-a.scope name (Action a)) (sym text)
    ∙ ap (λ (w : ScopeParts). declared w (plain_name (Action a)) (Action a)) c.loop-a.invariant
    ∙ numbered_scope-more c.args.tests a
