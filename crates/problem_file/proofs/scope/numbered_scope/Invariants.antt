use Rattle.std.proofs.Common.{◌≡◌}
use Rattle.problem_file.specs.NumberedScopes.{tests_scope, numbered_scope}
use Rattle.problem_file.proofs.scope.numbered_scope.Given as goal

-- the names so far
abbrev pub invariant-loop-k : goal.invariant-loop-k
invariant-loop-k l = l.scope ≡ tests_scope l.k-counter

abbrev pub invariant-loop-a : goal.invariant-loop-a
invariant-loop-a l = l.scope ≡ numbered_scope l.tests l.a-counter
