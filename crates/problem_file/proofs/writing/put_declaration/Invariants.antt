use Rattle.std.proofs.Common.{◌≡◌, ◌-◌, ◌∷◌, ◌++◌}
use Rattle.std.specs.Fmt.{decimal}
use Rattle.problem_file.proofs.PlainWritten.{later_names}
use Rattle.problem_file.proofs.writing.put_declaration.Given as goal

-- the names so far, except the first
abbrev pub invariant-loop-k : goal.invariant-loop-k
invariant-loop-k l = l.out.items ≡ l.initial.out.items ++ later_names (λ k. l.letter ∷ decimal k) (l.k - 1)
