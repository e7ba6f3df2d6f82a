use Rattle.std.proofs.Common.{◌≡◌, ◌-◌, ◌++◌}
use Rattle.text_parser.specs.declared.meaning.Meaning.TheVariants.{Var}
use Rattle.text_print.specs.Printing.{name_of}
use Rattle.problem_file.proofs.PlainWritten.{later_names}
use Rattle.problem_file.proofs.program_writing.put_vars.Given as goal

-- the names so far, except the first
abbrev pub invariant-loop-k : goal.invariant-loop-k
invariant-loop-k l = l.out.items ≡ l.initial.out.items ++ later_names (λ k. name_of l.scope (Var k)) (l.k - 1)
