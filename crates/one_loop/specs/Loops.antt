-- The number of loops of programs.
use Rattle.std.specs.Prelude.{ℕ, ◌+◌}
use Rattle.while_lang.specs.Programs.{ProgTree, empty, skip_then, abort_then, assert_then, act_then, assign_then, branch_then, loop_then}

-- the number of loops, including nested ones
abbrev pub loops : ProgTree → ℕ
loops empty = 0
loops (skip_then rest) = loops rest
loops (abort_then rest) = loops rest
loops (assert_then b rest) = loops rest
loops (act_then a rest) = loops rest
loops (assign_then x e rest) = loops rest
loops (branch_then b p q rest) = loops p + loops q + loops rest
loops (loop_then b p rest) = loops p + loops rest + 1
