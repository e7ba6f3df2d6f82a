use Rattle.std.proofs.Common.{◌≡◌, ◌++◌, drop, true}
use Rattle.kat_model.specs.Stores.{modulus}
use Rattle.text_print.specs.Printing.{name_of}
use Rattle.tool_explain.specs.Differences.{changes_text}
use Rattle.tool_explain.proofs.states.put_changes.Given as goal

-- the changes so far, and the remaining tests
abbrev pub invariant-loop-k : goal.invariant-loop-k
invariant-loop-k l =
    l.out.items ++ changes_text (modulus l.width) (name_of l.scope) l.first (drop l.k l.rows) (drop l.k l.before) (drop l.k l.atom)
    ≡ l.initial.out.items ++ changes_text (modulus l.width) (name_of l.scope) true l.rows l.before l.atom
