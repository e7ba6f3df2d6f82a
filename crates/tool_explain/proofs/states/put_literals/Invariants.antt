use Rattle.std.proofs.Common.{◌≡◌, ◌++◌, true}
use Rattle.kat_model.specs.Stores.{modulus}
use Rattle.text_print.specs.Printing.{name_of}
use Rattle.tool_explain.specs.Differences.{literals_text}
use Rattle.tool_explain.proofs.states.put_literals.Given as goal

-- the tests so far, and the remaining tests
abbrev pub invariant-loop-row : goal.invariant-loop-row
invariant-loop-row l =
    l.out.items ++ literals_text (modulus l.width) (name_of l.scope) l.first l.row-iterator.a.rest.now l.row-iterator.b.rest.now
    ≡ l.initial.out.items ++ literals_text (modulus l.width) (name_of l.scope) true l.rows l.atom
