use Rattle.std.proofs.Common.{◌≡◌, ◌+◌, ◌<◌, ◌^◌, drop}
use Rattle.while_lang.specs.Programs.{statements}
use Rattle.while_lang.specs.ProgramViews.{list_tree}
use Rattle.one_loop.proofs.statements.+counts.Given as goal

-- the total so far, and the remaining statements
abbrev pub invariant-statement_count-loop-stmt : goal.invariant-statement_count-loop-stmt
invariant-statement_count-loop-stmt l = record {
  fits : l.total < 2 ^ 64;
  whole : l.total + statements (list_tree (drop l.stmt-index l.stmt-items)) ≡ statements (list_tree l.stmt-items);
}
