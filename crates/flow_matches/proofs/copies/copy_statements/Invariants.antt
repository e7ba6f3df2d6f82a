use Rattle.std.proofs.Common.{◌≡◌, map, take}
use Rattle.flow_model.specs.Polish.{statement_of}
use Rattle.flow_matches.specs.Working.WholeSides.{are_whole_statements}
use Rattle.flow_matches.proofs.copies.copy_statements.Given as goal

-- the copies so far
abbrev pub invariant-loop-statement : goal.invariant-loop-statement
invariant-loop-statement l = record {
  trees : map statement_of l.copies.items ≡ map statement_of (take l.statement-index l.statements);
  whole : are_whole_statements l.copies.items ≡ are_whole_statements (take l.statement-index l.statements);
}
