use Rattle.std.proofs.Common.{◌≡◌, length, map}
use Rattle.std.specs.Cmp.Lexicographic.{pointwise}
use Rattle.flow_model.specs.Polish.{statement_of}
use Rattle.flow_pieces.specs.SameTrees.{is_same_statement}
use Rattle.flow_matches.proofs.same_lists.are_same_statements.Given as goal

-- the remaining items decide
abbrev pub invariant-loop-one : goal.invariant-loop-one
invariant-loop-one l = record {
  lengths : length l.one-iterator.a.rest.now ≡ length l.one-iterator.b.rest.now;
  rest : pointwise is_same_statement (map statement_of l.one-iterator.a.rest.now) (map statement_of l.one-iterator.b.rest.now) ≡ pointwise is_same_statement (map statement_of l.left) (map statement_of l.right);
}
