use Rattle.std.proofs.Common.{◌≡◌, length, map}
use Rattle.std.specs.Cmp.Lexicographic.{pointwise}
use Rattle.flow_pieces.specs.Exits.{is_same_equation}
use Rattle.flow_model.specs.Matches.{equation_of}
use Rattle.flow_matches.proofs.same_lists.are_same_equations.Given as goal

-- the remaining items decide
abbrev pub invariant-loop-one : goal.invariant-loop-one
invariant-loop-one l = record {
  lengths : length l.one-iterator.a.rest.now ≡ length l.one-iterator.b.rest.now;
  rest : pointwise is_same_equation (map equation_of l.one-iterator.a.rest.now) (map equation_of l.one-iterator.b.rest.now) ≡ pointwise is_same_equation (map equation_of l.left) (map equation_of l.right);
}
