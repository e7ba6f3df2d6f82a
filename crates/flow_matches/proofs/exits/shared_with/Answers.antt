use Rattle.std.proofs.Common.{sym, ◌∙◌, arith}
use Rattle.flow_pieces.specs.Exits.{share_column}
use Rattle.flow_matches.specs.Working.ExitViews.{exit_tree}
use Rattle.flow_matches.proofs.SharedColumns.{view_there, none_here, none_past}
use Rattle.flow_matches.proofs.exits.shared_with.Goals as goal

pub returns-then-have_shared_column : goal.returns-then-have_shared_column
returns-then-have_shared_column c = λ matches. (
  c.loop-place.invariant.later,
  (
    exit_tree matches c.index-exits-place.result,
    view_there (exit_tree matches) c.args.exits.now c.loop-place.place c.index-exits-place.result c.loop-place-test.true c.index-exits-place.is,
    sym (c.have_shared_column.ensures matches) ∙ c.if-have_shared_column.true,
  ),
)

pub loop-place-preserved : goal.loop-place-preserved
loop-place-preserved c = record {
  later = omega (arith, c.loop-place.invariant.later);
  none = λ matches. c.loop-place.invariant.none matches
      ∙ none_here (exit_tree matches) c.args.exits.now c.loop-place.place c.index-exits-place.result c.loop-place-test.true c.index-exits-place.is (share_column (exit_tree matches c.args.own.now)) (sym (c.have_shared_column.ensures matches) ∙ c.if-have_shared_column.false);
}

pub returns : goal.returns
returns c = λ matches. c.loop-place.invariant.none matches ∙ none_past (exit_tree matches) c.args.exits.now c.loop-place.place (share_column (exit_tree matches c.args.own.now)) c.loop-place-test.false
