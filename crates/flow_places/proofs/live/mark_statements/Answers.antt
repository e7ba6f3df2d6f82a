use Rattle.std.proofs.Common.{rules, false, map, slice_index_or, sym, subst, ◌<◌}
use Rattle.flow_model.specs.Polish.{statement_of}
use Rattle.flow_ways.specs.Liveness.{live_before}
use Rattle.flow_places.proofs.LiveRows.{left_before}
use Rattle.flow_places.proofs.live.mark_statements.Goals as goal

pub statements-preserved : goal.statements-preserved
statements-preserved c =
    record {
      width = search rules;
      live = λ x h.
          left_before x c.statements.rest.now c.in-Some.field-0-1.now c.in-Some.statement.now (slice_index_or c.statements.live x false) (slice_index_or c.mark_statement.new.live x false) (live_before x (map statement_of c.args.statements.now) (slice_index_or c.args.live.now x false)) c.in-Some.ensures.cases.0
          (c.mark_statement.ensures x (subst (λ n. x < n) (sym c.statements.invariant.width) h)) (c.statements.invariant.live x h);
    }
