use Rattle.std.proofs.Common.{sym, ◌∙◌, arith, below_more}
use Rattle.flow_places.specs.Tables.{noted}
use Rattle.flow_matches.proofs.LiveLists.{passing_same, passing_differs}
use Rattle.flow_matches.proofs.ChosenMatches.{unlike, alike}
use Rattle.flow_matches.proofs.exits.have_same_live.Goals as goal

pub returns-then-is_live_after : goal.returns-then-is_live_after
returns-then-is_live_after c =
    passing_differs (λ x. noted c.args.tables.now.live_after.items x c.args.one) (λ x. noted c.args.tables.now.live_after.items x c.args.other) c.args.variables c.loop-variable.variable c.loop-variable-test.true
    (λ e. unlike c.is_live_after.result c.is_live_after-in-loop-variable.result c.if-is_live_after.true (c.is_live_after.ensures ∙ e ∙ sym c.is_live_after-in-loop-variable.ensures))

pub loop-variable-preserved : goal.loop-variable-preserved
loop-variable-preserved c =
    below_more _ _ c.loop-variable.invariant
    (sym c.is_live_after.ensures ∙ alike c.is_live_after.result c.is_live_after-in-loop-variable.result c.if-is_live_after.false ∙ c.is_live_after-in-loop-variable.ensures)

pub returns : goal.returns
returns c =
    passing_same (λ x. noted c.args.tables.now.live_after.items x c.args.one) (λ x. noted c.args.tables.now.live_after.items x c.args.other) c.args.variables
    (λ x lt. c.loop-variable.invariant x (omega (arith, lt, c.loop-variable-test.false)))
