use Rattle.std.proofs.Common.{◌≡◌, sym, ap, ◌∙◌, subst, arith}
use Rattle.kat_model.specs.Members.{Has}
use Rattle.flow_places.specs.Tables.{noted}
use Rattle.flow_matches.specs.Working.ExitViews.{noted_at}
use Rattle.flow_matches.proofs.LiveLists.{passing_pushed, passing_kept, passing_below}
use Rattle.flow_matches.proofs.exits.live_at.Goals.{then-is_live_after+in_ok-push, else-is_live_after}
use Rattle.flow_matches.proofs.exits.live_at.Goals as goal

pub loop-variable-preserved : goal.loop-variable-preserved
loop-variable-preserved c =
    elim c.if-is_live_after.branch [
      | then-is_live_after+in_ok-push w ↦ rw w.live-is
          (passing_pushed (λ x. noted c.args.tables.now.live_after.items x c.args.block) c.loop-variable.variable c.loop-variable.live.items w.push.new.self.items c.loop-variable.invariant (sym c.is_live_after.ensures ∙ w.if-is_live_after.true) w.in_ok-push.ensures.items)
      | else-is_live_after w ↦ rw w.live-is
          (passing_kept (λ x. noted c.args.tables.now.live_after.items x c.args.block) c.loop-variable.variable c.loop-variable.live.items c.loop-variable.invariant (sym c.is_live_after.ensures ∙ w.if-is_live_after.false))
    ]

pub returns-clause-bounds : goal.returns-clause-bounds
returns-clause-bounds c = λ k h.
    let all : c.loop-variable.variable ≡ c.args.variables = omega arith in
    let below = passing_below (λ x. noted c.args.tables.now.live_after.items x c.args.block) c.loop-variable.variable k (subst (λ ks. Has ks k) c.loop-variable.invariant h) in
    omega (arith, all, below)

pub returns-clause-live : goal.returns-clause-live
returns-clause-live c =
    let all : c.loop-variable.variable ≡ c.args.variables = omega arith in
    c.loop-variable.invariant ∙ ap (λ n. noted_at c.args.tables.now n c.args.block) all
