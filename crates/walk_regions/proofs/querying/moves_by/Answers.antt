use Rattle.std.proofs.Common.{Vec, Global, eqb, ap, ◌∙◌}
use Rattle.std.specs.List.{filter}
use Rattle.std.proofs.lemmas.List.{take_all}
use Rattle.partial_derivs.specs.declared.moves.Guarded.{Guarded}
use Rattle.walk_regions.proofs.BarLists.{move_kept, move_skipped}
use Rattle.walk_regions.proofs.querying.moves_by.Goals as goal
use Rattle.walk_regions.proofs.querying.moves_by.Goals.{then-guarded-act+in_ok-append, else-guarded-act}

pub loop-guarded-init : goal.loop-guarded-init
loop-guarded-init c = c.new-own.ensures.items

pub loop-guarded-preserved : goal.loop-guarded-preserved
loop-guarded-preserved c =
    elim c.if-guarded-act.branch [
      | then-guarded-act+in_ok-append w ↦
          move_kept c.args.act c.args.moves.now c.loop-guarded.guarded-index c.guarded-item.result c.loop-guarded-test.true c.guarded-item.is c.loop-guarded.own.items c.if-guarded-act.own.items c.loop-guarded.invariant
          w.if-guarded-act.true (ap (λ (v : Vec Guarded Global). v.items) w.own-is ∙ w.in_ok-append.ensures)
      | else-guarded-act w ↦
          move_skipped c.args.act c.args.moves.now c.loop-guarded.guarded-index c.guarded-item.result c.loop-guarded-test.true c.guarded-item.is c.loop-guarded.own.items c.if-guarded-act.own.items c.loop-guarded.invariant
          w.if-guarded-act.false (ap (λ (v : Vec Guarded Global). v.items) w.own-is)
    ]

pub returns : goal.returns
returns c = c.loop-guarded.invariant ∙ ap (filter (λ (m : Guarded). eqb m.act c.args.act)) (take_all c.loop-guarded.guarded-index c.args.moves.now c.loop-guarded-test.false)
