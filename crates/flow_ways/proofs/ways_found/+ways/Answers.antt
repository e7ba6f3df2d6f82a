use Rattle.std.proofs.Common.{◌≡◌, suc, ◌-◌, false, List, Some, None, map, slice_get, slice_index_or, refl, sym, subst, ap, ◌∙◌, arith}
use Rattle.std.specs.Prelude.{Vec, OnOk, IfErr}
use Rattle.std.proofs.lemmas.Grind.{common_steps}
use Rattle.std.proofs.lemmas.Result.{on_ok_weaker, IfErr-weaker}
use Rattle.std.proofs.lemmas.Option.{gets}
use Rattle.std.specs.declared.alloc.Global.{Global}
use Rattle.flow_model.specs.declared.graph.ExprNode.{ExprNode}
use Rattle.flow_model.specs.declared.graph.Jump.{Jump}
use Rattle.flow_ways.specs.CondTrees.{cond_tree}
use Rattle.flow_ways.specs.CourseTrees.{course_tree}
use Rattle.flow_ways.specs.Outcomes.{Outcome, one_way, if_fits, values_fit, returned_way, jump_outcome, target_outcome}
use Rattle.flow_ways.specs.Ways.{with_test}
use Rattle.flow_ways.specs.Conditions.{opposite_cond}
use Rattle.flow_ways.specs.WayTrees.{way_tree, Adds, HasReason}
use Rattle.flow_ways.proofs.CourseLists.{none_then}
use Rattle.flow_ways.proofs.FoundWays.{outcome_here, branch_is, block_is, course_goes, branch_added, branch_reason}
use Rattle.flow_ways.proofs.ways_found.+ways.Goals as goal

pub ways_from-returns-in-Some-clause-added : goal.ways_from-returns-in-Some-clause-added
ways_from-returns-in-Some-clause-added t c =
    let next : c.args.depth ≡ suc (c.args.depth - 1) = omega arith in
    let there : slice_get c.args.setting.now.blocks.now c.args.block ≡ Some c.in-Some.here.now = grind (arith, common_steps, gets) in
    subst (λ (o : Outcome). OnOk c.ways_through.result (Adds o c.args.found.now c.ways_through.new.found))
    (sym (outcome_here c.args.setting.now.blocks.now c.args.setting.now.sorts.now (λ l. slice_index_or c.args.setting.now.places.now l false) c.args.depth (c.args.depth - 1) c.args.block (course_tree c.args.symbolic_run.now) (Some c.in-Some.here.now) next there))
    c.ways_through.ensures.added

pub ways_from-returns-in-Some-clause-refused : goal.ways_from-returns-in-Some-clause-refused
ways_from-returns-in-Some-clause-refused t c =
    let next : c.args.depth ≡ suc (c.args.depth - 1) = omega arith in
    let there : slice_get c.args.setting.now.blocks.now c.args.block ≡ Some c.in-Some.here.now = grind (arith, common_steps, gets) in
    subst (λ (o : Outcome). IfErr c.ways_through.result (HasReason o c.args.found.now.count))
    (sym (outcome_here c.args.setting.now.blocks.now c.args.setting.now.sorts.now (λ l. slice_index_or c.args.setting.now.places.now l false) c.args.depth (c.args.depth - 1) c.args.block (course_tree c.args.symbolic_run.now) (Some c.in-Some.here.now) next there))
    c.ways_through.ensures.refused

pub ways_from-returns-in-None-clause-added : goal.ways_from-returns-in-None-clause-added
ways_from-returns-in-None-clause-added t c =
    let next : c.args.depth ≡ suc (c.args.depth - 1) = omega arith in
    let there : slice_get c.args.setting.now.blocks.now c.args.block ≡ None = grind (arith, common_steps, gets) in
    subst (λ (o : Outcome). Adds o c.args.found.now c.args.found.now)
    (sym (outcome_here c.args.setting.now.blocks.now c.args.setting.now.sorts.now (λ l. slice_index_or c.args.setting.now.places.now l false) c.args.depth (c.args.depth - 1) c.args.block (course_tree c.args.symbolic_run.now) None next there))
    (none_then (map way_tree c.args.found.now.ways.items), omega arith, refl)

pub ways_of_jump-returns-in_ok-cond-in-Branch-clause-added : goal.ways_of_jump-returns-in_ok-cond-in-Branch-clause-added
ways_of_jump-returns-in_ok-cond-in-Branch-clause-added t c =
    let sorts = c.args.setting.now.sorts.now in
    let symbolic_run = course_tree c.args.symbolic_run.now in
    let go = target_outcome c.args.setting.now.blocks.now sorts (λ l. slice_index_or c.args.setting.now.places.now l false) c.args.depth in
    subst (λ (j : Jump). OnOk c.ways_of_branch.result (Adds (jump_outcome sorts go j symbolic_run) c.args.found.now c.ways_of_branch.new.found)) (sym c.in-Branch.is)
    (subst (λ (o : Outcome). OnOk c.ways_of_branch.result (Adds o c.args.found.now c.ways_of_branch.new.found))
    (branch_is sorts go c.in-Branch.cond c.in-Branch.k c.in-Branch.l symbolic_run (cond_tree c.in_ok-cond-in-Branch.cond) c.deref.result.now c.deref.ensures.value c.in_ok-cond-in-Branch.ensures.made c.in_ok-cond-in-Branch.ensures.fits)
    c.ways_of_branch.ensures.added)

pub ways_of_jump-returns-in_ok-cond-in-Branch-clause-refused : goal.ways_of_jump-returns-in_ok-cond-in-Branch-clause-refused
ways_of_jump-returns-in_ok-cond-in-Branch-clause-refused t c =
    let sorts = c.args.setting.now.sorts.now in
    let symbolic_run = course_tree c.args.symbolic_run.now in
    let go = target_outcome c.args.setting.now.blocks.now sorts (λ l. slice_index_or c.args.setting.now.places.now l false) c.args.depth in
    subst (λ (j : Jump). IfErr c.ways_of_branch.result (HasReason (jump_outcome sorts go j symbolic_run) c.args.found.now.count)) (sym c.in-Branch.is)
    (subst (λ (o : Outcome). IfErr c.ways_of_branch.result (HasReason o c.args.found.now.count))
    (branch_is sorts go c.in-Branch.cond c.in-Branch.k c.in-Branch.l symbolic_run (cond_tree c.in_ok-cond-in-Branch.cond) c.deref.result.now c.deref.ensures.value c.in_ok-cond-in-Branch.ensures.made c.in_ok-cond-in-Branch.ensures.fits)
    c.ways_of_branch.ensures.refused)

pub ways_of_jump-returns-in-Return-clause-added : goal.ways_of_jump-returns-in-Return-clause-added
ways_of_jump-returns-in-Return-clause-added t c =
    let sorts = c.args.setting.now.sorts.now in
    let symbolic_run = course_tree c.args.symbolic_run.now in
    let go = target_outcome c.args.setting.now.blocks.now sorts (λ l. slice_index_or c.args.setting.now.places.now l false) c.args.depth in
    subst (λ (j : Jump). OnOk c.end_with_results.result (Adds (jump_outcome sorts go j symbolic_run) c.args.found.now c.end_with_results.new.found)) (sym c.in-Return.is)
    (subst (λ (es : List (Vec ExprNode Global)). OnOk c.end_with_results.result (Adds (if_fits (values_fit sorts symbolic_run.forms es) (one_way (returned_way sorts es symbolic_run))) c.args.found.now c.end_with_results.new.found)) c.deref-in-Return.ensures.value
    c.end_with_results.ensures.added)

pub ways_of_branch-returns-clause-added : goal.ways_of_branch-returns-clause-added
ways_of_branch-returns-clause-added t c =
    let go = target_outcome c.args.setting.now.blocks.now c.args.setting.now.sorts.now (λ l. slice_index_or c.args.setting.now.places.now l false) c.args.depth in
    on_ok_weaker c.ways_under.result
    (branch_added (course_tree c.args.symbolic_run.now) (course_tree c.ways_aside.new.symbolic_run) (cond_tree c.args.cond) (cond_tree c.in_ok-opposite.opposite) (go c.args.block) (go c.args.other) c.args.found.now c.ways_aside.new.found c.ways_under.new.found
    c.in_ok-ways_aside.ensures.restored (c.in_ok-opposite.ensures ∙ ap opposite_cond c.in_ok-copy.ensures) c.in_ok-ways_aside.ensures.added)
    c.ways_under.ensures.added

pub ways_of_branch-returns-clause-refused : goal.ways_of_branch-returns-clause-refused
ways_of_branch-returns-clause-refused t c =
    let go = target_outcome c.args.setting.now.blocks.now c.args.setting.now.sorts.now (λ l. slice_index_or c.args.setting.now.places.now l false) c.args.depth in
    IfErr-weaker c.ways_under.result _ _
    (λ fault. branch_reason (course_tree c.args.symbolic_run.now) (course_tree c.ways_aside.new.symbolic_run) (cond_tree c.args.cond) (cond_tree c.in_ok-opposite.opposite) (go c.args.block) (go c.args.other) c.args.found.now c.ways_aside.new.found fault
    c.in_ok-ways_aside.ensures.restored (c.in_ok-opposite.ensures ∙ ap opposite_cond c.in_ok-copy.ensures) c.in_ok-ways_aside.ensures.added)
    c.ways_under.ensures.refused

pub ways_through-returns-clause-added : goal.ways_through-returns-clause-added
ways_through-returns-clause-added t c =
    let sorts = c.args.setting.now.sorts.now in
    let go = target_outcome c.args.setting.now.blocks.now sorts (λ l. slice_index_or c.args.setting.now.places.now l false) c.args.depth in
    subst (λ (o : Outcome). OnOk c.ways_of_jump.result (Adds o c.args.found.now c.ways_of_jump.new.found))
    (block_is sorts go c.args.block.now c.deref.result.now (course_tree c.args.symbolic_run.now) (course_tree c.run_statements.new.symbolic_run) c.in_ok-goes.goes c.deref.ensures.value c.if-not-goes.false c.in_ok-goes.ensures.after c.in_ok-goes.ensures.fits)
    c.ways_of_jump.ensures.added

pub ways_through-returns-clause-refused : goal.ways_through-returns-clause-refused
ways_through-returns-clause-refused t c =
    let sorts = c.args.setting.now.sorts.now in
    let go = target_outcome c.args.setting.now.blocks.now sorts (λ l. slice_index_or c.args.setting.now.places.now l false) c.args.depth in
    subst (λ (o : Outcome). IfErr c.ways_of_jump.result (HasReason o c.args.found.now.count))
    (block_is sorts go c.args.block.now c.deref.result.now (course_tree c.args.symbolic_run.now) (course_tree c.run_statements.new.symbolic_run) c.in_ok-goes.goes c.deref.ensures.value c.if-not-goes.false c.in_ok-goes.ensures.after c.in_ok-goes.ensures.fits)
    c.ways_of_jump.ensures.refused

pub ways_under-returns-clause-added : goal.ways_under-returns-clause-added
ways_under-returns-clause-added t c =
    let go = target_outcome c.args.setting.now.blocks.now c.args.setting.now.sorts.now (λ l. slice_index_or c.args.setting.now.places.now l false) c.args.depth in
    subst (λ (o : Outcome). OnOk c.ways_on.result (Adds o c.args.found.now c.ways_on.new.found))
    (sym (course_goes c.in_ok-goes.goes (course_tree c.query.new.symbolic_run) (with_test (course_tree c.args.symbolic_run.now) (cond_tree c.args.cond)) (go c.args.block) c.if-not-goes.false c.in_ok-goes.ensures.test))
    c.ways_on.ensures.added

pub ways_under-returns-clause-refused : goal.ways_under-returns-clause-refused
ways_under-returns-clause-refused t c =
    let go = target_outcome c.args.setting.now.blocks.now c.args.setting.now.sorts.now (λ l. slice_index_or c.args.setting.now.places.now l false) c.args.depth in
    subst (λ (o : Outcome). IfErr c.ways_on.result (HasReason o c.args.found.now.count))
    (sym (course_goes c.in_ok-goes.goes (course_tree c.query.new.symbolic_run) (with_test (course_tree c.args.symbolic_run.now) (cond_tree c.args.cond)) (go c.args.block) c.if-not-goes.false c.in_ok-goes.ensures.test))
    c.ways_on.ensures.refused
