use Rattle.std.proofs.Common.{◌≡◌, ◌<◌, ◌≤◌, ◌∙◌, sym, length, arith}
use Rattle.std.specs.Vec.{vec_len}
use Rattle.kat_model.specs.Expressions.{cond_tree}
use Rattle.one_loop.proofs.PointLists.{none_added, start_none, added_more, start_more, loop_added, branch_added}
use Rattle.one_loop.proofs.points.+points.Goals as goal

pub add_points-loop-i-init : goal.add_points-loop-i-init
add_points-loop-i-init t c =
    let items = c.prog.inside.list.items in
    let past : length items ≤ c.len-i.result = omega (arith, c.len-i.ensures, c.prog.inside.list.ok.0) in
    record {
      start = start_none c.args.counter items c.len-i.result (vec_len c.args.blocks.now) c.args.next past;
      blocks = none_added c.args.counter c.args.blocks.now.items items c.len-i.result (vec_len c.args.blocks.now) c.args.next past;
    }

pub add_points-loop-i-preserved : goal.add_points-loop-i-preserved
add_points-loop-i-preserved t c =
    let items = c.prog.inside.list.items in
    let within : c.loop-i.i ≤ length items = omega (arith, c.len-i.ensures, c.prog.inside.list.ok.0) in
    record {
      start = start_more c.args.counter c.args.blocks.now.items c.loop-i.blocks.items items c.loop-i.i c.index.result.now (vec_len c.args.blocks.now) (vec_len c.loop-i.blocks) c.args.next c.in_ok-follow.follow
          c.args.blocks.now.ok.0 c.loop-i.blocks.ok.0 c.loop-i-test.true within c.index.ensures c.loop-i.invariant.blocks c.in_ok-follow.ensures.number;
      blocks = added_more c.args.counter c.args.blocks.now.items c.loop-i.blocks.items c.add_stmt.new.blocks.items items c.loop-i.i c.index.result.now (vec_len c.args.blocks.now) (vec_len c.loop-i.blocks) c.loop-i.follow c.args.next
          c.args.blocks.now.ok.0 c.loop-i.blocks.ok.0 c.loop-i-test.true within c.index.ensures c.loop-i.invariant.start c.loop-i.invariant.blocks c.in_ok-follow.ensures.blocks;
    }

pub add_stmt-returns-in_ok-blocks-in-If-clause-blocks : goal.add_stmt-returns-in_ok-blocks-in-If-clause-blocks
add_stmt-returns-in_ok-blocks-in-If-clause-blocks t c =
    rw (c.in-If.is)
    (branch_added c.args.counter c.args.blocks.now.items c.push_place.new.blocks.items c.add_points.new.blocks.items c.add_points-in-If.new.blocks.items (cond_tree c.in-If.b) c.in-If.p c.in-If.q
    (vec_len c.args.blocks.now) c.len-own.result (vec_len c.push_place.new.blocks) (vec_len c.add_points.new.blocks) c.in_ok-met-in-If.met c.in_ok-unmet-in-If.unmet c.args.next c.in_ok-blocks-in-If.field-0
    c.args.blocks.now.ok.0 c.len-own.ensures c.push_place.new.blocks.ok.0 c.add_points.new.blocks.ok.0
    c.in_ok-number-in-If.ensures.blocks c.in_ok-met-in-If.ensures.start c.in_ok-met-in-If.ensures.blocks c.in_ok-unmet-in-If.ensures.start c.in_ok-unmet-in-If.ensures.blocks c.in_ok-blocks-in-If.ensures)

pub add_stmt-returns-in_ok-blocks-in-While-clause-blocks : goal.add_stmt-returns-in_ok-blocks-in-While-clause-blocks
add_stmt-returns-in_ok-blocks-in-While-clause-blocks t c =
    rw (c.in-While.is)
    (loop_added c.args.counter c.args.blocks.now.items c.push_place-in-While.new.blocks.items c.add_points-in-While.new.blocks.items (cond_tree c.in-While.b) c.in-While.p
    (vec_len c.args.blocks.now) c.len-own-in-While.result (vec_len c.push_place-in-While.new.blocks) c.in_ok-number-in-While.number c.in_ok-inside-in-While.inside c.args.next c.in_ok-blocks-in-While.field-0
    c.args.blocks.now.ok.0 c.len-own-in-While.ensures c.push_place-in-While.new.blocks.ok.0
    c.in_ok-number-in-While.ensures.blocks c.in_ok-number-in-While.ensures.number c.in_ok-inside-in-While.ensures.start c.in_ok-inside-in-While.ensures.blocks c.in_ok-blocks-in-While.ensures)
