use Rattle.std.proofs.Common.{◌≡◌, ◌+◌, ◌++◌, drop, ap, sym, ◌∙◌, arith}
use Rattle.std.specs.Prelude.{Vec}
use Rattle.std.specs.declared.alloc.Global.{Global}
use Rattle.flow_pieces.specs.PieceGraphs.{Exit, leaves_from, has_block, leave_after}
use Rattle.flow_matches.specs.declared.leaves.Leave.{Leave}
use Rattle.flow_matches.specs.Working.ExitViews.{exit_tree, exit_trees}
use Rattle.flow_matches.specs.Working.SideViews.{leave_trees}
use Rattle.flow_matches.proofs.ExitSteps.{exit_step, exit_passed, all_exits, exit_has}
use Rattle.flow_matches.specs.Working.WholeSides.{is_whole_leave, are_whole_leaves}
use Rattle.flow_matches.proofs.WholeParts.{all_pushed, match_at_whole}
use Rattle.flow_matches.proofs.leaves.leaves_after.Goals as goal
use Rattle.flow_matches.proofs.leaves.leaves_after.Goals.{then-contains+in_ok-leave_after+in_ok-append, else-contains}

pub leave_after-requires-clause-live : goal.leave_after-requires-clause-live
leave_after-requires-clause-live c = (c.requires c.index-exits-place.result (exit_has c.args.exits.now c.loop-place.place c.index-exits-place.result c.loop-place-test.true c.index-exits-place.is)).1

pub bounds-matches-exit : goal.bounds-matches-exit
bounds-matches-exit c = (c.requires c.index-exits-place.result (exit_has c.args.exits.now c.loop-place.place c.index-exits-place.result c.loop-place-test.true c.index-exits-place.is)).0

pub offset_bounds-matches-exit : goal.offset_bounds-matches-exit
offset_bounds-matches-exit c =
    let few = (c.requires c.index-exits-place.result (exit_has c.args.exits.now c.loop-place.place c.index-exits-place.result c.loop-place-test.true c.index-exits-place.is)).0 in
    omega (arith, few)

pub loop-place-preserved : goal.loop-place-preserved
loop-place-preserved c =
    let es = c.args.exits.now in
    let ms = c.args.matches.now in
    let i = c.loop-place.place in
    let exit = c.index-exits-place.result in
    let own = c.requires exit (exit_has es i exit c.loop-place-test.true c.index-exits-place.is) in
    let here = λ (e : Exit). has_block e.columns c.args.block in
    let test : c.contains.result ≡ here (exit_tree ms exit) = c.contains.ensures.value ∙ ap (λ ks. has_block ks c.args.block) c.deref.ensures.value in
    let rest = leaves_from leave_after here (i + 1) (drop (i + 1) (exit_trees ms es)) in
    let are_whole = λ (v : Vec Leave Global). are_whole_leaves v.items in
    record {
      trees = elim c.if-contains.branch [
        | then-contains+in_ok-leave_after+in_ok-append w ↦
            ap (λ (v : Vec Leave Global). leave_trees v.items ++ rest) w.leaves-is
            ∙ exit_step leave_after here ms es i exit w.index-matches-exit.result c.loop-place.leaves.items w.append.new.list.items w.in_ok-leave_after.field-0 _ c.loop-place-test.true c.index-exits-place.is own.0 w.index-matches-exit.is
            (sym test ∙ w.if-contains.true) w.in_ok-leave_after.ensures.tree w.in_ok-append.ensures c.loop-place.invariant.trees
        | else-contains w ↦
            ap (λ (v : Vec Leave Global). leave_trees v.items ++ rest) w.leaves-is
            ∙ exit_passed leave_after here ms es i exit c.loop-place.leaves.items _ c.loop-place-test.true c.index-exits-place.is (sym test ∙ w.if-contains.false) c.loop-place.invariant.trees
      ];
      whole = λ whole. elim c.if-contains.branch [
        | then-contains+in_ok-leave_after+in_ok-append w ↦
            ap are_whole w.leaves-is
            ∙ all_pushed is_whole_leave c.loop-place.leaves.items w.append.new.list.items w.in_ok-leave_after.field-0 w.in_ok-append.ensures (c.loop-place.invariant.whole whole)
            (w.in_ok-leave_after.ensures.whole (match_at_whole ms exit.number w.index-matches-exit.result own.0 w.index-matches-exit.is whole))
        | else-contains w ↦ ap are_whole w.leaves-is ∙ c.loop-place.invariant.whole whole
      ];
    }

pub returns-clause-trees : goal.returns-clause-trees
returns-clause-trees c =
    all_exits leave_after (λ (e : Exit). has_block e.columns c.args.block) c.args.matches.now c.args.exits.now c.loop-place.place c.loop-place.leaves.items _ c.loop-place-test.false c.loop-place.invariant.trees
