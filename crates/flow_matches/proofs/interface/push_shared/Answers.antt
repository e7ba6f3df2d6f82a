use Rattle.std.proofs.Common.{◌≡◌, ◌<◌, false, not, length, get_or, slice_index_or, ap, sym, ◌∙◌, arith}
use mathlib.Core.Path.{ap₂}
use Rattle.std.specs.Prelude.{Vec}
use Rattle.std.specs.declared.alloc.Global.{Global}
use Rattle.flow_model.specs.declared.graph.ExprNode.{ExprNode}
use Rattle.flow_model.specs.Expressions.{variable}
use Rattle.flow_model.specs.Polish.{expr_of, values_of}
use Rattle.flow_model.specs.WholeGraphs.{is_whole_expr, are_whole_exprs}
use Rattle.flow_model.specs.Matches.{match_of}
use Rattle.flow_pieces.specs.Matches.{is_shared}
use Rattle.flow_matches.proofs.PushedLists.{filtered_push, filtered_skip}
use Rattle.flow_matches.proofs.SideGraphs.{has_item}
use Rattle.flow_matches.proofs.WholeParts.{all_pushed}
use Rattle.flow_matches.proofs.interface.push_shared.Goals as goal
use Rattle.flow_matches.proofs.interface.push_shared.Goals.{then-not-has_mark+in_ok-variable+in_ok-append, else-not-has_mark}

pub loop-number-preserved : goal.loop-number-preserved
loop-number-preserved c =
    let live = c.args.exit.now.live.items in
    let items = c.deref-number-items.result.now in
    let i = c.loop-number.number-index in
    let m = match_of c.args.own.now in
    let start = values_of c.args.values.now.items in
    let same : items ≡ live = c.deref-number-items.ensures.value in
    let lt : i < length live = omega (arith, c.loop-number-test.true, ap length same) in
    let x = get_or live i 0 in
    let at : get_or items i 0 ≡ x = ap (λ l. get_or l i 0) same in
    let test : c.has_mark.result ≡ slice_index_or c.in_ok-marks.marks.items x false = c.has_mark.ensures ∙ ap₂ (λ l k. slice_index_or l k false) c.deref.ensures.value at in
    let shared : not (slice_index_or c.in_ok-marks.marks.items x false) ≡ is_shared m x = c.in_ok-marks.ensures x (c.requires x (has_item live i 0 lt)) in
    let are_whole = λ (v : Vec (Vec ExprNode Global) Global). are_whole_exprs v.items in
    record {
      trees = elim c.if-not-has_mark.branch [
        | then-not-has_mark+in_ok-variable+in_ok-append w ↦
            ap (λ (v : Vec (Vec ExprNode Global) Global). values_of v.items) w.values-is
            ∙ filtered_push (λ (e : Vec ExprNode Global). expr_of e.items) variable start live i 0 c.loop-number.values.items w.append.new.list.items w.in_ok-variable.field-0
            lt w.in_ok-append.ensures (w.in_ok-variable.ensures.tree ∙ ap variable at) (is_shared m) (sym shared ∙ ap not (sym test ∙ w.if-not-has_mark.true)) c.loop-number.invariant.trees
        | else-not-has_mark w ↦
            ap (λ (v : Vec (Vec ExprNode Global) Global). values_of v.items) w.values-is
            ∙ filtered_skip variable start (values_of c.loop-number.values.items) live i 0 (is_shared m) lt (sym shared ∙ ap not (sym test ∙ w.if-not-has_mark.false)) c.loop-number.invariant.trees
      ];
      whole = λ old. elim c.if-not-has_mark.branch [
        | then-not-has_mark+in_ok-variable+in_ok-append w ↦
            ap are_whole w.values-is
            ∙ all_pushed (λ (e : Vec ExprNode Global). is_whole_expr e.items) c.loop-number.values.items w.append.new.list.items w.in_ok-variable.field-0 w.in_ok-append.ensures (c.loop-number.invariant.whole old) w.in_ok-variable.ensures.whole
        | else-not-has_mark w ↦ ap are_whole w.values-is ∙ c.loop-number.invariant.whole old
      ];
    }
