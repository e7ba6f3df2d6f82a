use Rattle.std.proofs.Common.{◌≡◌, ◌<◌, ◌∷◌, [], ◌++◌, ◌∙◌, ap, length, get_or, arith}
use Rattle.std.specs.Prelude.{Vec}
use Rattle.std.specs.declared.alloc.Global.{Global}
use Rattle.flow_model.specs.Polish.{graph_of}
use Rattle.flow_pieces.specs.PieceGraphs.{mark}
use Rattle.flow_matches.specs.declared.leaves.Leave.{Leave}
use Rattle.flow_matches.specs.Working.SideViews.{leave_trees, arrival_blocks}
use Rattle.flow_matches.specs.Working.WholeSides.{are_whole_leaves}
use Rattle.flow_matches.proofs.WholeParts.{all_item}
use Rattle.flow_matches.proofs.SideSteps.{arrivals_next, arrivals_end}
use Rattle.flow_matches.proofs.side.push_arrivals.Goals as goal

pub loop-leaves-preserved : goal.loop-leaves-preserved
loop-leaves-preserved c =
    let old = graph_of c.loop-leaves.list.items in
    let es = mark c.args.side.now.otherwise ∷ [] in
    let xs = c.args.side.now.leaves.items in
    let same = c.deref-leaves-items.ensures.value in
    let is : c.leaves-item.result ≡ get_or xs c.loop-leaves.leaves-index c.leaves-item.result = c.leaves-item.is ∙ ap (λ l. get_or l c.loop-leaves.leaves-index c.leaves-item.result) same in
    let lt : c.loop-leaves.leaves-index < length xs = omega (arith, c.loop-leaves-test.true, ap length same) in
    record {
      added = arrivals_next (λ (v : Vec Leave Global). leave_trees v.items) es xs c.loop-leaves.leaves-index c.leaves-item.result old (graph_of c.push_arrival.new.list.items) _ lt
          (c.in_ok-push_arrival.ensures.added
          ∙ ap (λ ls. old ++ arrival_blocks (length old) (leave_trees ls) es) c.deref.ensures.value
          ∙ ap (λ (v : Vec Leave Global). old ++ arrival_blocks (length old) (leave_trees v.items) es) is)
          c.loop-leaves.invariant.added;
      whole = λ leaves first.
          c.in_ok-push_arrival.ensures.whole (ap are_whole_leaves c.deref.ensures.value ∙ all_item (λ (v : Vec Leave Global). are_whole_leaves v.items) xs c.loop-leaves.leaves-index c.leaves-item.result lt is leaves) (c.loop-leaves.invariant.whole leaves first);
    }

pub returns-clause-added : goal.returns-clause-added
returns-clause-added c =
    arrivals_end (λ (v : Vec Leave Global). leave_trees v.items) (mark c.args.side.now.otherwise ∷ []) c.args.side.now.leaves.items c.loop-leaves.leaves-index (graph_of c.loop-leaves.list.items) _ (omega (arith, c.loop-leaves-test.false, ap length c.deref-leaves-items.ensures.value)) c.loop-leaves.invariant.added
