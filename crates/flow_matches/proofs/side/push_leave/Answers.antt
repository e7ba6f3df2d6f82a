use Rattle.std.proofs.Common.{◌≡◌, ◌+◌, ◌∷◌, [], ◌++◌, false, ap, map, length, ◌∙◌, arith}
use Rattle.std.proofs.lemmas.Bool.{and_parts}
use Rattle.flow_model.specs.Graphs.{branch, return}
use Rattle.flow_model.specs.Polish.{values_of, cond_of, statement_of, graph_of}
use Rattle.flow_model.specs.WholeGraphs.{are_whole_exprs, is_whole_cond}
use Rattle.flow_matches.specs.Working.WholeSides.{are_whole_statements}
use Rattle.flow_matches.proofs.SideGraphs.{leave_pushed, graph_length, made_block}
use Rattle.flow_matches.proofs.side.push_leave.Goals as goal

pub returns-clause-added : goal.returns-clause-added
returns-clause-added c =
    let old = graph_of c.args.list.now.items in
    let mid = graph_of c.push_block.new.list.items in
    let n = c.len-number.result in
    let long : n ≡ length old = omega (arith, c.len-number.ensures, c.args.list.now.ok.0, graph_length c.args.list.now.items) in
    leave_pushed old mid (graph_of c.push_block-2.new.list.items) n (cond_of c.in_ok-cond.cond.items) (values_of c.in_ok-results.results.items) c.args.leave.now long
    (c.in_ok-cond.ensures.tree ∙ ap cond_of c.deref.ensures.value)
    (c.in_ok-results.ensures.trees ∙ ap values_of c.deref-2.ensures.value)
    (c.in_ok-push_block.ensures.added ∙ ap (λ ss. old ++ made_block false ss (branch (cond_of c.in_ok-cond.cond.items) (n + 1) (n + 2)) ∷ []) (ap (map statement_of) c.new.ensures.items))
    (c.in_ok-push_block-2.ensures.added ∙ ap (λ ss. mid ++ made_block false ss (return (values_of c.in_ok-results.results.items)) ∷ []) (ap (map statement_of) c.new-2.ensures.items))

pub returns-clause-whole : goal.returns-clause-whole
returns-clause-whole c = λ leave old.
    let parts = and_parts (is_whole_cond c.args.leave.now.condition.items) (are_whole_exprs c.args.leave.now.results.items) leave in
    c.in_ok-push_block-2.ensures.whole (ap are_whole_statements c.new-2.ensures.items) (c.in_ok-results.ensures.whole ∙ ap are_whole_exprs c.deref-2.ensures.value ∙ parts.1)
    (c.in_ok-push_block.ensures.whole (ap are_whole_statements c.new.ensures.items) (c.in_ok-cond.ensures.whole ∙ ap is_whole_cond c.deref.ensures.value ∙ parts.0) old)
