use Rattle.std.proofs.lemmas.Result.{IfOk-weaker}
use Rattle.piece_problems.specs.MatchedBlocks.{matched_blocks, graphs_of, trees_of, asked_match}
use Rattle.piece_problems.proofs.FoundPieces.{piece_problem}
use Rattle.piece_problems.proofs.graphs.MatchedGraphs.problem.Goals as goal

pub returns-in-Ok-clause-problem : goal.returns-in-Ok-clause-problem
returns-in-Ok-clause-problem c =
    let g = matched_blocks c.self.inside.sorts.now c.self.inside.before.now c.self.inside.after.now c.self.inside.matches.now in
    let whole = c.self.invariant.whole in
    rw (← c.self.view_is)
    (IfOk-weaker c.problem_between.result _ _
    (piece_problem (graphs_of g) (trees_of g) (asked_match g c.args.number c.args.rounds c.args.splits) c.in-Graphs.before c.in-Graphs.after c.in-Ok.piece c.in-Graphs.is c.in-Ok.ensures.piece (c.in-Ok.ensures.whole whole.before whole.after whole.matches))
    (rw (c.deref.ensures.value, c.deref-in-Graphs.ensures.value) at c.problem_between.ensures.problem))
