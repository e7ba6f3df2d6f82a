use Rattle.std.proofs.Common.{map, refl, subst}
use Rattle.term_nodes.specs.NodeTrees.{tree_at}
use Rattle.walk_regions.specs.Allowance.{IsAllowance}
use Rattle.walk_under.specs.declared.walk.TestedWorklist.{TestedWorklist}
use Rattle.walk_under.proofs.Running.{walk_begun}
use Rattle.walk_under.proofs.walk.TestedWorklist.begin.Goals as goal

pub returns-clause-under_way : goal.returns-clause-under_way
returns-clause-under_way c q tests actions ids =
    let moves = c.in_ok-moves.moves in
    let sides = c.args.sides.now in
    let w : TestedWorklist = record { listing = record { entries = c.in_ok-entries.entries; universal = sides.universal; count = c.count.result }; moves = moves; diagrams = c.of_hyps.new.diagrams; derivatives = c.of_hyps.new.derivatives } in
    let shorts = map (tree_at c.args.store.now) c.args.shorts.now in
    walk_begun shorts q c.args.store.now c.of_hyps.new.store c.args.self.now.diagrams w sides c.in_ok-moves.ensures.kept tests ids
    (subst (λ n. IsAllowance c.of_hyps.new.diagrams shorts n moves) actions c.in_ok-moves.ensures.allowance) c.in_ok-moves.ensures.right c.count.ensures.store
    c.in_ok-entries.ensures
    refl

pub returns-clause-kept : goal.returns-clause-kept
returns-clause-kept c = c.in_ok-moves.ensures.kept.trees

pub returns-in_err-moves-clause-kept : goal.returns-in_err-moves-clause-kept
returns-in_err-moves-clause-kept c = c.in_err-moves.ensures.kept.trees

pub returns-in_err-entries-clause-kept : goal.returns-in_err-entries-clause-kept
returns-in_err-entries-clause-kept c = c.in_ok-moves.ensures.kept.trees
