use Rattle.std.proofs.Common.{◌∷◌, List, map}
use Rattle.std.proofs.lemmas.Result.{IfOk-weaker}
use Rattle.while_lang.specs.Programs.{StmtTree}
use Rattle.while_lang.specs.ProgramViews.{stmt_tree}
use Rattle.optimiser_steps.proofs.MadeSteps.{found_after, found_nested}
use Rattle.optimiser_steps.proofs.first_at.step_of.Goals as goal

pub returns-in-Some-2 : goal.returns-in-Some-2
returns-in-Some-2 c =
    let ss : List StmtTree = stmt_tree c.args.stmt.now ∷ map stmt_tree c.args.rest.now in
    found_after c.args.file.now ss c.in-Some-2.made (rw c.in_default.is at c.in_ok-made.ensures) (rw c.in-Some-2.is at c.in_ok-made-2.ensures)

pub returns : goal.returns
returns c =
    let ss : List StmtTree = stmt_tree c.args.stmt.now ∷ map stmt_tree c.args.rest.now in
    IfOk-weaker c.step_nested.result _ _
    (λ r found. found_nested c.args.file.now ss r (rw c.in_default.is at c.in_ok-made.ensures) (rw c.in_default-2.is at c.in_ok-made-2.ensures) found)
    c.step_nested.ensures
