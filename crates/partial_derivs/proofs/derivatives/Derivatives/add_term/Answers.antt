use Rattle.std.proofs.lemmas.Result.{on_ok_weaker}
use Rattle.term_nodes.specs.NodeTrees.{tree_at}
use Rattle.partial_derivs.proofs.Kept.{Keeps-trans, Keeps-functions}
use Rattle.partial_derivs.proofs.Unions.{ids_of_steps, IsUnionOfIds-kept, term_added}
use Rattle.partial_derivs.proofs.Tables.{AreRight-kept}
use Rattle.partial_derivs.proofs.derivatives.Derivatives.add_term.Goals as goal

pub returns-clause-added : goal.returns-clause-added
returns-clause-added c =
    let derived = c.in_ok-steps in
    on_ok_weaker c.add.result
    (term_added _ _ _ _ _ (tree_at c.args.store.now c.args.term) c.args.whole.now c.add.new.self derived.steps derived.ensures.kept derived.ensures.steps)
    c.add.ensures.added

pub returns-clause-right : goal.returns-clause-right
returns-clause-right c = AreRight-kept _ _ _ _ c.steps_of.new.self (Keeps-functions c.steps_of.new.store _ _ c.add.ensures.kept) c.in_ok-steps.ensures.right

pub steps_of-requires-clause-term : goal.steps_of-requires-clause-term
steps_of-requires-clause-term c = c.requires.term

pub steps_of-requires-clause-right : goal.steps_of-requires-clause-right
steps_of-requires-clause-right c = c.requires.right

pub returns-in_err-steps-clause-right : goal.returns-in_err-steps-clause-right
returns-in_err-steps-clause-right c = c.in_err-steps.ensures.right

pub returns-in_err-steps-clause-kept : goal.returns-in_err-steps-clause-kept
returns-in_err-steps-clause-kept c = c.in_err-steps.ensures.kept

pub add-requires-clause-ids : goal.add-requires-clause-ids
add-requires-clause-ids c = IsUnionOfIds-kept _ _ c.in_ok-steps.ensures.kept.functions c.args.whole.now c.requires.ids

pub add-requires-clause-steps : goal.add-requires-clause-steps
add-requires-clause-steps c = ids_of_steps _ _ _ _ _ c.in_ok-steps.ensures.steps

pub returns-clause-ids : goal.returns-clause-ids
returns-clause-ids c = c.add.ensures.ids

pub returns-clause-kept : goal.returns-clause-kept
returns-clause-kept c = Keeps-trans _ _ _ _ _ _ c.in_ok-steps.ensures.kept (Keeps-functions c.steps_of.new.store _ _ c.add.ensures.kept)
