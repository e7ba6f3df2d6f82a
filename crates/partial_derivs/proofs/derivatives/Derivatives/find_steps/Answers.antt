use Rattle.std.proofs.Common.{rules, sym}
use Rattle.term_nodes.specs.NodeTrees.{tree_at}
use Rattle.term_store.specs.contracts.nodes.TermIdPartialEq.TheImpl.{eq-value}
use Rattle.partial_derivs.proofs.Tables.{right_found, same_steps}
use Rattle.partial_derivs.proofs.derivatives.Derivatives.find_steps.Goals as goal

pub returns-in_ok-copy-in-Some : goal.returns-in_ok-copy-in-Some
returns-in_ok-copy-in-Some c store d right =
    let copied = c.in_ok-copy-in-Some in
    same_steps store d (tree_at store c.args.term) c.in-Some.steps.now copied.field-0 copied.ensures.accepts copied.ensures.moves
    (right_found eq-value.it (λ x y e. search rules) store d c.args.self.now c.args.term c.in-Some.steps.now (sym c.in-Some.ensures.value) right)
