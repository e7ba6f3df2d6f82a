use Rattle.std.proofs.Common.{rules}
use Rattle.term_nodes.specs.NodeTrees.{tree_at}
use Rattle.partial_derivs.proofs.Tables.{right_insert, same_steps}
use Rattle.partial_derivs.proofs.derivatives.Derivatives.note.Goals as goal

pub returns : goal.returns
returns c store d is right =
    let copied = c.in_ok-copy in
    right_insert _ (λ x y e. search rules) store d c.args.self.now (record { table = c.insert.new.self }) c.args.term copied.copy c.in_ok-insert.ensures.entries
    (record {
      term = is.term;
      steps_of = same_steps store d (tree_at store c.args.term) c.args.steps.now copied.copy copied.ensures.accepts copied.ensures.moves is.steps_of;
    })
    right
