use Rattle.std.proofs.Common.{rules}
use Rattle.test_diagrams.specs.contracts.diagrams.DiagramIdPartialEq.TheImpl.{eq-value}
use Rattle.hoare_outlines.proofs.NodesFor.{known_with}
use Rattle.hoare_outlines.proofs.noting.NodeWriter.remember.Goals as goal

pub returns-clause-known : goal.returns-clause-known
returns-clause-known c d are own =
    known_with eq-value.it (λ x y e. search rules) c.args.self.now.nodes.keys d c.args.self.now.known.entries c.insert.new.self.entries c.args.set c.args.node c.in_ok-insert.ensures.entries are own
