use Rattle.std.proofs.Common.{rules, ◌∙◌}
use Rattle.test_diagrams.specs.contracts.diagrams.DiagramIdPartialEq.TheImpl.{eq-value}
use Rattle.hoare_outlines.proofs.NodesFor.{find_known}
use Rattle.hoare_outlines.proofs.noting.NodeWriter.find.Goals as goal

pub returns : goal.returns
returns c = find_known eq-value.it (λ x y e. search rules) c.args.self.now.nodes.keys c.args.self.now.known.entries c.args.set c.copied.result (c.copied.ensures ∙ c.get.ensures.value)
