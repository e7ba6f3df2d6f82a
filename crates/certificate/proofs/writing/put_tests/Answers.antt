use Rattle.std.proofs.Common.{◌++◌, map, ap, ◌∙◌}
use Rattle.std.proofs.lemmas.List.{take_all}
use Rattle.term_nodes.specs.declared.TestNode.TheVariants.{False}
use Rattle.certificate.specs.declared.entry.Entry.TheVariants.{TestLine}
use Rattle.certificate.specs.Working.Writings.{entry_lines}
use Rattle.certificate.proofs.Lines.{more_entries}
use Rattle.certificate.proofs.writing.put_tests.Goals as goal

pub loop-node-preserved : goal.loop-node-preserved
loop-node-preserved c = more_entries TestLine c.args.out.now.items c.loop-node.out.items c.put_test.new.out.items c.args.nodes.now c.loop-node.node-index False c.loop-node-test.true c.loop-node.invariant c.in_ok-put_test.ensures

pub returns : goal.returns
returns c = c.loop-node.invariant ∙ ap (λ l. c.args.out.now.items ++ entry_lines (map TestLine l)) (take_all c.loop-node.node-index c.args.nodes.now c.loop-node-test.false)
