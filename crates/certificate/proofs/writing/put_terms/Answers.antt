use Rattle.std.proofs.Common.{◌++◌, map, ap, ◌∙◌}
use Rattle.std.proofs.lemmas.List.{take_all}
use Rattle.term_nodes.specs.declared.TermNode.TheVariants.{Zero}
use Rattle.certificate.specs.declared.entry.Entry.TheVariants.{TermLine}
use Rattle.certificate.specs.Working.Writings.{entry_lines}
use Rattle.certificate.proofs.Lines.{more_entries}
use Rattle.certificate.proofs.writing.put_terms.Goals as goal

pub loop-node-preserved : goal.loop-node-preserved
loop-node-preserved c = more_entries TermLine c.args.out.now.items c.loop-node.out.items c.put_term.new.out.items c.args.nodes.now c.loop-node.node-index Zero c.loop-node-test.true c.loop-node.invariant c.in_ok-put_term.ensures

pub returns : goal.returns
returns c = c.loop-node.invariant ∙ ap (λ l. c.args.out.now.items ++ entry_lines (map TermLine l)) (take_all c.loop-node.node-index c.args.nodes.now c.loop-node-test.false)
