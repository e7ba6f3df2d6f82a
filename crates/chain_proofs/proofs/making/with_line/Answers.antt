use Rattle.kat_model.specs.Trees.{kat_tree}
use Rattle.chain_proofs.proofs.Extended.{line_added}
use Rattle.chain_proofs.proofs.making.with_line.Goals as goal

pub returns : goal.returns
returns c =
    line_added (kat_tree c.chain.inside.first) c.chain.inside.lines.items c.push.new.self.items c.args.line c.args.chain
    c.chain.view_is c.in_ok-push.ensures.items
