use Rattle.kat_model.specs.Trees.{kat_tree}
use Rattle.chain_rules.proofs.LineLists.{ends_found}
use Rattle.chain_rules.proofs.lines.ends.Goals as goal

pub returns : goal.returns
returns c =
    ends_found (kat_tree c.chain.inside.first) (kat_tree c.last_term.result.now) c.chain.inside.lines.items c.args.chain.now
    c.chain.view_is c.last_term.ensures
