use Rattle.std.proofs.Common.{sym}
use Rattle.kat_model.specs.Trees.{kat_tree}
use Rattle.chain_rules.proofs.LineLists.{last_found}
use Rattle.chain_rules.proofs.lines.last_term.Goals as goal

pub returns-in-Some : goal.returns-in-Some
returns-in-Some c =
    last_found (kat_tree c.chain.inside.first) c.deref.result.now c.chain.inside.lines.items c.args.chain.now c.in-Some.line.now
    c.deref.ensures.value c.chain.view_is (sym c.in-Some.ensures.value)
