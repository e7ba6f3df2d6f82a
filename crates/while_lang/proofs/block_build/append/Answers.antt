use Rattle.std.proofs.Common.{map, ap, ◌∙◌}
use Rattle.std.proofs.lemmas.List.{map-append}
use Rattle.while_lang.specs.ProgramViews.{stmt_tree}
use Rattle.while_lang.proofs.block_build.append.Goals as goal

pub returns : goal.returns
returns c = ap (map stmt_tree) c.in_ok-append.ensures.items ∙ map-append stmt_tree c.args.list.now.items c.args.more.items
