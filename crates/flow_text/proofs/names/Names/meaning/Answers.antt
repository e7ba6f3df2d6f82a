use Rattle.std.proofs.Common.{sym, ◌∙◌}
use Rattle.flow_text.specs.ScopeViews.{names_of}
use Rattle.flow_text.proofs.NameTables.{get-meanings_of}
use Rattle.flow_text.proofs.names.Names.meaning.Goals as goal

pub returns : goal.returns
unfolding names_of
returns c = c.copied.ensures ∙ c.get.ensures.value ∙ sym (get-meanings_of c.args.self.now.meanings c.args.name.now)
