use Rattle.flow_text.specs.ScopeViews.{names_of}
use Rattle.flow_text.proofs.NameTables.{meanings_of-insert}
use Rattle.flow_text.proofs.names.Names.insert.Goals as goal

pub returns : goal.returns
unfolding names_of
returns c = meanings_of-insert c.args.self.now.meanings c.insert.new.self c.in_ok-key.key c.args.meaning c.args.name.now c.in_ok-key.ensures.ok c.in_ok-insert.ensures.updates
