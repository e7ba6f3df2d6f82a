use Rattle.abstraction.proofs.ShownRows.{shown_tables-abstract_of}
use Rattle.abstraction.proofs.laws.tables_are_shown.Goals as goal

pub returns : goal.returns
returns c f a h = shown_tables-abstract_of f a h
