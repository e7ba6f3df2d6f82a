use Rattle.walk_regions.proofs.DiagramTests.{table_noted}
use Rattle.walk_regions.proofs.test_table.TestTable.note.Goals as goal

pub returns : goal.returns
returns c store d are own tested = table_noted store d c.args.self.now.tests.entries c.insert.new.self.entries c.args.id c.args.test c.in_ok-insert.ensures.entries are own tested
