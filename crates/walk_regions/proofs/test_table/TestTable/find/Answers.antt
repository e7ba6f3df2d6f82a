use Rattle.std.proofs.Common.{◌≡◌, ℕ, nat_eq, Option, Some, None, List, IfSome, sym, ◌∙◌}
use Rattle.std.specs.Map.{lookup}
use Rattle.term_nodes.specs.NodeLists.{NodeParts}
use Rattle.test_diagrams.specs.Functions.{DiagramsParts, value_of}
use Rattle.walk_regions.specs.Working.StoredTests.{IsTestFor, AreTestsFor}
use Rattle.walk_regions.proofs.DiagramTests.{table_found}
use Rattle.walk_regions.proofs.test_table.TestTable.find.Goals as goal

found : (es : List (ℕ × ℕ)) (id : ℕ) (o : Option ℕ) → o ≡ lookup (nat_eq id) es → IfSome o (λ test. (store : NodeParts) (d : DiagramsParts) → AreTestsFor store d es → IsTestFor store d.tests test (value_of d id))
found es id None e = tt
found es id (Some test) e = λ store d are. table_found store d es id test (sym e) are

pub returns : goal.returns
returns c = found c.args.self.now.tests.entries c.args.id c.copied.result (c.copied.ensures ∙ c.get.ensures.value)
