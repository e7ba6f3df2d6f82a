use Rattle.flow_forms.specs.Comparisons.{comparison_tree, is_same_comparison}
use Rattle.flow_edges.proofs.TableRows.{number_of}
use Rattle.flow_edges.proofs.term.test_number.Goals as goal

pub returns : goal.returns
returns c = number_of comparison_tree is_same_comparison c.args.tests.now c.args.comparison.now c.place_of.result c.unwrap_or.result c.place_of.ensures c.unwrap_or.ensures
