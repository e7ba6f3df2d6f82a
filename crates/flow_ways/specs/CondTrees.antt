-- The conditions and facts of the program.
use Rattle.flow_forms.specs.Comparisons.{comparison_tree}
use Rattle.flow_ways.specs.Conditions.{FlowCondTree, constantly, atom, negation, both, either, Fact}
use Rattle.flow_ways.specs.declared.condition.FlowCond.{FlowCond}
use Rattle.flow_ways.specs.declared.condition.FlowCond.TheVariants.{Constantly, Atom, Negation', Both', Either'}
use Rattle.flow_ways.specs.declared.condition.Known.{Known}

abbrev pub cond_tree : FlowCond → FlowCondTree
cond_tree (Constantly b) = constantly b
cond_tree (Atom c) = atom (comparison_tree c)
cond_tree (Negation' x b) = negation (cond_tree b)
cond_tree (Both' x b y c) = both (cond_tree b) (cond_tree c)
cond_tree (Either' x b y c) = either (cond_tree b) (cond_tree c)

abbrev pub known_fact : Known → Fact
known_fact k = (comparison_tree k.comparison, k.holds)
