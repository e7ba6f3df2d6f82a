-- What is known of the items so far, as definitions see it.
use Rattle.std.specs.Prelude.{map}
use Rattle.text_parser.specs.TokenParts.{parts_of_token}
use Rattle.flow_text.specs.declared.known.WrittenGraph.{WrittenGraph}
use Rattle.flow_text.specs.declared.known.WrittenMatch.{WrittenMatch}
use Rattle.flow_text.specs.declared.known.Known.{Known as KnownItems}
use Rattle.flow_text.specs.Checking.{GraphSyntax, a_graph, GivenMatch, given_match, Known}
use Rattle.flow_text.specs.Scopes.{counts}
use Rattle.flow_text.specs.ScopeViews.{scope_parts}
use Rattle.flow_syntax.specs.SyntaxViews.{blocks_syntax, match_syntax}

abbrev pub graph_syntax : WrittenGraph → GraphSyntax
graph_syntax g = a_graph (counts g.sorts g.functions g.variables g.graphs) (blocks_syntax g.blocks.items)

abbrev pub given_match_of : WrittenMatch → GivenMatch
given_match_of m = given_match (counts m.sorts m.functions m.variables m.graphs) (parts_of_token m.word) (match_syntax m.matched)

abbrev pub known_parts : KnownItems → Known
known_parts k = record { scope = scope_parts k.scope; graphs = map graph_syntax k.graphs.items; matches = map given_match_of k.matches.items; rounds = k.rounds; splits = k.splits; goal = k.goal; nodes = k.nodes }
