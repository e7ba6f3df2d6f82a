-- The program's matches as definitions see them.
use Rattle.std.specs.Prelude.{List, map}
use Rattle.flow_model.specs.declared.block_match.Equation.{Equation as AnEquation}
use Rattle.flow_model.specs.declared.block_match.BlockMatch.{BlockMatch}
use Rattle.flow_model.specs.Matches.{Equation, Match}
use Rattle.flow_text.specs.declared.match_names.MatchName.{MatchName as AMatchName}
use Rattle.flow_text.specs.declared.matches.FileMatch.{FileMatch as AFileMatch}
use Rattle.flow_text.specs.Matches.{MatchName, FileMatch}
use Rattle.flow_text.specs.Trees.{expr_of, cond_of}

abbrev pub equation_parts : AnEquation → Equation
equation_parts q = record { variable = q.variable; expression = expr_of q.expression.items }

abbrev pub equations_of : List AnEquation → List Equation
equations_of qs = map equation_parts qs

abbrev pub blocks_parts : BlockMatch → Match
blocks_parts m = record {
  before = m.before;
  after = m.after;
  forth = equations_of m.forth.items;
  back = equations_of m.back.items;
  keeping = equations_of m.keeping.items;
  condition = cond_of m.condition.items;
}

abbrev pub name_parts : AMatchName → MatchName
name_parts n = record { variable = n.variable; part = n.part; is_set = n.is_set; at = n.at }

abbrev pub names_parts : List AMatchName → List MatchName
names_parts ns = map name_parts ns

abbrev pub match_parts : AFileMatch → FileMatch
match_parts m = record { blocks = blocks_parts m.blocks; rounds = m.rounds; splits = m.splits; at = m.at; names = names_parts m.names.items }

abbrev pub matches_parts : List AFileMatch → List FileMatch
matches_parts ms = map match_parts ms
