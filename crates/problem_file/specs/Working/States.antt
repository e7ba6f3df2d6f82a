-- What the items so far have made, as a state.
use Rattle.std.specs.Prelude.{map, Result}
use Rattle.kat_model.specs.Trees.{kat_tree}
use Rattle.text_parser.specs.declared.fault.TextFault.{TextFault}
use Rattle.while_lang.specs.NamedProgs.{parts_of_progs}
use Rattle.problem_file.specs.Files.{State}
use Rattle.while_lang.specs.Trees.{goal_tree, names_of_progs}
use Rattle.problem_file.specs.Working.Walks.{Does}
use Rattle.problem_file.specs.declared.item_reader.ItemReader.{ItemReader}

abbrev pub state_of : ItemReader → State
state_of r = record {
  limit = r.limit;
  world = r.scope;
  tests = r.tests;
  actions = r.actions;
  vars = r.vars;
  progs = parts_of_progs r.progs.items;
  prog_names = names_of_progs r.progs.items;
  hyps = map kat_tree r.hyps.items;
  rounds = r.rounds;
  width = r.width;
  goals = map goal_tree r.goals.items;
  size = r.size;
}

-- a step returns nothing or a fault, and leaves a reader; out of memory, it implies nothing
abbrev pub Leaves : Result (Unit {0}) TextFault → ItemReader → Result State TextFault → Type 0
Leaves result r m = Does (Unit {0}) result (state_of r) m
