use Rattle.std.proofs.Common.{◌≤◌, length, drop, ◌-◌}
use Rattle.text_parser.specs.Lexemes.{lexemes}
use Rattle.problem_file.specs.Items.{over_names}
use Rattle.problem_file.proofs.Lists.{NamesLeft}
use Rattle.gkat_front.specs.Working.Declarations.{declare_by}
use Rattle.gkat_front.proofs.items.read_names.Given as goal

abbrev pub invariant-names : goal.invariant-names
invariant-names g l = record {
  place : l.from ≤ l.at;
  left : NamesLeft (declare_by g.R.GkatItemReading.actions l.what) (g.R.GkatItemReading.state l.reading) (drop l.at (lexemes l.toks)) (over_names (declare_by g.R.GkatItemReading.actions l.what) (g.R.GkatItemReading.state l.fn.reading) (drop l.from (lexemes l.toks)));
}

abbrev pub decreases-names : goal.decreases-names
decreases-names g l = length l.toks - l.at
