use Rattle.std.proofs.Common.{◌≤◌, length, drop, ◌-◌}
use Rattle.text_parser.specs.Lexemes.{lexemes}
use Rattle.gkat_front.specs.Items.{item_by, items_by}
use Rattle.problem_file.proofs.Lists.{ItemsLeft}
use Rattle.gkat_front.proofs.items.read_items.Given as goal

abbrev pub invariant-items : goal.invariant-items
invariant-items g l = record {
  place : l.at ≤ length l.toks;
  left : ItemsLeft (item_by g.R.GkatItemReading.actions) (g.R.GkatItemReading.state l.reading) (drop l.at (lexemes l.toks)) (items_by g.R.GkatItemReading.actions (g.R.GkatItemReading.state l.fn.reading) (lexemes l.toks));
}

abbrev pub decreases-items : goal.decreases-items
decreases-items g l = length l.toks - l.at
