use Rattle.std.proofs.Common.{◌≡◌, drop}
use Rattle.flow_syntax.specs.Working.Words.{listed_terminal}
use Rattle.flow_syntax.proofs.terminal.listed_terminal.Given as goal

abbrev pub invariant-loop-listed : goal.invariant-loop-listed
invariant-loop-listed l = listed_terminal (drop l.listed-index l.list) l.other l.text ≡ listed_terminal l.list l.other l.text
