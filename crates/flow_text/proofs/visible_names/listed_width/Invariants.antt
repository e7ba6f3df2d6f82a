use Rattle.std.proofs.Common.{◌≡◌, drop}
use Rattle.flow_text.specs.Working.Words.{listed_width}
use Rattle.flow_text.proofs.visible_names.listed_width.Given as goal

abbrev pub invariant-loop-listed : goal.invariant-loop-listed
invariant-loop-listed l = listed_width (drop l.listed-index l.list) l.text ≡ listed_width l.list l.text
