use Rattle.std.proofs.Common.{◌≡◌, drop}
use Rattle.flow_text.specs.Working.Words.{listed_rel}
use Rattle.flow_text.proofs.resolve_cond.listed_rel.Given as goal

abbrev pub invariant-loop-listed : goal.invariant-loop-listed
invariant-loop-listed l = listed_rel (drop l.listed-index l.list) l.other l.text ≡ listed_rel l.list l.other l.text
