use Rattle.std.proofs.Common.{sym, ◌∙◌}
use Rattle.flow_syntax.proofs.ValuesMade.{leaf_made}
use Rattle.flow_syntax.proofs.building.shift_at.Goals as goal

pub returns : goal.returns
returns g c = c.in_ok-shift.ensures ∙ sym (leaf_made g.B.Building.actions c.args.toks.now c.args.i _ (g.B.Building.stack c.args.building.now) c.requires)
