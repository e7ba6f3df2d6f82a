use Rattle.std.proofs.Common.{◌-◌, List, get_or, ap, ◌∙◌}
use Rattle.kat_model.specs.Strings.{Move, GuardedString}
use Rattle.string_tables.proofs.MarkedRuns.{atom_before}
use Rattle.string_tables.proofs.first_parts.atom_at.Goals as goal

pub returns : goal.returns
returns c =
    let x : GuardedString = c.args.string.now in
    let m : Move = c.index-moves-position.result in
    let shown = c.as_slice-moves.ensures ∙ ap (λ (s : GuardedString). s.rest) c.string.view_is in
    c.as_slice-2.ensures
    ∙ ap (λ (n : Move). n.atom) c.m.view_is
    ∙ atom_before x c.args.position m c.if-position-eq0.false c.requires (c.index-moves-position.is ∙ ap (λ (l : List Move). get_or l (c.args.position - 1) m) shown)
