use Rattle.std.proofs.Common.{◌↔◌, ap, ◌∙◌, length, sym, subst}
use Rattle.std.specs.Bool.{IsTrue}
use Rattle.kat_model.specs.Trees.{kat_tree}
use Rattle.kat_model.specs.Strings.{GuardedString}
use Rattle.string_tables.specs.Tables.{RelatesEnds}
use Rattle.string_tables.proofs.FirstBreaks.{ends_given}
use Rattle.string_tables.proofs.broken.relates_ends.Goals as goal

pub returns : goal.returns
returns c =
    let x = c.args.string.now in
    let e = kat_tree c.args.term.now in
    subst (λ b. IsTrue b ↔ RelatesEnds x e) (sym c.is_some.ensures)
    (ends_given x e (length c.as_slice-last.result.now) c.in_ok-end.end (ap length (c.as_slice-last.ensures ∙ ap (λ (s : GuardedString). s.rest) c.string.view_is)) c.in_ok-end.ensures)
