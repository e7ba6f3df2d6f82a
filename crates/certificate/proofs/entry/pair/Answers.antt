use Rattle.std.proofs.Common.{sym, ◌∙◌, None, refl}
use Rattle.certificate.proofs.PairForms.{pair_wide, pair_narrow}
use Rattle.certificate.proofs.entry.pair.Goals as goal

pub returns-then-are_wide : goal.returns-then-are_wide
returns-then-are_wide c ks ls left right = pair_wide ks ls c.args.left c.args.right left right (sym c.are_wide.ensures ∙ c.if-are_wide.true)

pub returns : goal.returns
returns c ks ls left right =
    pair_narrow ks ls c.args.left c.args.right left right (record { left = c.of.result; right = c.of-2.result; test = None }) (sym c.are_wide.ensures ∙ c.if-are_wide.false) c.of.ensures c.of-2.ensures refl
