use Rattle.std.proofs.Common.{[], ◌∷◌, map, ap, subst}
use Rattle.std.specs.Option.{option_map}
use Rattle.line_format.specs.Numerals.{value_of, numbers_of}
use Rattle.line_format.specs.Readings.{texts, ReadsNumbers}
use Rattle.certificate.specs.declared.entry.Entry.TheVariants.{PairLine}
use Rattle.certificate.proofs.PairForms.{no_first, no_second, of_two}
use Rattle.certificate.proofs.entry.pair_of_two.Goals as goal

pub returns-in_default : goal.returns-in_default
returns-in_default c =
    let left = subst (ReadsNumbers (texts c.args.left.now)) c.in_default.is c.in_ok-left.ensures in
    ap (option_map PairLine) (no_first (texts c.args.left.now) (numbers_of (texts c.args.right.now) ∷ []) left)

pub returns-in_default-2 : goal.returns-in_default-2
returns-in_default-2 c =
    let right = subst (ReadsNumbers (texts c.args.right.now)) c.in_default-2.is c.in_ok-right.ensures in
    ap (option_map PairLine) (no_second (numbers_of (texts c.args.left.now)) (texts c.args.right.now) [] right)

pub returns : goal.returns
returns c =
    let ws = texts c.args.left.now in
    let vs = texts c.args.right.now in
    let left = subst (ReadsNumbers ws) c.in-Some.is c.in_ok-left.ensures in
    let right = subst (ReadsNumbers vs) c.in-Some-2.is c.in_ok-right.ensures in
    of_two ws vs c.pair.result left.0 right.0 (c.pair.ensures (map value_of ws) (map value_of vs) left.1 right.1)
