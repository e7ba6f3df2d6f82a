use Rattle.std.proofs.Common.{◌<◌, [], ◌∷◌, length, sym, subst, arith}
use Rattle.kat_model.proofs.Places.{has_at}
use Rattle.test_diagrams.proofs.Kept.{KeepsFunctions-itself}
use Rattle.walk_regions.specs.Reaching.{Brings}
use Rattle.walk_regions.proofs.Marking.{read_number, mark_more, mark_ids}
use Rattle.walk_regions.proofs.reaching.mark.Goals as goal

pub or-requires-clause-left : goal.or-requires-clause-left
or-requires-clause-left c =
    let lt : c.number-number.result < length c.args.marks.now = omega arith in
    c.requires.marks c.index-marks-number.result (has_at c.args.marks.now c.number-number.result c.index-marks-number.result (read_number c.args.marks.now c.number-number.result c.index-marks-number.result lt c.index-marks-number.is))

pub returns-clause-marks : goal.returns-clause-marks
returns-clause-marks c es all before brings =
    let n = c.number-number.result in
    let lt : n < length c.args.marks.now = omega arith in
    let at = read_number c.args.marks.now n c.index-marks-number.result lt c.index-marks-number.is in
    mark_more c.args.diagrams.now c.or.new.self c.in_ok-new.ensures.kept es all c.args.marks.now n c.index-marks-number.result c.args.test c.in_ok-new.new at c.in_ok-new.ensures.function before
    (subst (λ t. Brings c.args.diagrams.now es all c.args.test (t ∷ [])) (sym c.number-number.ensures) brings)

pub returns-clause-ids : goal.returns-clause-ids
returns-clause-ids c = mark_ids c.args.diagrams.now c.or.new.self c.in_ok-new.ensures.kept c.args.marks.now c.number-number.result c.in_ok-new.new c.in_ok-new.ensures.function.in_range c.requires.marks

pub returns-then-number-marks-clause-marks : goal.returns-then-number-marks-clause-marks
returns-then-number-marks-clause-marks c es set m b = m

pub returns-then-number-marks-clause-ids : goal.returns-then-number-marks-clause-ids
returns-then-number-marks-clause-ids c = c.requires.marks

pub returns-then-number-marks-clause-kept : goal.returns-then-number-marks-clause-kept
returns-then-number-marks-clause-kept c = KeepsFunctions-itself c.args.diagrams.now

pub or-requires-clause-right : goal.or-requires-clause-right
or-requires-clause-right c = c.requires.test

pub returns-in_err-new-clause-kept : goal.returns-in_err-new-clause-kept
returns-in_err-new-clause-kept c = c.in_err-new.ensures.kept

pub returns-clause-kept : goal.returns-clause-kept
returns-clause-kept c = c.in_ok-new.ensures.kept
