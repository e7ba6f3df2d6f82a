use Rattle.std.proofs.Common.{◌∷◌, ◌++◌, [], sym, subst}
use Rattle.std.proofs.lemmas.Bool.{iff_false}
use Rattle.lrat_checker.specs.Working.Steps.{IsStatus}
use Rattle.lrat_checker.proofs.Statuses.{open_more, status_false, status_first, status_again, status_second}
use Rattle.lrat_checker.proofs.status.with_literal.Goals as goal

pub returns-then-has : goal.returns-then-has
returns-then-has c = λ done s. status_false c.args.falses.now done c.args.literal (c.has.ensures.0 c.if-has.true) c.args.status s

pub returns-then-is_same : goal.returns-then-is_same
returns-then-is_same c = λ done s.
    status_again c.args.falses.now done c.args.literal c.in-OneOpen.first (c.is_same.ensures.0 c.if-is_same.true) (subst (λ x. IsStatus c.args.falses.now done x) c.in-OneOpen.is s)

pub returns-in-AllFalse : goal.returns-in-AllFalse
returns-in-AllFalse c = λ done s.
    status_first c.args.falses.now done c.args.literal (iff_false c.has.ensures c.if-has.false) (subst (λ x. IsStatus c.args.falses.now done x) c.in-AllFalse.is s)

pub returns-else-is_same : goal.returns-else-is_same
returns-else-is_same c = λ done s.
    status_second c.args.falses.now done c.args.literal c.in-OneOpen.first (iff_false c.is_same.ensures c.if-is_same.false) (iff_false c.has.ensures c.if-has.false) (subst (λ x. IsStatus c.args.falses.now done x) c.in-OneOpen.is s)

pub returns-in-TwoOpen : goal.returns-in-TwoOpen
returns-in-TwoOpen c = λ done s.
    subst (λ x. IsStatus c.args.falses.now (done ++ c.args.literal ∷ []) x) (sym c.in-TwoOpen.is) (open_more c.args.falses.now done c.args.literal (subst (λ x. IsStatus c.args.falses.now done x) c.in-TwoOpen.is s))
