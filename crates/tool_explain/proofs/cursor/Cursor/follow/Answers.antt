use Rattle.std.proofs.Common.{sym, ap, ◌∙◌, Bor}
use Rattle.kat_model.specs.Strings.{Move, GuardedString}
use Rattle.tool_explain.proofs.StringMoves.{next_same, next_other, next_none}
use Rattle.tool_explain.proofs.cursor.Cursor.follow.Goals as goal

pub returns-in-Some-clause-followed : goal.returns-in-Some-clause-followed
returns-in-Some-clause-followed c =
    next_same (λ (m : Bor Move). m.now) c.args.self.now.string.now c.as_slice.result.now c.args.self.now.at c.args.action c.get.result
    (c.as_slice.ensures ∙ ap (λ (x : GuardedString). x.rest) c.string.view_is) c.get.ensures.lookup c.in-Some.next c.in-Some.is
    (ap (λ (m : Move). m.act) (sym c.next.view_is) ∙ c.if-next-action.true)

pub returns-in_default-clause-followed : goal.returns-in_default-clause-followed
returns-in_default-clause-followed c =
    next_other (λ (m : Bor Move). m.now) c.args.self.now.string.now c.as_slice.result.now c.args.self.now.at c.args.action c.get.result
    (c.as_slice.ensures ∙ ap (λ (x : GuardedString). x.rest) c.string.view_is) c.get.ensures.lookup c.in-Some.next c.in-Some.is
    (λ e. c.if-next-action.false (ap (λ (m : Move). m.act) c.next.view_is ∙ e))

pub returns-in_default-2-clause-followed : goal.returns-in_default-2-clause-followed
returns-in_default-2-clause-followed c =
    next_none (λ (m : Bor Move). m.now) c.args.self.now.string.now c.as_slice.result.now c.args.self.now.at c.args.action c.get.result
    (c.as_slice.ensures ∙ ap (λ (x : GuardedString). x.rest) c.string.view_is) c.get.ensures.lookup c.in_default.is
