use Rattle.std.proofs.Common.{◌≡◌, List, subst}
use Rattle.cert_checker.specs.declared.known.Truth.{Truth}
use Rattle.cert_checker.specs.declared.sides.TargetSide.{TargetSide}
use Rattle.cert_checker.specs.Questions.{QuestionParts}
use Rattle.cert_checker.specs.Sides.{IsTargetSide, AreTargetSides}
use Rattle.cert_checker.proofs.StepStates.{excluded_holds}
use Rattle.cert_checker.proofs.matching.outcome_of.Goals as goal

-- both sides, by equal arguments
sides_as : (p q : QuestionParts) (k l : List Truth) (x y : TargetSide) → p ≡ q → k ≡ l → IsTargetSide k p.right p.left x → IsTargetSide k p.left p.right y → AreTargetSides l q.left q.right (record { left = x; right = y })
sides_as p q k l x y e f left right = record {
  left = subst (λ (m : List Truth). IsTargetSide m q.right q.left x) f (subst (λ (z : QuestionParts). IsTargetSide k z.right z.left x) e left);
  right = subst (λ (m : List Truth). IsTargetSide m q.left q.right y) f (subst (λ (z : QuestionParts). IsTargetSide k z.left z.right y) e right);
}

pub returns-in_default : goal.returns-in_default
returns-in_default c =
    let q = c.args.question.now in
    let case = c.args.case.now in
    excluded_holds q.tables c.requires.question.tables q c.requires.question.question q.queried c.requires.question.named case.decided.items case c.requires.case c.in_default.ensures

pub outcome_by-requires-clause-sides : goal.outcome_by-requires-clause-sides
outcome_by-requires-clause-sides c = sides_as _ c.args.question.now _ c.args.case.now.begin.items c.in_ok-left.left c.in_ok-right.right c.question.view_is c.as_slice-known.ensures.value c.in_ok-left.ensures c.in_ok-right.ensures
