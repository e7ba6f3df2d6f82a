-- Lines of a proof in turn.
use Rattle.std.proofs.Common.{◌≡◌, ◌<◌, ℕ, zero, suc, inr, ⊎_elim, List, [], ◌∷◌, ◌++◌, take, refl, subst, arith, Bool, Option, None, Some, slice_get}
use Rattle.lrat_checker.specs.Accepted.{Clauses, after_line, after_lines, IsRight, AreRight}
use Rattle.lrat_checker.specs.Answers.{IsReason}
use Rattle.lrat_checker.specs.Working.Steps.{IsHintsVerdict, IsVerdict}
use Rattle.lrat_checker.specs.declared.literal.Literal.{Literal}
use Rattle.lrat_checker.specs.declared.answer.Reason.{Reason}
use Rattle.lrat_checker.specs.declared.proof.Line.{Line}
use Rattle.lrat_checker.specs.declared.proof.Line.TheVariants.{Addition, Deletion}
use Rattle.lrat_checker.proofs.HintSteps.{reason_or_conflict}

pub after_push : (xs : List Line) (c : Clauses) (line : Line) → after_lines c (xs ++ line ∷ []) ≡ after_line (after_lines c xs) line
after_push [] c line = refl
after_push (x ∷ xs) c line = after_push xs (after_line c x) line

pub right_push : (xs : List Line) (c : Clauses) (line : Line) → AreRight c xs → IsRight (after_lines c xs) line → AreRight c (xs ++ line ∷ [])
right_push [] c line all right = (right, tt)
right_push (x ∷ xs) c line all right = (all.0, right_push xs (after_line c x) line all.1 right)

right_at : (xs : List Line) (c : Clauses) (place : ℕ) (line : Line) → slice_get xs place ≡ Some line → AreRight c xs → IsRight (after_lines c (take place xs)) line
right_at [] c place line e all = cc
right_at (x ∷ xs) c zero line e all = let same : x ≡ line = cc in subst (λ l. IsRight c l) same all.0
right_at (x ∷ xs) c (suc place) line e all = right_at xs (after_line c x) place line e all.1

wrong_not_right : (c : Clauses) (line : Line) (reason : Reason) → IsReason c line reason → IsRight c line → ⊥
wrong_not_right c (Addition id clause hints resolvents) reason wrong right =
    ⊎_elim (λ old. omega (arith, old.0, right.0)) (λ r. reason_or_conflict c.known hints clause resolvents reason r.1 right.1) wrong
wrong_not_right c (Deletion ids) reason wrong right = wrong

-- a line that is wrong is not among lines that are right
pub wrong_not_among : (xs : List Line) (c : Clauses) (place : ℕ) (line : Line) (reason : Reason) → slice_get xs place ≡ Some line → IsReason (after_lines c (take place xs)) line reason → AreRight c xs → ⊥
wrong_not_among xs c place line reason here wrong all =
    wrong_not_right (after_lines c (take place xs)) line reason wrong (right_at xs c place line here all)

-- the verdict on an addition is that on its hints
pub verdict_of_hints : (c : Clauses) (id : ℕ) (clause : List Literal) (hints : List ℕ) (resolvents : Bool) → c.greatest < id → (v : Option Reason) → IsHintsVerdict c.known clause hints resolvents v → IsVerdict c (Addition id clause hints resolvents) v
verdict_of_hints c id clause hints resolvents new None verdict = (new, verdict)
verdict_of_hints c id clause hints resolvents new (Some reason) verdict = inr (new, verdict)
