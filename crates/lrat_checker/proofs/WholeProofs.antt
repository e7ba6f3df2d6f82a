-- Answers for whole proofs.
use Rattle.std.proofs.Common.{◌≡◌, ◌↔◌, ⊎_elim, List, [], ◌∷◌, length, refl, sym, ◌∙◌, Bool, true, false, ◌==◌, arith, Option, None, Some}
use Rattle.std.proofs.lemmas.Bool.{false≢true, both_ways}
use Rattle.std.proofs.lemmas.Bool.Decides.{nat_tests}
use Rattle.lrat_checker.specs.Literals.{IsUnsatisfiable}
use Rattle.lrat_checker.specs.Accepted.{given, last_clause, IsAccepted}
use Rattle.lrat_checker.specs.Answers.{Answers}
use Rattle.lrat_checker.specs.Working.Steps.{ends_empty}
use Rattle.lrat_checker.specs.declared.literal.Literal.{Literal}
use Rattle.lrat_checker.specs.declared.proof.Line.{Line}
use Rattle.lrat_checker.specs.declared.proof.Line.TheVariants.{Addition, Deletion}
use Rattle.lrat_checker.specs.declared.answer.Answer.{Answer}
use Rattle.lrat_checker.specs.declared.answer.Answer.TheVariants.{Accepted, Rejected}
use Rattle.lrat_checker.proofs.Soundness.{accepted_unsatisfiable}
use Rattle.lrat_checker.proofs.LineSteps.{wrong_not_among}

pub accepted_exactly : (clauses : List (List Literal)) (lines : List Line) (answer : Answer) → Answers clauses lines answer → (answer ≡ Accepted) ↔ IsAccepted clauses lines
accepted_exactly clauses lines Accepted right = ((λ e. right), (λ accepted. refl))
accepted_exactly clauses lines (Rejected number reason) wrong = (
  (λ e. absurd (cc)),
  (λ accepted. ⊎_elim (λ w. absurd (wrong_not_among lines (given clauses) w.0 w.2.line reason w.2.here w.2.wrong accepted.right)) (λ w. absurd (w.1.not_empty accepted.empty)) wrong),
)

pub accepted_sound : (clauses : List (List Literal)) (lines : List Line) (answer : Answer) → Answers clauses lines answer → answer ≡ Accepted → IsUnsatisfiable clauses
accepted_sound clauses lines answer right e = accepted_unsatisfiable clauses lines ((accepted_exactly clauses lines answer right).0 e)

-- whether a clause is empty
none_empty : (clause : List Literal) → (length clause == 0) ≡ true → Some clause ≡ Some []
none_empty [] e = refl
none_empty (l ∷ ls) e = let f : (length (l ∷ ls) == 0) ≡ false = grind (arith, nat_tests) in absurd (both_ways _ f e)

empty_none : (clause : List Literal) → Some clause ≡ Some [] → (length clause == 0) ≡ true
empty_none [] e = refl
empty_none (l ∷ ls) e = cc

pub ends_exactly : (lines : List Line) (last : Option (List Literal)) (b : Bool) → ((b ≡ true) ↔ (last ≡ Some [])) → (ends_empty b lines ≡ true) ↔ (last_clause last lines ≡ Some [])
ends_exactly [] last b e = e
ends_exactly (Addition id clause hints resolvents ∷ lines) last b e = ends_exactly lines (Some clause) (length clause == 0) (none_empty clause, empty_none clause)
ends_exactly (Deletion ids ∷ lines) last b e = ends_exactly lines last b e

-- whether the last clause of a proof is empty
pub ends_in_empty : (lines : List Line) (b : Bool) → b ≡ ends_empty false lines → b ≡ true → last_clause None lines ≡ Some []
ends_in_empty lines b e t = (ends_exactly lines None false ((λ f. absurd (false≢true f)), (λ f. cc))).0 (sym e ∙ t)

pub ends_otherwise : (lines : List Line) (b : Bool) → b ≡ ends_empty false lines → b ≡ false → last_clause None lines ≡ Some [] → ⊥
ends_otherwise lines b e f last = both_ways b f (e ∙ (ends_exactly lines None false ((λ g. absurd (false≢true g)), (λ g. cc))).1 last)
