-- A triple is valid if and only if the two sides of its goal are decided to be the same.
use Rattle.std.proofs.Common.{◌≡◌, ◌↔◌, Bool, false, Result, Ok, subst}
use Rattle.std.proofs.lemmas.Bool.{both_ways}
use Rattle.std.specs.Bool.{IsTrue}
use Rattle.kat_model.specs.Expressions.{CondTree}
use Rattle.kat_model.specs.Relations.{Same}
use Rattle.while_lang.specs.Files.{FileParts, triple, prog_side}
use Rattle.while_lang.specs.Programs.{ProgTree}
use Rattle.abstraction.specs.declared.fault.AbstractFault.{AbstractFault}
use Rattle.abstraction.specs.Abstracts.{AbstractParts, abstract_of, with_goal}
use Rattle.optimiser_steps.specs.Validity.{IsValid}
use Rattle.optimiser_steps.specs.Working.Goals.{GoalIsSame}

-- a negative decision refutes the fact
pub refuted : (b : Bool) (A : Type 0) → IsTrue b ↔ A → b ≡ false → A → ⊥
refuted b A decided fails a = both_ways b fails (decided.1 a)

one_answer : (r : Result AbstractParts AbstractFault) (x y : AbstractParts) → r ≡ Ok x → r ≡ Ok y → x ≡ y
one_answer r x y d e = cc

-- the decision for the abstraction of a file is the decision for the file
pub same_by_abstract : (f : FileParts) (a : AbstractParts) (b : Bool) → abstract_of f ≡ Ok a → IsTrue b ↔ Same a.problem → IsTrue b ↔ GoalIsSame f
same_by_abstract f a b e decided = (
  (λ h. (a, e, decided.0 h)),
  (λ goal. decided.1 (subst (λ (y : AbstractParts). Same y.problem) (one_answer (abstract_of f) goal.0 a goal.1 e) goal.2)),
)

-- the decision for the goal of a triple is the decision for the triple
pub valid_by_goal : (f : FileParts) (pre : CondTree) (body : ProgTree) (post : CondTree) (b : Bool) → IsTrue b ↔ GoalIsSame (with_goal f (triple pre (prog_side body) post)) → IsTrue b ↔ IsValid f pre body post
valid_by_goal f pre body post b decided = (
  (λ h. let goal = decided.0 h in record { parts = goal.0; made = goal.1; same = goal.2 }),
  (λ v. decided.1 (v.parts, v.made, v.same)),
)

-- the decision carries over to equal trees
pub valid_alike : (f : FileParts) (pre other : CondTree) (body p : ProgTree) (post c : CondTree) (b : Bool) → pre ≡ other → body ≡ p → post ≡ c → IsTrue b ↔ IsValid f pre body post → IsTrue b ↔ IsValid f other p c
valid_alike f pre other body p post c b d e k decided = rw (← d, ← e, ← k) decided
