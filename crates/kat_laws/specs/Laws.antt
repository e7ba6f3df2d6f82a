-- The laws of sameness, of shortest counterexamples and of runs on stores. Each is the contract of a function of the
-- crate that does nothing.
use Rattle.std.specs.Prelude.{◌≡◌, ◌↔◌, ◌<◌, length, Ok}
use Rattle.kat_model.specs.Expressions.{CondTree}
use Rattle.kat_model.specs.Problems.{ProblemParts}
use Rattle.kat_model.specs.Relations.{Same}
use Rattle.kat_model.specs.Stores.{Store}
use Rattle.kat_model.specs.Strings.{GuardedString}
use Rattle.string_tables.specs.Tables.{Refutes}
use Rattle.certificate.specs.Decisions.{pair_limit, IsShortest}
use Rattle.while_lang.specs.Programs.{ProgTree}
use Rattle.while_lang.specs.Files.{FileParts, triple, prog_side}
use Rattle.while_lang.specs.Concrete.{Agrees}
use Rattle.abstraction.specs.Abstracts.{AbstractParts, abstract_of, HasNumbersInRange}
use Rattle.kat_laws.specs.Models.{SameInModels}
use Rattle.kat_laws.specs.SmallStrings.{IsSmall}
use Rattle.kat_laws.specs.StoreStrings.{SpellsOnStores, FailsOn}

-- finite tables, decidable models over natural numbers and guarded strings have one theory
pub record HasOneTheory (q : ProblemParts) : Type 0 where
  pub models : Same q ↔ SameInModels q
  pub strings : Same q ↔ ((x : GuardedString) → Refutes q x → ⊥)

abbrev pub ModelsAreTables : Type 0
ModelsAreTables = (q : ProblemParts) → HasOneTheory q

-- a shortest string that refutes a question is small
abbrev pub ShortestAreSmall : Type 0
ShortestAreSmall = (q : ProblemParts) (x : GuardedString) → IsShortest q x → IsSmall q x

-- both sides are the same exactly when no string with few moves refutes the question
abbrev pub SmallStringsDecide : Type 0
SmallStringsDecide = (q : ProblemParts) → Same q ↔ ((x : GuardedString) → length x.rest < pair_limit q → Refutes q x → ⊥)

-- a string that refutes the question of a triple of a program, and that a path of stores spells, shows that the triple
-- fails on these stores, so the goal does not hold for all stores
pub record IsStoreRefuted (f : FileParts) (pre : CondTree) (p : ProgTree) (post : CondTree) (first last : Store) : Type 0 where
  pub fails : FailsOn f pre p post first last
  pub not_agrees : Agrees f → ⊥

abbrev pub StringsFailOnStores : Type 0
StringsFailOnStores =
    (f : FileParts) (a : AbstractParts) (pre : CondTree) (p : ProgTree) (post : CondTree) (x : GuardedString) (first last : Store)
    → HasNumbersInRange f → abstract_of f ≡ Ok a → f.goal ≡ triple pre (prog_side p) post
    → Refutes a.problem x → SpellsOnStores f a x first last → IsStoreRefuted f pre p post first last
