-- The lines that report why a file has no abstraction.
use Rattle.std.specs.Prelude.{ℕ, List, ◌++◌, codes}
use Rattle.abstraction.specs.declared.fault.AbstractFault.{AbstractFault}
use Rattle.abstraction.specs.declared.fault.AbstractFault.TheVariants.{NoMemory, TooManyTests, TooManyActions, ProblemTooLarge}

abbrev pub abstract_fault_word : AbstractFault → List ℕ
abstract_fault_word NoMemory = codes "NoMemory"
abstract_fault_word TooManyTests = codes "TooManyTests"
abstract_fault_word TooManyActions = codes "TooManyActions"
abstract_fault_word ProblemTooLarge = codes "ProblemTooLarge"

-- `refused: WORD` and a line feed
abbrev pub abstract_fault_line : AbstractFault → List ℕ
abstract_fault_line fault = codes "refused: " ++ abstract_fault_word fault ++ codes "\n"
