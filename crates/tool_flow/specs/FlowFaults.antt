-- The lines that report why two graphs have no problem.
use Rattle.std.specs.Prelude.{ℕ, List, ◌++◌, codes}
use Rattle.flow_abstraction.specs.declared.fault.FlowFault.{FlowFault}
use Rattle.flow_abstraction.specs.declared.fault.FlowFault.TheVariants.{NoMemory, UncutLoop, TooManyPaths, TooLarge, TooManyTests, TooManyActions, ProblemTooLarge}

abbrev pub flow_fault_word : FlowFault → List ℕ
flow_fault_word NoMemory = codes "NoMemory"
flow_fault_word UncutLoop = codes "UncutLoop"
flow_fault_word TooManyPaths = codes "TooManyPaths"
flow_fault_word TooLarge = codes "TooLarge"
flow_fault_word TooManyTests = codes "TooManyTests"
flow_fault_word TooManyActions = codes "TooManyActions"
flow_fault_word ProblemTooLarge = codes "ProblemTooLarge"

-- `refused: WORD` and a line feed
abbrev pub flow_fault_line : FlowFault → List ℕ
flow_fault_line fault = codes "refused: " ++ flow_fault_word fault ++ codes "\n"
