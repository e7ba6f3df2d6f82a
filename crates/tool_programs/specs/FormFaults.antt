-- The line with the reason why a program has no form with one loop.
use Rattle.std.specs.Prelude.{ℕ, List, [], ◌++◌, codes}
use Rattle.std.specs.Fmt.{decimal}
use Rattle.one_loop.specs.declared.fault.OneLoopFault.{OneLoopFault}
use Rattle.one_loop.specs.declared.fault.OneLoopFault.TheVariants.{NoMemory, TooManyVars, TooManyStatements}

-- `refused: WORD`, and the number of statements if there are too many; `NoMemory` has no line
abbrev pub form_fault_line : OneLoopFault → List ℕ
form_fault_line NoMemory = []
form_fault_line TooManyVars = codes "refused: TooManyVars\n"
form_fault_line (TooManyStatements n) = codes "refused: TooManyStatements " ++ decimal n ++ codes "\n"
