-- What is wanted next while names are resolved, as the program holds it.
use Rattle.std.specs.Prelude.{◌≡◌, List, map, reverse, Result, Ok, Err}
use Rattle.text_parser.specs.declared.fault.TextFault.{TextFault}
use Rattle.text_parser.specs.declared.fault.TextFault.TheVariants.{NoMemory}
use Rattle.text_parser.specs.TokenParts.{parts_of_token}
use Rattle.flow_model.specs.declared.graph.ExprNode.{ExprNode}
use Rattle.flow_text.specs.declared.resolve.Expected.{Expected as IsExpected}
use Rattle.flow_text.specs.declared.resolve.Expected.TheVariants.{Operand, SecondOperand}
use Rattle.flow_text.specs.Resolving.{Expected, operand, second_operand}

abbrev pub expected_syntax : IsExpected → Expected
expected_syntax (Operand sort) = operand sort
expected_syntax (SecondOperand t sort) = second_operand (parts_of_token t) sort

-- what is wanted, the next first
unfoldable pub expected_stack : List IsExpected → List Expected
expected_stack ws = map expected_syntax (reverse ws)

-- the program's node, with the stack after it, agrees with `m`, or its fault does
abbrev pub Gives : Result ExprNode TextFault → List Expected → Result (ExprNode × List Expected) TextFault → Type 0
Gives (Ok n) ws m = m ≡ Ok (n, ws)
Gives (Err NoMemory) ws m = Unit {0}
Gives (Err fault) ws m = m ≡ Err fault
