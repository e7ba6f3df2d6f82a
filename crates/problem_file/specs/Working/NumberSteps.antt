-- The check of the first token.
use Rattle.std.specs.Prelude.{List, [], ◌∷◌, Result, Ok}
use Rattle.kat_model.specs.declared.expression.Width.{Width}
use Rattle.text_parser.specs.declared.fault.TextFault.{TextFault}
use Rattle.text_parser.specs.Lexemes.{Lexeme}
use Rattle.problem_file.specs.Numbers.{check_number}

-- the fault of the first token, if it is a number that is too wide
abbrev pub check_first : Width → List Lexeme → Result (Unit {0}) TextFault
check_first w [] = Ok tt
check_first w (t ∷ ts) = check_number w t
