-- The effect of each item of a text on the state after the items before it, and the syntax test of items.
use Rattle.std.specs.Prelude.{List, Result, Ok}
use Rattle.text_parser.specs.declared.fault.TextFault.{TextFault}
use Rattle.text_parser.specs.Lexemes.{Lexeme}
use Rattle.text_parser.specs.Parsed.{◌>>=◌}
use Rattle.gkat_front.specs.Expressions.{GkatTree}
use Rattle.gkat_front.specs.GkatWalks.{whole, parse_gkat}
use Rattle.gkat_front.specs.GkatScans.{scanning_expr}
use Rattle.gkat_front.specs.GkatMaking.{making_expr}
use Rattle.gkat_front.specs.FileActions.{FileActions}
use Rattle.gkat_front.specs.Items.{items_by}
use Rattle.gkat_front.specs.Files.{GkatFileParts, GkatState, start, declare_test, declare_action, begin_equal, pose, file_of}

-- makes nothing and refuses no part
abbrev pub scanning : FileActions (Unit {0}) (Unit {0})
scanning = record {
  expr = λ s ts. parse_gkat scanning_expr whole 0 ts;
  declare_test = λ s at name. Ok tt;
  declare_action = λ s at name. Ok tt;
  begin_equal = λ s at. Ok tt;
  pose = λ s at l r. Ok tt;
}

-- succeeds if the tokens are items; otherwise gives the first syntax fault
abbrev pub scan_file : List Lexeme → Result (Unit {0}) TextFault
scan_file ts = items_by scanning tt ts

abbrev pub making : FileActions GkatState GkatTree
making = record {
  expr = λ s ts. parse_gkat (making_expr s.world) whole 0 ts;
  declare_test = declare_test;
  declare_action = declare_action;
  begin_equal = begin_equal;
  pose = pose;
}

-- the state after all items, or the first fault of the first item that has one
abbrev pub parse_items : List Lexeme → Result GkatState TextFault
parse_items ts = items_by making start ts

-- tests the tokens: first their syntax, then their items
abbrev pub tested : List Lexeme → Result GkatFileParts TextFault
tested ts = scan_file ts >>= λ u. parse_items ts >>= file_of
