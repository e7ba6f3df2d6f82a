-- The syntax check of a whole file.
use Rattle.std.specs.Prelude.{List, Result, Ok, None}
use Rattle.text_parser.specs.declared.fault.TextFault.{TextFault}
use Rattle.text_parser.specs.Lexemes.{Lexeme}
use Rattle.text_parser.specs.Scans.{scanning}
use Rattle.while_lang.specs.BlockScans.{scanning_blocks}
use Rattle.problem_file.specs.ItemActions.{ItemActions}
use Rattle.problem_file.specs.Items.{items_by}

-- the actions make nothing and refuse nothing; a side is a term, whatever its name stands for
abbrev pub checking : ItemActions (Unit {0}) (Unit {0})
checking = record {
  phrases = λ s. scanning;
  blocks = λ s. scanning_blocks;
  program = λ s name. None;
  declare = λ what s at name. Ok tt;
  check_new = λ s at name. Ok tt;
  define = λ s at name m. Ok tt;
  define_prog = λ s at name m. Ok tt;
  begin_hyp = λ s at. Ok tt;
  state_zero = λ s at m. Ok tt;
  state_triple = λ s at m. Ok tt;
  begin_setting = λ what s at. Ok tt;
  set = λ what s at n. Ok tt;
  begin_goal = λ s at. Ok tt;
  check_numbers = λ s ts. Ok tt;
  pose_sides = λ c s at m. Ok tt;
  pose_triple = λ s at m. Ok tt;
}

abbrev pub scan_file : List Lexeme → Result (Unit {0}) TextFault
scan_file ts = items_by checking tt ts
