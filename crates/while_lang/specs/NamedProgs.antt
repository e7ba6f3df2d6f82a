-- Earlier programs of a file, which later programs may name.
use Rattle.std.specs.Prelude.{ℕ, List, map}
use Rattle.while_lang.specs.Programs.{ProgTree}
use Rattle.while_lang.specs.declared.named.NamedProg.{NamedProg}

-- a program, and the nesting of the block that defines it
pub record ProgParts : Type 0 where
  pub tree : ProgTree
  pub nesting : ℕ

-- the parts of a program of the file
abbrev pub prog_parts : NamedProg → ProgParts
prog_parts n = record { tree = n.prog; nesting = n.nesting }

-- the parts of the programs of the file, by number
abbrev pub parts_of_progs : List NamedProg → List ProgParts
parts_of_progs ns = map prog_parts ns
