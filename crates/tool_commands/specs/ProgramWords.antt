-- The program that a word of the command line names.
use Rattle.std.specs.Prelude.{ℕ, List, Option, None, Some, if◌then◌else◌}
use Rattle.std.specs.Option.{option_map}
use Rattle.while_lang.specs.Programs.{ProgTree, is_concrete}
use Rattle.while_lang.specs.Files.{FileParts, prog_named}

-- the program, if it is concrete
abbrev pub where_concrete : Option ProgTree → Option ProgTree
where_concrete None = None
where_concrete (Some p) = if is_concrete p then Some p else None

-- the concrete program of the file with this name
abbrev pub program_of : FileParts → List ℕ → Option ProgTree
program_of f name = where_concrete (option_map (λ p. p.tree) (prog_named f.scope f.progs name))
