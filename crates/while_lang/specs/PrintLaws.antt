-- A printed program reads back.
use Rattle.std.specs.Prelude.{◌≤◌, ◌+◌, ℕ, List, [], length}
use Rattle.kat_model.specs.declared.limits.TheConstants.{MAX_TERM_NODES, MAX_EXPR_NODES, MAX_OPEN}
use Rattle.text_parser.specs.declared.lexer.TheConstants.{MAX_LEN}
use Rattle.text_parser.specs.Pieces.{spelled}
use Rattle.text_parser.specs.declared.meaning.Meaning.{Meaning}
use Rattle.text_parser.specs.ScopeParts.{ScopeParts}
use Rattle.text_print.specs.Laws.{ReadsBack}
use Rattle.while_lang.specs.Programs.{ProgTree}
use Rattle.while_lang.specs.ProgramSizes.{prog_size, largest_in}
use Rattle.while_lang.specs.NamedProgs.{ProgParts}
use Rattle.while_lang.specs.BlockReadings.{block_at}
use Rattle.while_lang.specs.BlockLaws.{AreLimited}
use Rattle.while_lang.specs.ProgramPrinting.{block_pieces, ProgIsNamed, block_levels}

-- a program printed with the only name of each meaning reads back as the same program with no tokens left, if the text,
-- the sizes of the program and the nesting of the text are within the limits
abbrev pub PrintedReadsBack : Type 0
PrintedReadsBack =
    (w : ScopeParts) (ps : List ProgParts) (names : Meaning → List ℕ) (p : ProgTree) (d : ℕ) → AreLimited ps → ProgIsNamed w names p →
    length (spelled (block_pieces names p [])) ≤ MAX_LEN → largest_in p ≤ MAX_EXPR_NODES → prog_size p ≤ MAX_TERM_NODES → d + block_levels p ≤ MAX_OPEN →
    ReadsBack (block_pieces names p []) (block_at w ps d) p (block_levels p)
