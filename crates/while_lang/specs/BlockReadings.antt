-- The reading of a block: its tree and its nesting, or its first fault.
use Rattle.std.specs.Prelude.{ℕ, List, Result}
use Rattle.kat_model.specs.declared.limits.TheConstants.{MAX_TERM_NODES}
use Rattle.text_parser.specs.declared.fault.TextFault.{TextFault}
use Rattle.text_parser.specs.Lexemes.{Lexeme}
use Rattle.text_parser.specs.Parsed.{Parsed, change, place_of}
use Rattle.text_parser.specs.declared.extent.Extent.{Extent}
use Rattle.text_parser.specs.ScopeParts.{ScopeParts}
use Rattle.text_parser.specs.Readings.{Phrased, within, phrased}
use Rattle.while_lang.specs.Programs.{ProgTree, prog_of}
use Rattle.while_lang.specs.NamedProgs.{ProgParts}
use Rattle.while_lang.specs.Blocks.{block, parse_block}
use Rattle.while_lang.specs.BlockBuilding.{block_trees}
use Rattle.while_lang.specs.BlockMeasuring.{block_extents}

-- the extent of the block at the start of the tokens, and its tree, with `d` constructs open around it
abbrev pub measured_block : ScopeParts → List ProgParts → ℕ → List Lexeme → Parsed Extent
measured_block w ps d ts = parse_block (block_extents w ps) block d ts

abbrev pub built_block : ScopeParts → List ProgParts → ℕ → List Lexeme → Parsed ProgTree
built_block w ps d ts = change prog_of (parse_block (block_trees w ps) block d ts)

-- the reading of the block at the start of the tokens
abbrev pub block_at : ScopeParts → List ProgParts → ℕ → List Lexeme → Result (Phrased ProgTree) TextFault
block_at w ps d ts = phrased (within MAX_TERM_NODES (place_of ts) (measured_block w ps d ts)) (built_block w ps d ts)
