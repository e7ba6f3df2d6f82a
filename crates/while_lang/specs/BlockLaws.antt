-- The folds over blocks, and how the measures of a block relate to its tree.
use Rattle.std.specs.Prelude.{◌≡◌, ◌↔◌, ◌≤◌, ◌+◌, ℕ, min, List, [], slice_get, Some, IsOk, Ok}
use Rattle.kat_model.specs.declared.limits.TheConstants.{MAX_EXPR_NODES, MAX_OPEN}
use Rattle.text_parser.specs.Lexemes.{Lexeme}
use Rattle.text_parser.specs.Parsed.{◌>>=◌, before}
use Rattle.text_parser.specs.declared.extent.Extent.{Extent}
use Rattle.text_parser.specs.ScopeParts.{ScopeParts}
use Rattle.text_parser.specs.Laws.{given_nodes}
use Rattle.while_lang.specs.Programs.{ProgTree, prog_of}
use Rattle.while_lang.specs.ProgramSizes.{prog_size, largest_in}
use Rattle.while_lang.specs.NamedProgs.{ProgParts}
use Rattle.while_lang.specs.Blocks.{block, parse_block}
use Rattle.while_lang.specs.BlockPhrases.{block as block_symbol, BlockPhrase, block_before, BlockObeys, BlockFits}
use Rattle.while_lang.specs.BlockFolds.{fold_block}
use Rattle.while_lang.specs.BlockBuilding.{block_trees}
use Rattle.while_lang.specs.BlockMeasuring.{extent, block_extents}
use Rattle.while_lang.specs.BlockSound.{BlockIsSound, block_nesting}

-- a pass over the tokens of a block gives the fold of its actions, in text order
abbrev pub BlocksAreFolded : Type 0
BlocksAreFolded =
    (w : ScopeParts) (ps : List ProgParts) (d : ℕ) (p : BlockPhrase block_symbol) (ts : List Lexeme) → BlockObeys p ts →
    (parse_block (block_extents w ps) block d (block_before p ts) ≡ before ts (fold_block (block_extents w ps) d p (extent 0 0)))
    × (parse_block (block_trees w ps) block d (block_before p ts) ≡ before ts (fold_block (block_trees w ps) d p []))

-- measuring a block succeeds if and only if the block is sound, nests at most `MAX_OPEN` constructs and has no number
-- of 2^64 or more
abbrev pub SoundAreMeasured : Type 0
SoundAreMeasured =
    (w : ScopeParts) (ps : List ProgParts) (d : ℕ) (p : BlockPhrase block_symbol) →
    IsOk (fold_block (block_extents w ps) d p (extent 0 0)) ↔ (BlockIsSound w ps d p × BlockFits d p)

-- no expression in the programs has more than `MAX_EXPR_NODES` nodes
abbrev pub AreLimited : List ProgParts → Type 0
AreLimited ps = (i : ℕ) (p : ProgParts) → slice_get ps i ≡ Some p → largest_in p.tree ≤ MAX_EXPR_NODES

-- the block has a tree; the measures are the size of the tree and the nesting of the block, both capped
pub record MeasuresBlock (w : ScopeParts) (ps : List ProgParts) (d : ℕ) (p : BlockPhrase block_symbol) (m : Extent) : Type 0 where
  pub tree : ProgTree
  pub built : (fold_block (block_trees w ps) d p [] >>= λ ss. Ok (prog_of ss)) ≡ Ok tree
  pub nodes : m.nodes ≡ given_nodes (largest_in tree) (prog_size tree)
  pub levels : m.nesting ≡ min (block_nesting w ps p) (MAX_OPEN + 1)

abbrev pub MeasuresAreOfTrees : Type 0
MeasuresAreOfTrees =
    (w : ScopeParts) (ps : List ProgParts) (d : ℕ) (p : BlockPhrase block_symbol) (m : Extent) → AreLimited ps →
    fold_block (block_extents w ps) d p (extent 0 0) ≡ Ok m → MeasuresBlock w ps d p m
