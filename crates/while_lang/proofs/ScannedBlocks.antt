-- The syntax check accepts exactly the blocks of the grammar.
use Rattle.std.proofs.Common.{◌≡◌, ℕ, ◌+◌, ◌<◌, true, false, Ok, refl, ap, ◌∙◌}
use Rattle.std.proofs.lemmas.Bool.{lt-ltb}
use Rattle.kat_model.specs.declared.limits.TheConstants.{MAX_OPEN}
use Rattle.text_parser.specs.Actions.{context}
use Rattle.text_parser.proofs.Scanned.{scanned, ended}
use Rattle.while_lang.specs.Blocks.{enter, block as block_aim, parse_block}
use Rattle.while_lang.specs.BlockPhrases.{BlockSymbol, BlockPhrase, braced, no_stmts, more_stmts, skip_stmt, abort_stmt, assert_stmt, name_stmt, assign_stmt, if_stmt, while_stmt, no_else, else_block, else_if, BlockFits}
use Rattle.while_lang.specs.BlockFolds.{fold_block}
use Rattle.while_lang.specs.BlockScans.{scanning_blocks, TakesBlocks}
use Rattle.while_lang.proofs.BlockCompleteness.{parsed}
use Rattle.while_lang.proofs.BlockSoundness.{block_found}

pub enters : (d at : ℕ) → d < MAX_OPEN → enter d at ≡ Ok (d + 1)
enters d at lt = rw (lt-ltb d MAX_OPEN lt) refl

-- a phrase within the limits on depth and numbers has no fault
block_scanned : {x : BlockSymbol} (p : BlockPhrase x) (d : ℕ) → BlockFits d p → (s : Unit {0}) → fold_block scanning_blocks d p s ≡ Ok tt
block_scanned (braced l ss r) d f s = rw (enters d l.at f.0, block_scanned ss (d + 1) f.1 tt) refl
block_scanned no_stmts d f s = refl
block_scanned (more_stmts t ss) d f s = rw (block_scanned t d f.0 s) (block_scanned ss d f.1 tt)
block_scanned (skip_stmt l end) d f s = refl
block_scanned (abort_stmt l end) d f s = refl
block_scanned (assert_stmt l b end) d f s = rw (scanned b (context d false true) f (λ t. tt)) refl
block_scanned (name_stmt l end) d f s = refl
block_scanned (assign_stmt l becomes e end) d f s = rw (scanned e (context d false true) f (λ t. t)) refl
block_scanned (if_stmt l r) d f s = block_scanned r d f s
block_scanned (while_stmt l b p) d f s = rw (scanned b (context d false true) f.0 (λ t. tt), block_scanned p d f.1 s) refl
block_scanned (no_else b p) d f s = rw (scanned b (context d false true) f.0 (λ t. tt), block_scanned p d f.1 s) refl
block_scanned (else_block b p l q) d f s = rw (scanned b (context d false true) f.0 (λ t. tt), block_scanned p d f.1 s, block_scanned q d f.2 s) refl
block_scanned (else_if b p l i r) d f s = rw (scanned b (context d false true) f.0 (λ t. tt), block_scanned p d f.1 s, enters d i.at f.2, block_scanned r (d + 1) f.3 tt) refl

pub blocks_taken : TakesBlocks
blocks_taken d ts rest = (
  (λ e. block_found scanning_blocks block_aim d ts (tt, rest) (ended _ rest e)),
  (λ i. rw (ap (parse_block scanning_blocks block_aim d) i.spelled ∙ parsed scanning_blocks i.phrase d tt rest i.obeys, block_scanned i.phrase d i.fits tt) refl),
)
