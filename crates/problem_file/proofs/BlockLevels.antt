-- A block that is well scoped and within the depth limit is not too deep after the programs that it names are expanded.
use Rattle.std.proofs.Common.{ℕ, ◌+◌, ◌≤◌, max, true, false, List, slice_get, Option, Some, None, arith}
use Rattle.kat_model.specs.declared.limits.TheConstants.{MAX_OPEN}
use Rattle.text_parser.specs.Actions.{context}
use Rattle.text_parser.specs.declared.meaning.Meaning.{Meaning}
use Rattle.text_parser.specs.declared.meaning.Meaning.TheVariants.{Test, Action, Var, Term, Prog}
use Rattle.text_parser.specs.ScopeParts.{ScopeParts, meaning}
use Rattle.text_parser.specs.Sound.{nesting}
use Rattle.while_lang.specs.NamedProgs.{ProgParts}
use Rattle.while_lang.specs.BlockPhrases.{BlockSymbol, BlockPhrase, braced, no_stmts, more_stmts, skip_stmt, abort_stmt, assert_stmt, name_stmt, assign_stmt, if_stmt, while_stmt, no_else, else_block, else_if, BlockFits}
use Rattle.while_lang.specs.BlockSound.{IsShallow, IsStmtName, BlockIsSound, prog_nesting, name_nesting, block_nesting}
use Rattle.problem_file.proofs.Nestings.{nesting_fits, most, deeper, flat, next}

prog_fits : (d : ℕ) (o : Option ProgParts) → IsShallow d o → d ≤ MAX_OPEN → d + prog_nesting o ≤ MAX_OPEN
prog_fits d None sound le = omega (arith, le)
prog_fits d (Some p) sound le = sound

stmt_fits : (ps : List ProgParts) (d : ℕ) (o : Option Meaning) → IsStmtName ps d o → d ≤ MAX_OPEN → d + name_nesting ps o ≤ MAX_OPEN
stmt_fits ps d None sound le = absurd sound
stmt_fits ps d (Some (Test k)) sound le = absurd sound
stmt_fits ps d (Some (Action a)) sound le = omega (arith, le)
stmt_fits ps d (Some (Var k)) sound le = absurd sound
stmt_fits ps d (Some (Term i)) sound le = absurd sound
stmt_fits ps d (Some (Prog i)) sound le = prog_fits d (slice_get ps i) sound le

module _ (w : ScopeParts) (ps : List ProgParts) where
  pub block_fits : (d : ℕ) {x : BlockSymbol} (p : BlockPhrase x) → BlockIsSound w ps d p → BlockFits d p → d ≤ MAX_OPEN → d + block_nesting w ps p ≤ MAX_OPEN
  block_fits d (braced l ss r) s f le = deeper d (block_nesting w ps ss) (block_fits (d + 1) ss s f.1 (next d f.0))
  block_fits d no_stmts s f le = flat d le
  block_fits d (more_stmts t ss) s f le = most d (block_nesting w ps t) (block_nesting w ps ss) (block_fits d t s.0 f.0 le) (block_fits d ss s.1 f.1 le)
  block_fits d (skip_stmt l end) s f le = flat d le
  block_fits d (abort_stmt l end) s f le = flat d le
  block_fits d (assert_stmt l b end) s f le = nesting_fits w (context d false true) b s f le
  block_fits d (name_stmt l end) s f le = stmt_fits ps d (meaning w l.text) s le
  block_fits d (assign_stmt l becomes e end) s f le = nesting_fits w (context d false true) e s.1 f le
  block_fits d (if_stmt l r) s f le = block_fits d r s f le
  block_fits d (while_stmt l b p) s f le = most d (nesting w b) (block_nesting w ps p) (nesting_fits w (context d false true) b s.0 f.0 le) (block_fits d p s.1 f.1 le)
  block_fits d (no_else b p) s f le = most d (nesting w b) (block_nesting w ps p) (nesting_fits w (context d false true) b s.0 f.0 le) (block_fits d p s.1 f.1 le)
  block_fits d (else_block b p l q) s f le =
      most d (nesting w b) (max (block_nesting w ps p) (block_nesting w ps q)) (nesting_fits w (context d false true) b s.0 f.0 le)
      (most d (block_nesting w ps p) (block_nesting w ps q) (block_fits d p s.1 f.1 le) (block_fits d q s.2 f.2 le))
  block_fits d (else_if b p l i r) s f le =
      most d (nesting w b) (max (block_nesting w ps p) (block_nesting w ps r + 1)) (nesting_fits w (context d false true) b s.0 f.0 le)
      (most d (block_nesting w ps p) (block_nesting w ps r + 1) (block_fits d p s.1 f.1 le) (deeper d (block_nesting w ps r) (block_fits (d + 1) r s.2 f.3 (next d f.2))))
