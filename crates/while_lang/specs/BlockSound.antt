-- The blocks that are allowed in a scope, and their nesting with the named programs expanded.
use Rattle.std.specs.Prelude.{◌≤◌, ◌+◌, ℕ, max, true, false, List, slice_get, Option, Some, None}
use Rattle.kat_model.specs.declared.limits.TheConstants.{MAX_OPEN}
use Rattle.text_parser.specs.Actions.{context}
use Rattle.text_parser.specs.declared.meaning.Meaning.{Meaning}
use Rattle.text_parser.specs.declared.meaning.Meaning.TheVariants.{Action, Prog}
use Rattle.text_parser.specs.ScopeParts.{ScopeParts, meaning}
use Rattle.text_parser.specs.Sound.{IsSound, IsExprName, nesting}
use Rattle.while_lang.specs.NamedProgs.{ProgParts}
use Rattle.while_lang.specs.BlockPhrases.{BlockSymbol, BlockPhrase, braced, no_stmts, more_stmts, skip_stmt, abort_stmt, assert_stmt, name_stmt, assign_stmt, if_stmt, while_stmt, no_else, else_block, else_if}

-- a program of the file is allowed here: it is not too deep
abbrev pub IsShallow : ℕ → Option ProgParts → Type 0
IsShallow d None = Unit {0}
IsShallow d (Some p) = d + p.nesting ≤ MAX_OPEN

-- a name as a statement denotes an action, or a program that is allowed here
abbrev pub IsStmtName : List ProgParts → ℕ → Option Meaning → Type 0
IsStmtName ps d (Some (Action a)) = Unit {0}
IsStmtName ps d (Some (Prog i)) = IsShallow d (slice_get ps i)
IsStmtName ps d _ = ⊥

-- each name is declared, of the right sort and not too deep
abbrev pub BlockIsSound : ScopeParts → List ProgParts → ℕ → {x : BlockSymbol} → BlockPhrase x → Type 0
BlockIsSound w ps d (braced l ss r) = BlockIsSound w ps (d + 1) ss
BlockIsSound w ps d no_stmts = Unit {0}
BlockIsSound w ps d (more_stmts s ss) = BlockIsSound w ps d s × BlockIsSound w ps d ss
BlockIsSound w ps d (skip_stmt l end) = Unit {0}
BlockIsSound w ps d (abort_stmt l end) = Unit {0}
BlockIsSound w ps d (assert_stmt l b end) = IsSound w (context d false true) b
BlockIsSound w ps d (name_stmt l end) = IsStmtName ps d (meaning w l.text)
BlockIsSound w ps d (assign_stmt l becomes e end) = IsExprName (meaning w l.text) × IsSound w (context d false true) e
BlockIsSound w ps d (if_stmt l r) = BlockIsSound w ps d r
BlockIsSound w ps d (while_stmt l b p) = IsSound w (context d false true) b × BlockIsSound w ps d p
BlockIsSound w ps d (no_else b p) = IsSound w (context d false true) b × BlockIsSound w ps d p
BlockIsSound w ps d (else_block b p l q) = IsSound w (context d false true) b × BlockIsSound w ps d p × BlockIsSound w ps d q
BlockIsSound w ps d (else_if b p l i r) = IsSound w (context d false true) b × BlockIsSound w ps d p × BlockIsSound w ps (d + 1) r

-- the nesting of the program that a name denotes
abbrev pub prog_nesting : Option ProgParts → ℕ
prog_nesting None = 0
prog_nesting (Some p) = p.nesting

abbrev pub name_nesting : List ProgParts → Option Meaning → ℕ
name_nesting ps (Some (Prog i)) = prog_nesting (slice_get ps i)
name_nesting ps _ = 0

-- the maximum number of constructs open at one place; each `else if` is one until its chain ends
abbrev pub block_nesting : ScopeParts → List ProgParts → {x : BlockSymbol} → BlockPhrase x → ℕ
block_nesting w ps (braced l ss r) = block_nesting w ps ss + 1
block_nesting w ps no_stmts = 0
block_nesting w ps (more_stmts s ss) = max (block_nesting w ps s) (block_nesting w ps ss)
block_nesting w ps (skip_stmt l end) = 0
block_nesting w ps (abort_stmt l end) = 0
block_nesting w ps (assert_stmt l b end) = nesting w b
block_nesting w ps (name_stmt l end) = name_nesting ps (meaning w l.text)
block_nesting w ps (assign_stmt l becomes e end) = nesting w e
block_nesting w ps (if_stmt l r) = block_nesting w ps r
block_nesting w ps (while_stmt l b p) = max (nesting w b) (block_nesting w ps p)
block_nesting w ps (no_else b p) = max (nesting w b) (block_nesting w ps p)
block_nesting w ps (else_block b p l q) = max (nesting w b) (max (block_nesting w ps p) (block_nesting w ps q))
block_nesting w ps (else_if b p l i r) = max (nesting w b) (max (block_nesting w ps p) (block_nesting w ps r + 1))
