-- The phrases of blocks, case by case, and the tokens that spell them.
use Rattle.std.specs.Prelude.{◌≡◌, ◌<◌, ◌+◌, ℕ, List}
use Rattle.kat_model.specs.declared.limits.TheConstants.{MAX_OPEN}
use Rattle.text_parser.specs.declared.terminal.Terminal.TheVariants.{Name, Keyword, Separator}
use Rattle.text_parser.specs.declared.terminal.Keyword.TheVariants as word
use Rattle.text_parser.specs.declared.terminal.Separator.TheVariants.{Semicolon, CurlyOpen, CurlyClose, Becomes}
use Rattle.text_parser.specs.Lexemes.{Lexeme}
use Rattle.text_parser.specs.Phrases.{cond, expr, Leaf, Phrase, cons_token, yield_before, MeetsLookahead, IsWithinLimits}

-- the nonterminals of the grammar; `branch` follows the keyword `if`
pub data BlockSymbol : Type 0 where
  block stmts stmt branch : BlockSymbol

-- block = "{" stmts "}", stmts = { stmt },
-- stmt = "skip" ";" | "abort" ";" | "assert" cond ";" | NAME ";" | NAME ":=" expr ";" | "if" branch | "while" cond
-- block, branch = cond block [ "else" block | "else" "if" branch ]
pub data BlockPhrase : BlockSymbol → Type 0 where
  braced : (l : Leaf) → (ss : BlockPhrase stmts) → (r : Leaf) → BlockPhrase block
  no_stmts : BlockPhrase stmts
  more_stmts : (s : BlockPhrase stmt) → (ss : BlockPhrase stmts) → BlockPhrase stmts
  skip_stmt : (l end : Leaf) → BlockPhrase stmt
  abort_stmt : (l end : Leaf) → BlockPhrase stmt
  assert_stmt : (l : Leaf) → (b : Phrase cond) → (end : Leaf) → BlockPhrase stmt
  name_stmt : (l end : Leaf) → BlockPhrase stmt
  assign_stmt : (l becomes : Leaf) → (e : Phrase expr) → (end : Leaf) → BlockPhrase stmt
  if_stmt : (l : Leaf) → (r : BlockPhrase branch) → BlockPhrase stmt
  while_stmt : (l : Leaf) → (b : Phrase cond) → (p : BlockPhrase block) → BlockPhrase stmt
  no_else : (b : Phrase cond) → (p : BlockPhrase block) → BlockPhrase branch
  else_block : (b : Phrase cond) → (p : BlockPhrase block) → (l : Leaf) → (q : BlockPhrase block) → BlockPhrase branch
  else_if : (b : Phrase cond) → (p : BlockPhrase block) → (l i : Leaf) → (r : BlockPhrase branch) → BlockPhrase branch

-- the tokens of a phrase, followed by `ts`
abbrev pub block_before : {x : BlockSymbol} → BlockPhrase x → List Lexeme → List Lexeme
block_before (braced l ss r) ts = cons_token (Separator CurlyOpen) l (block_before ss (cons_token (Separator CurlyClose) r ts))
block_before no_stmts ts = ts
block_before (more_stmts s ss) ts = block_before s (block_before ss ts)
block_before (skip_stmt l end) ts = cons_token (Keyword word.Skip) l (cons_token (Separator Semicolon) end ts)
block_before (abort_stmt l end) ts = cons_token (Keyword word.Abort) l (cons_token (Separator Semicolon) end ts)
block_before (assert_stmt l b end) ts = cons_token (Keyword word.Assert) l (yield_before b (cons_token (Separator Semicolon) end ts))
block_before (name_stmt l end) ts = cons_token Name l (cons_token (Separator Semicolon) end ts)
block_before (assign_stmt l becomes e end) ts = cons_token Name l (cons_token (Separator Becomes) becomes (yield_before e (cons_token (Separator Semicolon) end ts)))
block_before (if_stmt l r) ts = cons_token (Keyword word.If) l (block_before r ts)
block_before (while_stmt l b p) ts = cons_token (Keyword word.While) l (yield_before b (block_before p ts))
block_before (no_else b p) ts = yield_before b (block_before p ts)
block_before (else_block b p l q) ts = yield_before b (block_before p (cons_token (Keyword word.Else) l (block_before q ts)))
block_before (else_if b p l i r) ts = yield_before b (block_before p (cons_token (Keyword word.Else) l (cons_token (Keyword word.If) i (block_before r ts))))

-- the rules on the token that follows a name or a parenthesis in a condition
abbrev pub BlockObeys : {x : BlockSymbol} → BlockPhrase x → List Lexeme → Type 0
BlockObeys (braced l ss r) ts = BlockObeys ss (cons_token (Separator CurlyClose) r ts)
BlockObeys no_stmts ts = Unit {0}
BlockObeys (more_stmts s ss) ts = BlockObeys s (block_before ss ts) × BlockObeys ss ts
BlockObeys (skip_stmt l end) ts = Unit {0}
BlockObeys (abort_stmt l end) ts = Unit {0}
BlockObeys (assert_stmt l b end) ts = MeetsLookahead b (cons_token (Separator Semicolon) end ts)
BlockObeys (name_stmt l end) ts = Unit {0}
BlockObeys (assign_stmt l becomes e end) ts = MeetsLookahead e (cons_token (Separator Semicolon) end ts)
BlockObeys (if_stmt l r) ts = BlockObeys r ts
BlockObeys (while_stmt l b p) ts = MeetsLookahead b (block_before p ts) × BlockObeys p ts
BlockObeys (no_else b p) ts = MeetsLookahead b (block_before p ts) × BlockObeys p ts
BlockObeys (else_block b p l q) ts =
    MeetsLookahead b (block_before p (cons_token (Keyword word.Else) l (block_before q ts))) × BlockObeys p (cons_token (Keyword word.Else) l (block_before q ts)) × BlockObeys q ts
BlockObeys (else_if b p l i r) ts =
    MeetsLookahead b (block_before p (cons_token (Keyword word.Else) l (cons_token (Keyword word.If) i (block_before r ts))))
    × BlockObeys p (cons_token (Keyword word.Else) l (cons_token (Keyword word.If) i (block_before r ts)))
    × BlockObeys r ts

-- with `d` levels open, no construct is too deep and no number is too wide; each `else if` is one level until its chain
-- ends
abbrev pub BlockFits : {x : BlockSymbol} → ℕ → BlockPhrase x → Type 0
BlockFits d (braced l ss r) = (d < MAX_OPEN) × BlockFits (d + 1) ss
BlockFits d no_stmts = Unit {0}
BlockFits d (more_stmts s ss) = BlockFits d s × BlockFits d ss
BlockFits d (skip_stmt l end) = Unit {0}
BlockFits d (abort_stmt l end) = Unit {0}
BlockFits d (assert_stmt l b end) = IsWithinLimits d b
BlockFits d (name_stmt l end) = Unit {0}
BlockFits d (assign_stmt l becomes e end) = IsWithinLimits d e
BlockFits d (if_stmt l r) = BlockFits d r
BlockFits d (while_stmt l b p) = IsWithinLimits d b × BlockFits d p
BlockFits d (no_else b p) = IsWithinLimits d b × BlockFits d p
BlockFits d (else_block b p l q) = IsWithinLimits d b × BlockFits d p × BlockFits d q
BlockFits d (else_if b p l i r) = IsWithinLimits d b × BlockFits d p × (d < MAX_OPEN) × BlockFits (d + 1) r

-- the tokens are a phrase of `x`, followed by `rest`
pub record IsBlockPhrase (x : BlockSymbol) (d : ℕ) (ts rest : List Lexeme) : Type 0 where
  pub phrase : BlockPhrase x
  pub spelled : ts ≡ block_before phrase rest
  pub obeys : BlockObeys phrase rest
  pub fits : BlockFits d phrase
