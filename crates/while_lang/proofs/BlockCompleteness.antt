-- Parsing the tokens of a block gives the fold of the block.
use Rattle.std.proofs.Common.{◌≡◌, ℕ, List, true, false, Result, Ok, Err, refl, ap, ◌∙◌}
use Rattle.text_parser.specs.declared.fault.TextFault.{TextFault}
use Rattle.text_parser.specs.declared.terminal.Terminal.TheVariants.{Keyword, Separator}
use Rattle.text_parser.specs.declared.terminal.Keyword.TheVariants as word
use Rattle.text_parser.specs.declared.terminal.Separator.TheVariants.{Semicolon, CurlyClose}
use Rattle.text_parser.specs.Lexemes.{Lexeme, heads, is_terminal}
use Rattle.text_parser.specs.Parsed.{Parsed, ◌>>=◌, before, change}
use Rattle.text_parser.specs.Actions.{context}
use Rattle.text_parser.specs.Phrases.{cond, expr, Leaf, Phrase, cons_token, yield_before, MeetsLookahead}
use Rattle.text_parser.specs.Ends.{Ends}
use Rattle.text_parser.proofs.ParserCompleteness.{then_rest, checked, changed, closed, cond_parsed, expr_parsed}
use Rattle.text_parser.proofs.Longest.{longest}
use Rattle.while_lang.specs.BlockActions.{BlockActions}
use Rattle.while_lang.specs.Blocks.{enter, block as block_aim, stmts_after, stmt_after, branch_after, cond_by, expr_by, then_semicolon, else_by, parse_block}
use Rattle.while_lang.specs.BlockPhrases.{BlockSymbol, block, stmts, stmt, branch, BlockPhrase, braced, no_stmts, more_stmts, skip_stmt, abort_stmt, assert_stmt, name_stmt, assign_stmt, if_stmt, while_stmt}
use Rattle.while_lang.specs.BlockPhrases.{no_else, else_block, else_if, block_before, BlockObeys}
use Rattle.while_lang.specs.BlockFolds.{fold_cond, fold_expr, fold_block}
use Rattle.while_lang.proofs.BlockSteps.{block_step}

-- the tokens do not begin with `else`
abbrev pub NoElse : List Lexeme → Type 0
NoElse ts = heads (is_terminal (Keyword word.Else)) ts ≡ false

-- a closing brace, then the tokens that follow
abbrev pub close : Leaf → List Lexeme → List Lexeme
close r ts = cons_token (Separator CurlyClose) r ts

-- a block begins with a brace, which cannot continue a condition
block_ends : (p : BlockPhrase block) (ts : List Lexeme) → Ends cond (block_before p ts)
block_ends (braced l ss r) ts = refl

block_no_if : (p : BlockPhrase block) (ts : List Lexeme) → heads (is_terminal (Keyword word.If)) (block_before p ts) ≡ false
block_no_if (braced l ss r) ts = refl

-- a statement does not begin with a closing brace or `else`
stmt_opens : (s : BlockPhrase stmt) (ts : List Lexeme) → heads (is_terminal (Separator CurlyClose)) (block_before s ts) ≡ false
stmt_opens (skip_stmt l end) ts = refl
stmt_opens (abort_stmt l end) ts = refl
stmt_opens (assert_stmt l b end) ts = refl
stmt_opens (name_stmt l end) ts = refl
stmt_opens (assign_stmt l becomes e end) ts = refl
stmt_opens (if_stmt l r) ts = refl
stmt_opens (while_stmt l b p) ts = refl

stmt_no_else : (s : BlockPhrase stmt) (ts : List Lexeme) → NoElse (block_before s ts)
stmt_no_else (skip_stmt l end) ts = refl
stmt_no_else (abort_stmt l end) ts = refl
stmt_no_else (assert_stmt l b end) ts = refl
stmt_no_else (name_stmt l end) ts = refl
stmt_no_else (assign_stmt l becomes e end) ts = refl
stmt_no_else (if_stmt l r) ts = refl
stmt_no_else (while_stmt l b p) ts = refl

stmts_no_else : (ss : BlockPhrase stmts) (r : Leaf) (ts : List Lexeme) → NoElse (block_before ss (close r ts))
stmts_no_else no_stmts r ts = refl
stmts_no_else (more_stmts s ss) r ts = stmt_no_else s (block_before ss (close r ts))

-- a value changed after a check, or changed twice
entered : {V W : Type 0} (ts : List Lexeme) (m : Result ℕ TextFault) (f : V → W) (k : ℕ → Parsed V) (l : ℕ → Result W TextFault) → ((e : ℕ) → change f (k e) ≡ before ts (l e)) → change f (m >>= k) ≡ before ts (m >>= l)
entered ts (Ok e) f k l h = h e
entered ts (Err x) f k l h = refl

changed_twice : {U V W : Type 0} (ts : List Lexeme) (f : V → W) (h : U → V) (v : Result U TextFault) → change f (change h (before ts v)) ≡ before ts (v >>= λ u. Ok (f (h u)))
changed_twice ts f h (Ok v) = refl
changed_twice ts f h (Err x) = refl

module _ {E B L T M S : Type 0} (g : BlockActions E B L T M S) where
  pub cond_read : (b : Phrase cond) (d : ℕ) (ts : List Lexeme) → MeetsLookahead b ts → Ends cond ts → cond_by g d (yield_before b ts) ≡ before ts (fold_cond g d b)
  cond_read b d ts o ends = cond_parsed g.phrases b (context d false true) ts o (longest b ts ends)

  pub expr_read : (e : Phrase expr) (d : ℕ) (ts : List Lexeme) → MeetsLookahead e ts → Ends expr ts → expr_by g d (yield_before e ts) ≡ before ts (fold_expr g d e)
  expr_read e d ts o ends = expr_parsed g.phrases e (context d false true) ts o (longest e ts ends)

  abbrev Reads : (x : BlockSymbol) → BlockPhrase x → Type 0
  Reads block p = (d : ℕ) (v : S) (ts : List Lexeme) → BlockObeys p ts → parse_block g block_aim d (block_before p ts) ≡ before ts (fold_block g d p v)
  Reads stmts p = (d : ℕ) (v : S) (r : Leaf) (ts : List Lexeme) → BlockObeys p (close r ts) → parse_block g (stmts_after v) d (block_before p (close r ts)) ≡ before ts (fold_block g d p v)
  Reads stmt p = (d : ℕ) (v : S) (ts : List Lexeme) → BlockObeys p ts → NoElse ts → parse_block g (stmt_after v) d (block_before p ts) ≡ before ts (fold_block g d p v)
  Reads branch p = (d : ℕ) (v : S) (ts : List Lexeme) → BlockObeys p ts → NoElse ts → parse_block g (branch_after v) d (block_before p ts) ≡ before ts (fold_block g d p v)

  -- the parser after the condition and the first block of an `if`
  abbrev second : ℕ → S → B → S × List Lexeme → Parsed S
  second d v b p = change (g.branch v b p.0) (else_by g (parse_block g) d p.1)

  abbrev after_cond : ℕ → S → B × List Lexeme → Parsed S
  after_cond d v b = parse_block g block_aim d b.1 >>= second d v b.0

  abbrev converse : ℕ → S → B × List Lexeme → Parsed S
  converse d v b = change (g.turn v b.0) (parse_block g block_aim d b.1)

  -- an `if` with its condition and first block, given the reading of the rest
  branch_read : (b : Phrase cond) (p : BlockPhrase block) (d : ℕ) (v : S) (us ts : List Lexeme) (l : B → S → Result S TextFault) →
      MeetsLookahead b (block_before p us) → (parse_block g block_aim d (block_before p us) ≡ before us (fold_block g d p v)) →
      ((x : B) (w : S) → second d v x (w, us) ≡ before ts (l x w)) →
      parse_block g (branch_after v) d (yield_before b (block_before p us)) ≡ before ts (fold_cond g d b >>= λ x. fold_block g d p v >>= l x)
  branch_read b p d v us ts l o first rest =
      block_step g (branch_after v) d (yield_before b (block_before p us))
      ∙ ap (λ (m : Parsed B). m >>= after_cond d v) (cond_read b d (block_before p us) o (block_ends p us))
      ∙ then_rest (block_before p us) ts (fold_cond g d b) (after_cond d v) (λ x. fold_block g d p v >>= l x)
      (λ x. ap (λ (m : Parsed S). m >>= second d v x) first ∙ then_rest us ts (fold_block g d p v) (second d v x) (l x) (rest x))

  pub parsed : {x : BlockSymbol} (p : BlockPhrase x) → Reads x p
  parsed (braced l ss r) = λ d v ts o.
      block_step g block_aim d _
      ∙ checked ts (enter d l.at) (λ e. change g.braced (parse_block g (stmts_after g.none) e (block_before ss (close r ts)))) (λ e. fold_block g e ss g.none >>= λ w. Ok (g.braced w))
      (λ e. ap (change g.braced) (parsed ss e g.none r ts o) ∙ changed ts g.braced (fold_block g e ss g.none))
  parsed no_stmts = λ d v r ts o. block_step g (stmts_after v) d _
  parsed (more_stmts s ss) = λ d v r ts o.
      let us = block_before ss (close r ts) in
      block_step g (stmts_after v) d _
      ∙ rw (stmt_opens s us)
      (ap (λ (m : Parsed S). m >>= λ x. parse_block g (stmts_after x.0) d x.1) (parsed s d v us o.0 (stmts_no_else ss r ts))
      ∙ then_rest us ts (fold_block g d s v) (λ x. parse_block g (stmts_after x.0) d x.1) (fold_block g d ss) (λ w. parsed ss d w r ts o.1))
  parsed (skip_stmt l end) = λ d v ts o n. block_step g (stmt_after v) d _
  parsed (abort_stmt l end) = λ d v ts o n. block_step g (stmt_after v) d _
  parsed (assert_stmt l b end) = λ d v ts o n.
      let us = cons_token (Separator Semicolon) end ts in
      block_step g (stmt_after v) d _
      ∙ ap (λ (m : Parsed B). change (g.assert v) (then_semicolon m)) (cond_read b d us o refl)
      ∙ ap (change (g.assert v)) (closed (Separator Semicolon) end ts (fold_cond g d b) refl)
      ∙ changed ts (g.assert v) (fold_cond g d b)
  parsed (name_stmt l end) = λ d v ts o n. block_step g (stmt_after v) d _ ∙ closed (Separator Semicolon) end ts (g.named d l.at l.text v) refl
  parsed (assign_stmt l becomes e end) = λ d v ts o n.
      let us = cons_token (Separator Semicolon) end ts in
      block_step g (stmt_after v) d _
      ∙ checked ts (g.target l.at l.text) (λ u. change (g.assign v l.text) (then_semicolon (expr_by g d (yield_before e us)))) (λ u. fold_expr g d e >>= λ x. Ok (g.assign v l.text x))
      (λ u. ap (λ (m : Parsed E). change (g.assign v l.text) (then_semicolon m)) (expr_read e d us o refl)
      ∙ ap (change (g.assign v l.text)) (closed (Separator Semicolon) end ts (fold_expr g d e) refl)
      ∙ changed ts (g.assign v l.text) (fold_expr g d e))
  parsed (if_stmt l r) = λ d v ts o n. block_step g (stmt_after v) d _ ∙ parsed r d v ts o n
  parsed (while_stmt l b p) = λ d v ts o n.
      block_step g (stmt_after v) d _
      ∙ ap (λ (m : Parsed B). m >>= converse d v) (cond_read b d (block_before p ts) o.0 (block_ends p ts))
      ∙ then_rest (block_before p ts) ts (fold_cond g d b) (converse d v) (λ x. fold_block g d p v >>= λ w. Ok (g.turn v x w))
      (λ x. ap (change (g.turn v x)) (parsed p d v ts o.1) ∙ changed ts (g.turn v x) (fold_block g d p v))
  parsed (no_else b p) = λ d v ts o n.
      branch_read b p d v ts ts (λ x w. Ok (g.branch v x w g.none)) o.0 (parsed p d v ts o.1) (λ x w. rw (n) refl)
  parsed (else_block b p l q) = λ d v ts o n.
      let us = cons_token (Keyword word.Else) l (block_before q ts) in
      branch_read b p d v us ts (λ x w. fold_block g d q v >>= λ u. Ok (g.branch v x w u)) o.0 (parsed p d v us o.1)
      (λ x w. rw (block_no_if q ts) (ap (change (g.branch v x w)) (parsed q d v ts o.2) ∙ changed ts (g.branch v x w) (fold_block g d q v)))
  parsed (else_if b p l i r) = λ d v ts o n.
      let us = cons_token (Keyword word.Else) l (cons_token (Keyword word.If) i (block_before r ts)) in
      branch_read b p d v us ts (λ x w. enter d i.at >>= λ e. fold_block g e r g.none >>= λ u. Ok (g.branch v x w (g.chained u))) o.0 (parsed p d v us o.1)
      (λ x w. entered ts (enter d i.at) (g.branch v x w) (λ e. change g.chained (parse_block g (branch_after g.none) e (block_before r ts))) (λ e. fold_block g e r g.none >>= λ u. Ok (g.branch v x w (g.chained u)))
      (λ e. ap (λ (m : Parsed S). change (g.branch v x w) (change g.chained m)) (parsed r e g.none ts o.2 n) ∙ changed_twice ts (g.branch v x w) g.chained (fold_block g e r g.none)))
