-- A fault of a block is never `NoMemory` if its actions give no such fault, because the steps suffice.
use Rattle.std.proofs.Common.{ℕ, zero, suc, ◌+◌, ◌*◌, ◌<◌, List, [], ◌∷◌, length, Bool, true, false, cond as if_true, Ok, Err, arith, drop, length-drop}
use Rattle.text_parser.specs.declared.fault.TextFault.TheVariants.{Syntax}
use Rattle.text_parser.specs.declared.terminal.Terminal.{Terminal}
use Rattle.text_parser.specs.declared.terminal.Terminal.TheVariants.{Name, Keyword, Separator}
use Rattle.text_parser.specs.declared.terminal.Keyword.TheVariants as word
use Rattle.text_parser.specs.declared.terminal.Separator.TheVariants.{Semicolon, CurlyOpen, CurlyClose, Becomes}
use Rattle.text_parser.specs.Lexemes.{Lexeme, lexeme, heads, is_terminal}
use Rattle.text_parser.specs.Parsed.{Parsed, ◌>>=◌, before, change, expects, place_of}
use Rattle.text_parser.specs.Actions.{context}
use Rattle.text_parser.specs.Exprs.{sums}
use Rattle.text_parser.specs.Conds.{disjunction}
use Rattle.text_parser.proofs.NamedFaults.{IsNamed, then_named, bind_named, if_named, before_named, change_named, then_expects_named, NameTerms, cond_named, expr_named}
use Rattle.while_lang.specs.BlockActions.{BlockActions}
use Rattle.while_lang.specs.Blocks.{enter, BlockAim, block, stmts_after, stmt_after, branch_after, BlockParser, cond_by, expr_by, then_semicolon, block_by, stmts_by, assign_by, named_by, loop_by, stmt_by, else_by, branch_by}
use Rattle.while_lang.specs.Blocks.{blocks_by, steps, block_within, parse_block}
use Rattle.while_lang.proofs.BlockSteps.{IsShort, cond_short, within_short}
use Rattle.while_lang.proofs.BlockFaults.{enter_named}

-- no action fails with `NoMemory`
pub record NameBlocks {E B L T M S : Type 0} (g : BlockActions E B L T M S) : Type 0 where
  pub phrases : NameTerms g.phrases
  pub named : (d at : ℕ) (text : List ℕ) (s : S) → IsNamed (g.named d at text s)
  pub target : (at : ℕ) (text : List ℕ) → IsNamed (g.target at text)

pub expected_named : {V : Type 0} (p : Terminal → Bool) (ts : List Lexeme) (k : List Lexeme → Parsed V) → ((us : List Lexeme) → length us < length ts → IsNamed (k us)) → IsNamed (expects p ts >>= k)
expected_named p [] k h = tt
expected_named p (lexeme s at text ∷ ts) k h = elim (p s) as (λ b. IsNamed (if_true b (Ok ts) (Err (Syntax at)) >>= k)) [ true ↦ h ts (omega arith) | false ↦ tt ]

module _ {E B L T M S : Type 0} (g : BlockActions E B L T M S) (names : NameBlocks g) where
  abbrev NamesBelow : BlockParser S → ℕ → Type 0
  NamesBelow f n = (x : BlockAim S) (d : ℕ) (ts : List Lexeme) → steps x ts < n → IsNamed (f x d ts)

  cond_by_named : (d : ℕ) (ts : List Lexeme) → IsNamed (cond_by g d ts)
  cond_by_named d ts = cond_named g.phrases.conds names.phrases.conds disjunction (context d false true) ts

  expr_by_named : (d : ℕ) (ts : List Lexeme) → IsNamed (expr_by g d ts)
  expr_by_named d ts = expr_named g.phrases.conds.exprs names.phrases.conds.exprs sums (context d false true) ts

  block_by_named : (f : BlockParser S) (d : ℕ) (ts : List Lexeme) → NamesBelow f (2 * length ts) → IsNamed (block_by g f d ts)
  block_by_named f d ts a = expected_named (is_terminal (Separator CurlyOpen)) ts _
      (λ us lt. then_named (enter d (place_of ts)) _ (enter_named d (place_of ts))
      (λ e. change_named g.braced (f (stmts_after g.none) e us) (a (stmts_after g.none) e us (omega arith))))

  stmts_by_named : (f : BlockParser S) → IsShort f → (v : S) (d : ℕ) (ts : List Lexeme) → NamesBelow f (2 * length ts + 1) → IsNamed (stmts_by g f v d ts)
  stmts_by_named f s v d ts a = if_named (heads (is_terminal (Separator CurlyClose)) ts) (Ok (v, drop 1 ts)) _ (λ h. tt)
      (λ h. bind_named (length ts) (f (stmt_after v) d ts) (λ x. f (stmts_after x.0) d x.1) (a (stmt_after v) d ts (omega arith)) (s (stmt_after v) d ts)
      (λ x lt. a (stmts_after x.0) d x.1 (omega arith)))

  name_by_named : (v : S) (d at : ℕ) (name : List ℕ) (ts : List Lexeme) → IsNamed (named_by g v d at name ts)
  name_by_named v d at name ts = if_named (heads (is_terminal (Separator Becomes)) ts) (assign_by g v d at name (drop 1 ts)) (then_semicolon (before ts (g.named d at name v)))
      (λ h. then_named (g.target at name) _ (names.target at name)
      (λ u. change_named (g.assign v name) (then_semicolon (expr_by g d (drop 1 ts))) (then_expects_named (is_terminal (Separator Semicolon)) (expr_by g d (drop 1 ts)) (expr_by_named d (drop 1 ts)))))
      (λ h. then_expects_named (is_terminal (Separator Semicolon)) (before ts (g.named d at name v)) (before_named ts (g.named d at name v) (names.named d at name v)))

  loop_by_named : (f : BlockParser S) (v : S) (d : ℕ) (ts : List Lexeme) → NamesBelow f (2 * length ts) → IsNamed (loop_by g f v d ts)
  loop_by_named f v d ts a = bind_named (length ts) (cond_by g d ts) (λ b. change (g.turn v b.0) (f block d b.1)) (cond_by_named d ts) (cond_short g d ts)
      (λ b lt. change_named (g.turn v b.0) (f block d b.1) (a block d b.1 (omega arith)))

  stmt_by_named : (f : BlockParser S) (v : S) (d : ℕ) (ts : List Lexeme) → NamesBelow f (2 * length ts) → IsNamed (stmt_by g f v d ts)
  stmt_by_named f v d [] a = tt
  stmt_by_named f v d (lexeme (Keyword word.Skip) at text ∷ ts) a = then_expects_named (is_terminal (Separator Semicolon)) (Ok (g.skip v, ts)) tt
  stmt_by_named f v d (lexeme (Keyword word.Abort) at text ∷ ts) a = then_expects_named (is_terminal (Separator Semicolon)) (Ok (g.abort v, ts)) tt
  stmt_by_named f v d (lexeme (Keyword word.Assert) at text ∷ ts) a = change_named (g.assert v) (then_semicolon (cond_by g d ts)) (then_expects_named (is_terminal (Separator Semicolon)) (cond_by g d ts) (cond_by_named d ts))
  stmt_by_named f v d (lexeme (Keyword word.If) at text ∷ ts) a = a (branch_after v) d ts (omega arith)
  stmt_by_named f v d (lexeme (Keyword word.While) at text ∷ ts) a = loop_by_named f v d ts (λ x e us lt. a x e us (omega arith))
  stmt_by_named f v d (lexeme Name at text ∷ ts) a = name_by_named v d at text ts
  stmt_by_named f v d (lexeme _ at text ∷ ts) a = tt

  else_by_named : (f : BlockParser S) (d : ℕ) (ts : List Lexeme) → NamesBelow f (2 * length ts + 1) → IsNamed (else_by g f d ts)
  else_by_named f d ts a = if_named (heads (is_terminal (Keyword word.Else)) ts) _ (Ok (g.none, ts))
      (λ h. if_named (heads (is_terminal (Keyword word.If)) (drop 1 ts)) (enter d (place_of (drop 1 ts)) >>= λ e. change g.chained (f (branch_after g.none) e (drop 1 (drop 1 ts)))) (f block d (drop 1 ts))
      (λ k. then_named (enter d (place_of (drop 1 ts))) _ (enter_named d (place_of (drop 1 ts)))
      (λ e. change_named g.chained (f (branch_after g.none) e (drop 1 (drop 1 ts))) (a (branch_after g.none) e (drop 1 (drop 1 ts)) (omega (arith, length-drop 1 (drop 1 ts), length-drop 1 ts)))))
      (λ k. a block d (drop 1 ts) (omega (arith, length-drop 1 ts))))
      (λ h. tt)

  branch_by_named : (f : BlockParser S) → IsShort f → (v : S) (d : ℕ) (ts : List Lexeme) → NamesBelow f (2 * length ts) → IsNamed (branch_by g f v d ts)
  branch_by_named f s v d ts a =
      bind_named (length ts) (cond_by g d ts) (λ b. f block d b.1 >>= λ p. change (g.branch v b.0 p.0) (else_by g f d p.1)) (cond_by_named d ts) (cond_short g d ts)
      (λ b lt. bind_named (length b.1) (f block d b.1) (λ p. change (g.branch v b.0 p.0) (else_by g f d p.1)) (a block d b.1 (omega arith)) (s block d b.1)
      (λ p le. change_named (g.branch v b.0 p.0) (else_by g f d p.1) (else_by_named f d p.1 (λ x e us less. a x e us (omega arith)))))

  blocks_named : (f : BlockParser S) → IsShort f → (x : BlockAim S) (d : ℕ) (ts : List Lexeme) → NamesBelow f (steps x ts) → IsNamed (blocks_by g f x d ts)
  blocks_named f s block d ts a = block_by_named f d ts (λ x e us lt. a x e us (omega arith))
  blocks_named f s (stmts_after v) d ts a = stmts_by_named f s v d ts (λ x e us lt. a x e us (omega arith))
  blocks_named f s (stmt_after v) d ts a = stmt_by_named f v d ts (λ x e us lt. a x e us (omega arith))
  blocks_named f s (branch_after v) d ts a = branch_by_named f s v d ts (λ x e us lt. a x e us (omega arith))

  blocks_within_named : (n : ℕ) (x : BlockAim S) (d : ℕ) (ts : List Lexeme) → steps x ts < n → IsNamed (block_within g n x d ts)
  unfolding block_within
  blocks_within_named zero x d ts lt = absurd (omega arith)
  blocks_within_named (suc n) x d ts lt = blocks_named (block_within g n) (within_short g n) x d ts (λ y e us below. blocks_within_named n y e us (omega arith))

  pub block_named : (x : BlockAim S) (d : ℕ) (ts : List Lexeme) → IsNamed (parse_block g x d ts)
  unfolding parse_block
  block_named x d ts = blocks_within_named (suc (steps x ts)) x d ts (omega arith)
