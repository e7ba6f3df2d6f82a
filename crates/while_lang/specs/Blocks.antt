-- The block parser.
use Rattle.std.specs.Prelude.{ℕ, zero, suc, ◌+◌, ◌*◌, List, [], ◌∷◌, length, drop, true, false, if◌then◌else◌, nat_lt, Result, Ok, Err}
use Rattle.kat_model.specs.declared.limits.TheConstants.{MAX_OPEN}
use Rattle.text_parser.specs.declared.fault.TextFault.{TextFault}
use Rattle.text_parser.specs.declared.fault.TextFault.TheVariants.{NoMemory, Syntax, TooDeep}
use Rattle.text_parser.specs.declared.terminal.Terminal.TheVariants.{Name, Keyword, Separator}
use Rattle.text_parser.specs.declared.terminal.Keyword.TheVariants as word
use Rattle.text_parser.specs.declared.terminal.Separator.TheVariants.{Semicolon, CurlyOpen, CurlyClose, Becomes}
use Rattle.text_parser.specs.Lexemes.{Lexeme, lexeme, heads, is_terminal}
use Rattle.text_parser.specs.Parsed.{Parsed, ◌>>=◌, at_end, place_of, before, change, expects, then_expects}
use Rattle.text_parser.specs.Actions.{context}
use Rattle.text_parser.specs.Exprs.{parse_expr, sums}
use Rattle.text_parser.specs.Conds.{parse_cond, disjunction}
use Rattle.while_lang.specs.BlockActions.{BlockActions}

-- the number of open constructs after one more opens at place `at`
abbrev pub enter : ℕ → ℕ → Result ℕ TextFault
enter d at = if nat_lt d MAX_OPEN then Ok (d + 1) else Err (TooDeep at)

-- what to parse: a block, the rest of a block after its brace and the statements so far, another statement, or the rest
-- of a statement after its `if`
pub data BlockAim (S : Type 0) : Type 0 where
  block : BlockAim S
  stmts_after : (s : S) → BlockAim S
  stmt_after : (s : S) → BlockAim S
  branch_after : (s : S) → BlockAim S

-- a parser, which reads an aim at the start of the tokens with a number of open constructs
abbrev pub BlockParser : Type 0 → Type 0
BlockParser S = BlockAim S → ℕ → List Lexeme → Parsed S

-- parses a condition or an expression of a program, where comparisons are allowed
abbrev pub cond_by : {E B L T M S : Type 0} → BlockActions E B L T M S → ℕ → List Lexeme → Parsed B
cond_by g d ts = parse_cond g.phrases.conds disjunction (context d false true) ts

abbrev pub expr_by : {E B L T M S : Type 0} → BlockActions E B L T M S → ℕ → List Lexeme → Parsed E
expr_by g d ts = parse_expr g.phrases.conds.exprs sums (context d false true) ts

-- a value, followed by a semicolon
abbrev pub then_semicolon : {V : Type 0} → Parsed V → Parsed V
then_semicolon m = then_expects (is_terminal (Separator Semicolon)) m

-- "{" { stmt } "}"
abbrev pub block_by : {E B L T M S : Type 0} → BlockActions E B L T M S → BlockParser S → ℕ → List Lexeme → Parsed S
block_by g f d ts =
    expects (is_terminal (Separator CurlyOpen)) ts >>= λ a. enter d (place_of ts) >>= λ e. change g.braced (f (stmts_after g.none) e a)

-- { stmt } "}", after the statements so far
abbrev pub stmts_by : {E B L T M S : Type 0} → BlockActions E B L T M S → BlockParser S → S → ℕ → List Lexeme → Parsed S
stmts_by g f s d ts =
    if heads (is_terminal (Separator CurlyClose)) ts then Ok (s, drop 1 ts) else (f (stmt_after s) d ts >>= λ x. f (stmts_after x.0) d x.1)

-- NAME ":=" expr ";", after the name
abbrev pub assign_by : {E B L T M S : Type 0} → BlockActions E B L T M S → S → ℕ → ℕ → List ℕ → List Lexeme → Parsed S
assign_by g s d at name ts = g.target at name >>= λ u. change (g.assign s name) (then_semicolon (expr_by g d ts))

-- a statement that begins with a name: an assignment if `:=` follows, otherwise an action or a program
abbrev pub named_by : {E B L T M S : Type 0} → BlockActions E B L T M S → S → ℕ → ℕ → List ℕ → List Lexeme → Parsed S
named_by g s d at name ts =
    if heads (is_terminal (Separator Becomes)) ts then assign_by g s d at name (drop 1 ts) else then_semicolon (before ts (g.named d at name s))

-- "while" cond block, after the keyword
abbrev pub loop_by : {E B L T M S : Type 0} → BlockActions E B L T M S → BlockParser S → S → ℕ → List Lexeme → Parsed S
loop_by g f s d ts = cond_by g d ts >>= λ b. change (g.turn s b.0) (f block d b.1)

-- parses a statement, by its first token
abbrev pub stmt_by : {E B L T M S : Type 0} → BlockActions E B L T M S → BlockParser S → S → ℕ → List Lexeme → Parsed S
stmt_by g f s d [] = Err (Syntax at_end)
stmt_by g f s d (lexeme (Keyword word.Skip) at text ∷ ts) = then_semicolon (Ok (g.skip s, ts))
stmt_by g f s d (lexeme (Keyword word.Abort) at text ∷ ts) = then_semicolon (Ok (g.abort s, ts))
stmt_by g f s d (lexeme (Keyword word.Assert) at text ∷ ts) = change (g.assert s) (then_semicolon (cond_by g d ts))
stmt_by g f s d (lexeme (Keyword word.If) at text ∷ ts) = f (branch_after s) d ts
stmt_by g f s d (lexeme (Keyword word.While) at text ∷ ts) = loop_by g f s d ts
stmt_by g f s d (lexeme Name at text ∷ ts) = named_by g s d at text ts
stmt_by g f s d (lexeme _ at text ∷ ts) = Err (Syntax at)

-- the second block of an `if`: none, a block after `else`, or another `if` after `else`, which is one level deeper
abbrev pub else_by : {E B L T M S : Type 0} → BlockActions E B L T M S → BlockParser S → ℕ → List Lexeme → Parsed S
else_by g f d ts =
    if heads (is_terminal (Keyword word.Else)) ts then
    (if heads (is_terminal (Keyword word.If)) (drop 1 ts) then
    (enter d (place_of (drop 1 ts)) >>= λ e. change g.chained (f (branch_after g.none) e (drop 1 (drop 1 ts))))
    else f block d (drop 1 ts))
    else Ok (g.none, ts)

-- cond block [ "else" block | "else" ifstmt ], after the `if`
abbrev pub branch_by : {E B L T M S : Type 0} → BlockActions E B L T M S → BlockParser S → S → ℕ → List Lexeme → Parsed S
branch_by g f s d ts = cond_by g d ts >>= λ b. f block d b.1 >>= λ p. change (g.branch s b.0 p.0) (else_by g f d p.1)

-- one step: parses each aim by parsers on fewer tokens, or on equally many with a lower rank
abbrev pub blocks_by : {E B L T M S : Type 0} → BlockActions E B L T M S → BlockParser S → BlockParser S
blocks_by g f block d ts = block_by g f d ts
blocks_by g f (stmts_after s) d ts = stmts_by g f s d ts
blocks_by g f (stmt_after s) d ts = stmt_by g f s d ts
blocks_by g f (branch_after s) d ts = branch_by g f s d ts

-- 1 for the rest of a block, which begins with a statement; else 0
abbrev pub rank : {S : Type 0} → BlockAim S → ℕ
rank (stmts_after s) = 1
rank x = 0

-- a number of steps that suffices
abbrev pub steps : {S : Type 0} → BlockAim S → List Lexeme → ℕ
steps x ts = 2 * length ts + rank x

-- parses in at most `n` steps
unfoldable pub block_within : {E B L T M S : Type 0} → BlockActions E B L T M S → ℕ → BlockParser S
block_within g zero x d ts = Err NoMemory
block_within g (suc n) x d ts = blocks_by g (block_within g n) x d ts

-- parses the block at the start of the tokens, or gives the first fault
unfoldable pub parse_block : {E B L T M S : Type 0} → BlockActions E B L T M S → BlockParser S
parse_block g x d ts = block_within g (suc (steps x ts)) x d ts
