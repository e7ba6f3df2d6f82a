-- Graphs of a plain text are read.
use Rattle.std.proofs.Common.{◌≤◌, ◌<◌, ◌+◌, ◌^◌, ℕ, List, [], ◌∷◌, length, map, Bool, true, false, refl, arith}
use Rattle.std.proofs.lemmas.Option.{slice_get_within}
use Rattle.std.specs.Prelude.{codes}
use Rattle.kat_model.specs.declared.limits.TheConstants.{MAX_OPEN}
use Rattle.text_parser.specs.declared.token.Kind.TheVariants.{Name, Symbol}
use Rattle.text_parser.specs.TokenParts.{TokenParts, token_parts}
use Rattle.text_parser.specs.Pieces.{Piece, word, symbol, gap}
use Rattle.text_print.proofs.Separate.{EndsWords, blank_ends}
use Rattle.flow_model.specs.declared.sort.Sort.{Sort}
use Rattle.flow_model.specs.Expressions.{ExprTree}
use Rattle.flow_model.specs.Conditions.{CondTree}
use Rattle.flow_model.specs.Graphs.{StatementTree, assign, claim, JumpTree, goto, branch, return, abort, Block, Graph}
use Rattle.flow_syntax.specs.declared.rule.Part.TheVariants.{Token, Opening, Closing, Phrase}
use Rattle.flow_syntax.specs.declared.rule.Start.TheVariants.{Otherwise}
use Rattle.flow_syntax.specs.declared.phrase.TheConstants.{MORE_NAMES, FIRST_BLOCK, MORE_BLOCKS, BODY, RESULTS, EXPRESSION, MORE_EXPRESSIONS}
use Rattle.flow_syntax.specs.declared.terminal.TheConstants.{NAME, BLOCK, CUT, GOTO, IF, ELSE, RETURN, ABORT, ASSERT, COMMA, SEMICOLON, CURLY_OPEN, CURLY_CLOSE, BECOMES}
use Rattle.flow_syntax.specs.Syntax as syntax
use Rattle.flow_syntax.specs.Actions.{token, tokens, expr, exprs, body, blocks}
use Rattle.flow_plain.specs.PlainGraphs.{Declared, variable_name, block_name}
use Rattle.flow_plain.specs.PrintableGraphs.{AreAssigned, AreResults, IsPlainStatement, IsPlainJump, AreStatements, AreBlocks, expression_levels, condition_levels}
use Rattle.flow_plain.proofs.Steps.{Reads, Follows, IsRule, IsWord, word_follows, gap_follows, gap_read, token_read, opening_read, closing_read, apply_read, shift_read}
use Rattle.flow_plain.proofs.PlainRules as rule
use Rattle.flow_plain.proofs.PlainWords.{keyword, mark, variable_word, block_word}
use Rattle.flow_plain.proofs.PlainPieces.{expr_pieces, expr_end, expr_syntax, cond_end, more_names, more_names_end, more_names_syntax, more_exprs, more_exprs_end, more_exprs_syntax, becomes_place, value_place, assign_stop, statement_pieces, statement_end, statement_syntax, statements_pieces, statements_end, statements_syntax, jump_pieces, first_target, other_target, jump_end, results_syntax, jump_syntax, cut_pieces, cut_end, name_place, body_place, block_end, block_syntax, blocks_pieces, blocks_end, blocks_syntax}
use Rattle.flow_plain.proofs.ExprReads.{EndsSum, ends_factor, ends_sum, comma_word, comma_ends, comma_stops, Parts, Values, FactorReads, Begins, begins, expression_read, factor_reads}
use Rattle.flow_plain.proofs.CondReads.{LiteralReads, semicolon_ends_cond, goto_ends_cond, condition_read, literal_reads}

pub semicolon_word : IsWord Symbol (codes ";") SEMICOLON
semicolon_word = mark (codes ";") SEMICOLON refl refl refl refl

pub curly_open_word : IsWord Symbol (codes "{") CURLY_OPEN
curly_open_word = mark (codes "{") CURLY_OPEN refl refl refl refl

pub curly_close_word : IsWord Symbol (codes "}") CURLY_CLOSE
curly_close_word = mark (codes "}") CURLY_CLOSE refl refl refl refl

becomes_word : IsWord Symbol (codes ":=") BECOMES
becomes_word = mark (codes ":=") BECOMES refl refl refl refl

pub semicolon_ends : EndsSum SEMICOLON
semicolon_ends = ends_sum SEMICOLON (ends_factor SEMICOLON refl refl) refl refl refl

pub semicolon_stops : (ps : List Piece) → EndsWords (symbol (codes ";") ∷ ps)
semicolon_stops ps = record { name = λ b. refl; number = λ b. refl }

-- ---- lists

abbrev pub AreWords : List (List ℕ) → Type 0
AreWords [] = Unit {0}
AreWords (x ∷ xs) = IsWord Name x NAME × AreWords xs

pub names_stop : (xs : List (List ℕ)) (ps : List Piece) → EndsWords ps → EndsWords (more_names xs ps)
names_stop [] ps stops = stops
names_stop (x ∷ xs) ps stops = comma_stops _

pub more_names_read : (xs : List (List ℕ)) → AreWords xs → (d at x : ℕ) (rest : Parts) (ps : List Piece) (vs : Values) → IsRule MORE_NAMES x 11 Otherwise [] rule.by_no_tokens → Follows x (more_names_end xs at) ps → EndsWords ps → Reads d rest (more_names_end xs at) ps vs
    → Reads d (Phrase MORE_NAMES ∷ rest) at (more_names xs ps) (tokens (more_names_syntax xs at) ∷ vs)
more_names_read [] are d at x rest ps vs last follows stops r = apply_read last follows refl r
more_names_read (y ∷ ys) are d at x rest ps vs last follows stops r =
    shift_read rule.more_names_rule comma_word refl refl
    (gap_read refl (token_read are.0 ((names_stop ys ps stops).name y) (more_names_read ys are.1 d (at + 1 + 1 + length y) x rest ps vs last follows stops r)))

-- the expressions are read in a block
abbrev pub AreFactors : List ExprTree → Type 0
AreFactors [] = Unit {0}
AreFactors (e ∷ es) = FactorReads e × (2 + expression_levels e ≤ MAX_OPEN) × AreFactors es

-- what follows an expression of a list that ends with a semicolon
record AfterExpr (at : ℕ) (ps : List Piece) : Type 0 where
  x : ℕ
  ends : EndsSum x
  follows : Follows x at ps
  stops : EndsWords ps

after_expr : (es : List ExprTree) (at : ℕ) (ps : List Piece) → AfterExpr at (more_exprs es (symbol (codes ";") ∷ ps))
after_expr [] at ps = record { x = SEMICOLON; ends = semicolon_ends; follows = word_follows semicolon_word; stops = semicolon_stops ps }
after_expr (e ∷ es) at ps = record { x = COMMA; ends = comma_ends; follows = word_follows comma_word; stops = comma_stops _ }

-- an expression and others, to the semicolon
exprs_read : (e : ExprTree) (es : List ExprTree) → FactorReads e → 2 + expression_levels e ≤ MAX_OPEN → AreFactors es → (at : ℕ) (rest : Parts) (ps : List Piece) (vs : Values) → Reads 2 rest (more_exprs_end es (expr_end e at)) (symbol (codes ";") ∷ ps) vs
    → Reads 2 (Phrase EXPRESSION ∷ Phrase MORE_EXPRESSIONS ∷ rest) at (expr_pieces e (more_exprs es (symbol (codes ";") ∷ ps))) (expr (expr_syntax e at) ∷ exprs (more_exprs_syntax es (expr_end e at)) ∷ vs)
exprs_read e [] reads levels are at rest ps vs r =
    let next = after_expr [] (expr_end e at) ps in
    expression_read e reads 2 at next.x (Phrase MORE_EXPRESSIONS ∷ rest) (symbol (codes ";") ∷ ps) (exprs [] ∷ vs) levels next.ends next.follows next.stops
    (apply_read (rule.no_expressions_rule SEMICOLON refl refl) (word_follows semicolon_word) refl r)
exprs_read e (f ∷ fs) reads levels are at rest ps vs r =
    let next = after_expr (f ∷ fs) (expr_end e at) ps in
    let more = exprs_read f fs are.0 are.1 are.2 (expr_end e at + 1 + 1) rest ps vs r in
    expression_read e reads 2 at next.x (Phrase MORE_EXPRESSIONS ∷ rest) (more_exprs (f ∷ fs) (symbol (codes ";") ∷ ps)) (exprs (more_exprs_syntax (f ∷ fs) (expr_end e at)) ∷ vs) levels next.ends next.follows next.stops
    (shift_read rule.more_expressions_rule comma_word refl refl (gap_read refl more))

-- ---- statements

-- the statement is read before others
abbrev StatementReads : StatementTree → Type 0
StatementReads x =
    (at : ℕ) (rest : Parts) (ps : List Piece) (ss : List syntax.StatementSyntax) (j : syntax.JumpSyntax) (vs : Values) → Reads 2 (Phrase BODY ∷ rest) (statement_end x at) ps (body ss j ∷ vs)
    → Reads 2 (Phrase BODY ∷ rest) at (statement_pieces x ps) (body (statement_syntax x at ∷ ss) j ∷ vs)

assign_read : (k : ℕ) (ks : List ℕ) (e : ExprTree) (es : List ExprTree) → k < 2 ^ 64 → AreWords (map variable_name ks) → FactorReads e → 2 + expression_levels e ≤ MAX_OPEN → AreFactors es → StatementReads (assign (k ∷ ks) (e ∷ es))
assign_read k ks e es low words reads levels are at rest ps ss j vs r =
    let stop = assign_stop k ks e es at in
    let after = gap 32 ∷ symbol (codes ":=") ∷ gap 32 ∷ expr_pieces e (more_exprs es (symbol (codes ";") ∷ gap 32 ∷ ps)) in
    let us : Values = token (token_parts Symbol stop (codes ";")) ∷ body ss j ∷ vs in
    let ended : Reads 2 (Token SEMICOLON ∷ Phrase BODY ∷ rest) stop (symbol (codes ";") ∷ gap 32 ∷ ps) us = token_read semicolon_word refl (gap_read refl r) in
    let value = exprs_read e es reads levels are (value_place k ks at) (Token SEMICOLON ∷ Phrase BODY ∷ rest) (gap 32 ∷ ps) us ended in
    let becomes : Reads 2 (Token BECOMES ∷ Phrase EXPRESSION ∷ Phrase MORE_EXPRESSIONS ∷ Token SEMICOLON ∷ Phrase BODY ∷ rest) (more_names_end (map variable_name ks) (at + length (variable_name k))) after (token (token_parts Symbol (becomes_place k ks at) (codes ":=")) ∷ expr (expr_syntax e (value_place k ks at)) ∷ exprs (more_exprs_syntax es (expr_end e (value_place k ks at))) ∷ us) =
    gap_read refl (token_read becomes_word refl (gap_read refl value)) in
    let targets = more_names_read (map variable_name ks) words 2 (at + length (variable_name k)) BECOMES (Token BECOMES ∷ Phrase EXPRESSION ∷ Phrase MORE_EXPRESSIONS ∷ Token SEMICOLON ∷ Phrase BODY ∷ rest) after _ rule.no_targets_rule (gap_follows (word_follows becomes_word)) (blank_ends _) becomes in
    shift_read rule.assign_rule (variable_word k low) ((names_stop (map variable_name ks) after (blank_ends _)).name (variable_name k)) refl targets

claim_read : (b : CondTree) → LiteralReads b → 2 + condition_levels b ≤ MAX_OPEN → StatementReads (claim b)
claim_read b reads levels at rest ps ss j vs r =
    let begin = at + 6 + 1 in
    let us : Values = token (token_parts Symbol (cond_end b begin) (codes ";")) ∷ body ss j ∷ vs in
    let ended : Reads 2 (Token SEMICOLON ∷ Phrase BODY ∷ rest) (cond_end b begin) (symbol (codes ";") ∷ gap 32 ∷ ps) us = token_read semicolon_word refl (gap_read refl r) in
    shift_read rule.assert_rule (keyword (codes "assert") ASSERT refl refl refl refl) refl refl
    (gap_read refl (condition_read b reads 2 begin SEMICOLON (Token SEMICOLON ∷ Phrase BODY ∷ rest) (symbol (codes ";") ∷ gap 32 ∷ ps) us levels semicolon_ends_cond (word_follows semicolon_word) (semicolon_stops _) ended))

-- ---- jumps

-- the jump is read
abbrev JumpReads : JumpTree → Type 0
JumpReads j =
    (at : ℕ) (rest : Parts) (ps : List Piece) (vs : Values) → Reads 2 rest (jump_end j at) ps vs → Reads 2 (Phrase BODY ∷ rest) at (jump_pieces j ps) (body [] (jump_syntax j at) ∷ vs)

goto_read : (k : ℕ) → k < 2 ^ 64 → JumpReads (goto k)
goto_read k low at rest ps vs r =
    shift_read rule.goto_rule (keyword (codes "goto") GOTO refl refl refl refl) refl refl
    (gap_read refl (token_read (block_word k low) refl (token_read semicolon_word refl (gap_read refl r))))

branch_read : (b : CondTree) (k l : ℕ) → LiteralReads b → 2 + condition_levels b ≤ MAX_OPEN → k < 2 ^ 64 → l < 2 ^ 64 → JumpReads (branch b k l)
branch_read b k l reads levels first other at rest ps vs r =
    let begin = at + 2 + 1 in
    let go = keyword (codes "goto") GOTO refl refl refl refl in
    let after = gap 32 ∷ word (codes "goto") ∷ gap 32 ∷ word (block_name k) ∷ gap 32 ∷ word (codes "else") ∷ gap 32 ∷ word (block_name l) ∷ symbol (codes ";") ∷ gap 32 ∷ ps in
    let us : Values = token (token_parts Name (cond_end b begin + 1) (codes "goto")) ∷ token (token_parts Name (first_target b at) (block_name k)) ∷ token (token_parts Name (first_target b at + length (block_name k) + 1) (codes "else")) ∷ token (token_parts Name (other_target b k at) (block_name l)) ∷ token (token_parts Symbol (other_target b k at + length (block_name l)) (codes ";")) ∷ vs in
    let ended : Reads 2 (Token GOTO ∷ Token NAME ∷ Token ELSE ∷ Token NAME ∷ Token SEMICOLON ∷ rest) (cond_end b begin) after us =
    gap_read refl (token_read go refl (gap_read refl (token_read (block_word k first) refl (gap_read refl (token_read (keyword (codes "else") ELSE refl refl refl refl) refl (gap_read refl (token_read (block_word l other) refl (token_read semicolon_word refl (gap_read refl r))))))))) in
    shift_read rule.if_rule (keyword (codes "if") IF refl refl refl refl) refl refl
    (gap_read refl (condition_read b reads 2 begin GOTO (Token GOTO ∷ Token NAME ∷ Token ELSE ∷ Token NAME ∷ Token SEMICOLON ∷ rest) after us levels goto_ends_cond (gap_follows (word_follows go)) (blank_ends _) ended))

return_word : IsWord Name (codes "return") RETURN
return_word = keyword (codes "return") RETURN refl refl refl refl

return_read : (e : ExprTree) (es : List ExprTree) → ((at : ℕ) (ps : List Piece) → Begins at (expr_pieces e ps)) → FactorReads e → 2 + expression_levels e ≤ MAX_OPEN → AreFactors es → JumpReads (return (e ∷ es))
return_read e es begin reads levels are at rest ps vs r =
    let place = at + 6 + 1 in
    let b = begin place (more_exprs es (symbol (codes ";") ∷ gap 32 ∷ ps)) in
    let us : Values = token (token_parts Symbol (more_exprs_end es (expr_end e place)) (codes ";")) ∷ vs in
    let ended : Reads 2 (Token SEMICOLON ∷ rest) (more_exprs_end es (expr_end e place)) (symbol (codes ";") ∷ gap 32 ∷ ps) us = token_read semicolon_word refl (gap_read refl r) in
    let results : Reads 2 (Phrase RESULTS ∷ rest) place (expr_pieces e (more_exprs es (symbol (codes ";") ∷ gap 32 ∷ ps))) (exprs (results_syntax (e ∷ es) at) ∷ vs) =
    apply_read (rule.results_rule b.x b.wide b.semicolon) b.follows refl (exprs_read e es reads levels are place (Token SEMICOLON ∷ rest) (gap 32 ∷ ps) us ended) in
    shift_read rule.return_rule return_word refl refl (gap_read refl results)

nothing_returned : JumpReads (return [])
nothing_returned at rest ps vs r = shift_read rule.return_rule return_word refl refl (shift_read rule.no_results_rule semicolon_word refl refl (gap_read refl r))

abort_read : JumpReads abort
abort_read at rest ps vs r = shift_read rule.abort_rule (keyword (codes "abort") ABORT refl refl refl refl) refl refl (token_read semicolon_word refl (gap_read refl r))

-- ---- blocks

block_keyword : IsWord Name (codes "block") BLOCK
block_keyword = keyword (codes "block") BLOCK refl refl refl refl

cut_keyword : IsWord Name (codes "cut") CUT
cut_keyword = keyword (codes "cut") CUT refl refl refl refl

first_read : (cut : Bool) (at : ℕ) (rest : Parts) (ps : List Piece) (t o c : TokenParts) (ss : List syntax.StatementSyntax) (j : syntax.JumpSyntax) (vs : Values) → Reads 1 (Token NAME ∷ Opening CURLY_OPEN ∷ Phrase BODY ∷ Token CURLY_CLOSE ∷ Closing ∷ rest) (cut_end cut at + 5 + 1) ps (token t ∷ token o ∷ body ss j ∷ token c ∷ vs)
    → Reads 1 (Phrase FIRST_BLOCK ∷ rest) at (cut_pieces cut (word (codes "block") ∷ gap 32 ∷ ps)) (blocks (syntax.a_block cut t ss j ∷ []) ∷ vs)
first_read true at rest ps t o c ss j vs r = shift_read rule.cut_rule cut_keyword refl refl (gap_read refl (token_read block_keyword refl (gap_read refl r)))
first_read false at rest ps t o c ss j vs r = shift_read rule.block_rule block_keyword refl refl (gap_read refl r)

next_read : (cut : Bool) (at : ℕ) (rest : Parts) (ps : List Piece) (t o c : TokenParts) (ss : List syntax.StatementSyntax) (j : syntax.JumpSyntax) (bs : List syntax.BlockSyntax) (vs : Values) → Reads 1 (Token NAME ∷ Opening CURLY_OPEN ∷ Phrase BODY ∷ Token CURLY_CLOSE ∷ Closing ∷ Phrase MORE_BLOCKS ∷ rest) (cut_end cut at + 5 + 1) ps (token t ∷ token o ∷ body ss j ∷ token c ∷ blocks bs ∷ vs)
    → Reads 1 (Phrase MORE_BLOCKS ∷ rest) at (cut_pieces cut (word (codes "block") ∷ gap 32 ∷ ps)) (blocks (syntax.a_block cut t ss j ∷ bs) ∷ vs)
next_read true at rest ps t o c ss j bs vs r = shift_read rule.next_cut_rule cut_keyword refl refl (gap_read refl (token_read block_keyword refl (gap_read refl r)))
next_read false at rest ps t o c ss j bs vs r = shift_read rule.next_block_rule block_keyword refl refl (gap_read refl r)

module _ (d : Declared) (sorts : List Sort) (few : length sorts ≤ 2 ^ 64) (small : length d.functions ≤ 2 ^ 64) where
  assigned_factors : (ks : List ℕ) (es : List ExprTree) → AreAssigned d sorts ks es → AreFactors es
  assigned_factors [] [] h = tt
  assigned_factors [] (e ∷ es) h = absurd h
  assigned_factors (k ∷ ks) [] h = absurd h
  assigned_factors (k ∷ ks) (e ∷ es) h = (factor_reads d sorts few small e h.0 h.2.sorted, h.2.shallow, assigned_factors ks es h.3)

  assigned_words : (ks : List ℕ) (es : List ExprTree) → AreAssigned d sorts ks es → AreWords (map variable_name ks)
  assigned_words [] es h = tt
  assigned_words (k ∷ ks) [] h = absurd h
  assigned_words (k ∷ ks) (e ∷ es) h = (variable_word k (omega (arith, slice_get_within sorts k h.0 h.1, few)), assigned_words ks es h.3)

  results_factors : (ss : List Sort) (es : List ExprTree) → AreResults d sorts ss es → AreFactors es
  results_factors [] [] h = tt
  results_factors [] (e ∷ es) h = absurd h
  results_factors (s ∷ ss) [] h = absurd h
  results_factors (s ∷ ss) (e ∷ es) h = (factor_reads d sorts few small e s h.0.sorted, h.0.shallow, results_factors ss es h.1)

  statement_reads : (x : StatementTree) → IsPlainStatement d sorts x → StatementReads x
  statement_reads (assign [] es) h = absurd (h.0 refl)
  statement_reads (assign (k ∷ ks) []) h = absurd h.2
  statement_reads (assign (k ∷ ks) (e ∷ es)) h =
      let words = assigned_words (k ∷ ks) (e ∷ es) h.2 in
      let factors = assigned_factors (k ∷ ks) (e ∷ es) h.2 in
      assign_read k ks e es (omega (arith, slice_get_within sorts k h.2.0 h.2.1, few)) words.1 factors.0 factors.1 factors.2
  statement_reads (claim b) h = claim_read b (literal_reads d sorts few small b h.sorted) h.shallow

  jump_reads : (n : ℕ) (results : List Sort) (j : JumpTree) → n ≤ 2 ^ 64 → IsPlainJump d sorts n results j → JumpReads j
  jump_reads n results (goto k) low h = goto_read k (omega (arith, h, low))
  jump_reads n results (branch b k l) low h = branch_read b k l (literal_reads d sorts few small b h.0.sorted) h.0.shallow (omega (arith, h.1, low)) (omega (arith, h.2, low))
  jump_reads n results (return []) low h = nothing_returned
  jump_reads n [] (return (e ∷ es)) low h = absurd h
  jump_reads n (s ∷ ss) (return (e ∷ es)) low h =
      let factors = results_factors (s ∷ ss) (e ∷ es) h in
      return_read e es (λ at ps. begins d sorts few small e s at ps h.0.sorted) factors.0 factors.1 factors.2
  jump_reads n results abort low h = abort_read

  body_reads : (xs : List StatementTree) (j : JumpTree) → AreStatements d sorts xs → JumpReads j → (at : ℕ) (rest : Parts) (ps : List Piece) (vs : Values) → Reads 2 rest (jump_end j (statements_end xs at)) ps vs
      → Reads 2 (Phrase BODY ∷ rest) at (statements_pieces xs (jump_pieces j ps)) (body (statements_syntax xs at) (jump_syntax j (statements_end xs at)) ∷ vs)
  body_reads [] j h last at rest ps vs r = last at rest ps vs r
  body_reads (x ∷ xs) j h last at rest ps vs r =
      statement_reads x h.0 at rest (statements_pieces xs (jump_pieces j ps)) (statements_syntax xs (statement_end x at)) (jump_syntax j (statements_end xs (statement_end x at))) vs
      (body_reads xs j h.1 last (statement_end x at) rest ps vs r)

  -- a block from its name on
  named_read : (k n : ℕ) (results : List Sort) (b : Block) → k < 2 ^ 64 → n ≤ 2 ^ 64 → AreStatements d sorts b.statements → IsPlainJump d sorts n results b.jump → (at : ℕ) (rest : Parts) (ps : List Piece) (vs : Values) → Reads 1 rest (block_end k b at) ps vs
      → Reads 1 (Token NAME ∷ Opening CURLY_OPEN ∷ Phrase BODY ∷ Token CURLY_CLOSE ∷ Closing ∷ rest) (name_place b at) (word (block_name k) ∷ gap 32 ∷ symbol (codes "{") ∷ gap 32 ∷ statements_pieces b.statements (jump_pieces b.jump (symbol (codes "}") ∷ gap 10 ∷ ps)))
      (token (token_parts Name (name_place b at) (block_name k)) ∷ token (token_parts Symbol (name_place b at + length (block_name k) + 1) (codes "{")) ∷ body (statements_syntax b.statements (body_place k b at)) (jump_syntax b.jump (statements_end b.statements (body_place k b at))) ∷ token (token_parts Symbol (jump_end b.jump (statements_end b.statements (body_place k b at))) (codes "}")) ∷ vs)
  named_read k n results b low most statements jump at rest ps vs r =
      let stop = jump_end b.jump (statements_end b.statements (body_place k b at)) in
      let us : Values = token (token_parts Symbol stop (codes "}")) ∷ vs in
      let ended : Reads 2 (Token CURLY_CLOSE ∷ Closing ∷ rest) stop (symbol (codes "}") ∷ gap 10 ∷ ps) us = token_read curly_close_word refl (gap_read refl (closing_read r)) in
      let inside = body_reads b.statements b.jump statements (jump_reads n results b.jump most jump) (body_place k b at) (Token CURLY_CLOSE ∷ Closing ∷ rest) (symbol (codes "}") ∷ gap 10 ∷ ps) us ended in
      token_read (block_word k low) refl (gap_read refl (opening_read refl curly_open_word refl (gap_read refl inside)))

  more_blocks_read : (k n : ℕ) (results : List Sort) (bs : Graph) → k + length bs ≤ 2 ^ 64 → n ≤ 2 ^ 64 → AreBlocks d sorts n results bs → (at : ℕ) (rest : Parts) (ps : List Piece) (vs : Values) → Reads 1 rest (blocks_end k bs at) (symbol (codes "}") ∷ ps) vs
      → Reads 1 (Phrase MORE_BLOCKS ∷ rest) at (blocks_pieces k bs (symbol (codes "}") ∷ ps)) (blocks (blocks_syntax k bs at) ∷ vs)
  more_blocks_read k n results [] low most h at rest ps vs r = apply_read rule.no_blocks_rule (word_follows curly_close_word) refl r
  more_blocks_read k n results (b ∷ bs) low most h at rest ps vs r =
      let more = more_blocks_read (k + 1) n results bs (omega (arith, low)) most h.2 (block_end k b at) rest ps vs r in
      gap_read refl
      (gap_read refl
      (next_read b.is_cut (at + 1 + 1) rest _ _ _ _ _ _ (blocks_syntax (k + 1) bs (block_end k b at)) vs
      (named_read k n results b (omega (arith, low)) most h.0 h.1 at (Phrase MORE_BLOCKS ∷ rest) (blocks_pieces (k + 1) bs (symbol (codes "}") ∷ ps)) (blocks (blocks_syntax (k + 1) bs (block_end k b at)) ∷ vs) more)))

  -- the blocks of a graph, which has a first one
  pub blocks_read : (n : ℕ) (results : List Sort) (b : Block) (bs : Graph) → 1 + length bs ≤ 2 ^ 64 → n ≤ 2 ^ 64 → AreBlocks d sorts n results (b ∷ bs) → (at : ℕ) (rest : Parts) (ps : List Piece) (vs : Values) → Reads 1 rest (blocks_end 0 (b ∷ bs) at) (symbol (codes "}") ∷ ps) vs
      → Reads 1 (Phrase FIRST_BLOCK ∷ Phrase MORE_BLOCKS ∷ rest) at (blocks_pieces 0 (b ∷ bs) (symbol (codes "}") ∷ ps)) (blocks (block_syntax 0 b at ∷ []) ∷ blocks (blocks_syntax 1 bs (block_end 0 b at)) ∷ vs)
  blocks_read n results b bs low most h at rest ps vs r =
      let more = more_blocks_read 1 n results bs low most h.2 (block_end 0 b at) rest ps vs r in
      gap_read refl
      (gap_read refl
      (first_read b.is_cut (at + 1 + 1) (Phrase MORE_BLOCKS ∷ rest) _ _ _ _ _ _ (blocks (blocks_syntax 1 bs (block_end 0 b at)) ∷ vs)
      (named_read 0 n results b (omega arith) most h.0 h.1 at (Phrase MORE_BLOCKS ∷ rest) (blocks_pieces 1 bs (symbol (codes "}") ∷ ps)) (blocks (blocks_syntax 1 bs (block_end 0 b at)) ∷ vs) more)))
