-- The tokens of a phrase: there is at least one, and the first is not a keyword. A block has at least two.
use Rattle.std.proofs.Common.{◌≡◌, ◌≤◌, ◌<◌, List, [], ◌∷◌, length, drop, ℕ, true, false, Option, Some, None, refl, arith}
use Rattle.std.specs.Option.{option_map}
use Rattle.text_parser.specs.declared.terminal.Terminal.TheVariants.{Keyword, Separator, Zero, Dot, Plus, Star, Or, And, Compares, RoundClose, SquareClose}
use Rattle.text_parser.specs.declared.terminal.Keyword.TheVariants as word
use Rattle.text_parser.specs.declared.terminal.Separator.TheVariants.{Comma, Semicolon, CurlyClose, Equals}
use Rattle.text_parser.specs.Lexemes.{Lexeme, heads, is_terminal}
use Rattle.text_parser.specs.Phrases.{term, prod, star, unit, Leaf, Phrase, one_prod, more_prods, one_star, more_stars, bare, starred, zero_unit, one_unit, name_unit, not_unit, square_unit, round_unit, one_conj, more_conjs, one_lit, more_lits, true_lit, false_lit, name_lit, not_lit, round_lit, relation_lit, one_mul, more_muls, one_fac, more_facs, zero_fac, one_fac_number, number_fac, wide_fac, name_fac, round_fac, Symbol, cons_token, sum_terminal, yield_before}
use Rattle.text_parser.specs.Ends.{goes_on, Ends}
use Rattle.while_lang.specs.BlockPhrases.{BlockSymbol, BlockPhrase, braced, no_stmts, more_stmts, skip_stmt, abort_stmt, assert_stmt, name_stmt, assign_stmt, if_stmt, while_stmt}
use Rattle.while_lang.specs.BlockPhrases.{no_else, else_block, else_if, block_before}
use Rattle.problem_file.specs.Items.{lone_name}
use Rattle.problem_file.specs.Phrases.{Numeral, zero_number, one_number, other_number, wide_number, Braced, TriplePhrase, Body, tests, actions, variables, definition, program, hypothesis, hyp_triple, rounds, width, goal_equal, goal_below, goal_triple, Item}
use Rattle.problem_file.proofs.NameWalks.{names_long}
use Rattle.problem_file.specs.Phrases.{lone_leaf, numeral_onto, braced_onto, triple_onto, sides_onto, body_onto, ended, spelled}

pub no_triple : {x : Symbol} (p : Phrase x) (ts : List Lexeme) → heads (is_terminal (Keyword word.Triple)) (yield_before p ts) ≡ false
no_triple (one_prod p) ts = no_triple p ts
no_triple (more_prods p l t) ts = no_triple p (cons_token Plus l (yield_before t ts))
no_triple (one_star s) ts = no_triple s ts
no_triple (more_stars s l p) ts = no_triple s (cons_token Dot l (yield_before p ts))
no_triple (bare u) ts = no_triple u ts
no_triple (starred u l) ts = no_triple u (cons_token Star l ts)
no_triple (zero_unit l) ts = refl
no_triple (one_unit l) ts = refl
no_triple (name_unit l) ts = refl
no_triple (not_unit l u) ts = refl
no_triple (square_unit l c r) ts = refl
no_triple (round_unit l t r) ts = refl
no_triple (one_conj c) ts = no_triple c ts
no_triple (more_conjs c l d) ts = no_triple c (cons_token Or l (yield_before d ts))
no_triple (one_lit x) ts = no_triple x ts
no_triple (more_lits x l c) ts = no_triple x (cons_token And l (yield_before c ts))
no_triple (true_lit l) ts = refl
no_triple (false_lit l) ts = refl
no_triple (name_lit l) ts = refl
no_triple (not_lit l x) ts = refl
no_triple (round_lit l c r) ts = refl
no_triple (relation_lit e l r f) ts = no_triple e (cons_token (Compares r) l (yield_before f ts))
no_triple (one_mul m) ts = no_triple m ts
no_triple (more_muls m l minus e) ts = no_triple m (cons_token (sum_terminal minus) l (yield_before e ts))
no_triple (one_fac x) ts = no_triple x ts
no_triple (more_facs x l m) ts = no_triple x (cons_token Star l (yield_before m ts))
no_triple (zero_fac l) ts = refl
no_triple (one_fac_number l) ts = refl
no_triple (number_fac l n) ts = refl
no_triple (wide_fac l) ts = refl
no_triple (name_fac l) ts = refl
no_triple (round_fac l e r) ts = refl

-- ---- a term that is a single name

abbrev pub text_of : Option Leaf → Option (List ℕ)
text_of o = option_map (λ l. l.text) o

-- a name is not a lone name if the term continues after it

unit_goes_on : (u : Phrase unit) (ts : List Lexeme) → heads (goes_on term) ts ≡ true → lone_name (yield_before u ts) ≡ None
unit_goes_on (zero_unit l) ts h = refl
unit_goes_on (one_unit l) ts h = refl
unit_goes_on (name_unit l) ts h = rw (h) refl
unit_goes_on (not_unit l u) ts h = refl
unit_goes_on (square_unit l c r) ts h = refl
unit_goes_on (round_unit l t r) ts h = refl

star_goes_on : (s : Phrase star) (ts : List Lexeme) → heads (goes_on term) ts ≡ true → lone_name (yield_before s ts) ≡ None
star_goes_on (bare u) ts h = unit_goes_on u ts h
star_goes_on (starred u l) ts h = unit_goes_on u (cons_token Star l ts) refl

prod_goes_on : (p : Phrase prod) (ts : List Lexeme) → heads (goes_on term) ts ≡ true → lone_name (yield_before p ts) ≡ None
prod_goes_on (one_star s) ts h = star_goes_on s ts h
prod_goes_on (more_stars s l p) ts h = star_goes_on s (cons_token Dot l (yield_before p ts)) refl

lone_unit : (u : Phrase unit) (ts : List Lexeme) → Ends term ts → lone_name (yield_before u ts) ≡ text_of (lone_leaf u)
lone_unit (zero_unit l) ts h = refl
lone_unit (one_unit l) ts h = refl
lone_unit (name_unit l) ts h = rw (h) refl
lone_unit (not_unit l u) ts h = refl
lone_unit (square_unit l c r) ts h = refl
lone_unit (round_unit l t r) ts h = refl

lone_star : (s : Phrase star) (ts : List Lexeme) → Ends term ts → lone_name (yield_before s ts) ≡ text_of (lone_leaf s)
lone_star (bare u) ts h = lone_unit u ts h
lone_star (starred u l) ts h = unit_goes_on u (cons_token Star l ts) refl

lone_prod : (p : Phrase prod) (ts : List Lexeme) → Ends term ts → lone_name (yield_before p ts) ≡ text_of (lone_leaf p)
lone_prod (one_star s) ts h = lone_star s ts h
lone_prod (more_stars s l p) ts h = star_goes_on s (cons_token Dot l (yield_before p ts)) refl

pub lone_term : (p : Phrase term) (ts : List Lexeme) → Ends term ts → lone_name (yield_before p ts) ≡ text_of (lone_leaf p)
lone_term (one_prod p) ts h = lone_prod p ts h
lone_term (more_prods p l t) ts h = prod_goes_on p (cons_token Plus l (yield_before t ts)) refl

-- its tokens are that name and the tokens that follow

unit_rest : (u : Phrase unit) (ts : List Lexeme) (l : Leaf) → lone_leaf u ≡ Some l → drop 1 (yield_before u ts) ≡ ts
unit_rest (zero_unit k) ts l h = absurd cc
unit_rest (one_unit k) ts l h = absurd cc
unit_rest (name_unit k) ts l h = refl
unit_rest (not_unit k u) ts l h = absurd cc
unit_rest (square_unit k c r) ts l h = absurd cc
unit_rest (round_unit k t r) ts l h = absurd cc

star_rest : (s : Phrase star) (ts : List Lexeme) (l : Leaf) → lone_leaf s ≡ Some l → drop 1 (yield_before s ts) ≡ ts
star_rest (bare u) ts l h = unit_rest u ts l h
star_rest (starred u k) ts l h = absurd cc

prod_rest : (p : Phrase prod) (ts : List Lexeme) (l : Leaf) → lone_leaf p ≡ Some l → drop 1 (yield_before p ts) ≡ ts
prod_rest (one_star s) ts l h = star_rest s ts l h
prod_rest (more_stars s k p) ts l h = absurd cc

pub lone_rest : (p : Phrase term) (ts : List Lexeme) (l : Leaf) → lone_leaf p ≡ Some l → drop 1 (yield_before p ts) ≡ ts
lone_rest (one_prod p) ts l h = prod_rest p ts l h
lone_rest (more_prods p k t) ts l h = absurd cc

-- ---- the tokens after a phrase are fewer than those from its start

pub phrase_long : {x : Symbol} (p : Phrase x) (ts : List Lexeme) → length ts < length (yield_before p ts)
phrase_long (one_prod p) ts = phrase_long p ts
phrase_long (more_prods p l t) ts = omega (arith, phrase_long p (cons_token Plus l (yield_before t ts)), phrase_long t ts)
phrase_long (one_star s) ts = phrase_long s ts
phrase_long (more_stars s l p) ts = omega (arith, phrase_long s (cons_token Dot l (yield_before p ts)), phrase_long p ts)
phrase_long (bare u) ts = phrase_long u ts
phrase_long (starred u l) ts = omega (arith, phrase_long u (cons_token Star l ts))
phrase_long (zero_unit l) ts = omega arith
phrase_long (one_unit l) ts = omega arith
phrase_long (name_unit l) ts = omega arith
phrase_long (not_unit l u) ts = omega (arith, phrase_long u ts)
phrase_long (square_unit l c r) ts = omega (arith, phrase_long c (cons_token SquareClose r ts))
phrase_long (round_unit l t r) ts = omega (arith, phrase_long t (cons_token RoundClose r ts))
phrase_long (one_conj c) ts = phrase_long c ts
phrase_long (more_conjs c l d) ts = omega (arith, phrase_long c (cons_token Or l (yield_before d ts)), phrase_long d ts)
phrase_long (one_lit x) ts = phrase_long x ts
phrase_long (more_lits x l c) ts = omega (arith, phrase_long x (cons_token And l (yield_before c ts)), phrase_long c ts)
phrase_long (true_lit l) ts = omega arith
phrase_long (false_lit l) ts = omega arith
phrase_long (name_lit l) ts = omega arith
phrase_long (not_lit l x) ts = omega (arith, phrase_long x ts)
phrase_long (round_lit l c r) ts = omega (arith, phrase_long c (cons_token RoundClose r ts))
phrase_long (relation_lit e l r f) ts = omega (arith, phrase_long e (cons_token (Compares r) l (yield_before f ts)), phrase_long f ts)
phrase_long (one_mul m) ts = phrase_long m ts
phrase_long (more_muls m l minus e) ts = omega (arith, phrase_long m (cons_token (sum_terminal minus) l (yield_before e ts)), phrase_long e ts)
phrase_long (one_fac x) ts = phrase_long x ts
phrase_long (more_facs x l m) ts = omega (arith, phrase_long x (cons_token Star l (yield_before m ts)), phrase_long m ts)
phrase_long (zero_fac l) ts = omega arith
phrase_long (one_fac_number l) ts = omega arith
phrase_long (number_fac l n) ts = omega arith
phrase_long (wide_fac l) ts = omega arith
phrase_long (name_fac l) ts = omega arith
phrase_long (round_fac l e r) ts = omega (arith, phrase_long e (cons_token RoundClose r ts))

stmts_long : {x : BlockSymbol} (p : BlockPhrase x) (ts : List Lexeme) → length ts ≤ length (block_before p ts)
stmts_long (braced l ss r) ts = omega (arith, stmts_long ss (cons_token (Separator CurlyClose) r ts))
stmts_long no_stmts ts = omega arith
stmts_long (more_stmts s ss) ts = omega (arith, stmts_long s (block_before ss ts), stmts_long ss ts)
stmts_long (skip_stmt l end) ts = omega arith
stmts_long (abort_stmt l end) ts = omega arith
stmts_long (assert_stmt l b end) ts = omega (arith, phrase_long b (cons_token (Separator Semicolon) end ts))
stmts_long (name_stmt l end) ts = omega arith
stmts_long (assign_stmt l becomes e end) ts = omega (arith, phrase_long e (cons_token (Separator Semicolon) end ts))
stmts_long (if_stmt l r) ts = omega (arith, stmts_long r ts)
stmts_long (while_stmt l b p) ts = omega (arith, phrase_long b (block_before p ts), stmts_long p ts)
stmts_long (no_else b p) ts = omega (arith, phrase_long b (block_before p ts), stmts_long p ts)
stmts_long (else_block b p l q) ts =
    let us = cons_token (Keyword word.Else) l (block_before q ts) in
    omega (arith, phrase_long b (block_before p us), stmts_long p us, stmts_long q ts)
stmts_long (else_if b p l i r) ts =
    let us = cons_token (Keyword word.Else) l (cons_token (Keyword word.If) i (block_before r ts)) in
    omega (arith, phrase_long b (block_before p us), stmts_long p us, stmts_long r ts)

numeral_long : (n : Numeral) (ts : List Lexeme) → length ts < length (numeral_onto n ts)
numeral_long (zero_number l) ts = omega arith
numeral_long (one_number l) ts = omega arith
numeral_long (other_number l n) ts = omega arith
numeral_long (wide_number l) ts = omega arith

braced_long : (b : Braced) (ts : List Lexeme) → length ts < length (braced_onto b ts)
braced_long b ts = omega (arith, phrase_long b.inner (cons_token (Separator CurlyClose) b.right ts))

triple_long : (x : TriplePhrase) (ts : List Lexeme) → length ts < length (triple_onto x ts)
triple_long x ts = omega (arith, braced_long x.pre (yield_before x.body (braced_onto x.post ts)), phrase_long x.body (braced_onto x.post ts), braced_long x.post ts)

sides_long : (p : Phrase term) (c : Leaf) (q : Phrase term) (ts : List Lexeme) → length ts < length (sides_onto p c q ts)
sides_long p c q ts = omega (arith, phrase_long p (cons_token (Separator Comma) c (yield_before q ts)), phrase_long q ts)

body_long : (b : Body) (ts : List Lexeme) → length ts < length (body_onto b ts)
body_long (tests ns e) ts = omega (arith, names_long ns (ended e ts))
body_long (actions ns e) ts = omega (arith, names_long ns (ended e ts))
body_long (variables ns e) ts = omega (arith, names_long ns (ended e ts))
body_long (definition name q p e) ts = omega (arith, phrase_long p (ended e ts))
body_long (program name b) ts = omega (arith, stmts_long b ts)
body_long (hypothesis p q z e) ts = omega (arith, phrase_long p (cons_token (Separator Equals) q (cons_token Zero z (ended e ts))))
body_long (hyp_triple l x e) ts = omega (arith, triple_long x (ended e ts))
body_long (rounds n e) ts = omega (arith, numeral_long n (ended e ts))
body_long (width n e) ts = omega (arith, numeral_long n (ended e ts))
body_long (goal_equal l p c q e) ts = omega (arith, sides_long p c q (ended e ts))
body_long (goal_below l p c q e) ts = omega (arith, sides_long p c q (ended e ts))
body_long (goal_triple l x e) ts = omega (arith, triple_long x (ended e ts))

-- there are at least as many tokens as items
pub items_long : (is : List Item) → length is ≤ length (spelled is)
items_long [] = omega arith
items_long (i ∷ is) = omega (arith, items_long is, body_long i.body (spelled is))
