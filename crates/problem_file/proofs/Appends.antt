-- The tokens of a phrase precede the tokens that follow it, whatever these are.
use Rattle.std.proofs.Common.{◌≡◌, ◌-◌, List, [], ◌++◌, length, refl, ap, ◌∙◌, arith, length-append}
use Rattle.std.proofs.lemmas.List.{take-append-le, take_all}
use Rattle.text_parser.specs.declared.terminal.Terminal.TheVariants.{Name, Keyword, Separator, Dot, Plus, Star, Or, And, Compares, RoundOpen, RoundClose, SquareOpen, SquareClose, Bang}
use Rattle.text_parser.specs.declared.terminal.Keyword.TheVariants as word
use Rattle.text_parser.specs.declared.terminal.Separator.TheVariants.{Comma, Semicolon, CurlyOpen, CurlyClose, Becomes}
use Rattle.text_parser.specs.Lexemes.{Lexeme}
use Rattle.text_parser.specs.Phrases.{term, Symbol, Leaf, Phrase, one_prod, more_prods, one_star, more_stars, bare, starred, zero_unit, one_unit, name_unit, not_unit, square_unit, round_unit, one_conj, more_conjs, one_lit, more_lits, true_lit, false_lit, name_lit, not_lit, round_lit, relation_lit, one_mul, more_muls, one_fac, more_facs, zero_fac, one_fac_number, number_fac, wide_fac, name_fac, round_fac, cons_token, sum_terminal, yield_before}
use Rattle.while_lang.specs.BlockPhrases.{BlockSymbol, block, BlockPhrase, braced, no_stmts, more_stmts, skip_stmt, abort_stmt, assert_stmt, name_stmt, assign_stmt, if_stmt, while_stmt}
use Rattle.while_lang.specs.BlockPhrases.{no_else, else_block, else_if, block_before}
use Rattle.problem_file.specs.Numbers.{until}
use Rattle.problem_file.specs.Phrases.{Braced, TriplePhrase, braced_onto, triple_onto, ended, sides_onto, prog_onto}

-- a function that prepends a fixed list of tokens
abbrev Appends : (List Lexeme → List Lexeme) → Type 0
Appends f = (us ts : List Lexeme) → f (us ++ ts) ≡ f us ++ ts

-- the composition of two such functions
after : (f g : List Lexeme → List Lexeme) → Appends f → Appends g → Appends (λ ts. f (g ts))
after f g h k us ts = ap f (k us ts) ∙ h (g us) ts

none : Appends (λ ts. ts)
none us ts = refl

pub yield_append : {x : Symbol} (p : Phrase x) → Appends (yield_before p)
yield_append (one_prod p) us ts = yield_append p us ts
yield_append (more_prods p l t) us ts = (ap (λ rs. (yield_before p (cons_token Plus l rs))) (yield_append t us ts)) ∙ (yield_append p (cons_token Plus l (yield_before t us)) ts)
yield_append (one_star s) us ts = yield_append s us ts
yield_append (more_stars s l p) us ts = (ap (λ rs. (yield_before s (cons_token Dot l rs))) (yield_append p us ts)) ∙ (yield_append s (cons_token Dot l (yield_before p us)) ts)
yield_append (bare u) us ts = yield_append u us ts
yield_append (starred u l) us ts = yield_append u (cons_token Star l us) ts
yield_append (zero_unit l) us ts = refl
yield_append (one_unit l) us ts = refl
yield_append (name_unit l) us ts = refl
yield_append (not_unit l u) us ts = ap (cons_token Bang l) (yield_append u us ts)
yield_append (square_unit l c r) us ts = ap (cons_token SquareOpen l) (yield_append c (cons_token SquareClose r us) ts)
yield_append (round_unit l t r) us ts = ap (cons_token RoundOpen l) (yield_append t (cons_token RoundClose r us) ts)
yield_append (one_conj c) us ts = yield_append c us ts
yield_append (more_conjs c l d) us ts = (ap (λ rs. (yield_before c (cons_token Or l rs))) (yield_append d us ts)) ∙ (yield_append c (cons_token Or l (yield_before d us)) ts)
yield_append (one_lit x) us ts = yield_append x us ts
yield_append (more_lits x l c) us ts = (ap (λ rs. (yield_before x (cons_token And l rs))) (yield_append c us ts)) ∙ (yield_append x (cons_token And l (yield_before c us)) ts)
yield_append (true_lit l) us ts = refl
yield_append (false_lit l) us ts = refl
yield_append (name_lit l) us ts = refl
yield_append (not_lit l x) us ts = ap (cons_token Bang l) (yield_append x us ts)
yield_append (round_lit l c r) us ts = ap (cons_token RoundOpen l) (yield_append c (cons_token RoundClose r us) ts)
yield_append (relation_lit e l r f) us ts = (ap (λ rs. (yield_before e (cons_token (Compares r) l rs))) (yield_append f us ts)) ∙ (yield_append e (cons_token (Compares r) l (yield_before f us)) ts)
yield_append (one_mul m) us ts = yield_append m us ts
yield_append (more_muls m l minus e) us ts = (ap (λ rs. (yield_before m (cons_token (sum_terminal minus) l rs))) (yield_append e us ts)) ∙ (yield_append m (cons_token (sum_terminal minus) l (yield_before e us)) ts)
yield_append (one_fac x) us ts = yield_append x us ts
yield_append (more_facs x l m) us ts = (ap (λ rs. (yield_before x (cons_token Star l rs))) (yield_append m us ts)) ∙ (yield_append x (cons_token Star l (yield_before m us)) ts)
yield_append (zero_fac l) us ts = refl
yield_append (one_fac_number l) us ts = refl
yield_append (number_fac l n) us ts = refl
yield_append (wide_fac l) us ts = refl
yield_append (name_fac l) us ts = refl
yield_append (round_fac l e r) us ts = ap (cons_token RoundOpen l) (yield_append e (cons_token RoundClose r us) ts)

pub block_append : {x : BlockSymbol} (p : BlockPhrase x) → Appends (block_before p)
block_append (braced l ss r) us ts = ap (λ rs. (cons_token (Separator CurlyOpen) l rs)) (block_append ss (cons_token (Separator CurlyClose) r us) ts)
block_append no_stmts us ts = refl
block_append (more_stmts s ss) us ts = (ap (λ rs. (block_before s rs)) (block_append ss us ts)) ∙ (block_append s (block_before ss us) ts)
block_append (skip_stmt l end) us ts = refl
block_append (abort_stmt l end) us ts = refl
block_append (assert_stmt l b end) us ts = ap (λ rs. (cons_token (Keyword word.Assert) l rs)) (yield_append b (cons_token (Separator Semicolon) end us) ts)
block_append (name_stmt l end) us ts = refl
block_append (assign_stmt l becomes e end) us ts = ap (λ rs. (cons_token Name l (cons_token (Separator Becomes) becomes rs))) (yield_append e (cons_token (Separator Semicolon) end us) ts)
block_append (if_stmt l r) us ts = ap (λ rs. (cons_token (Keyword word.If) l rs)) (block_append r us ts)
block_append (while_stmt l b p) us ts = (ap (λ rs. (cons_token (Keyword word.While) l (yield_before b rs))) (block_append p us ts)) ∙ (ap (λ rs. (cons_token (Keyword word.While) l rs)) (yield_append b (block_before p us) ts))
block_append (no_else b p) us ts = (ap (λ rs. (yield_before b rs)) (block_append p us ts)) ∙ (yield_append b (block_before p us) ts)
block_append (else_block b p l q) us ts = (ap (λ rs. (yield_before b (block_before p (cons_token (Keyword word.Else) l rs)))) (block_append q us ts)) ∙ (ap (λ rs. (yield_before b rs)) (block_append p (cons_token (Keyword word.Else) l (block_before q us)) ts)) ∙ (yield_append b (block_before p (cons_token (Keyword word.Else) l (block_before q us))) ts)
block_append (else_if b p l i r) us ts = (ap (λ rs. (yield_before b (block_before p (cons_token (Keyword word.Else) l (cons_token (Keyword word.If) i rs))))) (block_append r us ts)) ∙ (ap (λ rs. (yield_before b rs)) (block_append p (cons_token (Keyword word.Else) l (cons_token (Keyword word.If) i (block_before r us))) ts)) ∙ (yield_append b (block_before p (cons_token (Keyword word.Else) l (cons_token (Keyword word.If) i (block_before r us)))) ts)

-- ---- the tokens of an item before the rest

braced_append : (b : Braced) → Appends (braced_onto b)
braced_append b us ts = ap (cons_token (Separator CurlyOpen) b.left) (yield_append b.inner (cons_token (Separator CurlyClose) b.right us) ts)

triple_append : (x : TriplePhrase) → Appends (triple_onto x)
triple_append x = after (braced_onto x.pre) (λ ts. yield_before x.body (braced_onto x.post ts)) (braced_append x.pre) (after (yield_before x.body) (braced_onto x.post) (yield_append x.body) (braced_append x.post))

sides_append : (p : Phrase term) (c : Leaf) (q : Phrase term) → Appends (sides_onto p c q)
sides_append p c q = after (yield_before p) (λ ts. cons_token (Separator Comma) c (yield_before q ts)) (yield_append p) (λ us ts. ap (cons_token (Separator Comma) c) (yield_append q us ts))

-- the tokens before `ts` do not depend on `ts`
until_append : (f : List Lexeme → List Lexeme) → Appends f → (ts : List Lexeme) → until (f ts) ts ≡ f []
until_append f h ts =
    let e : f ts ≡ f [] ++ ts = h [] ts in
    let n : length (f [] ++ ts) - length ts ≡ length (f []) = omega (arith, length-append (f []) ts) in
    rw (e, n) (take-append-le (length (f [])) (f []) ts (omega arith) ∙ take_all (length (f [])) (f []) (omega arith))

pub until_prog : (name : Leaf) (b : BlockPhrase block) (ts : List Lexeme) → until (prog_onto name b ts) ts ≡ prog_onto name b []
until_prog name b = until_append (prog_onto name b) (λ us ts. ap (cons_token Name name) (block_append b us ts))

pub until_sides : (p : Phrase term) (c : Leaf) (q : Phrase term) (e : Leaf) (ts : List Lexeme) → until (sides_onto p c q (ended e ts)) ts ≡ sides_onto p c q (ended e [])
until_sides p c q e = until_append (λ ts. sides_onto p c q (ended e ts)) (λ us ts. sides_append p c q (ended e us) ts)

pub until_triple : (x : TriplePhrase) (e : Leaf) (ts : List Lexeme) → until (triple_onto x (ended e ts)) ts ≡ triple_onto x (ended e [])
until_triple x e = until_append (λ ts. triple_onto x (ended e ts)) (λ us ts. triple_append x (ended e us) ts)
