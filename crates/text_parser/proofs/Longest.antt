-- A phrase is the longest if the token that follows cannot continue it.
use Rattle.std.proofs.Common.{◌≡◌, ℕ, List, [], ◌∷◌, Bool, true, false, ◌||◌, Result, refl}
use Rattle.text_parser.specs.declared.fault.TextFault.{TextFault}
use Rattle.text_parser.specs.declared.terminal.Terminal.{Terminal}
use Rattle.text_parser.specs.declared.terminal.Terminal.TheVariants.{RoundClose, SquareClose, Star, Plus, Dot, And, Or, Compares}
use Rattle.text_parser.specs.Lexemes.{Lexeme, lexeme, heads, is_sum, is_terminal}
use Rattle.text_parser.specs.Phrases.{Symbol, prod, star, conj, lit, mul, Leaf, Phrase, one_prod, more_prods, one_star, more_stars, bare, starred, zero_unit, one_unit, name_unit, not_unit, square_unit, round_unit, one_conj, more_conjs, one_lit, more_lits, true_lit, false_lit, name_lit, not_lit, round_lit, relation_lit, one_mul, more_muls, one_fac, more_facs, zero_fac, one_fac_number, number_fac, wide_fac, name_fac, round_fac, cons_token, sum_terminal, yield_before, IsLongest}
use Rattle.text_parser.specs.Ends.{goes_on, Ends, TakesGrammar}
use Rattle.text_parser.specs.Scans.{TakesPhrases}

-- if a disjunction is false, both disjuncts are false
neither : (a b : Bool) → (a || b) ≡ false → (a ≡ false) × (b ≡ false)
neither true b e = absurd cc
neither false b e = (refl, e)

-- a token of neither kind
none : (p q : Terminal → Bool) (ts : List Lexeme) → heads (λ s. p s || q s) ts ≡ false → (heads p ts ≡ false) × (heads q ts ≡ false)
none p q [] e = (refl, refl)
none p q (lexeme s at text ∷ ts) e = neither (p s) (q s) e

-- a `+` or a `-` cannot continue a product
sum_ends : (minus : Bool) (l : Leaf) (ts : List Lexeme) → Ends mul (cons_token (sum_terminal minus) l ts)
sum_ends true l ts = refl
sum_ends false l ts = refl

-- no token continues a unit or a factor
ends_none : (ts : List Lexeme) → heads (λ s. false) ts ≡ false
ends_none [] = refl
ends_none (lexeme s at text ∷ ts) = refl

-- by the form of the phrase: the token after each inner part is known
pub longest : {x : Symbol} (p : Phrase x) (ts : List Lexeme) → Ends x ts → IsLongest p ts
longest (one_prod p) ts e = let h = none (is_terminal Plus) (goes_on prod) ts e in (h.0, longest p ts h.1)
longest (more_prods p l t) ts e = (longest p (cons_token Plus l (yield_before t ts)) refl, longest t ts e)
longest (one_star s) ts e = let h = none (is_terminal Dot) (goes_on star) ts e in (h.0, longest s ts h.1)
longest (more_stars s l p) ts e = (longest s (cons_token Dot l (yield_before p ts)) refl, longest p ts e)
longest (bare u) ts e = (e, longest u ts (ends_none ts))
longest (starred u l) ts e = longest u (cons_token Star l ts) refl
longest (zero_unit l) ts e = tt
longest (one_unit l) ts e = tt
longest (name_unit l) ts e = tt
longest (not_unit l u) ts e = longest u ts e
longest (square_unit l c r) ts e = longest c (cons_token SquareClose r ts) refl
longest (round_unit l t r) ts e = longest t (cons_token RoundClose r ts) refl
longest (one_conj c) ts e = let h = none (is_terminal Or) (goes_on conj) ts e in (h.0, longest c ts h.1)
longest (more_conjs c l d) ts e = (longest c (cons_token Or l (yield_before d ts)) refl, longest d ts e)
longest (one_lit x) ts e = let h = none (is_terminal And) (goes_on lit) ts e in (h.0, longest x ts h.1)
longest (more_lits x l c) ts e = (longest x (cons_token And l (yield_before c ts)) refl, longest c ts e)
longest (true_lit l) ts e = tt
longest (false_lit l) ts e = tt
longest (name_lit l) ts e = tt
longest (not_lit l x) ts e = longest x ts e
longest (round_lit l c r) ts e = longest c (cons_token RoundClose r ts) refl
longest (relation_lit a l r b) ts e = (longest a (cons_token (Compares r) l (yield_before b ts)) refl, longest b ts e)
longest (one_mul m) ts e = let h = none is_sum (goes_on mul) ts e in (h.0, longest m ts h.1)
longest (more_muls m l minus a) ts e = (longest m (cons_token (sum_terminal minus) l (yield_before a ts)) (sum_ends minus l (yield_before a ts)), longest a ts e)
longest (one_fac x) ts e = (e, longest x ts (ends_none ts))
longest (more_facs x l m) ts e = (longest x (cons_token Star l (yield_before m ts)) refl, longest m ts e)
longest (zero_fac l) ts e = tt
longest (one_fac_number l) ts e = tt
longest (number_fac l n) ts e = tt
longest (wide_fac l) ts e = tt
longest (name_fac l) ts e = tt
longest (round_fac l a r) ts e = longest a (cons_token RoundClose r ts) refl

pub ended : (x : Symbol) (scan : ℕ → List Lexeme → Result (List Lexeme) TextFault) → TakesPhrases x scan → TakesGrammar x scan
ended x scan taken d ts rest e = (
  (λ s. let p = (taken d ts rest).0 s in record { phrase = p.phrase; spelled = p.spelled; obeys = p.obeys; fits = p.fits }),
  (λ p. (taken d ts rest).1 (record { phrase = p.phrase; spelled = p.spelled; obeys = p.obeys; longest = longest p.phrase rest e; fits = p.fits })),
)
