-- Tokens begin with at most one phrase of a symbol.
use Rattle.std.proofs.Common.{◌≡◌, ℕ, List, [], ◌∷◌, Bool, true, false, refl, ap, sym, subst, ◌∙◌}
use Rattle.kat_model.specs.declared.expression.Rel.{Rel}
use Rattle.text_parser.specs.declared.terminal.Terminal.{Terminal}
use Rattle.text_parser.specs.declared.terminal.Terminal.TheVariants.{RoundOpen, RoundClose, SquareOpen, SquareClose, Bang, Star, Plus, Dot, And, Or, Compares, Zero, One, Number, WideNumber, True, False, Name}
use Rattle.text_parser.specs.Lexemes.{Lexeme, lexeme, heads, is_sum, is_terminal}
use Rattle.text_parser.specs.Conds.{index_after_matching, begins_expr}
use Rattle.text_parser.specs.Phrases.{Symbol, expr, mul, fac, Leaf, Phrase, one_prod, more_prods, one_star, more_stars, bare, starred, zero_unit, one_unit, name_unit, not_unit, square_unit, round_unit, one_conj, more_conjs, one_lit, more_lits, true_lit, false_lit, name_lit, not_lit, round_lit, relation_lit, one_mul, more_muls, one_fac, more_facs, zero_fac, one_fac_number, number_fac, wide_fac, name_fac, round_fac, cons_token, sum_terminal, yield_before, BeginsExpr, MeetsLookahead, IsLongest}

abbrev terminal_at_front : List Lexeme → Terminal
terminal_at_front [] = Name
terminal_at_front (lexeme s at text ∷ ts) = s

abbrev leaf_at_front : Leaf → List Lexeme → Leaf
leaf_at_front l [] = l
leaf_at_front l (lexeme s at text ∷ ts) = record { at = at; text = text }

abbrev tokens_after : List Lexeme → List Lexeme
tokens_after [] = []
tokens_after (lexeme s at text ∷ ts) = ts

-- equal lists begin with the same terminal
same_terminal : (s t : Terminal) (l m : Leaf) (us vs : List Lexeme) → cons_token s l us ≡ cons_token t m vs → s ≡ t
same_terminal s t l m us vs e = ap terminal_at_front e

same_leaf : (s t : Terminal) (l m : Leaf) (us vs : List Lexeme) → cons_token s l us ≡ cons_token t m vs → l ≡ m
same_leaf s t l m us vs e = ap (leaf_at_front l) e

same_rest : (s t : Terminal) (l m : Leaf) (us vs : List Lexeme) → cons_token s l us ≡ cons_token t m vs → us ≡ vs
same_rest s t l m us vs e = ap tokens_after e

-- a token cannot be both of a kind and not of it
clash : {X : Type 0} (p : Terminal → Bool) (us vs : List Lexeme) → us ≡ vs → heads p us ≡ false → heads p vs ≡ true → X
clash p us vs e f t = absurd (no (f' ∙ t)) where
  f' : false ≡ heads p vs
  f' = sym f ∙ ap (heads p) e

  no : false ≡ true → ⊥
  no h = cc

-- the terminals that begin an expression
abbrev begins_factor : Terminal → Bool
begins_factor Zero = true
begins_factor One = true
begins_factor (Number n) = true
begins_factor WideNumber = true
begins_factor Name = true
begins_factor RoundOpen = true
begins_factor _ = false

factor_begins : (q : Phrase fac) (ts : List Lexeme) → heads begins_factor (yield_before q ts) ≡ true
factor_begins (zero_fac l) ts = refl
factor_begins (one_fac_number l) ts = refl
factor_begins (number_fac l n) ts = refl
factor_begins (wide_fac l) ts = refl
factor_begins (name_fac l) ts = refl
factor_begins (round_fac l e r) ts = refl

product_begins : (m : Phrase mul) (ts : List Lexeme) → heads begins_factor (yield_before m ts) ≡ true
product_begins (one_fac q) ts = factor_begins q ts
product_begins (more_facs q l m) ts = factor_begins q (cons_token Star l (yield_before m ts))

expr_begins : (e : Phrase expr) (ts : List Lexeme) → heads begins_factor (yield_before e ts) ≡ true
expr_begins (one_mul m) ts = product_begins m ts
expr_begins (more_muls m l minus e) ts = product_begins m (cons_token (sum_terminal minus) l (yield_before e ts))

-- the tokens of a literal that is not a comparison do not begin an expression
no_comparison : {X : Type 0} (s : Terminal) (l : Leaf) (us ts : List Lexeme) (e : Phrase expr) → cons_token s l us ≡ yield_before e ts → begins_factor s ≡ false → X
no_comparison s l us ts e same f = clash begins_factor (cons_token s l us) (yield_before e ts) same f (expr_begins e ts)

-- a token that begins an expression does not begin a name or a condition in parentheses
not_both : {X : Type 0} (b : Bool) → b ≡ false → b ≡ true → X
not_both true f t = absurd cc
not_both false f t = absurd cc

abbrev is_number : Terminal → Bool
is_number (Number n) = true
is_number _ = false

number_is : (n m : ℕ) → Number n ≡ Number m → n ≡ m
number_is n m e = cc

relation_is : (r q : Rel) → Compares r ≡ Compares q → r ≡ q
relation_is r q e = cc

sum_terminal_is : (a b : Bool) → sum_terminal a ≡ sum_terminal b → a ≡ b
sum_terminal_is true true e = refl
sum_terminal_is false false e = refl
sum_terminal_is true false e = absurd cc
sum_terminal_is false true e = absurd cc

sum_joins : (minus : Bool) (l : Leaf) (ts : List Lexeme) → heads is_sum (cons_token (sum_terminal minus) l ts) ≡ true
sum_joins true l ts = refl
sum_joins false l ts = refl

-- by the forms of both phrases: phrases of different forms differ in their first token or in the token after a part
pub one_phrase : {x : Symbol} (p q : Phrase x) (r s : List Lexeme) → yield_before p r ≡ yield_before q s → MeetsLookahead p r → MeetsLookahead q s → IsLongest p r → IsLongest q s → (p ≡ q) × (r ≡ s)
one_phrase (one_prod p) (one_prod q) r s e o u h k = let i = one_phrase p q r s e o u h.1 k.1 in (ap one_prod i.0, i.1)
one_phrase (one_prod p) (more_prods q m w) r s e o u h k = let us = cons_token Plus m (yield_before w s) in clash (is_terminal Plus) r us (one_phrase p q r us e o u.0 h.1 k.0).1 h.0 refl
one_phrase (more_prods p l t) (one_prod q) r s e o u h k = let us = cons_token Plus l (yield_before t r) in clash (is_terminal Plus) s us (sym (one_phrase p q us s e o.0 u h.0 k.1).1) k.0 refl
one_phrase (more_prods p l t) (more_prods q m w) r s e o u h k =
    let i = one_phrase p q (cons_token Plus l (yield_before t r)) (cons_token Plus m (yield_before w s)) e o.0 u.0 h.0 k.0 in
    let j = one_phrase t w r s (same_rest Plus Plus l m (yield_before t r) (yield_before w s) i.1) o.1 u.1 h.1 k.1 in
    (rw (i.0, same_leaf Plus Plus l m (yield_before t r) (yield_before w s) i.1, j.0) refl, j.1)
one_phrase (one_star p) (one_star q) r s e o u h k = let i = one_phrase p q r s e o u h.1 k.1 in (ap one_star i.0, i.1)
one_phrase (one_star p) (more_stars q m w) r s e o u h k = let us = cons_token Dot m (yield_before w s) in clash (is_terminal Dot) r us (one_phrase p q r us e o u.0 h.1 k.0).1 h.0 refl
one_phrase (more_stars p l t) (one_star q) r s e o u h k = let us = cons_token Dot l (yield_before t r) in clash (is_terminal Dot) s us (sym (one_phrase p q us s e o.0 u h.0 k.1).1) k.0 refl
one_phrase (more_stars p l t) (more_stars q m w) r s e o u h k =
    let i = one_phrase p q (cons_token Dot l (yield_before t r)) (cons_token Dot m (yield_before w s)) e o.0 u.0 h.0 k.0 in
    let j = one_phrase t w r s (same_rest Dot Dot l m (yield_before t r) (yield_before w s) i.1) o.1 u.1 h.1 k.1 in
    (rw (i.0, same_leaf Dot Dot l m (yield_before t r) (yield_before w s) i.1, j.0) refl, j.1)
one_phrase (bare u) (bare v) r s e o n h k = let i = one_phrase u v r s e o n h.1 k.1 in (ap bare i.0, i.1)
one_phrase (bare u) (starred v m) r s e o n h k = clash (is_terminal Star) r (cons_token Star m s) (one_phrase u v r (cons_token Star m s) e o n h.1 k).1 h.0 refl
one_phrase (starred u l) (bare v) r s e o n h k = clash (is_terminal Star) s (cons_token Star l r) (sym (one_phrase u v (cons_token Star l r) s e o n h k.1).1) k.0 refl
one_phrase (starred u l) (starred v m) r s e o n h k =
    let i = one_phrase u v (cons_token Star l r) (cons_token Star m s) e o n h k in
    (rw (i.0, same_leaf Star Star l m r s i.1) refl, same_rest Star Star l m r s i.1)
one_phrase (zero_unit l) (zero_unit m) r s e o u h k = (ap zero_unit (same_leaf Zero Zero l m r s e), same_rest Zero Zero l m r s e)
one_phrase (zero_unit l) q r s e o u h k = clash (is_terminal Zero) (yield_before q s) (yield_before (zero_unit l) r) (sym e) refl refl
one_phrase (one_unit l) (one_unit m) r s e o u h k = (ap one_unit (same_leaf One One l m r s e), same_rest One One l m r s e)
one_phrase (one_unit l) q r s e o u h k = clash (is_terminal One) (yield_before q s) (yield_before (one_unit l) r) (sym e) refl refl
one_phrase (name_unit l) (name_unit m) r s e o u h k = (ap name_unit (same_leaf Name Name l m r s e), same_rest Name Name l m r s e)
one_phrase (name_unit l) q r s e o u h k = clash (is_terminal Name) (yield_before q s) (yield_before (name_unit l) r) (sym e) refl refl
one_phrase (not_unit l p) (not_unit m q) r s e o u h k =
    let i = one_phrase p q r s (same_rest Bang Bang l m (yield_before p r) (yield_before q s) e) o u h k in
    (rw (same_leaf Bang Bang l m (yield_before p r) (yield_before q s) e, i.0) refl, i.1)
one_phrase (not_unit l p) q r s e o u h k = clash (is_terminal Bang) (yield_before q s) (yield_before (not_unit l p) r) (sym e) refl refl
one_phrase (square_unit l p a) (square_unit m q b) r s e o u h k =
    let i = one_phrase p q (cons_token SquareClose a r) (cons_token SquareClose b s) (same_rest SquareOpen SquareOpen l m (yield_before p (cons_token SquareClose a r)) (yield_before q (cons_token SquareClose b s)) e) o u h k in
    (rw (same_leaf SquareOpen SquareOpen l m (yield_before p (cons_token SquareClose a r)) (yield_before q (cons_token SquareClose b s)) e, i.0, same_leaf SquareClose SquareClose a b r s i.1) refl, same_rest SquareClose SquareClose a b r s i.1)
one_phrase (square_unit l p a) q r s e o u h k = clash (is_terminal SquareOpen) (yield_before q s) (yield_before (square_unit l p a) r) (sym e) refl refl
one_phrase (round_unit l p a) (round_unit m q b) r s e o u h k =
    let i = one_phrase p q (cons_token RoundClose a r) (cons_token RoundClose b s) (same_rest RoundOpen RoundOpen l m (yield_before p (cons_token RoundClose a r)) (yield_before q (cons_token RoundClose b s)) e) o u h k in
    (rw (same_leaf RoundOpen RoundOpen l m (yield_before p (cons_token RoundClose a r)) (yield_before q (cons_token RoundClose b s)) e, i.0, same_leaf RoundClose RoundClose a b r s i.1) refl, same_rest RoundClose RoundClose a b r s i.1)
one_phrase (round_unit l p a) q r s e o u h k = clash (is_terminal RoundOpen) (yield_before q s) (yield_before (round_unit l p a) r) (sym e) refl refl
one_phrase (one_conj p) (one_conj q) r s e o u h k = let i = one_phrase p q r s e o u h.1 k.1 in (ap one_conj i.0, i.1)
one_phrase (one_conj p) (more_conjs q m w) r s e o u h k = let us = cons_token Or m (yield_before w s) in clash (is_terminal Or) r us (one_phrase p q r us e o u.0 h.1 k.0).1 h.0 refl
one_phrase (more_conjs p l t) (one_conj q) r s e o u h k = let us = cons_token Or l (yield_before t r) in clash (is_terminal Or) s us (sym (one_phrase p q us s e o.0 u h.0 k.1).1) k.0 refl
one_phrase (more_conjs p l t) (more_conjs q m w) r s e o u h k =
    let i = one_phrase p q (cons_token Or l (yield_before t r)) (cons_token Or m (yield_before w s)) e o.0 u.0 h.0 k.0 in
    let j = one_phrase t w r s (same_rest Or Or l m (yield_before t r) (yield_before w s) i.1) o.1 u.1 h.1 k.1 in
    (rw (i.0, same_leaf Or Or l m (yield_before t r) (yield_before w s) i.1, j.0) refl, j.1)
one_phrase (one_lit p) (one_lit q) r s e o u h k = let i = one_phrase p q r s e o u h.1 k.1 in (ap one_lit i.0, i.1)
one_phrase (one_lit p) (more_lits q m w) r s e o u h k = let us = cons_token And m (yield_before w s) in clash (is_terminal And) r us (one_phrase p q r us e o u.0 h.1 k.0).1 h.0 refl
one_phrase (more_lits p l t) (one_lit q) r s e o u h k = let us = cons_token And l (yield_before t r) in clash (is_terminal And) s us (sym (one_phrase p q us s e o.0 u h.0 k.1).1) k.0 refl
one_phrase (more_lits p l t) (more_lits q m w) r s e o u h k =
    let i = one_phrase p q (cons_token And l (yield_before t r)) (cons_token And m (yield_before w s)) e o.0 u.0 h.0 k.0 in
    let j = one_phrase t w r s (same_rest And And l m (yield_before t r) (yield_before w s) i.1) o.1 u.1 h.1 k.1 in
    (rw (i.0, same_leaf And And l m (yield_before t r) (yield_before w s) i.1, j.0) refl, j.1)
one_phrase (true_lit l) (true_lit m) r s e o u h k = (ap true_lit (same_leaf True True l m r s e), same_rest True True l m r s e)
one_phrase (true_lit l) (relation_lit a m t b) r s e o u h k = no_comparison True l r (cons_token (Compares t) m (yield_before b s)) a e refl
one_phrase (true_lit l) q r s e o u h k = clash (is_terminal True) (yield_before q s) (yield_before (true_lit l) r) (sym e) refl refl
one_phrase (false_lit l) (false_lit m) r s e o u h k = (ap false_lit (same_leaf False False l m r s e), same_rest False False l m r s e)
one_phrase (false_lit l) (relation_lit a m t b) r s e o u h k = no_comparison False l r (cons_token (Compares t) m (yield_before b s)) a e refl
one_phrase (false_lit l) q r s e o u h k = clash (is_terminal False) (yield_before q s) (yield_before (false_lit l) r) (sym e) refl refl
one_phrase (name_lit l) (name_lit m) r s e o u h k = (ap name_lit (same_leaf Name Name l m r s e), same_rest Name Name l m r s e)
one_phrase (name_lit l) (relation_lit a m t b) r s e o u h k = not_both (begins_expr r) o (subst BeginsExpr (sym e) u.0)
one_phrase (name_lit l) q r s e o u h k = clash (is_terminal Name) (yield_before q s) (yield_before (name_lit l) r) (sym e) refl refl
one_phrase (not_lit l p) (not_lit m q) r s e o u h k =
    let i = one_phrase p q r s (same_rest Bang Bang l m (yield_before p r) (yield_before q s) e) o u h k in
    (rw (same_leaf Bang Bang l m (yield_before p r) (yield_before q s) e, i.0) refl, i.1)
one_phrase (not_lit l p) (relation_lit a m t b) r s e o u h k = no_comparison Bang l (yield_before p r) (cons_token (Compares t) m (yield_before b s)) a e refl
one_phrase (not_lit l p) q r s e o u h k = clash (is_terminal Bang) (yield_before q s) (yield_before (not_lit l p) r) (sym e) refl refl
one_phrase (round_lit l p a) (round_lit m q b) r s e o u h k =
    let i = one_phrase p q (cons_token RoundClose a r) (cons_token RoundClose b s) (same_rest RoundOpen RoundOpen l m (yield_before p (cons_token RoundClose a r)) (yield_before q (cons_token RoundClose b s)) e) o.1 u.1 h k in
    (rw (same_leaf RoundOpen RoundOpen l m (yield_before p (cons_token RoundClose a r)) (yield_before q (cons_token RoundClose b s)) e, i.0, same_leaf RoundClose RoundClose a b r s i.1) refl, same_rest RoundClose RoundClose a b r s i.1)
one_phrase (round_lit l p c) (relation_lit a m t b) r s e o u h k = not_both (begins_expr (index_after_matching 0 (yield_before p (cons_token RoundClose c r)))) o.0 (subst BeginsExpr (sym e) u.0)
one_phrase (round_lit l p c) q r s e o u h k = clash (is_terminal RoundOpen) (yield_before q s) (yield_before (round_lit l p c) r) (sym e) refl refl
one_phrase (relation_lit a m t b) (true_lit l) r s e o u h k = no_comparison True l s (cons_token (Compares t) m (yield_before b r)) a (sym e) refl
one_phrase (relation_lit a m t b) (false_lit l) r s e o u h k = no_comparison False l s (cons_token (Compares t) m (yield_before b r)) a (sym e) refl
one_phrase (relation_lit a m t b) (name_lit l) r s e o u h k = not_both (begins_expr s) u (subst BeginsExpr e o.0)
one_phrase (relation_lit a m t b) (not_lit l q) r s e o u h k = no_comparison Bang l (yield_before q s) (cons_token (Compares t) m (yield_before b r)) a (sym e) refl
one_phrase (relation_lit a m t b) (round_lit l q c) r s e o u h k = not_both (begins_expr (index_after_matching 0 (yield_before q (cons_token RoundClose c s)))) u.0 (subst BeginsExpr e o.0)
one_phrase (relation_lit a l t b) (relation_lit c m w d) r s e o u h k =
    let i = one_phrase a c (cons_token (Compares t) l (yield_before b r)) (cons_token (Compares w) m (yield_before d s)) e o.1 u.1 h.0 k.0 in
    let j = one_phrase b d r s (same_rest (Compares t) (Compares w) l m (yield_before b r) (yield_before d s) i.1) o.2 u.2 h.1 k.1 in
    (rw (i.0, same_leaf (Compares t) (Compares w) l m (yield_before b r) (yield_before d s) i.1, relation_is t w (same_terminal (Compares t) (Compares w) l m (yield_before b r) (yield_before d s) i.1), j.0) refl, j.1)
one_phrase (one_mul p) (one_mul q) r s e o u h k = let i = one_phrase p q r s e o u h.1 k.1 in (ap one_mul i.0, i.1)
one_phrase (one_mul p) (more_muls q m b w) r s e o u h k = let us = cons_token (sum_terminal b) m (yield_before w s) in clash is_sum r us (one_phrase p q r us e o u.0 h.1 k.0).1 h.0 (sum_joins b m (yield_before w s))
one_phrase (more_muls p l a t) (one_mul q) r s e o u h k = let us = cons_token (sum_terminal a) l (yield_before t r) in clash is_sum s us (sym (one_phrase p q us s e o.0 u h.0 k.1).1) k.0 (sum_joins a l (yield_before t r))
one_phrase (more_muls p l a t) (more_muls q m b w) r s e o u h k =
    let i = one_phrase p q (cons_token (sum_terminal a) l (yield_before t r)) (cons_token (sum_terminal b) m (yield_before w s)) e o.0 u.0 h.0 k.0 in
    let j = one_phrase t w r s (same_rest (sum_terminal a) (sum_terminal b) l m (yield_before t r) (yield_before w s) i.1) o.1 u.1 h.1 k.1 in
    (rw (i.0, same_leaf (sum_terminal a) (sum_terminal b) l m (yield_before t r) (yield_before w s) i.1, sum_terminal_is a b (same_terminal (sum_terminal a) (sum_terminal b) l m (yield_before t r) (yield_before w s) i.1), j.0) refl, j.1)
one_phrase (one_fac p) (one_fac q) r s e o u h k = let i = one_phrase p q r s e o u h.1 k.1 in (ap one_fac i.0, i.1)
one_phrase (one_fac p) (more_facs q m w) r s e o u h k = let us = cons_token Star m (yield_before w s) in clash (is_terminal Star) r us (one_phrase p q r us e o u.0 h.1 k.0).1 h.0 refl
one_phrase (more_facs p l t) (one_fac q) r s e o u h k = let us = cons_token Star l (yield_before t r) in clash (is_terminal Star) s us (sym (one_phrase p q us s e o.0 u h.0 k.1).1) k.0 refl
one_phrase (more_facs p l t) (more_facs q m w) r s e o u h k =
    let i = one_phrase p q (cons_token Star l (yield_before t r)) (cons_token Star m (yield_before w s)) e o.0 u.0 h.0 k.0 in
    let j = one_phrase t w r s (same_rest Star Star l m (yield_before t r) (yield_before w s) i.1) o.1 u.1 h.1 k.1 in
    (rw (i.0, same_leaf Star Star l m (yield_before t r) (yield_before w s) i.1, j.0) refl, j.1)
one_phrase (zero_fac l) (zero_fac m) r s e o u h k = (ap zero_fac (same_leaf Zero Zero l m r s e), same_rest Zero Zero l m r s e)
one_phrase (zero_fac l) q r s e o u h k = clash (is_terminal Zero) (yield_before q s) (yield_before (zero_fac l) r) (sym e) refl refl
one_phrase (one_fac_number l) (one_fac_number m) r s e o u h k = (ap one_fac_number (same_leaf One One l m r s e), same_rest One One l m r s e)
one_phrase (one_fac_number l) q r s e o u h k = clash (is_terminal One) (yield_before q s) (yield_before (one_fac_number l) r) (sym e) refl refl
one_phrase (number_fac l a) (number_fac m b) r s e o u h k = (rw (same_leaf (Number a) (Number b) l m r s e, number_is a b (same_terminal (Number a) (Number b) l m r s e)) refl, same_rest (Number a) (Number b) l m r s e)
one_phrase (number_fac l a) q r s e o u h k = clash is_number (yield_before q s) (yield_before (number_fac l a) r) (sym e) refl refl
one_phrase (wide_fac l) (wide_fac m) r s e o u h k = (ap wide_fac (same_leaf WideNumber WideNumber l m r s e), same_rest WideNumber WideNumber l m r s e)
one_phrase (wide_fac l) q r s e o u h k = clash (is_terminal WideNumber) (yield_before q s) (yield_before (wide_fac l) r) (sym e) refl refl
one_phrase (name_fac l) (name_fac m) r s e o u h k = (ap name_fac (same_leaf Name Name l m r s e), same_rest Name Name l m r s e)
one_phrase (name_fac l) q r s e o u h k = clash (is_terminal Name) (yield_before q s) (yield_before (name_fac l) r) (sym e) refl refl
one_phrase (round_fac l p a) (round_fac m q b) r s e o u h k =
    let i = one_phrase p q (cons_token RoundClose a r) (cons_token RoundClose b s) (same_rest RoundOpen RoundOpen l m (yield_before p (cons_token RoundClose a r)) (yield_before q (cons_token RoundClose b s)) e) o u h k in
    (rw (same_leaf RoundOpen RoundOpen l m (yield_before p (cons_token RoundClose a r)) (yield_before q (cons_token RoundClose b s)) e, i.0, same_leaf RoundClose RoundClose a b r s i.1) refl, same_rest RoundClose RoundClose a b r s i.1)
one_phrase (round_fac l p a) q r s e o u h k = clash (is_terminal RoundOpen) (yield_before q s) (yield_before (round_fac l p a) r) (sym e) refl refl
