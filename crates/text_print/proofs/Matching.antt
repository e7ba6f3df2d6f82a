-- The parentheses of a phrase are balanced.
use Rattle.std.proofs.Common.{◌≡◌, ◌+◌, ◌-◌, ℕ, List, Bool, true, false, refl, ap, ◌∙◌, arith}
use Rattle.kat_model.specs.declared.expression.Rel.{Rel}
use Rattle.text_parser.specs.declared.terminal.Terminal.{Terminal}
use Rattle.text_parser.specs.declared.terminal.Terminal.TheVariants.{RoundOpen, RoundClose, SquareOpen, SquareClose, Bang, Star, Plus, Minus, Dot, And, Or, Compares, Zero, One, Number, WideNumber, True, False, Name}
use Rattle.text_parser.specs.Lexemes.{Lexeme, is_terminal}
use Rattle.text_parser.specs.Conds.{index_after_matching, begins_expr}
use Rattle.text_parser.specs.Phrases.{Symbol, fac, Leaf, Phrase, one_prod, more_prods, one_star, more_stars, bare, starred, zero_unit, one_unit, name_unit, not_unit, square_unit, round_unit, one_conj, more_conjs, one_lit, more_lits, true_lit, false_lit, name_lit, not_lit, round_lit, relation_lit, one_mul, more_muls, one_fac, more_facs, zero_fac, one_fac_number, number_fac, wide_fac, name_fac, round_fac, cons_token, sum_terminal, yield_before, BeginsExpr}
use Rattle.text_parser.proofs.Parentheses.{inner_opened, inner_closed, other_passed}

other : (n : ℕ) (s : Terminal) (l : Leaf) (ts : List Lexeme) → is_terminal RoundOpen s ≡ false → is_terminal RoundClose s ≡ false → index_after_matching n (cons_token s l ts) ≡ index_after_matching n ts
other n s l ts o c = other_passed n (cons_token s l ts) o c

opened : (n : ℕ) (l : Leaf) (ts : List Lexeme) → index_after_matching n (cons_token RoundOpen l ts) ≡ index_after_matching (n + 1) ts
opened n l ts = inner_opened n (cons_token RoundOpen l ts) refl

closed : (n : ℕ) (l : Leaf) (ts : List Lexeme) → index_after_matching (n + 1) (cons_token RoundClose l ts) ≡ index_after_matching n ts
closed n l ts =
    let back : n + 1 - 1 ≡ n = omega arith in
    inner_closed (n + 1) (cons_token RoundClose l ts) (λ e. absurd (omega arith)) refl refl ∙ ap (λ (k : ℕ). index_after_matching k ts) back

sum_passed : (n : ℕ) (minus : Bool) (l : Leaf) (ts : List Lexeme) → index_after_matching n (cons_token (sum_terminal minus) l ts) ≡ index_after_matching n ts
sum_passed n true l ts = other n Minus l ts refl refl
sum_passed n false l ts = other n Plus l ts refl refl

-- the search for a matching parenthesis skips a phrase
pub passed : {x : Symbol} (p : Phrase x) (n : ℕ) (ts : List Lexeme) → index_after_matching n (yield_before p ts) ≡ index_after_matching n ts
passed (one_prod p) n ts = passed p n ts
passed (more_prods p l t) n ts = passed p n (cons_token Plus l (yield_before t ts)) ∙ other n Plus l (yield_before t ts) refl refl ∙ passed t n ts
passed (one_star s) n ts = passed s n ts
passed (more_stars s l p) n ts = passed s n (cons_token Dot l (yield_before p ts)) ∙ other n Dot l (yield_before p ts) refl refl ∙ passed p n ts
passed (bare u) n ts = passed u n ts
passed (starred u l) n ts = passed u n (cons_token Star l ts) ∙ other n Star l ts refl refl
passed (zero_unit l) n ts = other n Zero l ts refl refl
passed (one_unit l) n ts = other n One l ts refl refl
passed (name_unit l) n ts = other n Name l ts refl refl
passed (not_unit l u) n ts = other n Bang l (yield_before u ts) refl refl ∙ passed u n ts
passed (square_unit l b r) n ts = other n SquareOpen l (yield_before b (cons_token SquareClose r ts)) refl refl ∙ passed b n (cons_token SquareClose r ts) ∙ other n SquareClose r ts refl refl
passed (round_unit l t r) n ts = opened n l (yield_before t (cons_token RoundClose r ts)) ∙ passed t (n + 1) (cons_token RoundClose r ts) ∙ closed n r ts
passed (one_conj b) n ts = passed b n ts
passed (more_conjs b l d) n ts = passed b n (cons_token Or l (yield_before d ts)) ∙ other n Or l (yield_before d ts) refl refl ∙ passed d n ts
passed (one_lit x) n ts = passed x n ts
passed (more_lits x l b) n ts = passed x n (cons_token And l (yield_before b ts)) ∙ other n And l (yield_before b ts) refl refl ∙ passed b n ts
passed (true_lit l) n ts = other n True l ts refl refl
passed (false_lit l) n ts = other n False l ts refl refl
passed (name_lit l) n ts = other n Name l ts refl refl
passed (not_lit l x) n ts = other n Bang l (yield_before x ts) refl refl ∙ passed x n ts
passed (round_lit l b r) n ts = opened n l (yield_before b (cons_token RoundClose r ts)) ∙ passed b (n + 1) (cons_token RoundClose r ts) ∙ closed n r ts
passed (relation_lit e l r f) n ts = passed e n (cons_token (Compares r) l (yield_before f ts)) ∙ other n (Compares r) l (yield_before f ts) refl refl ∙ passed f n ts
passed (one_mul m) n ts = passed m n ts
passed (more_muls m l minus e) n ts = passed m n (cons_token (sum_terminal minus) l (yield_before e ts)) ∙ sum_passed n minus l (yield_before e ts) ∙ passed e n ts
passed (one_fac x) n ts = passed x n ts
passed (more_facs x l m) n ts = passed x n (cons_token Star l (yield_before m ts)) ∙ other n Star l (yield_before m ts) refl refl ∙ passed m n ts
passed (zero_fac l) n ts = other n Zero l ts refl refl
passed (one_fac_number l) n ts = other n One l ts refl refl
passed (number_fac l k) n ts = other n (Number k) l ts refl refl
passed (wide_fac l) n ts = other n WideNumber l ts refl refl
passed (name_fac l) n ts = other n Name l ts refl refl
passed (round_fac l e r) n ts = opened n l (yield_before e (cons_token RoundClose r ts)) ∙ passed e (n + 1) (cons_token RoundClose r ts) ∙ closed n r ts

-- the matching parenthesis is the one after the phrase
pub matched : {x : Symbol} (p : Phrase x) (r : Leaf) (ts : List Lexeme) → index_after_matching 0 (yield_before p (cons_token RoundClose r ts)) ≡ ts
matched p r ts = passed p 0 (cons_token RoundClose r ts)

-- a factor before a relation begins an expression
pub factor_begins : (q : Phrase fac) (r : Rel) (l : Leaf) (ts : List Lexeme) → BeginsExpr (yield_before q (cons_token (Compares r) l ts))
factor_begins (zero_fac m) r l ts = tt
factor_begins (one_fac_number m) r l ts = tt
factor_begins (number_fac m n) r l ts = tt
factor_begins (wide_fac m) r l ts = tt
factor_begins (name_fac m) r l ts = refl
factor_begins (round_fac m e n) r l ts = ap begins_expr (matched e n (cons_token (Compares r) l ts))
