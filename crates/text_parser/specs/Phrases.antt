-- The phrases of the grammar, case by case, and the tokens that spell them.
use Rattle.std.specs.Prelude.{◌≡◌, ℕ, ◌+◌, ◌<◌, List, [], ◌∷◌, Bool, true, false, if◌then◌else◌}
use Rattle.kat_model.specs.declared.limits.TheConstants.{MAX_OPEN}
use Rattle.kat_model.specs.declared.expression.Rel.{Rel}
use Rattle.text_parser.specs.declared.terminal.Terminal.{Terminal}
use Rattle.text_parser.specs.declared.terminal.Terminal.TheVariants.{RoundOpen, RoundClose, SquareOpen, SquareClose, Bang, Star, Plus, Minus, Dot, And, Or, Compares, Zero, One, Number, WideNumber, True, False, Name}
use Rattle.text_parser.specs.Lexemes.{Lexeme, lexeme, heads, is_sum, is_terminal}
use Rattle.text_parser.specs.Conds.{index_after_matching, begins_expr}

-- the nonterminals of the grammar
pub data Symbol : Type 0 where
  term prod star unit cond conj lit expr mul fac : Symbol

-- the place of a token and its text
pub record Leaf : Type 0 where
  pub at : ℕ
  pub text : List ℕ

-- term = prod { "+" prod }, prod = star { "." star }, star = unit [ "*" ],
-- unit = "0" | "1" | NAME | "!" unit | "[" cond "]" | "(" term ")",
-- cond = conj { "||" conj }, conj = lit { "&&" lit },
-- lit = "!" lit | "true" | "false" | NAME | "(" cond ")" | expr rel expr,
-- expr = mul { ("+" | "-") mul }, mul = fac { "*" fac }, fac = NUMBER | NAME | "(" expr ")"
pub data Phrase : Symbol → Type 0 where
  one_prod : (p : Phrase prod) → Phrase term
  more_prods : (p : Phrase prod) → (l : Leaf) → (t : Phrase term) → Phrase term
  one_star : (s : Phrase star) → Phrase prod
  more_stars : (s : Phrase star) → (l : Leaf) → (p : Phrase prod) → Phrase prod
  bare : (u : Phrase unit) → Phrase star
  starred : (u : Phrase unit) → (l : Leaf) → Phrase star
  zero_unit : (l : Leaf) → Phrase unit
  one_unit : (l : Leaf) → Phrase unit
  name_unit : (l : Leaf) → Phrase unit
  not_unit : (l : Leaf) → (u : Phrase unit) → Phrase unit
  square_unit : (l : Leaf) → (c : Phrase cond) → (r : Leaf) → Phrase unit
  round_unit : (l : Leaf) → (t : Phrase term) → (r : Leaf) → Phrase unit
  one_conj : (c : Phrase conj) → Phrase cond
  more_conjs : (c : Phrase conj) → (l : Leaf) → (d : Phrase cond) → Phrase cond
  one_lit : (x : Phrase lit) → Phrase conj
  more_lits : (x : Phrase lit) → (l : Leaf) → (c : Phrase conj) → Phrase conj
  true_lit : (l : Leaf) → Phrase lit
  false_lit : (l : Leaf) → Phrase lit
  name_lit : (l : Leaf) → Phrase lit
  not_lit : (l : Leaf) → (x : Phrase lit) → Phrase lit
  round_lit : (l : Leaf) → (c : Phrase cond) → (r : Leaf) → Phrase lit
  relation_lit : (e : Phrase expr) → (l : Leaf) → (r : Rel) → (f : Phrase expr) → Phrase lit
  one_mul : (m : Phrase mul) → Phrase expr
  more_muls : (m : Phrase mul) → (l : Leaf) → (minus : Bool) → (e : Phrase expr) → Phrase expr
  one_fac : (x : Phrase fac) → Phrase mul
  more_facs : (x : Phrase fac) → (l : Leaf) → (m : Phrase mul) → Phrase mul
  zero_fac : (l : Leaf) → Phrase fac
  one_fac_number : (l : Leaf) → Phrase fac
  number_fac : (l : Leaf) → (n : ℕ) → Phrase fac
  wide_fac : (l : Leaf) → Phrase fac
  name_fac : (l : Leaf) → Phrase fac
  round_fac : (l : Leaf) → (e : Phrase expr) → (r : Leaf) → Phrase fac

-- a token of terminal `s` before the tokens `ts`
abbrev pub cons_token : Terminal → Leaf → List Lexeme → List Lexeme
cons_token s l ts = lexeme s l.at l.text ∷ ts

-- the terminal of a `-` or a `+`
abbrev pub sum_terminal : Bool → Terminal
sum_terminal minus = if minus then Minus else Plus

-- the tokens of a phrase, followed by `ts`
abbrev pub yield_before : {x : Symbol} → Phrase x → List Lexeme → List Lexeme
yield_before (one_prod p) ts = yield_before p ts
yield_before (more_prods p l t) ts = yield_before p (cons_token Plus l (yield_before t ts))
yield_before (one_star s) ts = yield_before s ts
yield_before (more_stars s l p) ts = yield_before s (cons_token Dot l (yield_before p ts))
yield_before (bare u) ts = yield_before u ts
yield_before (starred u l) ts = yield_before u (cons_token Star l ts)
yield_before (zero_unit l) ts = cons_token Zero l ts
yield_before (one_unit l) ts = cons_token One l ts
yield_before (name_unit l) ts = cons_token Name l ts
yield_before (not_unit l u) ts = cons_token Bang l (yield_before u ts)
yield_before (square_unit l c r) ts = cons_token SquareOpen l (yield_before c (cons_token SquareClose r ts))
yield_before (round_unit l t r) ts = cons_token RoundOpen l (yield_before t (cons_token RoundClose r ts))
yield_before (one_conj c) ts = yield_before c ts
yield_before (more_conjs c l d) ts = yield_before c (cons_token Or l (yield_before d ts))
yield_before (one_lit x) ts = yield_before x ts
yield_before (more_lits x l c) ts = yield_before x (cons_token And l (yield_before c ts))
yield_before (true_lit l) ts = cons_token True l ts
yield_before (false_lit l) ts = cons_token False l ts
yield_before (name_lit l) ts = cons_token Name l ts
yield_before (not_lit l x) ts = cons_token Bang l (yield_before x ts)
yield_before (round_lit l c r) ts = cons_token RoundOpen l (yield_before c (cons_token RoundClose r ts))
yield_before (relation_lit e l r f) ts = yield_before e (cons_token (Compares r) l (yield_before f ts))
yield_before (one_mul m) ts = yield_before m ts
yield_before (more_muls m l minus e) ts = yield_before m (cons_token (sum_terminal minus) l (yield_before e ts))
yield_before (one_fac x) ts = yield_before x ts
yield_before (more_facs x l m) ts = yield_before x (cons_token Star l (yield_before m ts))
yield_before (zero_fac l) ts = cons_token Zero l ts
yield_before (one_fac_number l) ts = cons_token One l ts
yield_before (number_fac l n) ts = cons_token (Number n) l ts
yield_before (wide_fac l) ts = cons_token WideNumber l ts
yield_before (name_fac l) ts = cons_token Name l ts
yield_before (round_fac l e r) ts = cons_token RoundOpen l (yield_before e (cons_token RoundClose r ts))

-- a literal that begins with these tokens is a comparison, by the token after a name or after the matching parenthesis
abbrev pub BeginsExpr : List Lexeme → Type 0
BeginsExpr [] = Unit {0}
BeginsExpr (lexeme Name at text ∷ ts) = begins_expr ts ≡ true
BeginsExpr (lexeme RoundOpen at text ∷ ts) = begins_expr (index_after_matching 0 ts) ≡ true
BeginsExpr (lexeme _ at text ∷ ts) = Unit {0}

-- the rules on the token that follows a name or a parenthesis in a condition
abbrev pub MeetsLookahead : {x : Symbol} → Phrase x → List Lexeme → Type 0
MeetsLookahead (one_prod p) ts = MeetsLookahead p ts
MeetsLookahead (more_prods p l t) ts = MeetsLookahead p (cons_token Plus l (yield_before t ts)) × MeetsLookahead t ts
MeetsLookahead (one_star s) ts = MeetsLookahead s ts
MeetsLookahead (more_stars s l p) ts = MeetsLookahead s (cons_token Dot l (yield_before p ts)) × MeetsLookahead p ts
MeetsLookahead (bare u) ts = MeetsLookahead u ts
MeetsLookahead (starred u l) ts = MeetsLookahead u (cons_token Star l ts)
MeetsLookahead (not_unit l u) ts = MeetsLookahead u ts
MeetsLookahead (square_unit l c r) ts = MeetsLookahead c (cons_token SquareClose r ts)
MeetsLookahead (round_unit l t r) ts = MeetsLookahead t (cons_token RoundClose r ts)
MeetsLookahead (one_conj c) ts = MeetsLookahead c ts
MeetsLookahead (more_conjs c l d) ts = MeetsLookahead c (cons_token Or l (yield_before d ts)) × MeetsLookahead d ts
MeetsLookahead (one_lit x) ts = MeetsLookahead x ts
MeetsLookahead (more_lits x l c) ts = MeetsLookahead x (cons_token And l (yield_before c ts)) × MeetsLookahead c ts
MeetsLookahead (name_lit l) ts = begins_expr ts ≡ false
MeetsLookahead (not_lit l x) ts = MeetsLookahead x ts
MeetsLookahead (round_lit l c r) ts = (begins_expr (index_after_matching 0 (yield_before c (cons_token RoundClose r ts))) ≡ false) × MeetsLookahead c (cons_token RoundClose r ts)
MeetsLookahead (relation_lit e l r f) ts = BeginsExpr (yield_before e (cons_token (Compares r) l (yield_before f ts))) × MeetsLookahead e (cons_token (Compares r) l (yield_before f ts)) × MeetsLookahead f ts
MeetsLookahead (one_mul m) ts = MeetsLookahead m ts
MeetsLookahead (more_muls m l minus e) ts = MeetsLookahead m (cons_token (sum_terminal minus) l (yield_before e ts)) × MeetsLookahead e ts
MeetsLookahead (one_fac x) ts = MeetsLookahead x ts
MeetsLookahead (more_facs x l m) ts = MeetsLookahead x (cons_token Star l (yield_before m ts)) × MeetsLookahead m ts
MeetsLookahead (round_fac l e r) ts = MeetsLookahead e (cons_token RoundClose r ts)
MeetsLookahead _ ts = Unit {0}

-- each list in the phrase is as long as possible
abbrev pub IsLongest : {x : Symbol} → Phrase x → List Lexeme → Type 0
IsLongest (one_prod p) ts = (heads (is_terminal Plus) ts ≡ false) × IsLongest p ts
IsLongest (more_prods p l t) ts = IsLongest p (cons_token Plus l (yield_before t ts)) × IsLongest t ts
IsLongest (one_star s) ts = (heads (is_terminal Dot) ts ≡ false) × IsLongest s ts
IsLongest (more_stars s l p) ts = IsLongest s (cons_token Dot l (yield_before p ts)) × IsLongest p ts
IsLongest (bare u) ts = (heads (is_terminal Star) ts ≡ false) × IsLongest u ts
IsLongest (starred u l) ts = IsLongest u (cons_token Star l ts)
IsLongest (not_unit l u) ts = IsLongest u ts
IsLongest (square_unit l c r) ts = IsLongest c (cons_token SquareClose r ts)
IsLongest (round_unit l t r) ts = IsLongest t (cons_token RoundClose r ts)
IsLongest (one_conj c) ts = (heads (is_terminal Or) ts ≡ false) × IsLongest c ts
IsLongest (more_conjs c l d) ts = IsLongest c (cons_token Or l (yield_before d ts)) × IsLongest d ts
IsLongest (one_lit x) ts = (heads (is_terminal And) ts ≡ false) × IsLongest x ts
IsLongest (more_lits x l c) ts = IsLongest x (cons_token And l (yield_before c ts)) × IsLongest c ts
IsLongest (not_lit l x) ts = IsLongest x ts
IsLongest (round_lit l c r) ts = IsLongest c (cons_token RoundClose r ts)
IsLongest (relation_lit e l r f) ts = IsLongest e (cons_token (Compares r) l (yield_before f ts)) × IsLongest f ts
IsLongest (one_mul m) ts = (heads is_sum ts ≡ false) × IsLongest m ts
IsLongest (more_muls m l minus e) ts = IsLongest m (cons_token (sum_terminal minus) l (yield_before e ts)) × IsLongest e ts
IsLongest (one_fac x) ts = (heads (is_terminal Star) ts ≡ false) × IsLongest x ts
IsLongest (more_facs x l m) ts = IsLongest x (cons_token Star l (yield_before m ts)) × IsLongest m ts
IsLongest (round_fac l e r) ts = IsLongest e (cons_token RoundClose r ts)
IsLongest _ ts = Unit {0}

-- with `d` levels open, no construct is too deep and no number is too wide
abbrev pub IsWithinLimits : {x : Symbol} → ℕ → Phrase x → Type 0
IsWithinLimits d (one_prod p) = IsWithinLimits d p
IsWithinLimits d (more_prods p l t) = IsWithinLimits d p × IsWithinLimits d t
IsWithinLimits d (one_star s) = IsWithinLimits d s
IsWithinLimits d (more_stars s l p) = IsWithinLimits d s × IsWithinLimits d p
IsWithinLimits d (bare u) = IsWithinLimits d u
IsWithinLimits d (starred u l) = IsWithinLimits d u
IsWithinLimits d (not_unit l u) = (d < MAX_OPEN) × IsWithinLimits (d + 1) u
IsWithinLimits d (square_unit l c r) = (d < MAX_OPEN) × IsWithinLimits (d + 1) c
IsWithinLimits d (round_unit l t r) = (d < MAX_OPEN) × IsWithinLimits (d + 1) t
IsWithinLimits d (one_conj c) = IsWithinLimits d c
IsWithinLimits d (more_conjs c l e) = IsWithinLimits d c × IsWithinLimits d e
IsWithinLimits d (one_lit x) = IsWithinLimits d x
IsWithinLimits d (more_lits x l c) = IsWithinLimits d x × IsWithinLimits d c
IsWithinLimits d (not_lit l x) = (d < MAX_OPEN) × IsWithinLimits (d + 1) x
IsWithinLimits d (round_lit l c r) = (d < MAX_OPEN) × IsWithinLimits (d + 1) c
IsWithinLimits d (relation_lit e l r f) = IsWithinLimits d e × IsWithinLimits d f
IsWithinLimits d (one_mul m) = IsWithinLimits d m
IsWithinLimits d (more_muls m l minus e) = IsWithinLimits d m × IsWithinLimits d e
IsWithinLimits d (one_fac x) = IsWithinLimits d x
IsWithinLimits d (more_facs x l m) = IsWithinLimits d x × IsWithinLimits d m
IsWithinLimits d (wide_fac l) = ⊥
IsWithinLimits d (round_fac l e r) = (d < MAX_OPEN) × IsWithinLimits (d + 1) e
IsWithinLimits d _ = Unit {0}

-- the tokens are a phrase of `x`, followed by `rest`
pub record IsPhrase (x : Symbol) (d : ℕ) (ts rest : List Lexeme) : Type 0 where
  pub phrase : Phrase x
  pub spelled : ts ≡ yield_before phrase rest
  pub obeys : MeetsLookahead phrase rest
  pub longest : IsLongest phrase rest
  pub fits : IsWithinLimits d phrase
