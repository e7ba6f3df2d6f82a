-- The phrases of expressions, case by case, and the tokens that spell them.
use Rattle.std.specs.Prelude.{◌≡◌, ◌<◌, ◌+◌, ℕ, List}
use Rattle.kat_model.specs.declared.limits.TheConstants.{MAX_OPEN}
use Rattle.text_parser.specs.declared.terminal.Terminal.TheVariants.{RoundOpen, RoundClose, SquareOpen, SquareClose, Plus, Dot, Zero, One, Name, Separator}
use Rattle.text_parser.specs.declared.terminal.Separator.TheVariants.{Caret}
use Rattle.text_parser.specs.Lexemes.{Lexeme}
use Rattle.text_parser.specs.Phrases.{cond, Leaf, Phrase, cons_token, yield_before, MeetsLookahead, IsWithinLimits}

-- "[" cond "]"
pub record Guard : Type 0 where
  pub opening : Leaf
  pub inner : Phrase cond
  pub closing : Leaf

-- the symbols g, s, l and u of the grammar
pub data GkatSymbol : Type 0 where
  expr factors factor unit : GkatSymbol

-- g = s [ "+" "[" cond "]" s ], s = l { "." l }, l = u [ "^" "[" cond "]" ],
-- u = "0" | "1" | NAME | "[" cond "]" | "(" g ")"
pub data GkatPhrase : GkatSymbol → Type 0 where
  one_product : (p : GkatPhrase factors) → GkatPhrase expr
  two_products : (p : GkatPhrase factors) → (plus : Leaf) → (b : Guard) → (q : GkatPhrase factors) → GkatPhrase expr
  one_factor : (x : GkatPhrase factor) → GkatPhrase factors
  more_factors : (x : GkatPhrase factor) → (dot : Leaf) → (p : GkatPhrase factors) → GkatPhrase factors
  once : (u : GkatPhrase unit) → GkatPhrase factor
  repeated : (u : GkatPhrase unit) → (caret : Leaf) → (b : Guard) → GkatPhrase factor
  zero_unit : (l : Leaf) → GkatPhrase unit
  one_unit : (l : Leaf) → GkatPhrase unit
  name_unit : (l : Leaf) → GkatPhrase unit
  guard_unit : (b : Guard) → GkatPhrase unit
  round_unit : (opening : Leaf) → (e : GkatPhrase expr) → (closing : Leaf) → GkatPhrase unit

-- ---- the tokens of a phrase, prepended to those that follow

abbrev pub guard_onto : Guard → List Lexeme → List Lexeme
guard_onto b ts = cons_token SquareOpen b.opening (yield_before b.inner (cons_token SquareClose b.closing ts))

abbrev pub gkat_onto : {x : GkatSymbol} → GkatPhrase x → List Lexeme → List Lexeme
gkat_onto (one_product p) ts = gkat_onto p ts
gkat_onto (two_products p plus b q) ts = gkat_onto p (cons_token Plus plus (guard_onto b (gkat_onto q ts)))
gkat_onto (one_factor x) ts = gkat_onto x ts
gkat_onto (more_factors x dot p) ts = gkat_onto x (cons_token Dot dot (gkat_onto p ts))
gkat_onto (once u) ts = gkat_onto u ts
gkat_onto (repeated u caret b) ts = gkat_onto u (cons_token (Separator Caret) caret (guard_onto b ts))
gkat_onto (zero_unit l) ts = cons_token Zero l ts
gkat_onto (one_unit l) ts = cons_token One l ts
gkat_onto (name_unit l) ts = cons_token Name l ts
gkat_onto (guard_unit b) ts = guard_onto b ts
gkat_onto (round_unit opening e closing) ts = cons_token RoundOpen opening (gkat_onto e (cons_token RoundClose closing ts))

-- ---- the rules on the token after a name or a parenthesis in a condition

abbrev pub GuardObeys : Guard → List Lexeme → Type 0
GuardObeys b ts = MeetsLookahead b.inner (cons_token SquareClose b.closing ts)

abbrev pub GkatObeys : {x : GkatSymbol} → GkatPhrase x → List Lexeme → Type 0
GkatObeys (one_product p) ts = GkatObeys p ts
GkatObeys (two_products p plus b q) ts = GkatObeys p (cons_token Plus plus (guard_onto b (gkat_onto q ts))) × GuardObeys b (gkat_onto q ts) × GkatObeys q ts
GkatObeys (one_factor x) ts = GkatObeys x ts
GkatObeys (more_factors x dot p) ts = GkatObeys x (cons_token Dot dot (gkat_onto p ts)) × GkatObeys p ts
GkatObeys (once u) ts = GkatObeys u ts
GkatObeys (repeated u caret b) ts = GkatObeys u (cons_token (Separator Caret) caret (guard_onto b ts)) × GuardObeys b ts
GkatObeys (guard_unit b) ts = GuardObeys b ts
GkatObeys (round_unit opening e closing) ts = GkatObeys e (cons_token RoundClose closing ts)
GkatObeys _ ts = Unit {0}

-- ---- with this number of open constructs around the phrase, nothing is too deep, and no number is too wide

abbrev pub GuardFits : ℕ → Guard → Type 0
GuardFits d b = (d < MAX_OPEN) × IsWithinLimits (d + 1) b.inner

abbrev pub GkatFits : ℕ → {x : GkatSymbol} → GkatPhrase x → Type 0
GkatFits d (one_product p) = GkatFits d p
GkatFits d (two_products p plus b q) = GkatFits d p × GuardFits d b × GkatFits d q
GkatFits d (one_factor x) = GkatFits d x
GkatFits d (more_factors x dot p) = GkatFits d x × GkatFits d p
GkatFits d (once u) = GkatFits d u
GkatFits d (repeated u caret b) = GkatFits d u × GuardFits d b
GkatFits d (guard_unit b) = GuardFits d b
GkatFits d (round_unit opening e closing) = (d < MAX_OPEN) × GkatFits (d + 1) e
GkatFits d _ = Unit {0}

-- the tokens are a phrase of the symbol followed by the rest
pub record IsGkatPhrase (x : GkatSymbol) (d : ℕ) (ts rest : List Lexeme) : Type 0 where
  pub phrase : GkatPhrase x
  pub spelled : ts ≡ gkat_onto phrase rest
  pub obeys : GkatObeys phrase rest
  pub fits : GkatFits d phrase
