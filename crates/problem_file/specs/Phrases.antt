-- The phrases of a problem file, item by item, and the tokens that spell them.
use Rattle.std.specs.Prelude.{◌≡◌, ℕ, List, [], ◌∷◌, Option, Some, None}
use Rattle.text_parser.specs.declared.terminal.Terminal.TheVariants.{Name, Keyword, Separator, Zero, One, Number, WideNumber}
use Rattle.text_parser.specs.declared.terminal.Keyword.{Keyword as Word}
use Rattle.text_parser.specs.declared.terminal.Keyword.TheVariants as word
use Rattle.text_parser.specs.declared.terminal.Separator.TheVariants.{Comma, Semicolon, CurlyOpen, CurlyClose, Equals}
use Rattle.text_parser.specs.Lexemes.{Lexeme}
use Rattle.text_parser.specs.Phrases.{Symbol, term, cond, Leaf, Phrase, one_prod, one_star, bare, name_unit, cons_token, yield_before, MeetsLookahead, IsWithinLimits}
use Rattle.while_lang.specs.BlockPhrases.{block, BlockPhrase, block_before, BlockObeys, BlockFits}

-- NAME { "," NAME }
pub data Names : Type 0 where
  one_name : (l : Leaf) → Names
  more_names : (l : Leaf) → (comma : Leaf) → (ns : Names) → Names

-- NUMBER: `0`, `1`, another number below 2^64, or a wider one
pub data Numeral : Type 0 where
  zero_number : (l : Leaf) → Numeral
  one_number : (l : Leaf) → Numeral
  other_number : (l : Leaf) → (n : ℕ) → Numeral
  wide_number : (l : Leaf) → Numeral

-- "{" cond "}"
pub record Braced : Type 0 where
  pub left : Leaf
  pub inner : Phrase cond
  pub right : Leaf

-- "{" cond "}" term "{" cond "}"
pub record TriplePhrase : Type 0 where
  pub pre : Braced
  pub body : Phrase term
  pub post : Braced

-- An item after its keyword.
-- item = "test" names ";" | "action" names ";" | "var" names ";" | "term" NAME "=" term ";" | "prog" NAME block
--      | "hyp" term "=" "0" ";" | "hyp" "triple" triple ";" | "rounds" NUMBER ";" | "width" NUMBER ";"
--      | "goal" "equal" term "," term ";" | "goal" "below" term "," term ";" | "goal" "triple" triple ";"
pub data Body : Type 0 where
  tests : (ns : Names) → (end : Leaf) → Body
  actions : (ns : Names) → (end : Leaf) → Body
  variables : (ns : Names) → (end : Leaf) → Body
  definition : (name equals : Leaf) → (p : Phrase term) → (end : Leaf) → Body
  program : (name : Leaf) → (b : BlockPhrase block) → Body
  hypothesis : (p : Phrase term) → (equals zero end : Leaf) → Body
  hyp_triple : (l : Leaf) → (x : TriplePhrase) → (end : Leaf) → Body
  rounds : (n : Numeral) → (end : Leaf) → Body
  width : (n : Numeral) → (end : Leaf) → Body
  goal_equal : (l : Leaf) → (p : Phrase term) → (comma : Leaf) → (q : Phrase term) → (end : Leaf) → Body
  goal_below : (l : Leaf) → (p : Phrase term) → (comma : Leaf) → (q : Phrase term) → (end : Leaf) → Body
  goal_triple : (l : Leaf) → (x : TriplePhrase) → (end : Leaf) → Body

pub record Item : Type 0 where
  pub keyword : Leaf
  pub body : Body

-- the keyword of an item
abbrev pub word_of : Body → Word
word_of (tests ns e) = word.Test
word_of (actions ns e) = word.Action
word_of (variables ns e) = word.Var
word_of (definition name q p e) = word.Term
word_of (program name b) = word.Prog
word_of (hypothesis p q z e) = word.Hyp
word_of (hyp_triple l x e) = word.Hyp
word_of (rounds n e) = word.Rounds
word_of (width n e) = word.Width
word_of (goal_equal l p c q e) = word.Goal
word_of (goal_below l p c q e) = word.Goal
word_of (goal_triple l x e) = word.Goal

-- the name that a phrase consists of, if it is a single name
abbrev pub lone_leaf : {x : Symbol} → Phrase x → Option Leaf
lone_leaf (one_prod p) = lone_leaf p
lone_leaf (one_star s) = lone_leaf s
lone_leaf (bare u) = lone_leaf u
lone_leaf (name_unit l) = Some l
lone_leaf _ = None

-- ---- the tokens, and then those that follow

abbrev pub names_onto : Names → List Lexeme → List Lexeme
names_onto (one_name l) ts = cons_token Name l ts
names_onto (more_names l c ns) ts = cons_token Name l (cons_token (Separator Comma) c (names_onto ns ts))

abbrev pub numeral_onto : Numeral → List Lexeme → List Lexeme
numeral_onto (zero_number l) ts = cons_token Zero l ts
numeral_onto (one_number l) ts = cons_token One l ts
numeral_onto (other_number l n) ts = cons_token (Number n) l ts
numeral_onto (wide_number l) ts = cons_token WideNumber l ts

abbrev pub braced_onto : Braced → List Lexeme → List Lexeme
braced_onto b ts = cons_token (Separator CurlyOpen) b.left (yield_before b.inner (cons_token (Separator CurlyClose) b.right ts))

abbrev pub triple_onto : TriplePhrase → List Lexeme → List Lexeme
triple_onto x ts = braced_onto x.pre (yield_before x.body (braced_onto x.post ts))

-- the semicolon at the end of an item
abbrev pub ended : Leaf → List Lexeme → List Lexeme
ended e ts = cons_token (Separator Semicolon) e ts

abbrev pub sides_onto : Phrase term → Leaf → Phrase term → List Lexeme → List Lexeme
sides_onto p c q ts = yield_before p (cons_token (Separator Comma) c (yield_before q ts))

-- the name and the block of a program
abbrev pub prog_onto : Leaf → BlockPhrase block → List Lexeme → List Lexeme
prog_onto name b ts = cons_token Name name (block_before b ts)

abbrev pub body_onto : Body → List Lexeme → List Lexeme
body_onto (tests ns e) ts = names_onto ns (ended e ts)
body_onto (actions ns e) ts = names_onto ns (ended e ts)
body_onto (variables ns e) ts = names_onto ns (ended e ts)
body_onto (definition name q p e) ts = cons_token Name name (cons_token (Separator Equals) q (yield_before p (ended e ts)))
body_onto (program name b) ts = prog_onto name b ts
body_onto (hypothesis p q z e) ts = yield_before p (cons_token (Separator Equals) q (cons_token Zero z (ended e ts)))
body_onto (hyp_triple l x e) ts = cons_token (Keyword word.Triple) l (triple_onto x (ended e ts))
body_onto (rounds n e) ts = numeral_onto n (ended e ts)
body_onto (width n e) ts = numeral_onto n (ended e ts)
body_onto (goal_equal l p c q e) ts = cons_token (Keyword word.Equal) l (sides_onto p c q (ended e ts))
body_onto (goal_below l p c q e) ts = cons_token (Keyword word.Below) l (sides_onto p c q (ended e ts))
body_onto (goal_triple l x e) ts = cons_token (Keyword word.Triple) l (triple_onto x (ended e ts))

abbrev pub item_onto : Item → List Lexeme → List Lexeme
item_onto i ts = cons_token (Keyword (word_of i.body)) i.keyword (body_onto i.body ts)

abbrev pub spelled : List Item → List Lexeme
spelled [] = []
spelled (i ∷ is) = item_onto i (spelled is)

-- ---- the rules on the token that follows a name or a parenthesis in a condition

abbrev pub BracedObeys : Braced → List Lexeme → Type 0
BracedObeys b ts = MeetsLookahead b.inner (cons_token (Separator CurlyClose) b.right ts)

abbrev pub TripleObeys : TriplePhrase → List Lexeme → Type 0
TripleObeys x ts = BracedObeys x.pre (yield_before x.body (braced_onto x.post ts)) × MeetsLookahead x.body (braced_onto x.post ts) × BracedObeys x.post ts

abbrev pub SidesObey : Phrase term → Leaf → Phrase term → List Lexeme → Type 0
SidesObey p c q ts = MeetsLookahead p (cons_token (Separator Comma) c (yield_before q ts)) × MeetsLookahead q ts

abbrev pub BodyObeys : Body → List Lexeme → Type 0
BodyObeys (tests ns e) ts = Unit {0}
BodyObeys (actions ns e) ts = Unit {0}
BodyObeys (variables ns e) ts = Unit {0}
BodyObeys (definition name q p e) ts = MeetsLookahead p (ended e ts)
BodyObeys (program name b) ts = BlockObeys b ts
BodyObeys (hypothesis p q z e) ts = MeetsLookahead p (cons_token (Separator Equals) q (cons_token Zero z (ended e ts)))
BodyObeys (hyp_triple l x e) ts = TripleObeys x (ended e ts)
BodyObeys (rounds n e) ts = Unit {0}
BodyObeys (width n e) ts = Unit {0}
BodyObeys (goal_equal l p c q e) ts = SidesObey p c q (ended e ts)
BodyObeys (goal_below l p c q e) ts = SidesObey p c q (ended e ts)
BodyObeys (goal_triple l x e) ts = TripleObeys x (ended e ts)

abbrev pub ItemsObey : List Item → Type 0
ItemsObey [] = Unit {0}
ItemsObey (i ∷ is) = BodyObeys i.body (spelled is) × ItemsObey is

-- ---- nothing is too deep, and no number is too wide; braces are one level

-- the number is below 2^64
abbrev pub NumeralFits : Numeral → Type 0
NumeralFits (wide_number l) = ⊥
NumeralFits n = Unit {0}

abbrev pub TripleFits : TriplePhrase → Type 0
TripleFits x = IsWithinLimits 1 x.pre.inner × IsWithinLimits 0 x.body × IsWithinLimits 1 x.post.inner

abbrev pub BodyFits : Body → Type 0
BodyFits (tests ns e) = Unit {0}
BodyFits (actions ns e) = Unit {0}
BodyFits (variables ns e) = Unit {0}
BodyFits (definition name q p e) = IsWithinLimits 0 p
BodyFits (program name b) = BlockFits 0 b
BodyFits (hypothesis p q z e) = IsWithinLimits 0 p
BodyFits (hyp_triple l x e) = TripleFits x
BodyFits (rounds n e) = NumeralFits n
BodyFits (width n e) = NumeralFits n
BodyFits (goal_equal l p c q e) = IsWithinLimits 0 p × IsWithinLimits 0 q
BodyFits (goal_below l p c q e) = IsWithinLimits 0 p × IsWithinLimits 0 q
BodyFits (goal_triple l x e) = TripleFits x

abbrev pub ItemsFit : List Item → Type 0
ItemsFit [] = Unit {0}
ItemsFit (i ∷ is) = BodyFits i.body × ItemsFit is

-- the tokens are the phrase `file` with these items
pub record IsFile (items : List Item) (ts : List Lexeme) : Type 0 where
  pub spells : ts ≡ spelled items
  pub obey : ItemsObey items

-- the same, and nothing in the items is too deep or too wide
pub record AreSpelledBy (items : List Item) (ts : List Lexeme) : Type 0 where
  pub file : IsFile items ts
  pub fit : ItemsFit items
