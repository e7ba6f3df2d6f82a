-- The phrases of chains, case by case, and the tokens that spell them.
use Rattle.std.specs.Prelude.{◌≡◌, ◌<◌, ◌+◌, ℕ, List, Bool, true, false, codes, Option, None, Some}
use Rattle.std.specs.Option.{is_some}
use Rattle.std.specs.Str.{bytes_eq}
use Rattle.kat_model.specs.declared.limits.TheConstants.{MAX_OPEN}
use Rattle.text_parser.specs.declared.terminal.Terminal.TheVariants.{Name, Keyword, Separator, Dot}
use Rattle.text_parser.specs.declared.terminal.Keyword.TheVariants as word
use Rattle.text_parser.specs.declared.terminal.Separator.TheVariants.{Semicolon, CurlyOpen, CurlyClose, Equals}
use Rattle.text_parser.specs.Lexemes.{Lexeme}
use Rattle.text_parser.specs.Phrases.{term, Leaf, Phrase, cons_token, yield_before, MeetsLookahead, IsWithinLimits}
use Rattle.problem_file.specs.Phrases.{Numeral, numeral_onto, NumeralFits}
use Rattle.chain_proofs.specs.ChainWalks.{has_number, has_inner}

-- the name of a rule: a name, or the keyword `hyp`
pub data RuleWord : Type 0 where
  plain : (l : Leaf) → RuleWord
  keyword : (l : Leaf) → RuleWord

abbrev pub rule_leaf : RuleWord → Leaf
rule_leaf (plain l) = l
rule_leaf (keyword l) = l

-- { "." NUMBER }
pub data Parts : Type 0 where
  no_parts : Parts
  more_parts : (dot : Leaf) → (n : Numeral) → (ps : Parts) → Parts

-- [ "at" NUMBER { "." NUMBER } ]
pub data Place : Type 0 where
  no_place : Place
  at_place : (l : Leaf) → (n : Numeral) → (ps : Parts) → Place

-- NAME [ NUMBER ] [ "at" path ]
pub record RulePhrase : Type 0 where
  pub name : RuleWord
  pub number : Option Numeral
  pub place : Place

-- { "=" term "by" rule ";" or "=" term "by" rule "{" chain "}" ";" }
pub data Lines : Type 0 where
  no_lines : Lines
  plain_line : (equals : Leaf) → (t : Phrase term) → (by : Leaf) → (r : RulePhrase) → (end : Leaf) → (rest : Lines) → Lines
  line_around : (equals : Leaf) → (t : Phrase term) → (by : Leaf) → (r : RulePhrase) → (opening : Leaf) → (first : Phrase term) → (inner : Lines) → (closing end : Leaf) → (rest : Lines) → Lines

-- chain = term { line }
pub record ChainPhrase : Type 0 where
  pub first : Phrase term
  pub lines : Lines

-- ---- the tokens of a phrase, prepended to those that follow

abbrev pub word_onto : RuleWord → List Lexeme → List Lexeme
word_onto (plain l) ts = cons_token Name l ts
word_onto (keyword l) ts = cons_token (Keyword word.Hyp) l ts

abbrev pub number_onto : Option Numeral → List Lexeme → List Lexeme
number_onto None ts = ts
number_onto (Some n) ts = numeral_onto n ts

abbrev pub parts_onto : Parts → List Lexeme → List Lexeme
parts_onto no_parts ts = ts
parts_onto (more_parts dot n ps) ts = cons_token Dot dot (numeral_onto n (parts_onto ps ts))

abbrev pub place_onto : Place → List Lexeme → List Lexeme
place_onto no_place ts = ts
place_onto (at_place l n ps) ts = cons_token Name l (numeral_onto n (parts_onto ps ts))

abbrev pub rule_onto : RulePhrase → List Lexeme → List Lexeme
rule_onto r ts = word_onto r.name (number_onto r.number (place_onto r.place ts))

-- "by" rule
abbrev pub reason_onto : Leaf → RulePhrase → List Lexeme → List Lexeme
reason_onto by r ts = cons_token Name by (rule_onto r ts)

-- the semicolon at the end of a line
abbrev pub ended : Leaf → List Lexeme → List Lexeme
ended end ts = cons_token (Separator Semicolon) end ts

abbrev pub lines_onto : Lines → List Lexeme → List Lexeme
lines_onto no_lines ts = ts
lines_onto (plain_line equals t by r end rest) ts =
    cons_token (Separator Equals) equals (yield_before t (reason_onto by r (ended end (lines_onto rest ts))))
lines_onto (line_around equals t by r opening first inner closing end rest) ts =
    cons_token (Separator Equals) equals (yield_before t (reason_onto by r (cons_token (Separator CurlyOpen) opening (yield_before first (lines_onto inner (cons_token (Separator CurlyClose) closing (ended end (lines_onto rest ts))))))))

abbrev pub chain_onto : ChainPhrase → List Lexeme → List Lexeme
chain_onto p ts = yield_before p.first (lines_onto p.lines ts)

-- ---- the fixed words, what follows each rule, and the rules on the token after a name or a parenthesis in a condition

abbrev pub PlaceObeys : Place → Type 0
PlaceObeys no_place = Unit {0}
PlaceObeys (at_place l n ps) = bytes_eq l.text (codes "at") ≡ true

-- `hyp` and no other rule has a number; an inner chain is present exactly when the rule requires one
pub record RuleObeys (by : Leaf) (r : RulePhrase) (inner : Bool) : Type 0 where
  pub word : bytes_eq by.text (codes "by") ≡ true
  pub number : is_some r.number ≡ has_number (rule_leaf r.name).text
  pub chain : inner ≡ has_inner (rule_leaf r.name).text
  pub place : PlaceObeys r.place

abbrev pub LinesObey : Lines → List Lexeme → Type 0
LinesObey no_lines ts = Unit {0}
LinesObey (plain_line equals t by r end rest) ts =
    MeetsLookahead t (reason_onto by r (ended end (lines_onto rest ts))) × RuleObeys by r false × LinesObey rest ts
LinesObey (line_around equals t by r opening first inner closing end rest) ts =
    let after = cons_token (Separator CurlyClose) closing (ended end (lines_onto rest ts)) in
    MeetsLookahead t (reason_onto by r (cons_token (Separator CurlyOpen) opening (yield_before first (lines_onto inner after)))) × RuleObeys by r true × MeetsLookahead first (lines_onto inner after) × LinesObey inner after × LinesObey rest ts

-- ---- with this number of open constructs around the phrase, nothing is too deep, and no number is too wide

abbrev pub NumberFits : Option Numeral → Type 0
NumberFits None = Unit {0}
NumberFits (Some n) = NumeralFits n

abbrev pub PartsFit : Parts → Type 0
PartsFit no_parts = Unit {0}
PartsFit (more_parts dot n ps) = NumeralFits n × PartsFit ps

abbrev pub PlaceFits : Place → Type 0
PlaceFits no_place = Unit {0}
PlaceFits (at_place l n ps) = NumeralFits n × PartsFit ps

abbrev pub RuleFits : RulePhrase → Type 0
RuleFits r = NumberFits r.number × PlaceFits r.place

abbrev pub LinesFit : ℕ → Lines → Type 0
LinesFit d no_lines = Unit {0}
LinesFit d (plain_line equals t by r end rest) = IsWithinLimits d t × RuleFits r × LinesFit d rest
LinesFit d (line_around equals t by r opening first inner closing end rest) =
    IsWithinLimits d t × RuleFits r × (d < MAX_OPEN) × IsWithinLimits (d + 1) first × LinesFit (d + 1) inner × LinesFit d rest

-- the tokens are a chain followed by the rest
pub record IsChainPhrase (d : ℕ) (ts rest : List Lexeme) : Type 0 where
  pub phrase : ChainPhrase
  pub spelled : ts ≡ chain_onto phrase rest
  pub first_obeys : MeetsLookahead phrase.first (lines_onto phrase.lines rest)
  pub obey : LinesObey phrase.lines rest
  pub first_fits : IsWithinLimits d phrase.first
  pub fit : LinesFit d phrase.lines
