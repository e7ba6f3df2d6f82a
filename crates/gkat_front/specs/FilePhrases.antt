-- The phrases of a text, item by item, and the tokens that spell them.
use Rattle.std.specs.Prelude.{◌≡◌, List, [], ◌∷◌}
use Rattle.text_parser.specs.declared.terminal.Terminal.TheVariants.{Keyword, Separator}
use Rattle.text_parser.specs.declared.terminal.Keyword.TheVariants as word
use Rattle.text_parser.specs.declared.terminal.Separator.TheVariants.{Comma}
use Rattle.text_parser.specs.Lexemes.{Lexeme}
use Rattle.text_parser.specs.Phrases.{Leaf, cons_token}
use Rattle.problem_file.specs.Phrases.{Names, names_onto, ended}
use Rattle.gkat_front.specs.GkatPhrases.{expr, GkatPhrase, gkat_onto, GkatObeys, GkatFits}

-- item = "test" names ";" | "action" names ";" | "equal" g "," g ";"
pub data GkatItem : Type 0 where
  tests : (keyword : Leaf) → (ns : Names) → (end : Leaf) → GkatItem
  actions : (keyword : Leaf) → (ns : Names) → (end : Leaf) → GkatItem
  equal : (keyword : Leaf) → (p : GkatPhrase expr) → (comma : Leaf) → (q : GkatPhrase expr) → (end : Leaf) → GkatItem

abbrev pub sides_onto : GkatPhrase expr → Leaf → GkatPhrase expr → List Lexeme → List Lexeme
sides_onto p comma q ts = gkat_onto p (cons_token (Separator Comma) comma (gkat_onto q ts))

abbrev pub item_onto : GkatItem → List Lexeme → List Lexeme
item_onto (tests keyword ns end) ts = cons_token (Keyword word.Test) keyword (names_onto ns (ended end ts))
item_onto (actions keyword ns end) ts = cons_token (Keyword word.Action) keyword (names_onto ns (ended end ts))
item_onto (equal keyword p comma q end) ts = cons_token (Keyword word.Equal) keyword (sides_onto p comma q (ended end ts))

abbrev pub spelled : List GkatItem → List Lexeme
spelled [] = []
spelled (i ∷ is) = item_onto i (spelled is)

-- the conditions of the item satisfy the rules on the token after a name or a parenthesis
abbrev pub ItemObeys : GkatItem → List Lexeme → Type 0
ItemObeys (tests keyword ns end) ts = Unit {0}
ItemObeys (actions keyword ns end) ts = Unit {0}
ItemObeys (equal keyword p comma q end) ts = GkatObeys p (cons_token (Separator Comma) comma (gkat_onto q (ended end ts))) × GkatObeys q (ended end ts)

abbrev pub ItemsObey : List GkatItem → Type 0
ItemsObey [] = Unit {0}
ItemsObey (i ∷ is) = ItemObeys i (spelled is) × ItemsObey is

-- nothing is too deep, and no number is too wide
abbrev pub ItemFits : GkatItem → Type 0
ItemFits (tests keyword ns end) = Unit {0}
ItemFits (actions keyword ns end) = Unit {0}
ItemFits (equal keyword p comma q end) = GkatFits 0 p × GkatFits 0 q

abbrev pub ItemsFit : List GkatItem → Type 0
ItemsFit [] = Unit {0}
ItemsFit (i ∷ is) = ItemFits i × ItemsFit is

-- the tokens spell these items, and nothing in them is too deep or too wide
pub record AreSpelledBy (items : List GkatItem) (ts : List Lexeme) : Type 0 where
  pub spells : ts ≡ spelled items
  pub obey : ItemsObey items
  pub fit : ItemsFit items
