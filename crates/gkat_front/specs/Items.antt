-- Reading the items of a text one after the other, with any actions.
use Rattle.std.specs.Prelude.{ℕ, List, [], ◌∷◌, Result, Ok, Err}
use Rattle.text_parser.specs.declared.fault.TextFault.{TextFault}
use Rattle.text_parser.specs.declared.fault.TextFault.TheVariants.{Syntax}
use Rattle.text_parser.specs.declared.terminal.Terminal.TheVariants.{Keyword, Separator}
use Rattle.text_parser.specs.declared.terminal.Keyword.TheVariants as word
use Rattle.text_parser.specs.declared.terminal.Separator.TheVariants.{Comma, Semicolon}
use Rattle.text_parser.specs.Lexemes.{Lexeme, lexeme, is_terminal}
use Rattle.text_parser.specs.Parsed.{Parsed, ◌>>=◌, at_end, before, then_expects}
use Rattle.problem_file.specs.Items.{declaration_by, over_items}
use Rattle.gkat_front.specs.FileActions.{FileActions}

-- g "," g
abbrev pub sides_by : {S V : Type 0} → FileActions S V → S → List Lexeme → Parsed (V × V)
sides_by g s ts = then_expects (is_terminal (Separator Comma)) (g.expr s ts) >>= λ x. g.expr s x.1 >>= λ y. Ok ((x.0, y.0), y.1)

-- g "," g ";", after the keyword at the place
abbrev pub equal_by : {S V : Type 0} → FileActions S V → S → ℕ → List Lexeme → Parsed S
equal_by g s at ts =
    g.begin_equal s at >>= λ u. then_expects (is_terminal (Separator Semicolon)) (sides_by g s ts) >>= λ x. before x.1 (g.pose s at (x.0).0 (x.0).1)

-- an item, selected by its keyword
abbrev pub item_by : {S V : Type 0} → FileActions S V → S → List Lexeme → Parsed S
item_by g s [] = Err (Syntax at_end)
item_by g s (lexeme (Keyword word.Test) at text ∷ ts) = declaration_by g.declare_test s ts
item_by g s (lexeme (Keyword word.Action) at text ∷ ts) = declaration_by g.declare_action s ts
item_by g s (lexeme (Keyword word.Equal) at text ∷ ts) = equal_by g s at ts
item_by g s (lexeme _ at text ∷ ts) = Err (Syntax at)

-- items up to the end of the tokens, or the first fault
abbrev pub items_by : {S V : Type 0} → FileActions S V → S → List Lexeme → Result S TextFault
items_by g s ts = over_items (item_by g) s ts
