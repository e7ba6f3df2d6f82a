-- Tokens as the reader sees them. `match` and the words of its parts are keywords by their place, so that texts may have
-- them as names.
use Rattle.std.specs.Prelude.{ℕ, List, [], ◌∷◌, Bool, true, false, ◌&&◌, ◌||◌, nat_eq, if◌then◌else◌, codes}
use Rattle.std.specs.Str.{bytes_eq}
use Rattle.text_parser.specs.declared.token.Kind.TheVariants as kind
use Rattle.text_parser.specs.TokenParts.{TokenParts, token_parts, place_of}
use Rattle.flow_syntax.specs.declared.rule.Mark.{Mark}
use Rattle.flow_syntax.specs.declared.terminal.TheConstants.{SEMICOLON, CURLY_CLOSE, MATCH}
use Rattle.flow_syntax.specs.declared.marks.Context.{Context}
use Rattle.flow_syntax.specs.declared.marks.Context.TheVariants.{Beginning, InMatch, Elsewhere}
use Rattle.flow_syntax.specs.Terminals.{terminal_of, terminal_in_match}

-- whether the first token is a word
abbrev pub is_word_next : List TokenParts → Bool
is_word_next [] = false
is_word_next (token_parts kind.Name at text ∷ ts) = true
is_word_next (token_parts kind.Number at text ∷ ts) = false
is_word_next (token_parts kind.Symbol at text ∷ ts) = false

-- the terminal of a token before others. Where an item may begin, `match` before a word is a keyword: no statement begins
-- with two words of which the first is a name.
abbrev pub terminal_at : Context → TokenParts → List TokenParts → ℕ
terminal_at Beginning (token_parts kind at text) ts = if bytes_eq text (codes "match") && is_word_next ts then MATCH else terminal_of kind text
terminal_at InMatch (token_parts kind at text) ts = terminal_in_match kind text
terminal_at Elsewhere (token_parts kind at text) ts = terminal_of kind text

-- the context after a token that neither begins nor ends an item
abbrev pub inside : Context → Context
inside Beginning = Elsewhere
inside InMatch = InMatch
inside Elsewhere = Elsewhere

-- the context after a token of this terminal
abbrev pub context_after : Context → ℕ → Context
context_after context t =
    if nat_eq t SEMICOLON || nat_eq t CURLY_CLOSE then Beginning
    else if nat_eq t MATCH then InMatch
    else inside context

abbrev pub mark_at : Context → TokenParts → List TokenParts → Mark
mark_at context t ts = record { terminal = terminal_at context t ts; at = place_of t }

-- the tokens from a context on
abbrev pub marks_from : Context → List TokenParts → List Mark
marks_from context [] = []
marks_from context (t ∷ ts) = mark_at context t ts ∷ marks_from (context_after context (terminal_at context t ts)) ts

-- the tokens of a text
abbrev pub marks_of : List TokenParts → List Mark
marks_of ts = marks_from Beginning ts
