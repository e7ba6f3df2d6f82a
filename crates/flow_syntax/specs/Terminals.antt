-- The terminals of tokens.
use Rattle.std.specs.Prelude.{ℕ, List, if◌then◌else◌, codes, Option, Some, None}
use Rattle.std.specs.Str.{bytes_eq}
use Rattle.text_parser.specs.declared.token.Kind.{Kind}
use Rattle.text_parser.specs.declared.token.Kind.TheVariants as kind
use Rattle.text_parser.specs.TokenParts.{TokenParts, token_parts}
use Rattle.text_parser.specs.declared.terminal.Terminal.{Terminal}
use Rattle.text_parser.specs.declared.terminal.Terminal.TheVariants.{Zero, One, Number, WideNumber}
use Rattle.text_parser.specs.Terminals as grammar
use Rattle.flow_syntax.specs.declared.rule.TheConstants.{NUMBER, WIDE_NUMBER, OPEN_ROUND, CLOSE_ROUND}
use Rattle.flow_syntax.specs.declared.terminal.TheConstants.{NAME, OTHER, SORT, FUN, VAR, GRAPH, BLOCK, CUT, GOTO, IF, ELSE, RETURN, ABORT, ASSERT, EQUAL, ROUNDS, SPLIT, TRUE, FALSE, U8, U16, U32, U64, S8, S16, S32, S64, SLT, SLE, SGT, SGE, COMMA, SEMICOLON, CURLY_OPEN, CURLY_CLOSE, BECOMES, EQ, NE, LT, LE, GT, GE, PLUS, MINUS, STAR, AND, OR, BANG, WHERE, BACK, KEEPING, ALL_NAMES}

-- the terminal of a keyword or a name
abbrev pub word_terminal : List ℕ → ℕ
word_terminal text =
    if bytes_eq text (codes "sort") then SORT
    else if bytes_eq text (codes "fun") then FUN
    else if bytes_eq text (codes "var") then VAR
    else if bytes_eq text (codes "graph") then GRAPH
    else if bytes_eq text (codes "block") then BLOCK
    else if bytes_eq text (codes "cut") then CUT
    else if bytes_eq text (codes "goto") then GOTO
    else if bytes_eq text (codes "if") then IF
    else if bytes_eq text (codes "else") then ELSE
    else if bytes_eq text (codes "return") then RETURN
    else if bytes_eq text (codes "abort") then ABORT
    else if bytes_eq text (codes "assert") then ASSERT
    else if bytes_eq text (codes "equal") then EQUAL
    else if bytes_eq text (codes "rounds") then ROUNDS
    else if bytes_eq text (codes "split") then SPLIT
    else if bytes_eq text (codes "true") then TRUE
    else if bytes_eq text (codes "false") then FALSE
    else if bytes_eq text (codes "u8") then U8
    else if bytes_eq text (codes "u16") then U16
    else if bytes_eq text (codes "u32") then U32
    else if bytes_eq text (codes "u64") then U64
    else if bytes_eq text (codes "s8") then S8
    else if bytes_eq text (codes "s16") then S16
    else if bytes_eq text (codes "s32") then S32
    else if bytes_eq text (codes "s64") then S64
    else if bytes_eq text (codes "slt") then SLT
    else if bytes_eq text (codes "sle") then SLE
    else if bytes_eq text (codes "sgt") then SGT
    else if bytes_eq text (codes "sge") then SGE
    else NAME

-- the terminal of a keyword or a name in a `match`, where four more words are keywords
abbrev pub match_word_terminal : List ℕ → ℕ
match_word_terminal text =
    if bytes_eq text (codes "where") then WHERE
    else if bytes_eq text (codes "back") then BACK
    else if bytes_eq text (codes "keeping") then KEEPING
    else if bytes_eq text (codes "names") then ALL_NAMES
    else word_terminal text

abbrev pub symbol_terminal : List ℕ → ℕ
symbol_terminal text =
    if bytes_eq text (codes "(") then OPEN_ROUND
    else if bytes_eq text (codes ")") then CLOSE_ROUND
    else if bytes_eq text (codes ",") then COMMA
    else if bytes_eq text (codes ";") then SEMICOLON
    else if bytes_eq text (codes "{") then CURLY_OPEN
    else if bytes_eq text (codes "}") then CURLY_CLOSE
    else if bytes_eq text (codes ":=") then BECOMES
    else if bytes_eq text (codes "==") then EQ
    else if bytes_eq text (codes "!=") then NE
    else if bytes_eq text (codes "<") then LT
    else if bytes_eq text (codes "<=") then LE
    else if bytes_eq text (codes ">") then GT
    else if bytes_eq text (codes ">=") then GE
    else if bytes_eq text (codes "+") then PLUS
    else if bytes_eq text (codes "-") then MINUS
    else if bytes_eq text (codes "*") then STAR
    else if bytes_eq text (codes "&&") then AND
    else if bytes_eq text (codes "||") then OR
    else if bytes_eq text (codes "!") then BANG
    else OTHER

-- the terminal of what problem files see as this terminal, if it is a number
abbrev pub number_terminal : Terminal → ℕ
number_terminal Zero = NUMBER
number_terminal One = NUMBER
number_terminal (Number n) = NUMBER
number_terminal WideNumber = WIDE_NUMBER
number_terminal _ = OTHER

-- the terminal of a token that is not in a `match`, by its kind and text
abbrev pub terminal_of : Kind → List ℕ → ℕ
terminal_of kind.Name text = word_terminal text
terminal_of kind.Number text = number_terminal (grammar.terminal_of kind.Number text)
terminal_of kind.Symbol text = symbol_terminal text

-- likewise for a token in a `match`
abbrev pub terminal_in_match : Kind → List ℕ → ℕ
terminal_in_match kind.Name text = match_word_terminal text
terminal_in_match kind.Number text = terminal_of kind.Number text
terminal_in_match kind.Symbol text = terminal_of kind.Symbol text

-- the number that a terminal of problem files is
abbrev pub number_value : Terminal → Option ℕ
number_value Zero = Some 0
number_value One = Some 1
number_value (Number n) = Some n
number_value _ = None

-- the number that a token spells, if it spells one below 2^64
abbrev pub spelled_number : TokenParts → Option ℕ
spelled_number (token_parts kind at text) = number_value (grammar.terminal_of kind text)
