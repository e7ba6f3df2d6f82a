-- The keywords of each length.
use Rattle.std.specs.Prelude.{ℕ, List, if◌then◌else◌, codes}
use Rattle.std.specs.Str.{bytes_eq}
use Rattle.text_parser.specs.declared.terminal.Keyword.TheVariants as word
use Rattle.text_parser.specs.declared.terminal.Terminal.{Terminal}
use Rattle.text_parser.specs.declared.terminal.Terminal.TheVariants.{True, False, Name, Keyword}

-- the terminal of a keyword of four letters, or of a name
abbrev pub word_of_four : List ℕ → Terminal
word_of_four text =
    if bytes_eq text (codes "true") then True
    else if bytes_eq text (codes "test") then Keyword word.Test
    else if bytes_eq text (codes "prog") then Keyword word.Prog
    else if bytes_eq text (codes "term") then Keyword word.Term
    else if bytes_eq text (codes "goal") then Keyword word.Goal
    else if bytes_eq text (codes "skip") then Keyword word.Skip
    else if bytes_eq text (codes "else") then Keyword word.Else
    else Name

-- the terminal of a keyword of five letters, or of a name
abbrev pub word_of_five : List ℕ → Terminal
word_of_five text =
    if bytes_eq text (codes "false") then False
    else if bytes_eq text (codes "width") then Keyword word.Width
    else if bytes_eq text (codes "equal") then Keyword word.Equal
    else if bytes_eq text (codes "below") then Keyword word.Below
    else if bytes_eq text (codes "abort") then Keyword word.Abort
    else if bytes_eq text (codes "while") then Keyword word.While
    else Name

-- the terminal of a keyword of six letters, or of a name
abbrev pub word_of_six : List ℕ → Terminal
word_of_six text =
    if bytes_eq text (codes "action") then Keyword word.Action
    else if bytes_eq text (codes "rounds") then Keyword word.Rounds
    else if bytes_eq text (codes "triple") then Keyword word.Triple
    else if bytes_eq text (codes "assert") then Keyword word.Assert
    else Name

-- the terminal of a keyword of two or three letters, or of a name
abbrev pub other_word : List ℕ → Terminal
other_word text =
    if bytes_eq text (codes "var") then Keyword word.Var
    else if bytes_eq text (codes "hyp") then Keyword word.Hyp
    else if bytes_eq text (codes "if") then Keyword word.If
    else Name
