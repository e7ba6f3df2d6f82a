-- Parts of texts that the writer appends.
use Rattle.std.specs.Prelude.{ℕ, List}
use Rattle.std.specs.List.{flat_map}
use Rattle.line_format.specs.Lines.{line_of, with_feed}
use Rattle.outline_rules.specs.declared.line.NoteLine.{NoteLine}
use Rattle.outline_rules.specs.Texts.{line_words}

abbrev pub lines_text : List NoteLine → List ℕ
lines_text ls = flat_map (λ l. with_feed (line_of (line_words l))) ls
