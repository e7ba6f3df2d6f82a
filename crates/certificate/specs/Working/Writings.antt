-- Parts of texts, as the writer appends them.
use Rattle.std.specs.Prelude.{ℕ, List, ◌++◌}
use Rattle.std.specs.List.{flat_map}
use Rattle.kat_model.specs.Strings.{Move, GuardedString}
use Rattle.line_format.specs.Lines.{line_of, with_feed}
use Rattle.certificate.specs.declared.entry.Entry.{Entry}
use Rattle.certificate.specs.declared.evidence.Evidence.{Evidence}
use Rattle.certificate.specs.declared.evidence.Evidence.TheVariants.{Equal, Different}
use Rattle.certificate.specs.Texts.{entry_words, atom_words, move_words, heading, string_heading, entries_of}

abbrev pub entry_lines : List Entry → List ℕ
entry_lines es = flat_map (λ e. with_feed (line_of (entry_words e))) es

abbrev pub move_lines : List Move → List ℕ
move_lines ms = flat_map (λ m. with_feed (line_of (move_words m))) ms

abbrev pub string_lines : GuardedString → List ℕ
string_lines x = with_feed string_heading ++ (with_feed (line_of (atom_words x.first)) ++ move_lines x.rest)

-- all lines of evidence but the last
abbrev pub body_of : Evidence → List ℕ
body_of (Equal c) = with_feed (heading c.style) ++ entry_lines (entries_of c)
body_of (Different x) = string_lines x
