-- The defined terms of the program as those of a scope, and the code of the meanings by name.
use Rattle.std.specs.Coded.{Coded, coded_ℕ, coded_list}
use Rattle.std.specs.FinMap.{code}
use Rattle.kat_model.specs.Trees.{kat_tree}
use Rattle.text_parser.specs.contracts.meaning.Meaning.{the_row}
use Rattle.text_parser.specs.declared.definition.Definition.{Definition as Defined}
use Rattle.text_parser.specs.ScopeParts.{Definition, Meanings}

-- the definition of a term as the program stores it
abbrev pub definition_of : Defined → Definition
definition_of d = record { tree = kat_tree d.tree; nesting = d.nesting }

-- the code of meanings by name: the list of entries
abbrev pub coded_meanings : Coded Meanings
coded_meanings = code (coded_list coded_ℕ) the_row.coded
