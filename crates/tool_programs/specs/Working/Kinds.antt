-- The kinds of names that a text of GKAT declares.
use Rattle.std.specs.Prelude.{ℕ, List, codes}
use Rattle.text_parser.specs.declared.meaning.Meaning.{Meaning}
use Rattle.text_parser.specs.declared.meaning.Meaning.TheVariants.{Test as TestMeaning, Action as ActionMeaning}
use Rattle.tool_programs.specs.declared.gkat.Kind.{Kind}
use Rattle.tool_programs.specs.declared.gkat.Kind.TheVariants.{Test, Action}

-- the keyword of a kind, and the meaning of a name by its number
abbrev pub kind_word : Kind → List ℕ
kind_word Test = codes "test"
kind_word Action = codes "action"

abbrev pub kind_meaning : Kind → ℕ → Meaning
kind_meaning Test k = TestMeaning k
kind_meaning Action k = ActionMeaning k
