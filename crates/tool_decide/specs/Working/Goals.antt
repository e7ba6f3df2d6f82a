-- The numbers in the goals of a text.
use Rattle.std.specs.Prelude.{List}
use Rattle.kat_model.specs.Members.{Has}
use Rattle.while_lang.specs.Files.{GoalTree, FileParts}
use Rattle.abstraction.specs.Abstracts.{HasNumbersInRange}
use Rattle.tool_decide.specs.Batch.{with_each}

-- the numbers of the file with each goal are in range
abbrev pub AreInRange : FileParts → List GoalTree → Type 0
AreInRange f more = (g : FileParts) → Has (with_each f more) g → HasNumbersInRange g
