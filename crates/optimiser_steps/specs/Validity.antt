-- The conditions of the optimiser: triples (Hoare 1969) that hold for all tests, actions and values.
use Rattle.std.specs.Prelude.{◌≡◌, Ok}
use Rattle.kat_model.specs.Expressions.{CondTree, always, negation}
use Rattle.kat_model.specs.Relations.{Same}
use Rattle.while_lang.specs.Programs.{ProgTree, empty}
use Rattle.while_lang.specs.Files.{FileParts, triple, prog_side}
use Rattle.abstraction.specs.Abstracts.{AbstractParts, with_goal, abstract_of}

-- the abstraction of the file with the triple {pre} body {post} as its goal is within its limits, and both sides of its
-- problem are the same
pub record IsValid (f : FileParts) (pre : CondTree) (body : ProgTree) (post : CondTree) : Type 0 where
  pub parts : AbstractParts
  pub made : abstract_of (with_goal f (triple pre (prog_side body) post)) ≡ Ok parts
  pub same : Same parts.problem

-- the condition always holds; the condition never holds
abbrev pub HoldsAlways : FileParts → CondTree → Type 0
HoldsAlways f b = IsValid f always empty b

abbrev pub HoldsNever : FileParts → CondTree → Type 0
HoldsNever f b = HoldsAlways f (negation b)
