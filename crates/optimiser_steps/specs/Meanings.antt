-- The meaning that an optimised program preserves.
use Rattle.std.specs.Prelude.{◌≡◌, ◌<◌, ◌↔◌, ℕ, []}
use Rattle.kat_model.specs.Trees.{Term}
use Rattle.kat_model.specs.Problems.{AreInRange}
use Rattle.kat_model.specs.Relations.{Table, IsTable, Relates, Keeps}
use Rattle.while_lang.specs.Programs.{ProgTree}
use Rattle.while_lang.specs.Encoding.{encoded}
use Rattle.while_lang.specs.Files.{FileParts}
use Rattle.while_lang.specs.Concrete.{EndAlike}
use Rattle.while_lang.specs.Ranges.{IsProgInRange}
use Rattle.abstraction.specs.Tables.{Tables}
use Rattle.abstraction.specs.Tests.{prog_flow}

-- the stated hypotheses and the program use only tests, actions and variables of the file
pub record HasProgInRange (f : FileParts) (p : ProgTree) : Type 0 where
  pub hyps : AreInRange f.tests f.actions f.hyps
  pub prog : IsProgInRange f.tests f.actions f.vars p

-- the tables of only the declared tests and actions, with which programs without variables are read
abbrev pub declared_tables : FileParts → Tables
declared_tables f = record { tests = f.tests; actions = f.actions; comparisons = []; assignments = []; width = f.width }

-- the term of a program without variables
abbrev pub prog_term : FileParts → ProgTree → Term
prog_term f p = encoded (prog_flow (declared_tables f) p)

-- in a file without variables, both programs relate the same states in each table that satisfies the stated hypotheses
abbrev pub KeepsInTables : FileParts → ProgTree → ProgTree → Type 0
KeepsInTables f p q =
    f.vars ≡ 0 → (t : Table) → IsTable f.tests f.actions t → Keeps t f.hyps
    → (i j : ℕ) → i < t.states → j < t.states → Relates t (prog_term f p) i j ↔ Relates t (prog_term f q) i j

-- in a file without tests, actions, terms and stated hypotheses, both programs end in the same stores from each store
abbrev pub KeepsFromStores : FileParts → ProgTree → ProgTree → Type 0
KeepsFromStores f p q = f.tests ≡ 0 → f.actions ≡ 0 → f.terms ≡ 0 → f.hyps ≡ [] → EndAlike f p q
