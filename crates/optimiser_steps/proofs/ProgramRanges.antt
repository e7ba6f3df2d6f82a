-- A program that is named in a file uses only numbers in the ranges of the file.
use Rattle.std.proofs.Common.{◌≡◌, ℕ, List, Option, None, Some, refl, subst}
use Rattle.std.proofs.lemmas.Option.{same_Some, none-some}
use Rattle.std.specs.Option.{option_map}
use Rattle.text_parser.specs.ScopeParts.{meaning}
use Rattle.while_lang.specs.Programs.{ProgTree}
use Rattle.while_lang.specs.NamedProgs.{ProgParts}
use Rattle.while_lang.specs.Files.{FileParts, prog_named}
use Rattle.while_lang.specs.Ranges.{IsProgInRange, IsNumbered}
use Rattle.while_lang.proofs.RangesGrow.{meant_in}
use Rattle.optimiser_steps.specs.Meanings.{HasProgInRange}

-- if the program is found, p is its tree and has the property
tree_in : (P : ProgTree → Type 0) (o : Option ProgParts) (p : ProgTree) → ((d : ProgParts) → o ≡ Some d → P d.tree) → option_map (λ d. d.tree) o ≡ Some p → P p
tree_in P None p h e = absurd (none-some p e)
tree_in P (Some d) p h e = subst P (same_Some d.tree p e) (h d refl)

pub program_in_range : (f : FileParts) (name : List ℕ) (p : ProgTree) → IsNumbered f → option_map (λ d. d.tree) (prog_named f.scope f.progs name) ≡ Some p → HasProgInRange f p
program_in_range f name p numbered e = record {
  hyps = numbered.hyps;
  prog = tree_in (IsProgInRange f.tests f.actions f.vars) (prog_named f.scope f.progs name) p (λ d is. meant_in f.tests f.actions f.vars f.progs (meaning f.scope name) d numbered.progs is) e;
}
