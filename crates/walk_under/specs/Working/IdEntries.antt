-- The pairs of a walk as the program stores them, as ids of terms and diagrams.
use Rattle.std.specs.Prelude.{◌≡◌, ℕ, List, map, Some, IsTrue}
use Rattle.std.specs.Option.{option_map}
use Rattle.term_nodes.specs.NodeLists.{NodeParts}
use Rattle.term_nodes.specs.NumberSets.{terms_of}
use Rattle.kat_model.specs.Members.{SameMembers}
use Rattle.kat_model.specs.Steps.{Atom, set_next}
use Rattle.kat_model.specs.Pairs.{SetPair}
use Rattle.test_diagrams.specs.Functions.{DiagramsParts, value_of, IsDiagramId, IsAtomOf}
use Rattle.walk_pairs.specs.IdSets.{IsIdSet}
use Rattle.walk_regions.specs.Allowance.{IsWithin}
use Rattle.walk_regions.specs.Entries.{EntryParts}
use Rattle.walk_regions.specs.declared.entry.StepOrigin.{StepOrigin}
use Rattle.walk_regions.specs.declared.parts.Part.{Part}
use Rattle.walk_under.specs.TestedWalks.{TestedOrigin, TestedEntry}

abbrev pub origin_of : DiagramsParts → StepOrigin → TestedOrigin
origin_of d o = record { place = o.place; act = o.act; region = value_of d o.region }

abbrev pub pair_of : NodeParts → EntryParts → SetPair
pair_of store e = record { left = terms_of store e.left; right = terms_of store e.right }

abbrev pub entry_of : NodeParts → DiagramsParts → EntryParts → TestedEntry
entry_of store d e = record { pair = pair_of store e; test = value_of d e.test; level = e.level; origin = option_map (origin_of d) e.origin }

abbrev pub entries_of : NodeParts → DiagramsParts → List EntryParts → List TestedEntry
entries_of store d es = map (entry_of store d) es

-- the sets of the entry are sets of ids, its diagrams are ids, and its test is true only at allowed atoms
pub record IsIdEntry (store : NodeParts) (d : DiagramsParts) (allowed : ℕ) (e : EntryParts) : Type 0 where
  pub left : IsIdSet store d.tests e.left
  pub right : IsIdSet store d.tests e.right
  pub test : IsDiagramId d e.test
  pub within : IsWithin d e.test allowed
  pub region : (o : StepOrigin) → e.origin ≡ Some o → IsDiagramId d o.region

-- the part lies within the whole, and from each of its atoms the action leads from the entry's sets to the part's terms
pub record IsNextPart (store : NodeParts) (d : DiagramsParts) (from : EntryParts) (whole act : ℕ) (p : Part) : Type 0 where
  pub region : IsDiagramId d p.region
  pub within : IsWithin d p.region whole
  pub left_set : IsIdSet store d.tests p.left.items
  pub right_set : IsIdSet store d.tests p.right.items
  pub lefts : (atom : Atom) → IsAtomOf d atom → IsTrue (value_of d p.region atom) → SameMembers (set_next (terms_of store from.left) atom act) (terms_of store p.left.items)
  pub rights : (atom : Atom) → IsAtomOf d atom → IsTrue (value_of d p.region atom) → SameMembers (set_next (terms_of store from.right) atom act) (terms_of store p.right.items)
