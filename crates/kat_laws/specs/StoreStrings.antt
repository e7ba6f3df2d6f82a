-- Strings that runs on stores spell.
use Rattle.std.specs.Prelude.{◌≡◌, List, true, false}
use Rattle.kat_model.specs.Expressions.{CondTree}
use Rattle.kat_model.specs.Stores.{Store, holds}
use Rattle.kat_model.specs.Strings.{GuardedString, Hop, IsPath, spelled}
use Rattle.while_lang.specs.Programs.{ProgTree}
use Rattle.while_lang.specs.Runs.{Ends}
use Rattle.while_lang.specs.Files.{FileParts}
use Rattle.while_lang.specs.Concrete.{IsStoreOf}
use Rattle.abstraction.specs.Abstracts.{AbstractParts}
use Rattle.abstraction.specs.StoreFrames.{store_frame}

-- a path of stores of the file from the first store to the last spells the string: at each position the atom has the
-- truth of the comparisons in the store there, and each move is an assignment
pub record SpellsOnStores (f : FileParts) (a : AbstractParts) (x : GuardedString) (first last : Store) : Type 0 where
  pub start : IsStoreOf f first
  pub hops : List (Hop Store)
  pub path : IsPath (store_frame f a) first hops last
  pub atom : (store_frame f a).atom first ≡ x.first
  pub moves : spelled (store_frame f a) hops ≡ x.rest

-- the triple fails on these stores
pub record FailsOn (f : FileParts) (pre : CondTree) (p : ProgTree) (post : CondTree) (first last : Store) : Type 0 where
  pub starts : holds f.width first pre ≡ true
  pub ends : Ends f.width p first last
  pub fails : holds f.width last post ≡ false
