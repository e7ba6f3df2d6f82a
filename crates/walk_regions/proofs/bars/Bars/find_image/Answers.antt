use Rattle.std.proofs.Common.{◌≡◌, ℕ, Option, Some, None, List, IfSome, take, sym, ◌∙◌}
use Rattle.std.specs.Map.{lookup}
use Rattle.test_diagrams.specs.Functions.{DiagramsParts}
use Rattle.walk_regions.specs.declared.bars.Bar.{Bar}
use Rattle.walk_regions.specs.declared.bars.ImageKey.{ImageKey}
use Rattle.walk_regions.specs.Bars.{IsImageOf, AreImages, same_key}
use Rattle.walk_regions.proofs.ImageTables.{image_found}
use Rattle.walk_regions.proofs.bars.Bars.find_image.Goals as goal

found : (bars : List Bar) (images : List (ImageKey × ℕ)) (key : ImageKey) (o : Option ℕ) → o ≡ lookup (same_key key) images → IfSome o (λ id. (d : DiagramsParts) → AreImages d bars images → IsImageOf d (take key.count bars) key.region id)
found bars images key None e = tt
found bars images key (Some id) e = λ d all. image_found d bars images key id (sym e) all

pub returns : goal.returns
returns c = found c.args.self.now.bars.items c.args.self.now.images.entries (record { region = c.args.region; count = c.args.count }) c.copied.result (c.copied.ensures ∙ c.get.ensures.value)
