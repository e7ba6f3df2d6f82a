use Rattle.walk_regions.proofs.ImageTables.{image_noted}
use Rattle.walk_regions.proofs.bars.Bars.note_image.Goals as goal

pub returns-clause-images : goal.returns-clause-images
returns-clause-images c d all region own =
    image_noted d c.args.self.now.bars.items c.args.self.now.images.entries c.insert.new.self.entries (record { region = c.args.region; count = c.args.count }) c.args.id c.in_ok-insert.ensures.entries all region own
