use Rattle.walk_up_to.proofs.WalkSteps.{walk_starts, walk_lists, walk_goes_on}
use Rattle.walk_up_to.proofs.laws.walk_goes_on.Goals as goal

pub returns : goal.returns
returns c q = record {
  starts = walk_starts q;
  lists = λ es done from p o walk here at next fresh. walk_lists q es done walk from here p o at next fresh;
  processes = λ es done e walk here settled. walk_goes_on q es done walk e here settled;
}
