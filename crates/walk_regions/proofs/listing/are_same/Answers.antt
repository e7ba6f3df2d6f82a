use Rattle.std.proofs.lemmas.Bool.{both_ways, false≢true}
use Rattle.std.proofs.lemmas.Bool.Decides.{Decides-eqb}
use Rattle.std.proofs.lemmas.Slice.Eq.{slice_eq-Decides}
use Rattle.walk_regions.proofs.listing.are_same.Goals as goal

pub returns-then-not-end_alike : goal.returns-then-not-end_alike
returns-then-not-end_alike c = ((λ h. absurd (false≢true h)), (λ e. absurd (both_ways c.end_alike.result c.if-not-end_alike.true (c.end_alike.ensures e))))

pub returns : goal.returns
returns c = slice_eq-Decides Decides-eqb _ _ _ c.eq.ensures
