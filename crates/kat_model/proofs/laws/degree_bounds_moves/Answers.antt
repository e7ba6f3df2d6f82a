use Rattle.kat_model.proofs.DegreeBounds.{accepts_bounded, accepts_at_most, accepts_no_move}
use Rattle.kat_model.proofs.laws.degree_bounds_moves.Goals as goal

pub returns : goal.returns
returns c e atom ms = record { bounded = accepts_bounded e atom ms; few = accepts_at_most 1 e atom ms; none = accepts_no_move e atom ms }
