use Rattle.kat_model.specs.Relations.{frame_of}
use Rattle.kat_model.proofs.Paths.{spelled_relates, relates_spelled}
use Rattle.kat_model.proofs.laws.relates_by_spelling.Goals as goal

pub returns : goal.returns
returns c t e i j si sj = (
  (λ r. let h = relates_spelled (frame_of t) e i j si sj r in record { hops = h.0; path = h.1; accepted = h.2 }),
  (λ h. spelled_relates (frame_of t) e i j h.hops si h.path h.accepted),
)
