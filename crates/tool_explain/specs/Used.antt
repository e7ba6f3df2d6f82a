-- The hypotheses that a certificate uses: it is accepted for the question with those alone.
use Rattle.std.specs.Prelude.{List, [], ◌∷◌, Bool, true, false}
use Rattle.kat_model.specs.Problems.{ProblemParts}
use Rattle.kat_model.specs.Degrees.{with_hyps}

-- the members of a list at the marked places
abbrev pub marked : {X : Type 0} → List Bool → List X → List X
marked [] xs = []
marked (mark ∷ marks) [] = []
marked (true ∷ marks) (x ∷ xs) = x ∷ marked marks xs
marked (false ∷ marks) (x ∷ xs) = marked marks xs

-- the question with the marked hypotheses alone
abbrev pub with_marked : ProblemParts → List Bool → ProblemParts
with_marked q marks = with_hyps q (marked marks q.hyps)
