-- The strings that break a hypothesis: those with an atom or a move that it accepts.
use Rattle.std.specs.Prelude.{◌⊎◌, List, [], ◌∷◌, IsTrue}
use Rattle.kat_model.specs.Trees.{Term}
use Rattle.kat_model.specs.Steps.{Atom, out}
use Rattle.kat_model.specs.Strings.{Move, accepts}

-- the hypothesis accepts an atom of the string, or one of its moves
abbrev pub IsBrokenBy : Term → Atom → List Move → Type 0
IsBrokenBy h atom [] = IsTrue (out h atom)
IsBrokenBy h atom (m ∷ ms) = IsTrue (out h atom) ⊎ (IsTrue (accepts h atom (m ∷ [])) ⊎ IsBrokenBy h m.atom ms)
