-- The atoms and moves that are possible if the short hypotheses are zero. They are defined for every list of hypotheses
-- that count as short; with the empty list, all atoms and moves are allowed.
use Rattle.std.specs.Prelude.{◌≡◌, ◌<◌, ℕ, false, List, [], ◌∷◌}
use Rattle.kat_model.specs.Trees.{Term}
use Rattle.kat_model.specs.Steps.{Atom, set_out}
use Rattle.kat_model.specs.Members.{Has}
use Rattle.kat_model.specs.Relations.{Step, Table, atom_at}
use Rattle.kat_model.specs.Strings.{Move, set_accepts}

-- no short hypothesis accepts the atom
abbrev pub IsAllowedAtom : List Term → Atom → Type 0
IsAllowedAtom shorts atom = set_out shorts atom ≡ false

-- both atoms are allowed, and no short hypothesis accepts the string of the move
pub record IsAllowedMove (shorts : List Term) (atom : Atom) (m : Move) : Type 0 where
  pub from : IsAllowedAtom shorts atom
  pub to : IsAllowedAtom shorts m.atom
  pub move : set_accepts shorts atom (m ∷ []) ≡ false

-- each atom and each move of the string is allowed
abbrev pub AreAllowed : List Term → Atom → List Move → Type 0
AreAllowed shorts atom [] = IsAllowedAtom shorts atom
AreAllowed shorts atom (m ∷ ms) = IsAllowedMove shorts atom m × AreAllowed shorts m.atom ms

-- each atom and each move of the table is allowed
pub record HasAllowedMoves (shorts : List Term) (t : Table) : Type 0 where
  pub atoms : (i : ℕ) → i < t.states → IsAllowedAtom shorts (atom_at t i)
  pub moves : (m : Step) → Has t.moves m → m.from < t.states → m.to < t.states
      → IsAllowedMove shorts (atom_at t m.from) (record { act = m.act; atom = atom_at t m.to })
