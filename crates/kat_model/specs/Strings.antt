-- Guarded strings (Kaplan 1969; Kozen and Smith 1996), the terms that accept them, and the paths of a frame that spell
-- them.
use Rattle.std.specs.Prelude.{◌≡◌, ◌<◌, ℕ, Bool, List, [], ◌∷◌, length}
use Rattle.std.specs.List.{list_any}
use Rattle.kat_model.specs.Members.{Has}
use Rattle.kat_model.specs.Trees.{Term}
use Rattle.kat_model.specs.Steps.{Atom, out, next}
use Rattle.kat_model.specs.Relations.{Frame}

-- an action, and the atom after it
pub record Move : Type 0 where
  pub act : ℕ
  pub atom : Atom

-- a first atom, and moves
pub record GuardedString : Type 0 where
  pub first : Atom
  pub rest : List Move

-- the last atom of the string from this atom on
abbrev pub last_atom : Atom → List Move → Atom
last_atom atom [] = atom
last_atom atom (m ∷ ms) = last_atom m.atom ms

-- each action is below the number of actions, and each atom assigns exactly the tests
abbrev pub AreMoves : ℕ → ℕ → List Move → Type 0
AreMoves tests actions ms = (m : Move) → Has ms m → (m.act < actions) × (length m.atom ≡ tests)

-- each atom of the string assigns exactly the tests, and each action is below the number of actions
pub record IsString (tests actions : ℕ) (x : GuardedString) : Type 0 where
  pub first : length x.first ≡ tests
  pub rest : AreMoves tests actions x.rest

-- whether a term accepts the string of an atom and moves
abbrev pub accepts : Term → Atom → List Move → Bool
accepts e atom [] = out e atom
accepts e atom (m ∷ ms) = list_any (λ f. accepts f m.atom ms) (next e atom m.act)

-- a set of terms accepts a string if some member does
abbrev pub set_accepts : List Term → Atom → List Move → Bool
set_accepts es atom ms = list_any (λ e. accepts e atom ms) es

-- one step of a path: an action, and the state that it leads to
pub record Hop (S : Type 0) : Type 0 where
  pub act : ℕ
  pub to : S

-- the hops lead from i to j
abbrev pub IsPath : {S : Type 0} → Frame S → S → List (Hop S) → S → Type 0
IsPath frame i [] j = i ≡ j
IsPath frame i (h ∷ hs) j = frame.IsState h.to × frame.Acts h.act i h.to × IsPath frame h.to hs j

-- the moves of the string that a path spells
abbrev pub spelled : {S : Type 0} → Frame S → List (Hop S) → List Move
spelled frame [] = []
spelled frame (h ∷ hs) = record { act = h.act; atom = frame.atom h.to } ∷ spelled frame hs
