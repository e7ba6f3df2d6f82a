-- A table that keeps hypotheses has only allowed moves, and such a table keeps the short hypotheses.
use Rattle.std.proofs.Common.{◌≡◌, ℕ, ◌<◌, List, [], ◌∷◌, refl, false}
use Rattle.std.specs.Bool.{IsTrue}
use Rattle.std.proofs.lemmas.Bool.{false_from_ne_true}
use Rattle.std.proofs.lemmas.List.{append-nil}
use Rattle.kat_model.specs.Trees.{Term}
use Rattle.kat_model.specs.Members.{Has}
use Rattle.kat_model.specs.Relations.{Step, Table, atom_at, frame_of, Keeps}
use Rattle.kat_model.specs.Strings.{set_accepts, Hop, IsPath, spelled}
use Rattle.kat_model.specs.Degrees.{is_short}
use Rattle.kat_model.specs.AllowedMoves.{IsAllowedAtom, IsAllowedMove, AreAllowed, HasAllowedMoves}
use Rattle.kat_model.proofs.Acceptance.{has_set_accepts}
use Rattle.kat_model.proofs.Paths.{spelled_relates, relates_spelled}
use Rattle.kat_model.proofs.DegreeBounds.{accepts_at_most}
use Rattle.kat_model.proofs.AllowedStrings.{allowed_refuse}

module _ (t : Table) (hyps : List Term) (keeps : Keeps t hyps) where
  -- no hypothesis accepts what a path spells
  kept_refuse : (i : ℕ) (hops : List (Hop ℕ)) (j : ℕ) → i < t.states → j < t.states → IsPath (frame_of t) i hops j → set_accepts hyps (atom_at t i) (spelled (frame_of t) hops) ≡ false
  kept_refuse i hops j li lj path =
      false_from_ne_true _ (λ h.
      let r = has_set_accepts hyps (atom_at t i) (spelled (frame_of t) hops) h in
      keeps r.0 r.1 i j li lj (spelled_relates (frame_of t) r.0 i j hops li path r.2))

  pub kept_allowed : HasAllowedMoves hyps t
  kept_allowed = record { atoms = atoms; moves = moves }
    where
      atoms : (i : ℕ) → i < t.states → IsAllowedAtom hyps (atom_at t i)
      atoms i li = kept_refuse i [] i li li refl

      moves : (m : Step) → Has t.moves m → m.from < t.states → m.to < t.states → IsAllowedMove hyps (atom_at t m.from) (record { act = m.act; atom = atom_at t m.to })
      moves m h lf lt = record { from = atoms m.from lf; to = atoms m.to lt; move = kept_refuse m.from (record { act = m.act; to = m.to } ∷ []) m.to lf lt (lt, h, refl) }

module _ (t : Table) (shorts : List Term) (allowed : HasAllowedMoves shorts t) where
  -- the paths of the table spell only allowed strings
  pub spelled_allowed : (i : ℕ) (hops : List (Hop ℕ)) (j : ℕ) → i < t.states → IsPath (frame_of t) i hops j → AreAllowed shorts (atom_at t i) (spelled (frame_of t) hops)
  spelled_allowed i [] j li path = allowed.atoms i li
  spelled_allowed i (hop ∷ hops) j li path =
      (allowed.moves (record { from = i; act = hop.act; to = hop.to }) path.1 li path.0, spelled_allowed hop.to hops j path.0 path.2)

  -- so the table keeps the hypotheses if they are short
  pub allowed_keeps : ((h : Term) → Has shorts h → IsTrue (is_short h)) → Keeps t shorts
  allowed_keeps are_short h has i j li lj r =
      let s = relates_spelled (frame_of t) h i j li lj r in
      let ms = spelled (frame_of t) s.0 in
      allowed_refuse shorts h (atom_at t i) ms [] has (accepts_at_most 1 h (atom_at t i) ms (are_short h has) s.2) (rw (append-nil ms) (spelled_allowed i s.0 j li s.1)) s.2
