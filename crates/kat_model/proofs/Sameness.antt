-- Terms that accept the same allowed strings relate the same states of a table with only allowed moves. If the closed
-- sides of a problem relate the same states, so do the sides, in every table that keeps the hypotheses.
use Rattle.std.proofs.Common.{◌≡◌, ℕ, ◌<◌, ◌↔◌, inl, ⊎_elim, List, [], ◌∷◌, map, length, sym, ◌∙◌, subst}
use Rattle.kat_model.specs.Trees.{Term}
use Rattle.kat_model.specs.Balanced.{sum_of}
use Rattle.kat_model.specs.Problems.{ProblemParts}
use Rattle.kat_model.specs.Steps.{Atom}
use Rattle.kat_model.specs.Relations.{Table, IsTable, atom_at, frame_of, Relates, Keeps, Same}
use Rattle.kat_model.specs.Strings.{Move, AreMoves, accepts, Hop, IsPath, spelled}
use Rattle.kat_model.specs.Closed.{universal_of, inside, closed_under, closed}
use Rattle.kat_model.specs.Pairs.{SetPair, Style, AreAccepted}
use Rattle.kat_model.specs.Degrees.{with_hyps, AreSplit}
use Rattle.kat_model.specs.AllowedMoves.{AreAllowed, HasAllowedMoves}
use Rattle.kat_model.specs.TestedPairs.{TestedPair, everywhere, AreAcceptedUnder}
use Rattle.kat_model.proofs.BalancedSums.{relates_sum_of}
use Rattle.kat_model.proofs.Paths.{spelled_relates, relates_spelled}
use Rattle.kat_model.proofs.PairsUnderTests.{accepted_tested}
use Rattle.kat_model.proofs.AllowedPaths.{kept_allowed, spelled_allowed}
use Rattle.kat_model.proofs.Splits.{split_all_long, split_keeps}
use Rattle.kat_model.proofs.Soundness.{accepted_agree}

-- the terms accept the same allowed strings over these numbers of tests and actions
abbrev pub AcceptAlike : List Term → ℕ → ℕ → Term → Term → Type 0
AcceptAlike shorts tests actions e f = (atom : Atom) (ms : List Move) → length atom ≡ tests → AreMoves tests actions ms → AreAllowed shorts atom ms → accepts e atom ms ≡ accepts f atom ms

module _ (tests actions : ℕ) (t : Table) (is_table : IsTable tests actions t) where
  -- a path of a table spells actions and atoms in range
  pub spelled_moves : (i : ℕ) (hops : List (Hop ℕ)) (j : ℕ) → IsPath (frame_of t) i hops j → AreMoves tests actions (spelled (frame_of t) hops)
  spelled_moves i [] j path m h = absurd h
  spelled_moves i (hop ∷ hops) j path m h =
      ⊎_elim
      (λ e. subst (λ n. (n.act < actions) × (length n.atom ≡ tests)) e ((is_table.moves _ path.1).1, is_table.wide hop.to path.0))
      (spelled_moves hop.to hops j path.2 m)
      h

  module _ (shorts : List Term) (allowed : HasAllowedMoves shorts t) where
    -- if two terms accept the same strings, what the first relates, the second relates
    alike_leads : (e f : Term) (i j : ℕ) → i < t.states → j < t.states → AcceptAlike shorts tests actions e f → Relates t e i j → Relates t f i j
    alike_leads e f i j li lj alike r =
        let h = relates_spelled (frame_of t) e i j li lj r in
        let same = alike (atom_at t i) (spelled (frame_of t) h.0) (is_table.wide i li) (spelled_moves i h.0 j h.1) (spelled_allowed t shorts allowed i h.0 j li h.1) in
        spelled_relates (frame_of t) f i j h.0 li h.1 (sym same ∙ h.2)

    pub alike_relates : (e f : Term) (i j : ℕ) → i < t.states → j < t.states → AcceptAlike shorts tests actions e f → Relates t e i j ↔ Relates t f i j
    alike_relates e f i j li lj alike = (alike_leads e f i j li lj alike, alike_leads f e i j li lj (λ atom ms wide are all. sym (alike atom ms wide are all)))

-- a hypothesis between two other terms relates nothing in a table that keeps the hypotheses
pub inside_relates_none : (t : Table) (hyps : List Term) (u : Term) (i j : ℕ) → Keeps t hyps → Relates t (inside u (sum_of hyps)) i j → ⊥
inside_relates_none t hyps u i j keeps r =
    let s = relates_sum_of (frame_of t) r.0 r.3.0 hyps r.3.2 in
    keeps s.0 s.1 r.0 r.3.0 r.1 r.3.1 s.2

-- so in such a table the sides relate the same states if the closed sides do
pub closed_relates : (actions : ℕ) (hyps : List Term) (left right : Term) (t : Table) (i j : ℕ) → Keeps t hyps → Relates t (closed_under actions hyps left right).left i j ↔ Relates t (closed_under actions hyps left right).right i j → Relates t left i j ↔ Relates t right i j
closed_relates actions [] left right t i j keeps s = s
closed_relates actions (h ∷ hs) left right t i j keeps s =
    let none = inside_relates_none t (h ∷ hs) (universal_of actions) i j keeps in (
      (λ r. ⊎_elim (λ p. p) (λ q. absurd (none q)) (s.0 (inl r))),
      (λ r. ⊎_elim (λ p. p) (λ q. absurd (none q)) (s.1 (inl r))),
    )

-- accepted pairs under tests show that both sides are the same, whichever hypotheses count as short
pub accepted_under_same : (q : ProblemParts) (shorts longs : List Term) (pairs : List TestedPair) → AreSplit q.hyps shorts longs → AreAcceptedUnder shorts (with_hyps q longs) pairs → Same q
accepted_under_same q shorts longs pairs split acc t is_table keeps i j li lj =
    let kept = (split_keeps q.hyps shorts longs split t).0 keeps in
    let sides = closed (with_hyps q longs) in
    closed_relates q.actions longs q.left q.right t i j kept.1
    (alike_relates q.tests q.actions t is_table shorts (kept_allowed t shorts kept.0) sides.left sides.right i j li lj (accepted_agree shorts (with_hyps q longs) pairs acc))

-- and so do accepted pairs without tests, of either style
pub accepted_same : (style : Style) (q : ProblemParts) (pairs : List SetPair) → AreAccepted style q pairs → Same q
accepted_same style q pairs acc =
    accepted_under_same q [] q.hyps (map everywhere pairs) (split_all_long q.hyps) (accepted_tested style q pairs acc)
