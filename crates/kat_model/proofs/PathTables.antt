-- If no hypothesis relates two states of a frame, sides of a problem that are the same in each table relate the same
-- states of the frame: the positions of a path are the states of a table.
use Rattle.std.proofs.Common.{◌≡◌, ℕ, zero, suc, ◌+◌, ◌<◌, ◌≤◌, inl, inr, ⊎_elim, ◌↔◌, List, [], ◌∷◌, length, map, refl, sym, ap, ◌∙◌, subst, arith}
use Rattle.std.specs.Bool.{IsTrue}
use Rattle.std.proofs.lemmas.List.{length-map}
use Rattle.kat_model.specs.Members.{Has}
use Rattle.kat_model.specs.Trees.{Term, zero as nought, one, test, act, sum, product, star}
use Rattle.kat_model.specs.Steps.{truth}
use Rattle.kat_model.specs.Problems.{ProblemParts}
use Rattle.kat_model.specs.Relations.{Frame, Along, RelatesIn, Step, Table, atom_at, IsTable, frame_of, Relates, Keeps, Same}
use Rattle.kat_model.specs.Strings.{accepts, Hop, IsPath, spelled}
use Rattle.kat_model.proofs.Paths.{relates_spelled, spelled_relates}

-- ---- maps of states

along_mapped : {S T : Type 0} (f : S → T) (IsS : S → Type 0) (IsT : T → Type 0) (Q : S → S → Type 0) (R : T → T → Type 0) →
    ((i : S) → IsS i → IsT (f i)) → ((i j : S) → IsS i → IsS j → Q i j → R (f i) (f j)) →
    (ks : List S) (i j : S) → IsS i → Along IsS Q i ks j → Along IsT R (f i) (map f ks) (f j)
along_mapped f IsS IsT Q R states each [] i j si h = ap f h
along_mapped f IsS IsT Q R states each (k ∷ ks) i j si h =
    (states k h.0, each i k si h.0 h.1, along_mapped f IsS IsT Q R states each ks k j h.0 h.2)

-- if a term relates two states in one frame, it relates their images in another frame
module _ {S T : Type 0} (first : Frame S) (second : Frame T) (f : S → T)
    (states : (i : S) → first.IsState i → second.IsState (f i))
    (atoms : (i : S) → first.IsState i → first.atom i ≡ second.atom (f i))
    (acting : (a : ℕ) (i j : S) → first.Acts a i j → second.Acts a (f i) (f j)) where
  mapped_relates : (e : Term) (i j : S) → first.IsState i → first.IsState j → RelatesIn first e i j → RelatesIn second e (f i) (f j)
  mapped_relates nought i j si sj r = absurd r
  mapped_relates one i j si sj r = ap f r
  mapped_relates (test b) i j si sj r = (ap f r.0, subst (λ a. IsTrue (truth b a)) (atoms i si) r.1)
  mapped_relates (act a) i j si sj r = acting a i j r
  mapped_relates (sum d e) i j si sj r = ⊎_elim (λ p. inl (mapped_relates d i j si sj p)) (λ q. inr (mapped_relates e i j si sj q)) r
  mapped_relates (product d e) i j si sj r = (f r.0, states r.0 r.1, mapped_relates d i r.0 si r.1 r.2, mapped_relates e r.0 j r.1 sj r.3)
  mapped_relates (star e) i j si sj r =
      (map f r.0, along_mapped f first.IsState second.IsState (RelatesIn first e) (RelatesIn second e) states (λ k l sk sl h. mapped_relates e k l sk sl h) r.0 i j si r.1)

-- ---- the positions of a path

-- the state at a position of the path from i
abbrev state_at : {S : Type 0} → S → List (Hop S) → ℕ → S
state_at i hops zero = i
state_at i [] (suc k) = i
state_at i (h ∷ hops) (suc k) = state_at h.to hops k

-- the moves from position k on
abbrev moves_from : {S : Type 0} → ℕ → List (Hop S) → List Step
moves_from k [] = []
moves_from k (h ∷ hops) = record { from = k; act = h.act; to = suc k } ∷ moves_from (suc k) hops

-- the path over positions, from position k on
abbrev numbered_from : {S : Type 0} → ℕ → List (Hop S) → List (Hop ℕ)
numbered_from k [] = []
numbered_from k (h ∷ hops) = record { act = h.act; to = suc k } ∷ numbered_from (suc k) hops

abbrev path_table : {S : Type 0} → Frame S → S → List (Hop S) → Table
path_table frame i hops = record { states = suc (length hops); truths = frame.atom i ∷ map (λ h. frame.atom h.to) hops; moves = moves_from 0 hops }

-- a move leads from a position to the next, by the action that the path takes there
record IsMoveAlong {S : Type 0} (frame : Frame S) (k : ℕ) (i : S) (hops : List (Hop S)) (m : Step) : Type 0 where
  position : ℕ
  within : position < length hops
  from : m.from ≡ k + position
  to : m.to ≡ suc (k + position)
  acts : frame.Acts m.act (state_at i hops position) (state_at i hops (suc position))

module _ {S : Type 0} (frame : Frame S) where
  -- the state at the last position is the last state
  state_at_end : (i j : S) (hops : List (Hop S)) → IsPath frame i hops j → state_at i hops (length hops) ≡ j
  state_at_end i j [] p = p
  state_at_end i j (h ∷ hops) p = state_at_end h.to j hops p.2

  -- the state at each position is a state of the frame, and its truth values are those of the table
  is_state_at : (i j : S) (hops : List (Hop S)) (k : ℕ) → frame.IsState i → IsPath frame i hops j → frame.IsState (state_at i hops k)
  is_state_at i j hops zero s p = s
  is_state_at i j [] (suc k) s p = s
  is_state_at i j (h ∷ hops) (suc k) s p = is_state_at h.to j hops k p.0 p.2

  atom_at_path : (i : S) (hops : List (Hop S)) (k : ℕ) → k ≤ length hops → atom_at (path_table frame i hops) k ≡ frame.atom (state_at i hops k)
  atom_at_path i hops zero le = refl
  atom_at_path i [] (suc k) le = absurd (omega arith)
  atom_at_path i (h ∷ hops) (suc k) le = atom_at_path h.to hops k (omega arith)

  -- the moves of the table lead along the path
  moves_along : (k : ℕ) (i j : S) (hops : List (Hop S)) (m : Step) → IsPath frame i hops j → Has (moves_from k hops) m → IsMoveAlong frame k i hops m
  moves_along k i j [] m p h = absurd h
  moves_along k i j (x ∷ hops) m p (inl e) =
      record {
        position = 0;
        within = omega arith;
        from = sym (ap (λ (s : Step). s.from) e) ∙ omega arith;
        to = sym (ap (λ (s : Step). s.to) e) ∙ omega arith;
        acts = subst (λ a. frame.Acts a i x.to) (ap (λ (s : Step). s.act) e) p.1;
      }
  moves_along k i j (x ∷ hops) m p (inr h) =
      let later = moves_along (suc k) x.to j hops m p.2 h in
      record {
        position = suc later.position;
        within = omega (arith, later.within);
        from = later.from ∙ omega arith;
        to = later.to ∙ omega arith;
        acts = later.acts;
      }

  -- the positions from k on are a path of any table that has the moves from there
  numbered_is_path : (t : Table) (k : ℕ) (hops : List (Hop S)) → k + length hops < t.states → ((m : Step) → Has (moves_from k hops) m → Has t.moves m) →
      IsPath (frame_of t) k (numbered_from k hops) (k + length hops)
  numbered_is_path t k [] lt has = omega arith
  numbered_is_path t k (h ∷ hops) lt has =
      let next : suc k + length hops ≡ k + length (h ∷ hops) = omega arith in
      let rest = numbered_is_path t (suc k) hops (omega arith) (λ m l. has m (inr l)) in
      (omega arith, has (record { from = k; act = h.act; to = suc k }) (inl refl), subst (λ n. IsPath (frame_of t) (suc k) (numbered_from (suc k) hops) n) next rest)

  -- it spells the same string as the path, if the truth values are equal
  numbered_spelled : (t : Table) (k : ℕ) (i : S) (hops : List (Hop S)) → ((d : ℕ) → d ≤ length hops → atom_at t (k + d) ≡ frame.atom (state_at i hops d)) →
      spelled (frame_of t) (numbered_from k hops) ≡ spelled frame hops
  numbered_spelled t k i [] truths = refl
  numbered_spelled t k i (h ∷ hops) truths =
      let first : atom_at t (suc k) ≡ frame.atom h.to = ap (atom_at t) (omega arith) ∙ truths 1 (omega arith) in
      let rest = numbered_spelled t (suc k) h.to hops (λ d le. ap (atom_at t) (omega arith) ∙ truths (suc d) (omega arith)) in
      rw (first, rest) refl

  -- a term that accepts the string of a path relates the ends of its table
  ends_related : (e : Term) (i : S) (hops : List (Hop S)) → IsTrue (accepts e (frame.atom i) (spelled frame hops)) → Relates (path_table frame i hops) e 0 (length hops)
  ends_related e i hops h =
      let t = path_table frame i hops in
      let spells = numbered_spelled t 0 i hops (λ d le. ap (atom_at t) (omega arith) ∙ atom_at_path i hops d le) in
      let path = numbered_is_path t 0 hops (omega arith) (λ m has. has) in
      let last : 0 + length hops ≡ length hops = omega arith in
      let ends = subst (λ n. IsPath (frame_of t) 0 (numbered_from 0 hops) n) last path in
      spelled_relates (frame_of t) e 0 (length hops) (numbered_from 0 hops) (omega arith) ends (rw spells h)

  -- if a term relates two positions, it relates their states
  positions_related : (e : Term) (i j : S) (hops : List (Hop S)) → frame.IsState i → IsPath frame i hops j → (k l : ℕ) → k < suc (length hops) → l < suc (length hops) →
      Relates (path_table frame i hops) e k l → RelatesIn frame e (state_at i hops k) (state_at i hops l)
  positions_related e i j hops s p =
      mapped_relates (frame_of (path_table frame i hops)) frame (state_at i hops) (λ k lt. is_state_at i j hops k s p) (λ k lt. atom_at_path i hops k (omega arith)) acting e
    where
      acting : (a k l : ℕ) → Has (moves_from 0 hops) (record { from = k; act = a; to = l }) → frame.Acts a (state_at i hops k) (state_at i hops l)
      acting a k l h =
          let m = moves_along 0 i j hops (record { from = k; act = a; to = l }) p h in
          let from : k ≡ m.position = omega (arith, m.from) in
          let to : l ≡ suc m.position = omega (arith, m.to) in
          subst (λ n. frame.Acts a (state_at i hops n) (state_at i hops l)) (sym from) (subst (λ n. frame.Acts a (state_at i hops m.position) (state_at i hops n)) (sym to) m.acts)

-- ---- problems in frames

-- the frame has the tests and actions of the problem, and satisfies its hypotheses
pub record FitsProblem {S : Type 0} (frame : Frame S) (q : ProblemParts) : Type 0 where
  pub wide : (s : S) → frame.IsState s → length (frame.atom s) ≡ q.tests
  pub acts : (a : ℕ) (s t : S) → frame.Acts a s t → a < q.actions
  pub keeps : (h : Term) → Has q.hyps h → (s t : S) → frame.IsState s → frame.IsState t → RelatesIn frame h s t → ⊥

module _ {S : Type 0} (frame : Frame S) (q : ProblemParts) (fits : FitsProblem frame q) where
  -- the table of a path is a table of the problem, and satisfies its hypotheses
  path_is_table : (i j : S) (hops : List (Hop S)) → frame.IsState i → IsPath frame i hops j → IsTable q.tests q.actions (path_table frame i hops)
  path_is_table i j hops s p =
      record {
        rows = ap suc (length-map hops (λ h. frame.atom h.to));
        wide = λ k lt. ap length (atom_at_path frame i hops k (omega arith)) ∙ fits.wide (state_at i hops k) (is_state_at frame i j hops k s p);
        moves = moves;
      }
    where
      moves : (m : Step) → Has (moves_from 0 hops) m → (m.from < suc (length hops)) × (m.act < q.actions) × (m.to < suc (length hops))
      moves m h =
          let a = moves_along frame 0 i j hops m p h in
          (omega (arith, a.from, a.within), fits.acts m.act _ _ a.acts, omega (arith, a.to, a.within))

  path_keeps : (i j : S) (hops : List (Hop S)) → frame.IsState i → IsPath frame i hops j → Keeps (path_table frame i hops) q.hyps
  path_keeps i j hops s p h has k l lt_k lt_l r =
      fits.keeps h has (state_at i hops k) (state_at i hops l) (is_state_at frame i j hops k s p) (is_state_at frame i j hops l s p)
      (positions_related frame h i j hops s p k l lt_k lt_l r)

  -- if the second term includes the first in each table that satisfies the hypotheses, it includes it in the frame
  relates_as_in_tables : (d e : Term) → ((t : Table) → IsTable q.tests q.actions t → Keeps t q.hyps → (k l : ℕ) → k < t.states → l < t.states → Relates t d k l → Relates t e k l) →
      (s t : S) → frame.IsState s → frame.IsState t → RelatesIn frame d s t → RelatesIn frame e s t
  relates_as_in_tables d e each s t ss st r =
      let x = relates_spelled frame d s t ss st r in
      let table = path_table frame s x.0 in
      let other = each table (path_is_table s t x.0 ss x.1) (path_keeps s t x.0 ss x.1) 0 (length x.0) (omega arith) (omega arith) (ends_related frame d s x.0 x.2) in
      subst (λ u. RelatesIn frame e s u) (state_at_end frame s t x.0 x.1)
      (positions_related frame e s t x.0 ss x.1 0 (length x.0) (omega arith) (omega arith) other)

  pub same_in_frame : Same q → (s t : S) → frame.IsState s → frame.IsState t → RelatesIn frame q.left s t ↔ RelatesIn frame q.right s t
  same_in_frame same s t ss st = (
    relates_as_in_tables q.left q.right (λ u is keeps k l lt_k lt_l. (same u is keeps k l lt_k lt_l).0) s t ss st,
    relates_as_in_tables q.right q.left (λ u is keeps k l lt_k lt_l. (same u is keeps k l lt_k lt_l).1) s t ss st,
  )
