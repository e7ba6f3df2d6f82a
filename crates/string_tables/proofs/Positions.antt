-- The table of a string: the atom at a position, the moves between positions, and its paths, each of which
-- spells a part of the string.
use Rattle.std.proofs.Common.{◌≡◌, ℕ, zero, suc, ◌+◌, ◌<◌, ◌≤◌, inl, inr, ⊎_elim, List, [], ◌∷◌, ◌++◌, take, drop, map, length, refl, sym, ap, ◌∙◌, subst, arith, slice_index_or, length-drop, drop-cons}
use Rattle.std.proofs.lemmas.List.{take-append-drop}
use mathlib.Core.Path.{ap₂}
use Rattle.kat_model.specs.Members.{Has}
use Rattle.kat_model.specs.Relations.{Step, atom_at, frame_of}
use Rattle.kat_model.specs.Steps.{Atom}
use Rattle.kat_model.specs.Strings.{Move, GuardedString, last_atom, Hop, IsPath, spelled}
use Rattle.kat_model.proofs.Lists.{has_right}
use Rattle.string_tables.specs.Tables.{steps_from, table_of}

-- the step from a position to the next
abbrev pub step_at : ℕ → Move → Step
step_at k m = record { from = k; act = m.act; to = suc k }

-- the move after a position, and the moves after that move
abbrev pub IsMoveAt : List Move → ℕ → Move → List Move → Type 0
IsMoveAt ms i m after = drop i ms ≡ m ∷ after

none_past_end : (i : ℕ) (m : Move) (after : List Move) → IsMoveAt [] i m after → ⊥
none_past_end i m after h = omega (arith, ap length h, length-drop {A = Move})

pub within_length : (ms : List Move) (i : ℕ) (m : Move) (after : List Move) → IsMoveAt ms i m after → i < length ms
within_length ms i m after h = omega (arith, ap length h, length-drop {A = Move})

drop_after : (ms : List Move) (i : ℕ) (m : Move) (after : List Move) → IsMoveAt ms i m after → drop (suc i) ms ≡ after
drop_after ms i m after h = let e = drop-cons ms i m (within_length ms i m after h) in cc

pub has_at : (ms : List Move) (i : ℕ) (m : Move) (after : List Move) → IsMoveAt ms i m after → Has ms m
has_at ms i m after h =
    let parts = ap (λ l. take i ms ++ l) (sym h) ∙ take-append-drop i ms in
    subst (λ l. Has l m) parts (has_right (take i ms) (m ∷ after) m (inl refl))

-- the atom at a position

pub atom_at_position : (first : Atom) (ms : List Move) (i : ℕ) → i ≤ length ms → slice_index_or (first ∷ map (λ m. m.atom) ms) i [] ≡ last_atom first (take i ms)
atom_at_position first ms zero le = refl
atom_at_position first [] (suc i) le = absurd (omega arith)
atom_at_position first (m ∷ ms) (suc i) le = atom_at_position m.atom ms i (omega arith)

atom_after : (first : Atom) (ms : List Move) (i : ℕ) (m : Move) (after : List Move) → IsMoveAt ms i m after → slice_index_or (first ∷ map (λ n. n.atom) ms) (suc i) [] ≡ m.atom
atom_after first [] i m after h = absurd (none_past_end i m after h)
atom_after first (n ∷ ms) zero m after h = cc
atom_after first (n ∷ ms) (suc i) m after h = atom_after n.atom ms i m after h

-- the moves between positions

steps_from_has : (k : ℕ) (ms : List Move) (i : ℕ) (m : Move) (after : List Move) → IsMoveAt ms i m after → Has (steps_from k ms) (step_at (k + i) m)
steps_from_has k [] i m after h = absurd (none_past_end i m after h)
steps_from_has k (n ∷ ms) zero m after h = let e : k ≡ k + 0 = omega arith in let f : n ≡ m = cc in inl (ap₂ step_at e f)
steps_from_has k (n ∷ ms) (suc i) m after h =
    let e : suc k + i ≡ k + suc i = omega arith in
    inr (subst (λ j. Has (steps_from (suc k) ms) (step_at j m)) e (steps_from_has (suc k) ms i m after h))

-- the step is that from a position to the next
pub record IsStepAt (k : ℕ) (ms : List Move) (s : Step) : Type 0 where
  pub position : ℕ
  pub move : Move
  pub after : List Move
  pub place : IsMoveAt ms position move after
  pub is : step_at (k + position) move ≡ s

pub has_steps_from : (k : ℕ) (ms : List Move) (s : Step) → Has (steps_from k ms) s → IsStepAt k ms s
has_steps_from k [] s h = absurd h
has_steps_from k (m ∷ ms) s h = ⊎_elim first (λ q. later (has_steps_from (suc k) ms s q)) h
  where
    first : step_at k m ≡ s → IsStepAt k (m ∷ ms) s
    first e = let f : k + 0 ≡ k = omega arith in record { position = 0; move = m; after = ms; place = refl; is = ap (λ n. step_at n m) f ∙ e }

    later : IsStepAt (suc k) ms s → IsStepAt k (m ∷ ms) s
    later a =
        let f : k + suc a.position ≡ suc k + a.position = omega arith in
        record { position = suc a.position; move = a.move; after = a.after; place = a.place; is = ap (λ n. step_at n a.move) f ∙ a.is }

-- paths of the table

module _ (x : GuardedString) where
  -- a path from a position follows the moves after it
  pub record IsAlong (i : ℕ) (hops : List (Hop ℕ)) (j : ℕ) : Type 0 where
    pub after : List Move
    pub whole : drop i x.rest ≡ spelled (frame_of (table_of x)) hops ++ after
    pub end : j ≡ i + length (spelled (frame_of (table_of x)) hops)

  pub path_along : (i : ℕ) (hops : List (Hop ℕ)) (j : ℕ) → IsPath (frame_of (table_of x)) i hops j → IsAlong i hops j
  path_along i [] j p = record { after = drop i x.rest; whole = refl; end = omega (arith, p) }
  path_along i (h ∷ hops) j p =
      let s = has_steps_from 0 x.rest _ p.1 in
      let start : s.position ≡ i = omega (arith, ap (λ (r : Step). r.from) s.is) in
      let act : s.move.act ≡ h.act = ap (λ (r : Step). r.act) s.is in
      let to : suc i ≡ h.to = omega (arith, start, ap (λ (r : Step). r.to) s.is) in
      let place = subst (λ n. IsMoveAt x.rest n s.move s.after) start s.place in
      let atom = subst (λ n. atom_at (table_of x) n ≡ s.move.atom) to (atom_after x.first x.rest i s.move s.after place) in
      let move : s.move ≡ record { act = h.act; atom = atom_at (table_of x) h.to } = λ k. record { act = act k; atom = sym atom k } in
      let behind = subst (λ n. drop n x.rest ≡ s.after) to (drop_after x.rest i s.move s.after place) in
      let r = path_along h.to hops j p.2 in
      record { after = r.after; whole = place ∙ ap₂ (λ (m : Move) l. m ∷ l) move (sym behind ∙ r.whole); end = omega (arith, r.end, to) }

  -- and there is a path along each part of the moves
  pub record IsLed (i : ℕ) (ms : List Move) : Type 0 where
    pub hops : List (Hop ℕ)
    pub path : IsPath (frame_of (table_of x)) i hops (i + length ms)
    pub spells : spelled (frame_of (table_of x)) hops ≡ ms

  pub led_along : (i : ℕ) (ms after : List Move) → drop i x.rest ≡ ms ++ after → IsLed i ms
  led_along i [] after e = record { hops = []; path = omega arith; spells = refl }
  led_along i (m ∷ ms) after e =
      let r = led_along (suc i) ms after (drop_after x.rest i m (ms ++ after) e) in
      let within : suc i < suc (length x.rest) = omega (arith, within_length x.rest i m (ms ++ after) e) in
      let none : 0 + i ≡ i = omega arith in
      let step = subst (λ n. Has (table_of x).moves (step_at n m)) none (steps_from_has 0 x.rest i m (ms ++ after) e) in
      let end : suc i + length ms ≡ i + length (m ∷ ms) = omega arith in
      let atom = atom_after x.first x.rest i m (ms ++ after) e in
      record {
        hops = record { act = m.act; to = suc i } ∷ r.hops;
        path = (within, step, subst (λ n. IsPath (frame_of (table_of x)) (suc i) r.hops n) end r.path);
        spells = λ k. record { act = m.act; atom = atom k } ∷ r.spells k;
      }
