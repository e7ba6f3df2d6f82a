-- The table of a string that fits is a table of the problem, so a string that refutes a problem shows that
-- its sides are not the same.
use Rattle.std.proofs.Common.{◌≡◌, ℕ, zero, suc, ◌<◌, ◌≤◌, inl, inr, ⊎_elim, List, [], ◌∷◌, length, map, refl, ap, subst, arith, slice_index_or}
use Rattle.std.proofs.lemmas.List.{length-map}
use Rattle.kat_model.specs.Members.{Has}
use Rattle.kat_model.specs.Problems.{ProblemParts}
use Rattle.kat_model.specs.Steps.{Atom}
use Rattle.kat_model.specs.Relations.{Step, IsTable, atom_at, Same}
use Rattle.kat_model.specs.Strings.{Move, GuardedString, IsString, AreMoves}
use Rattle.string_tables.specs.Tables.{steps_from, table_of, IsWhole, Refutes}
use Rattle.string_tables.proofs.Positions.{has_steps_from, has_at, within_length}

pub whole_table : (x : GuardedString) → IsWhole (table_of x)
whole_table x = record { rows = ap suc (length-map x.rest (λ m. m.atom)); moves = moves }
  where
    moves : (s : Step) → Has (steps_from 0 x.rest) s → (s.from < suc (length x.rest)) × (s.to < suc (length x.rest))
    moves s h =
        let a = has_steps_from 0 x.rest s h in
        let within = within_length x.rest a.position a.move a.after a.place in
        (omega (arith, ap (λ (r : Step). r.from) a.is), omega (arith, ap (λ (r : Step). r.to) a.is))

module _ (tests actions : ℕ) where
  wide_at : (first : Atom) (ms : List Move) (i : ℕ) → length first ≡ tests → AreMoves tests actions ms → i ≤ length ms → length (slice_index_or (first ∷ map (λ m. m.atom) ms) i []) ≡ tests
  wide_at first ms zero wide are le = wide
  wide_at first [] (suc i) wide are le = absurd (omega arith)
  wide_at first (m ∷ ms) (suc i) wide are le = wide_at m.atom ms i (are m (inl refl)).1 (λ n h. are n (inr h)) (omega arith)

  pub fits_table : (x : GuardedString) → IsString tests actions x → IsTable tests actions (table_of x)
  fits_table x fits = record { rows = whole.rows; wide = wide; moves = moves }
    where
      whole : IsWhole (table_of x)
      whole = whole_table x

      wide : (i : ℕ) → i < suc (length x.rest) → length (atom_at (table_of x) i) ≡ tests
      wide i lt = wide_at x.first x.rest i fits.first fits.rest (omega arith)

      moves : (s : Step) → Has (steps_from 0 x.rest) s → (s.from < suc (length x.rest)) × (s.act < actions) × (s.to < suc (length x.rest))
      moves s h =
          let a = has_steps_from 0 x.rest s h in
          let act : a.move.act < actions = (fits.rest a.move (has_at x.rest a.position a.move a.after a.place)).0 in
          let w = whole.moves s h in
          (w.0, subst (λ (r : Step). r.act < actions) a.is act, w.1)

pub refuted_not_same : (q : ProblemParts) (x : GuardedString) → Refutes q x → Same q → ⊥
refuted_not_same q x r same =
    let s = same (table_of x) (fits_table q.tests q.actions x r.fits) r.keeps 0 (length x.rest) (omega arith) (omega arith) in
    ⊎_elim (λ a. a.1 (s.0 a.0)) (λ b. b.0 (s.1 b.1)) r.differs
