-- Reading a table: the atom at a state, and the states of a move.
use Rattle.std.proofs.Common.{◌≡◌, ℕ, ◌<◌, List, [], length, get_or, refl, sym, ap, ◌∙◌, subst, Bool, arith}
use Rattle.std.proofs.lemmas.List.{get_or_read}
use Rattle.std.proofs.lemmas.Option.{slice_get_read}
use Rattle.kat_model.specs.Members.{Has}
use Rattle.kat_model.specs.Relations.{Step, Table, atom_at}
use Rattle.string_tables.specs.Tables.{IsWhole}
use Rattle.kat_model.proofs.Places.{has_at}

module _ (t : Table) (whole : IsWhole t) where
  pub atom_read : (shown : List (List Bool)) (i : ℕ) (x atom : List Bool) → i < t.states → shown ≡ t.truths → x ≡ get_or shown i x → atom ≡ x → atom_at t i ≡ atom
  atom_read shown i x atom lt s is r =
      let room : i < length shown = omega (arith, ap length s, whole.rows) in
      sym (r ∙ get_or_read shown i x room is [] ∙ ap (λ l. get_or l i []) s)

  pub move_read : (shown : List Step) (k : ℕ) (x m : Step) → k < length shown → shown ≡ t.moves → x ≡ get_or shown k x → m ≡ x → (m.from < t.states) × (m.to < t.states)
  move_read shown k x m lt s is r =
      let there : Has t.moves m = subst (λ l. Has l m) s (subst (Has shown) (sym r) (has_at shown k x (slice_get_read shown (length shown) k x refl lt is))) in
      whole.moves m there
