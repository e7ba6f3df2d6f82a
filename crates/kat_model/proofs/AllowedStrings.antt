-- A string is allowed exactly when no short hypothesis accepts a part of it.
use Rattle.std.proofs.Common.{◌≡◌, ◌≤◌, List, [], ◌∷◌, ◌++◌, length, refl, ap, subst, arith, false, append_assoc}
use Rattle.std.specs.Bool.{IsTrue}
use Rattle.std.proofs.lemmas.Bool.{both_ways, false_from_ne_true}
use Rattle.kat_model.specs.Trees.{Term}
use Rattle.kat_model.specs.Members.{Has}
use Rattle.kat_model.specs.Steps.{Atom}
use Rattle.kat_model.specs.Strings.{Move, last_atom, accepts, set_accepts}
use Rattle.kat_model.specs.Laws.{IsWithin}
use Rattle.kat_model.specs.Degrees.{is_short}
use Rattle.kat_model.specs.AllowedMoves.{IsAllowedAtom, AreAllowed}
use Rattle.kat_model.proofs.Acceptance.{has_set_accepts, set_accepts_has}
use Rattle.kat_model.proofs.DegreeBounds.{accepts_at_most}

pub allowed_first : (shorts : List Term) (atom : Atom) (ms : List Move) → AreAllowed shorts atom ms → IsAllowedAtom shorts atom
allowed_first shorts atom [] all = all
allowed_first shorts atom (m ∷ ms) all = all.0.from

pub allowed_after : (shorts : List Term) (atom : Atom) (xs ys : List Move) → AreAllowed shorts atom (xs ++ ys) → AreAllowed shorts (last_atom atom xs) ys
allowed_after shorts atom [] ys all = all
allowed_after shorts atom (m ∷ xs) ys all = allowed_after shorts m.atom xs ys all.1

-- no short hypothesis accepts a prefix of an allowed string
pub allowed_refuse : (shorts : List Term) (h : Term) (atom : Atom) (part after : List Move)
    → Has shorts h → length part ≤ 1 → AreAllowed shorts atom (part ++ after) → IsTrue (accepts h atom part) → ⊥
allowed_refuse shorts h atom [] after has few all taken =
    both_ways _ (allowed_first shorts atom after all) (set_accepts_has shorts atom [] h has taken)
allowed_refuse shorts h atom (m ∷ []) after has few all taken = both_ways _ all.0.move (set_accepts_has shorts atom (m ∷ []) h has taken)
allowed_refuse shorts h atom (m ∷ n ∷ ms) after has few all taken = absurd (omega (arith, few))

module _ (shorts : List Term) (are_short : (h : Term) → Has shorts h → IsTrue (is_short h)) where
  pub allowed_not_within : (atom : Atom) (ms : List Move) → AreAllowed shorts atom ms → (h : Term) → Has shorts h → IsWithin h atom ms → ⊥
  allowed_not_within atom ms all h has w =
      let start = last_atom atom w.before in
      let few = accepts_at_most 1 h start w.part (are_short h has) w.taken in
      let whole : AreAllowed shorts atom (w.before ++ w.part ++ w.after) = subst (AreAllowed shorts atom) w.whole all in
      allowed_refuse shorts h start w.part w.after has few
      (allowed_after shorts atom w.before (w.part ++ w.after) (subst (AreAllowed shorts atom) (append_assoc w.before w.part w.after) whole)) w.taken

-- a part that the term accepts is also a part of the string with an additional first move
within_later : (h : Term) (atom : Atom) (m : Move) (ms : List Move) → IsWithin h m.atom ms → IsWithin h atom (m ∷ ms)
within_later h atom m ms w = record { before = m ∷ w.before; part = w.part; after = w.after; whole = ap (λ l. m ∷ l) w.whole; taken = w.taken }

within_first : (h : Term) (atom : Atom) (part after : List Move) → IsTrue (accepts h atom part) → IsWithin h atom (part ++ after)
within_first h atom part after taken = record { before = []; part = part; after = after; whole = refl; taken = taken }

-- if no hypothesis accepts a part of the string, the set accepts no prefix of it
none_within_refuse : (hyps : List Term) (atom : Atom) (part after : List Move) → ((h : Term) → Has hyps h → IsWithin h atom (part ++ after) → ⊥) → set_accepts hyps atom part ≡ false
none_within_refuse hyps atom part after none =
    false_from_ne_true _ (λ t. let r = has_set_accepts hyps atom part t in none r.0 r.1 (within_first r.0 atom part after r.2))

pub none_within_allowed : (hyps : List Term) (atom : Atom) (ms : List Move) → ((h : Term) → Has hyps h → IsWithin h atom ms → ⊥) → AreAllowed hyps atom ms
none_within_allowed hyps atom [] none = none_within_refuse hyps atom [] [] none
none_within_allowed hyps atom (m ∷ ms) none =
    let rest = none_within_allowed hyps m.atom ms (λ h k w. none h k (within_later h atom m ms w)) in (
      record {
        from = none_within_refuse hyps atom [] (m ∷ ms) none;
        to = allowed_first hyps m.atom ms rest;
        move = none_within_refuse hyps atom (m ∷ []) ms none;
      },
      rest,
    )
