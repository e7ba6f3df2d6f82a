-- Fewer hypotheses allow more atoms and moves, so they require more of pairs. A string that some hypotheses allow and
-- that breaks none of the others is allowed by all.
use Rattle.std.proofs.Common.{◌≡◌, ◌⊎◌, inl, inr, ⊎_elim, List, [], ◌∷◌, false}
use Rattle.std.specs.Bool.{IsTrue}
use Rattle.std.proofs.lemmas.Bool.{both_ways, false_from_ne_true}
use Rattle.kat_model.specs.Trees.{Term}
use Rattle.kat_model.specs.Members.{Has, IsSubset}
use Rattle.kat_model.specs.Problems.{ProblemParts}
use Rattle.kat_model.specs.Steps.{Atom, out}
use Rattle.kat_model.specs.Strings.{Move, set_accepts}
use Rattle.kat_model.specs.AllowedMoves.{IsAllowedAtom, IsAllowedMove, AreAllowed}
use Rattle.kat_model.specs.TestedPairs.{TestedPair, AreAcceptedUnder}
use Rattle.kat_model.proofs.Acceptance.{has_set_accepts, set_accepts_has}
use Rattle.goal_forms.specs.Broken.{IsBrokenBy}

module _ (some all : List Term) (within : IsSubset some all) where
  refused : (atom : Atom) (ms : List Move) → set_accepts all atom ms ≡ false → set_accepts some atom ms ≡ false
  refused atom ms none =
      false_from_ne_true _ (λ t. let r = has_set_accepts some atom ms t in both_ways _ none (set_accepts_has all atom ms r.0 (within r.0 r.1) r.2))

  pub fewer_atom : (atom : Atom) → IsAllowedAtom all atom → IsAllowedAtom some atom
  fewer_atom atom allowed = refused atom [] allowed

  pub fewer_move : (atom : Atom) (m : Move) → IsAllowedMove all atom m → IsAllowedMove some atom m
  fewer_move atom m allowed = record { from = fewer_atom atom allowed.from; to = fewer_atom m.atom allowed.to; move = refused atom (m ∷ []) allowed.move }

  pub fewer_string : (atom : Atom) (ms : List Move) → AreAllowed all atom ms → AreAllowed some atom ms
  fewer_string atom [] allowed = fewer_atom atom allowed
  fewer_string atom (m ∷ ms) allowed = (fewer_move atom m allowed.0, fewer_string m.atom ms allowed.1)

  -- so pairs that are accepted under fewer hypotheses are accepted under all
  pub fewer_accepted : (q : ProblemParts) (pairs : List TestedPair) → AreAcceptedUnder some q pairs → AreAcceptedUnder all q pairs
  fewer_accepted q pairs acc = record {
    test = acc.test;
    rest = acc.rest;
    first = acc.first;
    holds = λ atom wide allowed. acc.holds atom wide (fewer_atom atom allowed);
    bisimulation = record {
      outputs = λ p h atom wide allowed there. acc.bisimulation.outputs p h atom wide (fewer_atom atom allowed) there;
      steps = λ p h atom wide there m below wide' allowed. acc.bisimulation.steps p h atom wide there m below wide' (fewer_move atom m allowed);
    };
  }

-- a hypothesis that accepts the first atom is broken
pub first_breaks : (h : Term) (atom : Atom) (ms : List Move) → IsTrue (out h atom) → IsBrokenBy h atom ms
first_breaks h atom [] t = t
first_breaks h atom (m ∷ ms) t = inl t

module _ (some all : List Term) where
  -- each hypothesis is among these, or the string does not break it
  abbrev pub IsNoOtherBroken : Atom → List Move → Type 0
  IsNoOtherBroken atom ms = (h : Term) → Has all h → Has some h ⊎ (IsBrokenBy h atom ms → ⊥)

  atom_allowed : (atom : Atom) (ms : List Move) → IsNoOtherBroken atom ms → IsAllowedAtom some atom → IsAllowedAtom all atom
  atom_allowed atom ms each allowed =
      false_from_ne_true _ (λ t.
      let r = has_set_accepts all atom [] t in
      ⊎_elim (λ s. both_ways _ allowed (set_accepts_has some atom [] r.0 s r.2)) (λ n. n (first_breaks r.0 atom ms r.2)) (each r.0 r.1))

  pub unbroken_allowed : (atom : Atom) (ms : List Move) → IsNoOtherBroken atom ms → AreAllowed some atom ms → AreAllowed all atom ms
  unbroken_allowed atom [] each allowed = atom_allowed atom [] each allowed
  unbroken_allowed atom (m ∷ ms) each allowed =
      let later : IsNoOtherBroken m.atom ms = λ h k. ⊎_elim (λ s. inl s) (λ n. inr (λ b. n (inr (inr b)))) (each h k) in (
        record {
          from = atom_allowed atom (m ∷ ms) each allowed.0.from;
          to = atom_allowed m.atom ms later allowed.0.to;
          move = false_from_ne_true _ (λ t.
              let r = has_set_accepts all atom (m ∷ []) t in
              ⊎_elim (λ s. both_ways _ allowed.0.move (set_accepts_has some atom (m ∷ []) r.0 s r.2)) (λ n. n (inr (inl r.2))) (each r.0 r.1));
        },
        unbroken_allowed m.atom ms later allowed.1,
      )
