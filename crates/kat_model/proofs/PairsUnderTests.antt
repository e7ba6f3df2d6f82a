-- The pairs that hold at an atom; and pairs without tests as pairs under tests that are true everywhere.
use Rattle.std.proofs.Common.{◌≡◌, ℕ, ◌<◌, List, [], ◌∷◌, map, length, Option, refl, sym, ap, ◌∙◌, subst}
use Rattle.std.specs.Bool.{IsTrue}
use Rattle.std.specs.List.{filter}
use Rattle.kat_model.specs.Trees.{top, Term}
use Rattle.kat_model.specs.Members.{Has}
use Rattle.kat_model.specs.Steps.{Atom, truth, set_out, set_next}
use Rattle.kat_model.specs.Strings.{Move}
use Rattle.kat_model.specs.Problems.{ProblemParts}
use Rattle.kat_model.specs.Closed.{closed}
use Rattle.kat_model.specs.Pairs.{SetPair, IsCongruent, Style, up_to, IsBisimulation, AreAccepted}
use Rattle.kat_model.specs.AllowedMoves.{IsAllowedAtom, IsAllowedMove}
use Rattle.kat_model.specs.TestedPairs.{TestedPair, sets_of, everywhere, pairs_at, IsTestedBisimulation, AreAcceptedUnder}
use Rattle.kat_model.proofs.Lists.{has_map, map_has}
use Rattle.kat_model.proofs.Filters.{has_filter, filter_has}
use Rattle.kat_model.proofs.Congruence.{matched_congruent}

-- the pairs that hold at an atom are the sets of those pairs whose test is true there

pub has_pairs_at : (pairs : List TestedPair) (atom : Atom) (s : SetPair) → Has (pairs_at pairs atom) s
    → (p : TestedPair) × Has pairs p × IsTrue (truth p.test atom) × (p.sets ≡ s)
has_pairs_at pairs atom s h =
    let r = has_map (λ p. p.sets) (filter (λ p. truth p.test atom) pairs) s h in
    let k = has_filter (λ p. truth p.test atom) pairs r.0 r.1 in
    (r.0, k.0, k.1, r.2)

pub pairs_at_has : (pairs : List TestedPair) (atom : Atom) (p : TestedPair) → Has pairs p → IsTrue (truth p.test atom) → Has (pairs_at pairs atom) p.sets
pairs_at_has pairs atom p h t =
    map_has (λ r. r.sets) (filter (λ r. truth r.test atom) pairs) p (filter_has (λ r. truth r.test atom) pairs p h t)

-- pairs under tests that are true everywhere

pub sets_of-everywhere : (ps : List SetPair) → sets_of (map everywhere ps) ≡ ps
sets_of-everywhere [] = refl
sets_of-everywhere (p ∷ ps) = ap (λ l. p ∷ l) (sets_of-everywhere ps)

pub pairs_at-everywhere : (ps : List SetPair) (atom : Atom) → pairs_at (map everywhere ps) atom ≡ ps
pairs_at-everywhere [] atom = refl
pairs_at-everywhere (p ∷ ps) atom = ap (λ l. p ∷ l) (pairs_at-everywhere ps atom)

module _ (tests actions : ℕ) (universal : Option Term) (ps : List SetPair) where
  -- a bisimulation of either style is a bisimulation under such tests, with no short hypotheses
  pub bisimulation_tested : (style : Style) → IsBisimulation style tests actions universal ps → IsTestedBisimulation [] tests actions universal (map everywhere ps)
  bisimulation_tested style b = record { outputs = outputs; steps = steps }
    where
      outputs : (p : TestedPair) → Has (map everywhere ps) p → (atom : Atom) → length atom ≡ tests → IsAllowedAtom [] atom → IsTrue (truth p.test atom)
          → set_out p.sets.left atom ≡ set_out p.sets.right atom
      outputs p h atom wide allowed t =
          let r = has_map everywhere ps p h in
          subst (λ (z : TestedPair). set_out z.sets.left atom ≡ set_out z.sets.right atom) r.2 (b.outputs r.0 r.1 atom wide)

      steps : (p : TestedPair) → Has (map everywhere ps) p → (atom : Atom) → length atom ≡ tests → IsTrue (truth p.test atom)
          → (m : Move) → m.act < actions → length m.atom ≡ tests → IsAllowedMove [] atom m
          → IsCongruent universal (pairs_at (map everywhere ps) m.atom) (set_next p.sets.left atom m.act) (set_next p.sets.right atom m.act)
      steps p h atom wide t m la wide' allowed =
          let r = has_map everywhere ps p h in
          let own = matched_congruent style universal ps _ _ (b.steps r.0 r.1 atom wide m.act la) in
          rw (pairs_at-everywhere ps m.atom)
          (subst (λ (z : TestedPair). IsCongruent universal ps (set_next z.sets.left atom m.act) (set_next z.sets.right atom m.act)) r.2 own)

  -- and a bisimulation under such tests is a bisimulation up to congruence
  pub tested_bisimulation : IsTestedBisimulation [] tests actions universal (map everywhere ps) → IsBisimulation up_to tests actions universal ps
  tested_bisimulation b = record { outputs = outputs; steps = steps }
    where
      outputs : (p : SetPair) → Has ps p → (atom : Atom) → length atom ≡ tests → set_out p.left atom ≡ set_out p.right atom
      outputs p h atom wide = b.outputs (everywhere p) (map_has everywhere ps p h) atom wide refl refl

      steps : (p : SetPair) → Has ps p → (atom : Atom) → length atom ≡ tests → (a : ℕ) → a < actions → IsCongruent universal ps (set_next p.left atom a) (set_next p.right atom a)
      steps p h atom wide a la =
          subst (λ l. IsCongruent universal l (set_next p.left atom a) (set_next p.right atom a)) (pairs_at-everywhere ps atom)
          (b.steps (everywhere p) (map_has everywhere ps p h) atom wide refl (record { act = a; atom = atom }) la wide (record { from = refl; to = refl; move = refl }))

pub accepted_tested : (style : Style) (q : ProblemParts) (ps : List SetPair) → AreAccepted style q ps → AreAcceptedUnder [] q (map everywhere ps)
accepted_tested style q ps acc = record {
  test = top;
  rest = map everywhere acc.rest;
  first = ap (map everywhere) acc.first;
  holds = λ atom wide allowed. refl;
  bisimulation = bisimulation_tested q.tests q.actions (closed q).universal ps style acc.bisimulation;
}

pub tested_accepted : (q : ProblemParts) (ps : List SetPair) → AreAcceptedUnder [] q (map everywhere ps) → AreAccepted up_to q ps
tested_accepted q ps acc = record {
  rest = sets_of acc.rest;
  first = sym (sets_of-everywhere ps) ∙ ap sets_of acc.first;
  bisimulation = tested_bisimulation q.tests q.actions (closed q).universal ps acc.bisimulation;
}
