-- If the next level justifies the pairs of each level, the closed sides agree on allowed strings with fewer moves than
-- there are levels, and on all allowed strings if the pairs are accepted.
use Rattle.std.proofs.Common.{◌≡◌, ℕ, suc, ◌+◌, ◌<◌, inl, inr, ⊎_elim, List, [], ◌∷◌, length, refl, sym, ◌∙◌, subst, arith, true, Option, Some, None}
use Rattle.std.specs.Bool.{IsTrue}
use Rattle.std.specs.Cmp.{both_ways}
use Rattle.kat_model.specs.Trees.{TestTree, Term}
use Rattle.kat_model.specs.Members.{Has}
use Rattle.kat_model.specs.Problems.{ProblemParts}
use Rattle.kat_model.specs.Steps.{Atom, truth, set_out, set_next}
use Rattle.kat_model.specs.Strings.{Move, AreMoves, accepts, set_accepts}
use Rattle.kat_model.specs.Closed.{universal_of, closed_under, closed}
use Rattle.kat_model.specs.Pairs.{SetPair, sat, BothUniversal, IsCongruent}
use Rattle.kat_model.specs.AllowedMoves.{IsAllowedAtom, IsAllowedMove, AreAllowed}
use Rattle.kat_model.specs.TestedPairs.{TestedPair, pairs_at, AreAcceptedUnder}
use Rattle.kat_model.proofs.Acceptance.{set_accepts-cons, set_accepts-single, has_set_accepts, set_accepts_has, set_accepts_same}
use Rattle.kat_model.proofs.Universal.{accepts-universal}
use Rattle.kat_model.proofs.Saturation.{Each, Respects, sat_keeps, sat_each}
use Rattle.kat_model.proofs.PairsUnderTests.{has_pairs_at, pairs_at_has}
use Rattle.kat_model.proofs.AllowedStrings.{allowed_first}

-- both sets of each pair accept the string, or neither does
abbrev pub AllAgree : List SetPair → Atom → List Move → Type 0
AllAgree ps atom ms = (p : SetPair) → Has ps p → set_accepts p.left atom ms ≡ set_accepts p.right atom ms

-- the universal term, if any, is the universal term of the problem
abbrev pub IsUniversalOf : ℕ → Option Term → Type 0
IsUniversalOf actions universal = (u : Term) → universal ≡ Some u → u ≡ universal_of actions

pub closed_universal : (actions : ℕ) (hyps : List Term) (left right : Term) → IsUniversalOf actions (closed_under actions hyps left right).universal
closed_universal actions [] left right u e = cc
closed_universal actions (h ∷ hs) left right u e = cc

module _ (atom : Atom) (ms : List Move) where
  -- if the pairs agree on a string, the saturation of a set accepts it exactly when the set does
  pub set_accepts-sat : (ps : List SetPair) (es : List Term) → AllAgree ps atom ms → set_accepts (sat ps es) atom ms ≡ set_accepts es atom ms
  set_accepts-sat ps es agree = both_ways _ _ there back
    where
      -- if the term accepts the string, so does the set
      IsCovered : Term → Type 0
      IsCovered x = IsTrue (accepts x atom ms) → IsTrue (set_accepts es atom ms)

      across : (xs ys : List Term) → set_accepts xs atom ms ≡ set_accepts ys atom ms → Each IsCovered xs → Each IsCovered ys
      across xs ys same each y h a =
          let r = has_set_accepts xs atom ms (same ∙ set_accepts_has ys atom ms y h a) in
          each r.0 r.1 r.2

      respected : Respects IsCovered ps
      respected p h = (across p.left p.right (agree p h), across p.right p.left (sym (agree p h)))

      there : IsTrue (set_accepts (sat ps es) atom ms) → IsTrue (set_accepts es atom ms)
      there h =
          let r = has_set_accepts (sat ps es) atom ms h in
          sat_each IsCovered ps es respected (λ x k. set_accepts_has es atom ms x k) r.0 r.1 r.2

      back : IsTrue (set_accepts es atom ms) → IsTrue (set_accepts (sat ps es) atom ms)
      back h = let r = has_set_accepts es atom ms h in set_accepts_has (sat ps es) atom ms r.0 (sat_keeps ps es r.0 r.1) r.2

module _ (tests actions : ℕ) where
  -- sets that contain the universal term accept every string in range
  both_universal_accept : (universal : Option Term) (es fs : List Term) (atom : Atom) (ms : List Move) → IsUniversalOf actions universal → AreMoves tests actions ms → BothUniversal universal es fs → set_accepts es atom ms ≡ set_accepts fs atom ms
  both_universal_accept None es fs atom ms is are b = absurd b
  both_universal_accept (Some u) es fs atom ms is are b = accepted es b.0 ∙ sym (accepted fs b.1)
    where
      accepted : (gs : List Term) → Has gs u → set_accepts gs atom ms ≡ true
      accepted gs h = set_accepts_has gs atom ms (universal_of actions) (subst (Has gs) (is u refl) h) (accepts-universal tests actions atom ms are)

  -- if the pairs agree on a string, congruent sets agree on it
  pub congruent_accepts : (universal : Option Term) (ps : List SetPair) (es fs : List Term) (atom : Atom) (ms : List Move) → IsUniversalOf actions universal → AreMoves tests actions ms → AllAgree ps atom ms → IsCongruent universal ps es fs → set_accepts es atom ms ≡ set_accepts fs atom ms
  congruent_accepts universal ps es fs atom ms is are agree c =
      sym (set_accepts-sat atom ms ps es agree)
      ∙ ⊎_elim (set_accepts_same (sat ps es) (sat ps fs) atom ms) (both_universal_accept universal (sat ps es) (sat ps fs) atom ms is are) c
      ∙ set_accepts-sat atom ms ps fs agree

-- At each allowed atom that satisfies its test, the sets of a pair of the level agree. After each allowed move, its
-- next sets are congruent under the pairs of the next level whose test is true at the atom after the move.
pub record IsLevel (shorts : List Term) (q : ProblemParts) (ps qs : List TestedPair) : Type 0 where
  pub outputs : (p : TestedPair) → Has ps p → (atom : Atom) → length atom ≡ q.tests → IsAllowedAtom shorts atom → IsTrue (truth p.test atom)
      → set_out p.sets.left atom ≡ set_out p.sets.right atom
  pub steps : (p : TestedPair) → Has ps p → (atom : Atom) → length atom ≡ q.tests → IsTrue (truth p.test atom)
      → (m : Move) → m.act < q.actions → length m.atom ≡ q.tests → IsAllowedMove shorts atom m
      → IsCongruent (closed q).universal (pairs_at qs m.atom) (set_next p.sets.left atom m.act) (set_next p.sets.right atom m.act)

module _ (shorts : List Term) (q : ProblemParts) (levels : ℕ → List TestedPair) (n : ℕ)
    (each : (k : ℕ) → k < n → IsLevel shorts q (levels k) (levels (suc k))) where
  -- the pairs of a level whose test is true at the first atom of an allowed string agree on the string, if enough
  -- levels follow
  pub levels_agree : (k : ℕ) (atom : Atom) (ms : List Move) → k + length ms < n
      → length atom ≡ q.tests → AreMoves q.tests q.actions ms → AreAllowed shorts atom ms → AllAgree (pairs_at (levels k) atom) atom ms
  levels_agree k atom [] few wide are allowed s h =
      let p = has_pairs_at (levels k) atom s h in
      subst (λ (z : SetPair). set_out z.left atom ≡ set_out z.right atom) p.3 ((each k (omega (arith, few))).outputs p.0 p.1 atom wide allowed p.2)
  levels_agree k atom (m ∷ ms) few wide are allowed s h =
      let own = are m (inl refl) in
      let rest : AreMoves q.tests q.actions ms = λ n k. are n (inr k) in
      let agree = levels_agree (suc k) m.atom ms (omega (arith, few)) own.1 rest allowed.1 in
      let p = has_pairs_at (levels k) atom s h in
      let l = p.0.sets.left in
      let r = p.0.sets.right in
      let congruent = (each k (omega (arith, few))).steps p.0 p.1 atom wide p.2 m own.0 own.1 allowed.0 in
      let universal = closed_universal q.actions q.hyps q.left q.right in
      subst (λ (z : SetPair). set_accepts z.left atom (m ∷ ms) ≡ set_accepts z.right atom (m ∷ ms)) p.3
      (set_accepts-cons l atom m ms
      ∙ congruent_accepts q.tests q.actions (closed q).universal _ (set_next l atom m.act) (set_next r atom m.act) m.atom ms universal rest agree congruent
      ∙ sym (set_accepts-cons r atom m ms))

  -- so the closed sides accept the same allowed strings with fewer moves than there are levels
  pub levels_alike : (test : TestTree)
      → Has (levels 0) (record { sets = record { left = (closed q).left ∷ []; right = (closed q).right ∷ [] }; test = test })
      → ((atom : Atom) → length atom ≡ q.tests → IsAllowedAtom shorts atom → IsTrue (truth test atom))
      → (atom : Atom) (ms : List Move) → length ms < n
      → length atom ≡ q.tests → AreMoves q.tests q.actions ms → AreAllowed shorts atom ms → accepts (closed q).left atom ms ≡ accepts (closed q).right atom ms
  levels_alike test listed holds atom ms few wide are allowed =
      let start : SetPair = record { left = (closed q).left ∷ []; right = (closed q).right ∷ [] } in
      let first = pairs_at_has (levels 0) atom (record { sets = start; test = test }) listed (holds atom wide (allowed_first shorts atom ms allowed)) in
      sym (set_accepts-single (closed q).left atom ms)
      ∙ levels_agree 0 atom ms (omega (arith, few)) wide are allowed start first
      ∙ set_accepts-single (closed q).right atom ms

-- and allowed strings with any number of moves, if the pairs are accepted: each level then has all pairs
pub accepted_agree : (shorts : List Term) (q : ProblemParts) (pairs : List TestedPair) → AreAcceptedUnder shorts q pairs
    → (atom : Atom) (ms : List Move) → length atom ≡ q.tests → AreMoves q.tests q.actions ms → AreAllowed shorts atom ms
    → accepts (closed q).left atom ms ≡ accepts (closed q).right atom ms
accepted_agree shorts q pairs acc atom ms =
    let level : IsLevel shorts q pairs pairs = record { outputs = acc.bisimulation.outputs; steps = acc.bisimulation.steps } in
    levels_alike shorts q (λ k. pairs) (suc (length ms)) (λ k lk. level) acc.test (rw acc.first (inl refl)) acc.holds atom ms (omega arith)
