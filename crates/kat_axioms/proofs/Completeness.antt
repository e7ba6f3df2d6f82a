-- The axioms are complete: if both sides of a problem are the same, the axioms and the hypotheses prove it.
use Rattle.std.proofs.Common.{◌≡◌, ◌≢◌, ◌<◌, ℕ, inl, List, [], ◌∷◌, length, Bool, true, false, refl, sym, ◌∙◌}
use Rattle.std.proofs.lemmas.Bool.{true≢false, false≢true}
use Rattle.kat_model.specs.Trees.{Term, zero, sum}
use Rattle.kat_model.specs.Members.{Has}
use Rattle.kat_model.specs.Balanced.{sum_of}
use Rattle.kat_model.specs.Problems.{ProblemParts, IsInRange, AreInRange, IsProblem}
use Rattle.kat_model.specs.Relations.{Same}
use Rattle.kat_model.specs.Steps.{Atom}
use Rattle.kat_model.specs.Closed.{universal_of, inside, closed_under, closed}
use Rattle.kat_model.specs.Pairs.{SetPair}
use Rattle.kat_model.proofs.Lists.{has_left, has_right}
use Rattle.kat_model.proofs.Acceptance.{set_accepts-single}
use Rattle.kat_model.proofs.BalancedTrees.{balanced_holds}
use Rattle.kat_model.proofs.Ranges.{IsInRange-sum_of, IsInRange-universal_of}
use Rattle.kat_model.proofs.ReachedPairs.{start_pair}
use Rattle.string_tables.proofs.Counterexamples.{refuted_not_same}
use Rattle.string_tables.proofs.Elimination.{differ_refuted}
use Rattle.kat_axioms.specs.Derivations.{Proves, itself, symmetric, transitive, sums, products}
use Rattle.kat_axioms.specs.Laws.{AcceptSameStrings}
use Rattle.kat_axioms.proofs.Orders.{total_equal}
use Rattle.kat_axioms.proofs.Paths.{paths}
use Rattle.kat_axioms.proofs.Terms.{terms, equal_tests, hyp_zero}
use Rattle.kat_axioms.proofs.ReachedPairs.{next_pair, same_pair, same_pair-true, same-same_pair, IsAlike, AreFound, IsClosed, reached_pairs}
use Rattle.kat_axioms.proofs.Automata.{set_accept, set_accept_is_test, out-set_accept, edge, reached, term_reached}

module _ (q : ProblemParts) where
  -- ---- terms that accept the same strings

  module _ (l r : Term) (left : IsInRange q.tests q.actions l) (right : IsInRange q.tests q.actions r)
      (all : List SetPair) (found : AreFound q.tests q.actions l r all) (closed : IsClosed q.tests q.actions all) where
    next_listed : (p : SetPair) → Has all p → (atom : Atom) → length atom ≡ q.tests → (a : ℕ) → a < q.actions → (s : SetPair) × Has all s × (same_pair (next_pair p atom a) s ≡ true)
    next_listed p h atom wide a lt =
        let s = closed p h atom wide a lt in
        (s.pair, s.listed, same-same_pair (next_pair p atom a) s.pair s.lefts s.rights)

    -- both sides of a listed pair accept at the same atoms
    accepts_equal : (p : SetPair) → Has all p → Proves q (set_accept q p.left) (set_accept q p.right)
    accepts_equal p h =
        equal_tests q _ _ (set_accept_is_test q p.left) (set_accept_is_test q p.right)
        (λ atom wide. out-set_accept q p.left atom ∙ found.alike p h atom [] wide (λ m n. absurd n) ∙ sym (out-set_accept q p.right atom))

    reached_equal : Proves q (reached q (λ p. p.left) (start_pair l r) all) (reached q (λ p. p.right) (start_pair l r) all)
    reached_equal =
        sums (accepts_equal (start_pair l r) found.first)
        (total_equal (terms q) _ _ all (λ p h. products (itself (paths (terms q) (edge q) all (start_pair l r) p)) (accepts_equal p h)))

    sides_equal : Proves q l r
    sides_equal =
        transitive
        (term_reached q (λ p. p.left) (λ p atom a. refl) (λ p s h. (same_pair-true p s h).0) (start_pair l r) all found.first next_listed l refl left)
        (transitive reached_equal
        (symmetric (term_reached q (λ p. p.right) (λ p atom a. refl) (λ p s h. (same_pair-true p s h).1) (start_pair l r) all found.first next_listed r refl right)))

  pub alike_proves : (l r : Term) → IsInRange q.tests q.actions l → IsInRange q.tests q.actions r → IsAlike q.tests q.actions (start_pair l r) → Proves q l r
  alike_proves l r left right alike =
      let s = reached_pairs q.tests q.actions l r alike in
      sides_equal l r left right s.0 s.1 s.2

  -- ---- the closed sides

  sum_of_zero : (es : List Term) → ((e : Term) → Has es e → Proves q e zero) → Proves q (sum_of es) zero
  sum_of_zero es =
      balanced_holds zero sum (λ fs e. ((f : Term) → Has fs f → Proves q f zero) → Proves q e zero)
      (λ each. itself zero)
      (λ e each. each e (inl refl))
      (λ fs gs e f p r each. transitive (sums (p (λ h k. each h (has_left fs gs h k))) (r (λ h k. each h (has_right fs gs h k)))) ((terms q).laws.semiring.sum_zero zero))
      es

  inside_zero : (u e : Term) → Proves q e zero → Proves q (inside u e) zero
  inside_zero u e p =
      let ring = (terms q).laws.semiring in
      transitive (products (itself u) (transitive (products p (itself u)) (ring.zero_left u))) (ring.zero_right u)

  with_zero : (e f : Term) → Proves q f zero → Proves q e (sum e f)
  with_zero e f p = symmetric (transitive (sums (itself e) p) ((terms q).laws.semiring.sum_zero e))

  -- each side equals its closed side
  closed_equal : (hyps : List Term) → ((h : Term) → Has hyps h → Proves q h zero)
      → Proves q q.left (closed_under q.actions hyps q.left q.right).left × Proves q q.right (closed_under q.actions hyps q.left q.right).right
  closed_equal [] each = (itself q.left, itself q.right)
  closed_equal (h ∷ hs) each =
      let none = inside_zero (universal_of q.actions) (sum_of (h ∷ hs)) (sum_of_zero (h ∷ hs) each) in
      (with_zero q.left _ none, with_zero q.right _ none)

  closed_in_range : (hyps : List Term) → AreInRange q.tests q.actions hyps → IsInRange q.tests q.actions q.left → IsInRange q.tests q.actions q.right
      → IsInRange q.tests q.actions (closed_under q.actions hyps q.left q.right).left × IsInRange q.tests q.actions (closed_under q.actions hyps q.left q.right).right
  closed_in_range [] hyps left right = (left, right)
  closed_in_range (h ∷ hs) hyps left right =
      let u = IsInRange-universal_of q.tests q.actions in
      let s = IsInRange-sum_of q.tests q.actions (h ∷ hs) hyps in
      ((left, (u, (s, u))), (right, (u, (s, u))))

  equal_unless_differ : (a b : Bool) → (a ≢ b → ⊥) → a ≡ b
  equal_unless_differ true true none = refl
  equal_unless_differ true false none = absurd (none true≢false)
  equal_unless_differ false true none = absurd (none false≢true)
  equal_unless_differ false false none = refl

  -- the closed sides of a question whose sides are the same accept the same strings
  pub same_closed_alike : Same q → AcceptSameStrings q (closed q).left (closed q).right
  same_closed_alike same x fits =
      equal_unless_differ _ _ (λ differ. refuted_not_same q x (differ_refuted q x fits differ) same)

  pub same_proves : IsProblem q → Same q → Proves q q.left q.right
  same_proves is same =
      let sides = closed_equal q.hyps (hyp_zero q) in
      let ranges = closed_in_range q.hyps is.hyps is.left is.right in
      transitive sides.0 (transitive (alike_proves (closed q).left (closed q).right ranges.0 ranges.1 alike) (symmetric sides.1))
    where
      alike : IsAlike q.tests q.actions (start_pair (closed q).left (closed q).right)
      alike atom ms wide are =
          set_accepts-single (closed q).left atom ms
          ∙ same_closed_alike same (record { first = atom; rest = ms }) (record { first = wide; rest = are })
          ∙ sym (set_accepts-single (closed q).right atom ms)
