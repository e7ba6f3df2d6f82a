-- On its way, a shortest string that refutes a question meets no two pairs of sets with the same members: after the
-- earlier one, the moves after the later one would also lead to a difference. So it has fewer moves than there are pairs.
use Rattle.std.proofs.Common.{◌≡◌, ◌≢◌, ℕ, zero, suc, ◌+◌, ◌*◌, ◌^◌, ◌<◌, ◌≤◌, inl, inr, ⊎_elim, ◌↔◌, List, [], ◌∷◌, length, refl, sym, ap, ◌∙◌, subst, arith}
use Rattle.std.proofs.lemmas.Bool.{cases_lt}
use Rattle.kat_model.specs.Trees.{Term, acts}
use Rattle.kat_model.specs.Members.{Has, IsSubset, SameMembers}
use Rattle.kat_model.specs.Steps.{Atom, set_next, reach}
use Rattle.kat_model.specs.Problems.{ProblemParts}
use Rattle.kat_model.specs.Relations.{Same}
use Rattle.kat_model.specs.Strings.{Move, GuardedString, AreMoves, set_accepts}
use Rattle.kat_model.specs.Guarded.{IsGuarded, IsSingle}
use Rattle.kat_model.specs.Closed.{closed_under, closed}
use Rattle.kat_model.specs.Pairs.{SetPair, IsListed, AllDiffer}
use Rattle.kat_model.proofs.Acceptance.{set_accepts-cons, set_accepts-single, set_accepts_same}
use Rattle.kat_model.proofs.Bounds.{pairs_bound, single_pairs_bound}
use Rattle.kat_model.proofs.ReachedPairs.{next_within, single_kept, start_pair}
use Rattle.string_tables.specs.Tables.{Refutes}
use Rattle.string_tables.proofs.Counterexamples.{refuted_not_same}
use Rattle.string_tables.proofs.Elimination.{refuted_differ, differ_refuted}
use Rattle.certificate.specs.Decisions.{pair_limit, IsShortest}
use Rattle.kat_laws.specs.SmallStrings.{IsSmall}
use Rattle.kat_laws.proofs.Theories.{unrefuted_same}

-- ---- the pairs that a string leads through

-- the sets of the pair differ on the string
abbrev DifferOn : SetPair → Atom → List Move → Type 0
DifferOn p atom ms = set_accepts p.left atom ms ≢ set_accepts p.right atom ms

-- the pair of the next sets
abbrev next_pair : SetPair → Atom → ℕ → SetPair
next_pair p atom a = record { left = set_next p.left atom a; right = set_next p.right atom a }

-- the pairs at the positions of the string
abbrev trail : SetPair → Atom → List Move → List SetPair
trail p atom [] = p ∷ []
trail p atom (m ∷ ms) = p ∷ trail (next_pair p atom m.act) m.atom ms

length-trail : (p : SetPair) (atom : Atom) (ms : List Move) → length (trail p atom ms) ≡ suc (length ms)
length-trail p atom [] = refl
length-trail p atom (m ∷ ms) = ap suc (length-trail (next_pair p atom m.act) m.atom ms)

-- a property that steps keep holds of each pair
trail_have : (P : SetPair → Type 0) → ((p : SetPair) (atom : Atom) (a : ℕ) → P p → P (next_pair p atom a)) → (p : SetPair) (atom : Atom) (ms : List Move) → P p
    → (r : SetPair) → Has (trail p atom ms) r → P r
trail_have P kept p atom [] own r h = ⊎_elim (λ e. subst P e own) (λ n. absurd n) h
trail_have P kept p atom (m ∷ ms) own r h =
    ⊎_elim (λ e. subst P e own) (λ k. trail_have P kept (next_pair p atom m.act) m.atom ms (kept p atom m.act own) r k) h

-- a string is a difference exactly when the moves after its first move are one of the next sets

differ_next : (p : SetPair) (atom : Atom) (m : Move) (ms : List Move) → DifferOn p atom (m ∷ ms) → DifferOn (next_pair p atom m.act) m.atom ms
differ_next p atom m ms differ e = differ (set_accepts-cons p.left atom m ms ∙ e ∙ sym (set_accepts-cons p.right atom m ms))

differ_before : (p : SetPair) (atom : Atom) (m : Move) (ms : List Move) → DifferOn (next_pair p atom m.act) m.atom ms → DifferOn p atom (m ∷ ms)
differ_before p atom m ms differ e = differ (sym (set_accepts-cons p.left atom m ms) ∙ e ∙ set_accepts-cons p.right atom m ms)

-- sets with the same members differ on the same strings
differ_same : (p r : SetPair) (atom : Atom) (ms : List Move) → SameMembers p.left r.left → SameMembers p.right r.right → DifferOn r atom ms → DifferOn p atom ms
differ_same p r atom ms lefts rights differ e =
    differ (sym (set_accepts_same p.left r.left atom ms lefts) ∙ e ∙ set_accepts_same p.right r.right atom ms rights)

-- ---- least differences

module _ (tests actions : ℕ) where
  -- the sets of the pair differ on some string of at most n moves
  record DiffersWithin (n : ℕ) (p : SetPair) : Type 0 where
    atom : Atom
    moves : List Move
    wide : length atom ≡ tests
    are : AreMoves tests actions moves
    few : length moves ≤ n
    differ : DifferOn p atom moves

  -- the sets of the pair differ on the string, and on none with fewer moves
  record IsLeast (p : SetPair) (atom : Atom) (ms : List Move) : Type 0 where
    wide : length atom ≡ tests
    are : AreMoves tests actions ms
    differ : DifferOn p atom ms
    least : (other : Atom) (others : List Move) → length other ≡ tests → AreMoves tests actions others → DifferOn p other others → length ms ≤ length others

  moves_cons : (m : Move) (ms : List Move) → m.act < actions → length m.atom ≡ tests → AreMoves tests actions ms → AreMoves tests actions (m ∷ ms)
  moves_cons m ms lt wide are n h = ⊎_elim (λ e. subst (λ k. (k.act < actions) × (length k.atom ≡ tests)) e (lt, wide)) (λ k. are n k) h

  least_next : (p : SetPair) (atom : Atom) (m : Move) (ms : List Move) → IsLeast p atom (m ∷ ms) → IsLeast (next_pair p atom m.act) m.atom ms
  least_next p atom m ms l = record {
    wide = (l.are m (inl refl)).1;
    are = λ n h. l.are n (inr h);
    differ = differ_next p atom m ms l.differ;
    least = λ other others wide are differ.
        let n : Move = record { act = m.act; atom = other } in
        let few = l.least atom (n ∷ others) l.wide (moves_cons n others (l.are m (inl refl)).0 wide are) (differ_before p atom n others differ) in
        omega (arith, few);
  }

  -- each pair of the trail differs on what is left of the string
  trail_differ : (p : SetPair) (atom : Atom) (ms : List Move) → length atom ≡ tests → AreMoves tests actions ms → DifferOn p atom ms
      → (r : SetPair) → Has (trail p atom ms) r → DiffersWithin (length ms) r
  trail_differ p atom [] wide are differ r h =
      ⊎_elim (λ e. subst (DiffersWithin 0) e (record { atom = atom; moves = []; wide = wide; are = are; few = omega arith; differ = differ })) (λ n. absurd n) h
  trail_differ p atom (m ∷ ms) wide are differ r (inl e) =
      subst (DiffersWithin (length (m ∷ ms))) e (record { atom = atom; moves = m ∷ ms; wide = wide; are = are; few = omega arith; differ = differ })
  trail_differ p atom (m ∷ ms) wide are differ r (inr h) =
      let d = trail_differ (next_pair p atom m.act) m.atom ms (are m (inl refl)).1 (λ n k. are n (inr k)) (differ_next p atom m ms differ) r h in
      record { atom = d.atom; moves = d.moves; wide = d.wide; are = d.are; few = omega (arith, d.few); differ = d.differ }

  -- no later pair has the same sets
  least_not_listed : (p : SetPair) (atom : Atom) (m : Move) (ms : List Move) → IsLeast p atom (m ∷ ms) → IsListed (trail (next_pair p atom m.act) m.atom ms) p.left p.right → ⊥
  least_not_listed p atom m ms l listed =
      let d = trail_differ (next_pair p atom m.act) m.atom ms (l.are m (inl refl)).1 (λ n h. l.are n (inr h)) (differ_next p atom m ms l.differ) listed.pair listed.listed in
      let few = l.least d.atom d.moves d.wide d.are (differ_same p listed.pair d.atom d.moves listed.lefts listed.rights d.differ) in
      absurd (omega (arith, few, d.few))

  trail_all_differ : (p : SetPair) (atom : Atom) (ms : List Move) → IsLeast p atom ms → AllDiffer (trail p atom ms)
  trail_all_differ p atom [] l = ((λ listed. listed.listed), tt)
  trail_all_differ p atom (m ∷ ms) l = (least_not_listed p atom m ms l, trail_all_differ (next_pair p atom m.act) m.atom ms (least_next p atom m ms l))

-- ---- the bounds

fewer : (n m limit : ℕ) → n ≡ suc m → n ≤ limit → m < limit
fewer n m limit e le = omega arith

module _ (l r : Term) (tests actions : ℕ) (atom : Atom) (ms : List Move) (least : IsLeast tests actions (start_pair l r) atom ms) where
  abbrev pairs : List SetPair
  pairs = trail (start_pair l r) atom ms

  least_few : length ms < 2 ^ (acts l + 1) * 2 ^ (acts r + 1)
  least_few =
      fewer (length pairs) (length ms) (2 ^ (acts l + 1) * 2 ^ (acts r + 1)) (length-trail (start_pair l r) atom ms)
      (pairs_bound l r pairs (trail_all_differ tests actions (start_pair l r) atom ms least)
      (trail_have (λ p. IsSubset p.left (l ∷ reach l) × IsSubset p.right (r ∷ reach r))
      (λ p at a h. (next_within l p.left (set_next p.left at a) at a (λ x. ((λ k. k), (λ k. k))) h.0, next_within r p.right (set_next p.right at a) at a (λ x. ((λ k. k), (λ k. k))) h.1))
      (start_pair l r) atom ms ((λ x h. ⊎_elim inl (λ n. absurd n) h), (λ x h. ⊎_elim inl (λ n. absurd n) h))))

  least_few_guarded : IsGuarded l → IsGuarded r → length ms < (acts l + 2) * (acts r + 2)
  least_few_guarded left right =
      fewer (length pairs) (length ms) ((acts l + 2) * (acts r + 2)) (length-trail (start_pair l r) atom ms)
      (single_pairs_bound l r pairs (trail_all_differ tests actions (start_pair l r) atom ms least)
      (trail_have (λ p. IsSingle l p.left × IsSingle r p.right)
      (λ p at a h. (single_kept l left p.left (set_next p.left at a) at a (λ x. ((λ k. k), (λ k. k))) h.0, single_kept r right p.right (set_next p.right at a) at a (λ x. ((λ k. k), (λ k. k))) h.1))
      (start_pair l r) atom ms (inr (l, inl refl, (λ x. ((λ k. k), (λ k. k)))), inr (r, inl refl, (λ x. ((λ k. k), (λ k. k)))))))

-- ---- shortest strings

-- a shortest string that refutes is a least difference of the closed sides
shortest_least : (q : ProblemParts) (x : GuardedString) → IsShortest q x → IsLeast q.tests q.actions (start_pair (closed q).left (closed q).right) x.first x.rest
shortest_least q x s =
    let d = refuted_differ q x s.refutes in
    record {
      wide = d.0.first;
      are = d.0.rest;
      differ = λ e. d.1 (sym (set_accepts-single (closed q).left x.first x.rest) ∙ e ∙ set_accepts-single (closed q).right x.first x.rest);
      least = least;
    }
  where
    least : (other : Atom) (others : List Move) → length other ≡ q.tests → AreMoves q.tests q.actions others → DifferOn (start_pair (closed q).left (closed q).right) other others
        → length x.rest ≤ length others
    least other others wide are differ =
        let y : GuardedString = record { first = other; rest = others } in
        s.fewest y (differ_refuted q y (record { first = wide; rest = are }) (λ e.
        differ (set_accepts-single (closed q).left other others ∙ e ∙ sym (set_accepts-single (closed q).right other others))))

-- without hypotheses the closed sides are the sides
guarded_sides : (actions n : ℕ) (hyps : List Term) (l r : Term) → hyps ≡ []
    → (IsGuarded (closed_under actions hyps l r).left → IsGuarded (closed_under actions hyps l r).right → n < (acts (closed_under actions hyps l r).left + 2) * (acts (closed_under actions hyps l r).right + 2))
    → IsGuarded l → IsGuarded r → n < (acts l + 2) * (acts r + 2)
guarded_sides actions n [] l r none few = few
guarded_sides actions n (h ∷ hs) l r none few = absurd cc

pub shortest_small : (q : ProblemParts) (x : GuardedString) → IsShortest q x → IsSmall q x
shortest_small q x s =
    let l = shortest_least q x s in
    record {
      moves = least_few (closed q).left (closed q).right q.tests q.actions x.first x.rest l;
      guarded = λ none left right.
          guarded_sides q.actions (length x.rest) q.hyps q.left q.right none (least_few_guarded (closed q).left (closed q).right q.tests q.actions x.first x.rest l) left right;
    }

-- if no small string refutes, none does, since a refuting string with the fewest moves is small
module _ (q : ProblemParts) (none : (x : GuardedString) → length x.rest < pair_limit q → Refutes q x → ⊥) where
  fewest_if : (n : ℕ) → ((y : GuardedString) → length y.rest < n → Refutes q y → ⊥) → (x : GuardedString) → length x.rest < suc n → (y : GuardedString) → Refutes q y → length x.rest ≤ length y.rest
  fewest_if n before x lt y r = ⊎_elim (λ shorter. absurd (before y (omega (arith, shorter, lt)) r)) (λ le. le) (cases_lt (length y.rest) (length x.rest))

  none_refutes : (n : ℕ) (x : GuardedString) → length x.rest < n → Refutes q x → ⊥
  none_refutes zero x lt refutes = absurd (omega (arith, lt))
  none_refutes (suc n) x lt refutes =
      none x (shortest_small q x (record { refutes = refutes; fewest = fewest_if n (λ y l s. none_refutes n y l s) x lt })).moves refutes

pub small_decide : (q : ProblemParts) → Same q ↔ ((x : GuardedString) → length x.rest < pair_limit q → Refutes q x → ⊥)
small_decide q = (
  (λ same x few refutes. refuted_not_same q x refutes same),
  (λ none. unrefuted_same q (λ x refutes. none_refutes q none (suc (length x.rest)) x (omega arith) refutes)),
)
