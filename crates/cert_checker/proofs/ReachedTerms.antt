-- Numbers are reached if and only if their terms are in the saturated set.
use Rattle.std.proofs.Common.{◌≡◌, ◌↔◌, ℕ, List, length, refl, sym, ◌∙◌, subst, Bool, true}
use Rattle.kat_model.specs.Trees.{Term}
use Rattle.kat_model.specs.Members.{Has, IsSubset}
use Rattle.kat_model.specs.Pairs.{SetPair, has_term, sat}
use Rattle.kat_model.proofs.Saturation.{Each, Respects, sat_keeps, sat_each}
use Rattle.kat_model.proofs.SaturationEnds.{sat_closed}
use Rattle.kat_model.proofs.Lists.{has_map, map_has}
use Rattle.kat_model.proofs.SameTrees.{holds-true, has-holds}
use Rattle.term_nodes.specs.NumberSets.{NumberPair, are_below, terms_of, set_pairs_of}
use Rattle.term_nodes.proofs.Parts.{below_has}
use Rattle.term_nodes.proofs.TermTrees.{one_id_a_tree}
use Rattle.cert_checker.specs.NodeTables.{TableParts, AreTables, IsTerm, term_at, nodes_in}
use Rattle.cert_checker.specs.Working.Reaching.{ArePairsBelow, HoldsAll, IsClosed, IsReached, AreReached}

-- the sets of terms of a pair of sets of numbers
abbrev terms_pair : TableParts → NumberPair → SetPair
terms_pair t p = record { left = terms_of (nodes_in t) p.left; right = terms_of (nodes_in t) p.right }

-- the numbers of the terms of a set, and the terms whose numbers are all in a set
abbrev numbers_in : TableParts → List Term → ℕ → Bool
numbers_in t es k = has_term es (term_at t k)

abbrev IsIn : TableParts → (ℕ → Bool) → Term → Type 0
IsIn t set x = (k : ℕ) → IsTerm t k → term_at t k ≡ x → set k ≡ true

module _ (t : TableParts) (es : List Term) where
  hold_each : (ks : List ℕ) → HoldsAll (numbers_in t es) ks → Each (Has es) (terms_of (nodes_in t) ks)
  hold_each ks h x m = let f = has_map (term_at t) ks x m in subst (Has es) f.2 (holds-true es (term_at t f.0) (h f.0 f.1))

  each_hold : (ks : List ℕ) → Each (Has es) (terms_of (nodes_in t) ks) → HoldsAll (numbers_in t es) ks
  each_hold ks e k h = has-holds es (term_at t k) (e (term_at t k) (map_has (term_at t) ks k h))

  -- a set of terms that is closed under pairs has a closed set of numbers
  closed_numbers : (ps : List NumberPair) → Respects (Has es) (set_pairs_of (nodes_in t) ps) → IsClosed ps (numbers_in t es)
  closed_numbers ps closed p h =
      let at = closed (terms_pair t p) (map_has (terms_pair t) ps p h) in
      ((λ l. each_hold p.right (at.0 (hold_each p.left l))), (λ r. each_hold p.left (at.1 (hold_each p.right r))))

module _ (t : TableParts) (are : AreTables t) (set : ℕ → Bool) where
  each_in : (ks : List ℕ) → are_below (length t.terms) ks ≡ true → HoldsAll set ks → Each (IsIn t set) (terms_of (nodes_in t) ks)
  each_in ks low h x m k there e =
      let f = has_map (term_at t) ks x m in
      let same : f.0 ≡ k = one_id_a_tree (nodes_in t) are.rules f.0 k (below_has (length t.terms) ks low f.0 f.1) there (f.2 ∙ sym e) in
      subst (λ j. set j ≡ true) same (h f.0 f.1)

  in_each : (ks : List ℕ) → are_below (length t.terms) ks ≡ true → Each (IsIn t set) (terms_of (nodes_in t) ks) → HoldsAll set ks
  in_each ks low each k h = each (term_at t k) (map_has (term_at t) ks k h) k (below_has (length t.terms) ks low k h) refl

  -- pairs respect the terms of a closed set of numbers
  respected_in : (ps : List NumberPair) → ArePairsBelow (length t.terms) ps → IsClosed ps set → Respects (IsIn t set) (set_pairs_of (nodes_in t) ps)
  respected_in ps below closed q m =
      let f = has_map (terms_pair t) ps q m in
      let low = below f.0 f.1 in
      subst (λ (p : SetPair). (Each (IsIn t set) p.left → Each (IsIn t set) p.right) × (Each (IsIn t set) p.right → Each (IsIn t set) p.left)) f.2
      ((λ l. each_in f.0.right low.1 ((closed f.0 f.1).0 (in_each f.0.left low.0 l))), (λ r. each_in f.0.left low.0 ((closed f.0 f.1).1 (in_each f.0.right low.1 r))))

module _ (t : TableParts) (are : AreTables t) (ps : List NumberPair) where
  pub reached_has : (ks : List ℕ) (k : ℕ) → IsReached ps ks k → Has (sat (set_pairs_of (nodes_in t) ps) (terms_of (nodes_in t) ks)) (term_at t k)
  reached_has ks k reached =
      let es : List Term = sat (set_pairs_of (nodes_in t) ps) (terms_of (nodes_in t) ks) in
      holds-true es (term_at t k)
      (reached (numbers_in t es) (closed_numbers t es ps (sat_closed (set_pairs_of (nodes_in t) ps) (terms_of (nodes_in t) ks)))
      (each_hold t es ks (sat_keeps (set_pairs_of (nodes_in t) ps) (terms_of (nodes_in t) ks))))

  module _ (below : ArePairsBelow (length t.terms) ps) where
    pub has_reached : (ks : List ℕ) → are_below (length t.terms) ks ≡ true → (k : ℕ) → IsTerm t k → Has (sat (set_pairs_of (nodes_in t) ps) (terms_of (nodes_in t) ks)) (term_at t k) → IsReached ps ks k
    has_reached ks low k there h set closed holds_all =
        sat_each (IsIn t set) (set_pairs_of (nodes_in t) ps) (terms_of (nodes_in t) ks) (respected_in t are set ps below closed) (each_in t are set ks low holds_all) (term_at t k) h k there refl

    pub are_reached : (ks : List ℕ) → are_below (length t.terms) ks ≡ true → (ls : List ℕ) → are_below (length t.terms) ls ≡ true → AreReached ps ks ls ↔ IsSubset (terms_of (nodes_in t) ls) (sat (set_pairs_of (nodes_in t) ps) (terms_of (nodes_in t) ks))
    are_reached ks low ls lows = (
      (λ r x m. let f = has_map (term_at t) ls x m in subst (Has (sat (set_pairs_of (nodes_in t) ps) (terms_of (nodes_in t) ks))) f.2 (reached_has ks f.0 (r f.0 f.1))),
      (λ s k h. has_reached ks low k (below_has (length t.terms) ls lows k h) (s (term_at t k) (map_has (term_at t) ls k h))),
    )
