-- The test of two lists of targets up to congruence: if it passes, the lists are congruent at all atoms that extend the
-- decided tests; if all guards are settled, the converse holds.
use Rattle.std.proofs.Common.{◌≡◌, ℕ, ◌⊎◌, inl, inr, ⊎_elim, List, [], ◌∷◌, length, refl, sym, ap, ◌∙◌, subst, Bool, true, false, nat_lt, ◌||◌, cond, Option, Some, None}
use Rattle.std.specs.Option.{option_map}
use Rattle.std.proofs.lemmas.Bool.{and_from, lt-ltb}
use Rattle.kat_model.specs.Members.{Has, IsSubset}
use Rattle.kat_model.specs.Steps.{Atom}
use Rattle.kat_model.specs.Pairs.{sat, BothUniversal, IsCongruent}
use Rattle.kat_model.proofs.Lists.{has_right}
use Rattle.kat_model.proofs.Saturation.{sat_keeps}
use Rattle.kat_model.proofs.Congruence.{sat_grows}
use Rattle.term_nodes.specs.NumberSets.{NumberPair, are_below, set_pairs_of, terms_of}
use Rattle.cert_checker.specs.declared.known.Truth.{Truth}
use Rattle.cert_checker.specs.declared.known.Truth.TheVariants.{Known}
use Rattle.cert_checker.specs.declared.sides.TargetSides.{TargetSides}
use Rattle.cert_checker.specs.NodeTables.{TableParts, AreTables, IsTerm, term_at, holds_at, nodes_in}
use Rattle.cert_checker.specs.Targets.{chosen, AreEntries}
use Rattle.cert_checker.proofs.ChosenTargets.{chosen_has, has_chosen}
use Rattle.cert_checker.specs.Cases.{known_of, truly, falsely}
use Rattle.cert_checker.specs.Working.Reaching.{ArePairsBelow, IsReached, AreReached, IsReachedByBoth}
use Rattle.cert_checker.specs.Sides.{sure_targets, has_too, open_targets, AreTargetSides, AreSettled}
use Rattle.cert_checker.specs.Working.Matching.{AreCovered}
use Rattle.cert_checker.proofs.ReachedTerms.{reached_has, has_reached, are_reached}
use Rattle.cert_checker.proofs.Covering.{AreRight, sure_chosen, chosen_reached}

-- ---- numbers of targets are those of terms

pub sure_below : (t : TableParts) (known : List Truth) (es : List (ℕ × ℕ)) → AreEntries t es → are_below (length t.terms) (sure_targets known es) ≡ true
sure_below t known [] own = refl
sure_below t known (d ∷ es) own = go (truly (known_of known d.1)) (sure_below t known es (λ e m. own e (inr m)))
  where
    go : (b : Bool) → are_below (length t.terms) (sure_targets known es) ≡ true → are_below (length t.terms) (cond b (d.0 ∷ sure_targets known es) (sure_targets known es)) ≡ true
    go true rest = and_from (nat_lt d.0 (length t.terms)) (are_below (length t.terms) (sure_targets known es)) (lt-ltb d.0 (length t.terms) (own d (inl refl)).0) rest
    go false rest = rest

open_below : (t : TableParts) (known : List Truth) (os es : List (ℕ × ℕ)) → AreEntries t es → are_below (length t.terms) (open_targets known os es) ≡ true
open_below t known os [] own = refl
open_below t known os (d ∷ es) own = go (falsely (known_of known d.1) || has_too known os d.0 d.1) (open_below t known os es (λ e m. own e (inr m)))
  where
    go : (b : Bool) → are_below (length t.terms) (open_targets known os es) ≡ true → are_below (length t.terms) (cond b (open_targets known os es) (d.0 ∷ open_targets known os es)) ≡ true
    go true rest = rest
    go false rest = and_from (nat_lt d.0 (length t.terms)) (are_below (length t.terms) (open_targets known os es)) (lt-ltb d.0 (length t.terms) (own d (inl refl)).0) rest

-- ---- the sides of two lists of targets

-- `AreCovered` for the targets
abbrev Covers : List NumberPair → Option ℕ → List Truth → List (ℕ × ℕ) → List (ℕ × ℕ) → Type 0
Covers ps universal known left right =
    (AreReached ps (sure_targets known right) (open_targets known right left) × AreReached ps (sure_targets known left) (open_targets known left right))
    ⊎ IsReachedByBoth ps universal (sure_targets known left) (sure_targets known right)

-- the same for given lists
abbrev CoveredBy : List NumberPair → Option ℕ → List ℕ → List ℕ → List ℕ → List ℕ → Type 0
CoveredBy ps universal lefts rights left_open right_open = (AreReached ps rights left_open × AreReached ps lefts right_open) ⊎ IsReachedByBoth ps universal lefts rights

covered_as : (ps : List NumberPair) (universal : Option ℕ) (a b c d e f g h : List ℕ) → a ≡ e → b ≡ f → c ≡ g → d ≡ h → CoveredBy ps universal a b c d → CoveredBy ps universal e f g h
covered_as ps universal a b c d e f g h p q r s m =
    subst (λ (l : List ℕ). CoveredBy ps universal l f g h) p
    (subst (λ (l : List ℕ). CoveredBy ps universal a l g h) q
    (subst (λ (l : List ℕ). CoveredBy ps universal a b l h) r
    (subst (λ (l : List ℕ). CoveredBy ps universal a b c l) s m)))

module _ (ps : List NumberPair) (universal : Option ℕ) (known : List Truth) (left right : List (ℕ × ℕ)) (s : TargetSides) (sides : AreTargetSides known left right s) where
  covered_covers : AreCovered ps universal s → Covers ps universal known left right
  covered_covers m =
      covered_as ps universal s.left.sure.items s.right.sure.items s.left.alone.items s.right.alone.items (sure_targets known left) (sure_targets known right) (open_targets known right left) (open_targets known left right)
      sides.left.sure sides.right.sure sides.left.alone sides.right.alone m

  covers_covered : Covers ps universal known left right → AreCovered ps universal s
  covers_covered m =
      covered_as ps universal (sure_targets known left) (sure_targets known right) (open_targets known right left) (open_targets known left right) s.left.sure.items s.right.sure.items s.left.alone.items s.right.alone.items
      (sym sides.left.sure) (sym sides.right.sure) (sym sides.left.alone) (sym sides.right.alone) m

module _ (t : TableParts) (are : AreTables t) (known : List Truth) (atom : Atom) (ps : List NumberPair) (pairs_below : ArePairsBelow (length t.terms) ps) where
  sure_within : (es : List (ℕ × ℕ)) → AreRight t known atom es → IsSubset (sat (set_pairs_of (nodes_in t) ps) (terms_of (nodes_in t) (sure_targets known es))) (sat (set_pairs_of (nodes_in t) ps) (chosen t es atom))
  sure_within es right = sat_grows (set_pairs_of (nodes_in t) ps) _ _ (λ x h. sat_keeps (set_pairs_of (nodes_in t) ps) (chosen t es atom) x (sure_chosen t known atom es right x h))

  -- every term that may be in one set is in the saturation of the other
  one_side : (es os : List (ℕ × ℕ)) → AreEntries t es → AreEntries t os → AreRight t known atom es → AreRight t known atom os → AreReached ps (sure_targets known os) (open_targets known os es) → IsSubset (sat (set_pairs_of (nodes_in t) ps) (chosen t es atom)) (sat (set_pairs_of (nodes_in t) ps) (chosen t os atom))
  one_side es os own other right right_too m =
      sat_grows (set_pairs_of (nodes_in t) ps) _ _
      (λ x h. ⊎_elim
      (λ l. sat_keeps (set_pairs_of (nodes_in t) ps) (chosen t os atom) x l)
      (λ o. sure_within os right_too x ((are_reached t are ps pairs_below (sure_targets known os) (sure_below t known os other) (open_targets known os es) (open_below t known os es own)).0 m x o))
      (chosen_reached t known atom os right_too es right x h))

  universal_both : (u : Option ℕ) (left right : List (ℕ × ℕ)) → AreRight t known atom left → AreRight t known atom right → IsReachedByBoth ps u (sure_targets known left) (sure_targets known right)
      → BothUniversal (option_map (term_at t) u) (sat (set_pairs_of (nodes_in t) ps) (chosen t left atom)) (sat (set_pairs_of (nodes_in t) ps) (chosen t right atom))
  universal_both None left right lefts rights e = absurd e
  universal_both (Some k) left right lefts rights e =
      (sure_within left lefts (term_at t k) (reached_has t are ps (sure_targets known left) k e.0), sure_within right rights (term_at t k) (reached_has t are ps (sure_targets known right) k e.1))

  -- ---- if all guards are settled

  -- every chosen term is surely present
  pub settled_sure : (es : List (ℕ × ℕ)) → AreRight t known atom es → AreSettled known es → IsSubset (chosen t es atom) (terms_of (nodes_in t) (sure_targets known es))
  settled_sure es right settled x h =
      let f = has_chosen t es atom x h in
      let s = settled f.0 f.1 in
      let value : holds_at t f.0.1 atom ≡ s.0 = right f.0 f.1 s.0 s.1 in
      let sure : known_of known f.0.1 ≡ Known true = s.1 ∙ ap Known (sym value ∙ f.2) in
      subst (Has (terms_of (nodes_in t) (sure_targets known es))) f.3 (sure_has es f.0 f.1 sure)
    where
      sure_has : (es : List (ℕ × ℕ)) (e : ℕ × ℕ) → Has es e → known_of known e.1 ≡ Known true → Has (terms_of (nodes_in t) (sure_targets known es)) (term_at t e.0)
      sure_has [] e h k = absurd h
      sure_has (d ∷ es) e h k = ⊎_elim (λ same. here same) (λ r. later (truly (known_of known d.1)) (sure_has es e r k)) h
        where
          later : (b : Bool) → Has (terms_of (nodes_in t) (sure_targets known es)) (term_at t e.0) → Has (terms_of (nodes_in t) (cond b (d.0 ∷ sure_targets known es) (sure_targets known es))) (term_at t e.0)
          later true m = inr m
          later false m = m

          here : d ≡ e → Has (terms_of (nodes_in t) (cond (truly (known_of known d.1)) (d.0 ∷ sure_targets known es) (sure_targets known es))) (term_at t e.0)
          here same = subst (λ z. Has (terms_of (nodes_in t) (cond (truly (known_of known z.1)) (z.0 ∷ sure_targets known es) (sure_targets known es))) (term_at t e.0)) (sym same) (rw k (inl refl))

  open_chosen : (es os : List (ℕ × ℕ)) → AreRight t known atom es → AreSettled known es → IsSubset (terms_of (nodes_in t) (open_targets known os es)) (chosen t es atom)
  open_chosen [] os right settled x h = absurd h
  open_chosen (d ∷ es) os right settled x h = go (open_chosen es os (λ e m. right e (inr m)) (λ e m. settled e (inr m)) x) (falsely (known_of known d.1)) (has_too known os d.0 d.1) refl h
    where
      more : Has (chosen t es atom) x → Has (chosen t (d ∷ es) atom) x
      more k = has_right (cond (holds_at t d.1 atom) (term_at t d.0 ∷ []) []) (chosen t es atom) x k

      truth_of : falsely (known_of known d.1) ≡ false → holds_at t d.1 atom ≡ true
      truth_of e = by_value (settled d (inl refl)).0 (settled d (inl refl)).1
        where
          by_value : (b : Bool) → known_of known d.1 ≡ Known b → holds_at t d.1 atom ≡ true
          by_value true s = right d (inl refl) true s
          by_value false s = let f : true ≡ false = sym (ap falsely s) ∙ e in absurd cc

      go : (Has (terms_of (nodes_in t) (open_targets known os es)) x → Has (chosen t es atom) x) → (a b : Bool) → falsely (known_of known d.1) ≡ a → Has (terms_of (nodes_in t) (cond (a || b) (open_targets known os es) (d.0 ∷ open_targets known os es))) x → Has (chosen t (d ∷ es) atom) x
      go rest true b e k = more (rest k)
      go rest false true e k = more (rest k)
      go rest false false e k = ⊎_elim (λ same. subst (Has (chosen t (d ∷ es) atom)) same (chosen_has t (d ∷ es) atom d (inl refl) (truth_of e))) (λ o. more (rest o)) k

  settled_within : (es : List (ℕ × ℕ)) → AreRight t known atom es → AreSettled known es → IsSubset (sat (set_pairs_of (nodes_in t) ps) (chosen t es atom)) (sat (set_pairs_of (nodes_in t) ps) (terms_of (nodes_in t) (sure_targets known es)))
  settled_within es right settled = sat_grows (set_pairs_of (nodes_in t) ps) _ _ (λ x h. sat_keeps (set_pairs_of (nodes_in t) ps) (terms_of (nodes_in t) (sure_targets known es)) x (settled_sure es right settled x h))

  side_reached : (es os : List (ℕ × ℕ)) → AreEntries t es → AreEntries t os → AreRight t known atom es → AreRight t known atom os → AreSettled known es → AreSettled known os → IsSubset (sat (set_pairs_of (nodes_in t) ps) (chosen t es atom)) (sat (set_pairs_of (nodes_in t) ps) (chosen t os atom)) → AreReached ps (sure_targets known os) (open_targets known os es)
  side_reached es os own other right right_too settled settled_other s =
      (are_reached t are ps pairs_below (sure_targets known os) (sure_below t known os other) (open_targets known os es) (open_below t known os es own)).1
      (λ x h. settled_within os right_too settled_other x (s x (sat_keeps (set_pairs_of (nodes_in t) ps) (chosen t es atom) x (open_chosen es os right settled x h))))

  universal_reached : (u : Option ℕ) (left right : List (ℕ × ℕ)) → ((k : ℕ) → u ≡ Some k → IsTerm t k) → AreEntries t left → AreEntries t right → AreRight t known atom left → AreRight t known atom right → AreSettled known left → AreSettled known right
      → BothUniversal (option_map (term_at t) u) (sat (set_pairs_of (nodes_in t) ps) (chosen t left atom)) (sat (set_pairs_of (nodes_in t) ps) (chosen t right atom))
      → IsReachedByBoth ps u (sure_targets known left) (sure_targets known right)
  universal_reached None left right within own other lefts rights sl sr h = h
  universal_reached (Some k) left right within own other lefts rights sl sr h = (one left own lefts sl h.0, one right other rights sr h.1)
    where
      one : (es : List (ℕ × ℕ)) → AreEntries t es → AreRight t known atom es → AreSettled known es → Has (sat (set_pairs_of (nodes_in t) ps) (chosen t es atom)) (term_at t k) → IsReached ps (sure_targets known es) k
      one es has right_here settled m = has_reached t are ps pairs_below (sure_targets known es) (sure_below t known es has) k (within k refl) (settled_within es right_here settled (term_at t k) m)

  module _ (universal : Option ℕ) (left right : List (ℕ × ℕ)) (own : AreEntries t left) (other : AreEntries t right) (lefts : AreRight t known atom left) (rights : AreRight t known atom right) (s : TargetSides) (sides : AreTargetSides known left right s) where
    pub covered_congruent : AreCovered ps universal s → IsCongruent (option_map (term_at t) universal) (set_pairs_of (nodes_in t) ps) (chosen t left atom) (chosen t right atom)
    covered_congruent m =
        ⊎_elim
        (λ o. inl (λ x. (one_side left right own other lefts rights o.0 x, one_side right left other own rights lefts o.1 x)))
        (λ u. inr (universal_both universal left right lefts rights u))
        (covered_covers ps universal known left right s sides m)

    pub congruent_covered : ((k : ℕ) → universal ≡ Some k → IsTerm t k) → AreSettled known left → AreSettled known right → IsCongruent (option_map (term_at t) universal) (set_pairs_of (nodes_in t) ps) (chosen t left atom) (chosen t right atom) → AreCovered ps universal s
    congruent_covered within sl sr h =
        covers_covered ps universal known left right s sides
        (⊎_elim
        (λ same. inl (side_reached left right own other lefts rights sl sr (λ x. (same x).0), side_reached right left other own rights lefts sr sl (λ x. (same x).1)))
        (λ u. inr (universal_reached universal left right within own other lefts rights sl sr u))
        h)
