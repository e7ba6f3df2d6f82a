-- What the tests of two lists of targets say about whether listed pairs match them.
use Rattle.std.proofs.Common.{◌≡◌, ℕ, ◌⊎◌, inl, inr, ⊎_elim, List, [], ◌∷◌, map, length, refl, sym, ap, ◌∙◌, subst, Bool, true, false, nat_lt, nat_eq, ◌&&◌, cond, Option, Some, None}
use Rattle.std.specs.Option.{option_map, option_map_or, MatchOption}
use Rattle.std.specs.List.{AllByRecursion}
use Rattle.std.specs.List.Sorted.{IsStrictlySortedBy}
use Rattle.std.specs.Map.{keys_of}
use Rattle.std.specs.Cmp.Lexicographic.{pointwise}
use Rattle.std.specs.declared.cmp.Ordering.TheVariants.{Less}
use Rattle.std.specs.Ordering.{nat_cmp}
use Rattle.std.proofs.lemmas.Bool.{true≢false, and_parts, and_from, or_parts}
use Rattle.std.proofs.lemmas.Map.Keys.{sorted_head, sorted_tail}
use Rattle.std.proofs.lemmas.Option.{MatchOption-at_none}
use Rattle.kat_model.specs.Trees.{Term}
use Rattle.kat_model.specs.Members.{Has, IsSubset, SameMembers}
use Rattle.kat_model.specs.Steps.{Atom}
use Rattle.kat_model.specs.Pairs.{SetPair, sat, BothUniversal, IsListed}
use Rattle.kat_model.specs.TestedPairs.{pairs_at}
use Rattle.kat_model.proofs.Lists.{has_any, any_has, has_map, map_has, same_members_sym, same_members_trans}
use Rattle.kat_model.proofs.Saturation.{sat_keeps}
use Rattle.certificate.specs.declared.nodes.Style.{Style}
use Rattle.certificate.specs.declared.nodes.Style.TheVariants.{Plain, UpTo, Under}
use Rattle.certificate.specs.PairParts.{PairParts}
use Rattle.certificate.specs.Accepted.{tested_pair_of}
use Rattle.term_nodes.specs.NumberSets.{NumberPair, IsNumberSet, are_ascending, set_pairs_of, terms_of}
use Rattle.term_nodes.proofs.TermTrees.{one_id_a_tree}
use Rattle.cert_checker.specs.NodeTables.{TableParts, AreTables, IsTerm, term_at, holds_at, nodes_in}
use Rattle.cert_checker.specs.Targets.{chosen, guard_of, AreEntries}
use Rattle.cert_checker.proofs.ChosenTargets.{chosen_has, has_chosen, guard_member, any_value}
use Rattle.cert_checker.specs.declared.known.Truth.{Truth}
use Rattle.cert_checker.specs.declared.known.Truth.TheVariants.{Known, Undecided as UndecidedBy}
use Rattle.cert_checker.specs.declared.sides.TargetSide.{TargetSide}
use Rattle.cert_checker.specs.Cases.{known_of, truly, falsely}
use Rattle.cert_checker.specs.Questions.{AreMatchedIn}
use Rattle.cert_checker.specs.Sides.{sure_targets, open_targets, has_too, is_sure, AreSettled, AreSettledAmong, IsWaitedBy, IsTargetSide}
use Rattle.cert_checker.specs.Working.Matching.{lists}
use Rattle.cert_checker.proofs.TargetKeys.{less_lt, guard_found, open_entry}
use Rattle.cert_checker.proofs.Covering.{AreRight, truly_value, sure_chosen}
use Rattle.cert_checker.proofs.Covered.{sure_below, settled_sure}
use Rattle.cert_checker.proofs.ListedPairs.{same_numbers, same_pointwise, pointwise_itself}

-- ---- the numbers of terms ascend

-- a number below the keys is below the surely present targets
sure_above : (known : List Truth) (x : ℕ) (es : List (ℕ × ℕ)) → AllByRecursion (λ y. nat_cmp x y ≡ Less) (keys_of es) → are_ascending (sure_targets known es) ≡ true → are_ascending (x ∷ sure_targets known es) ≡ true
sure_above known x [] above a = refl
sure_above known x (e ∷ es) above a = go (truly (known_of known e.1)) (sure_above known x es above.1) a
  where
    go : (b : Bool) → (are_ascending (sure_targets known es) ≡ true → are_ascending (x ∷ sure_targets known es) ≡ true) → are_ascending (cond b (e.0 ∷ sure_targets known es) (sure_targets known es)) ≡ true → are_ascending (x ∷ cond b (e.0 ∷ sure_targets known es) (sure_targets known es)) ≡ true
    go true rest h = and_from (nat_lt x e.0) _ (less_lt x e.0 above.0) h
    go false rest h = rest h

sure_ascending : (known : List Truth) (es : List (ℕ × ℕ)) → IsStrictlySortedBy nat_cmp (keys_of es) → are_ascending (sure_targets known es) ≡ true
sure_ascending known [] sorted = refl
sure_ascending known (e ∷ es) sorted = go (truly (known_of known e.1)) (sure_ascending known es (sorted_tail nat_cmp e.0 (keys_of es) sorted))
  where
    go : (b : Bool) → are_ascending (sure_targets known es) ≡ true → are_ascending (cond b (e.0 ∷ sure_targets known es) (sure_targets known es)) ≡ true
    go true rest = sure_above known e.0 es (sorted_head nat_cmp e.0 (keys_of es) sorted) rest
    go false rest = rest

-- ---- open terms

sure_in : (known : List Truth) (es : List (ℕ × ℕ)) (e : ℕ × ℕ) → Has es e → truly (known_of known e.1) ≡ true → Has (sure_targets known es) e.0
sure_in known [] e h on = absurd h
sure_in known (d ∷ es) e h on = ⊎_elim (λ same. here same) (λ r. later (truly (known_of known d.1)) (sure_in known es e r on)) h
  where
    later : (b : Bool) → Has (sure_targets known es) e.0 → Has (cond b (d.0 ∷ sure_targets known es) (sure_targets known es)) e.0
    later true m = inr m
    later false m = m

    here : d ≡ e → Has (cond (truly (known_of known d.1)) (d.0 ∷ sure_targets known es) (sure_targets known es)) e.0
    here same = subst (λ (z : ℕ × ℕ). Has (cond (truly (known_of known z.1)) (z.0 ∷ sure_targets known es) (sure_targets known es)) e.0) (sym same) (rw on (inl refl))

may_true : (x : Truth) (b : Bool) → x ≡ Known b → falsely x ≡ false → truly x ≡ true
may_true x true is off = ap truly is
may_true x false is off = absurd (true≢false (sym (ap falsely is) ∙ off))

-- if the guard of no open term waits, the open terms are sure
open_sure : (known : List Truth) (os es : List (ℕ × ℕ)) → IsStrictlySortedBy nat_cmp (keys_of es) → AreSettledAmong known es (open_targets known os es) → IsSubset (open_targets known os es) (sure_targets known es)
open_sure known os es sorted settled k h =
    let f = open_entry known os es k h in
    let s = settled k f.0.1 h (ap (guard_of es) (sym f.2) ∙ guard_found es f.0 sorted f.1) in
    subst (Has (sure_targets known es)) f.2 (sure_in known es f.0 f.1 (may_true (known_of known f.0.1) s.0 s.1 (or_parts (falsely (known_of known f.0.1)) (has_too known os f.0.0 f.0.1) f.3).0))

-- ---- what is known of one side

-- if no such guard waits, every term that may be only in one set is surely in it
pub side_sure : (known : List Truth) (os es : List (ℕ × ℕ)) (s : TargetSide) → IsTargetSide known os es s → s.alone_waits ≡ None → IsSubset s.alone.items s.sure.items
side_sure known os es s side none k h =
    subst (λ (l : List ℕ). Has l k) (sym side.sure)
    (open_sure known os es side.ascends (MatchOption-at_none (AreSettledAmong known es (open_targets known os es)) (IsWaitedBy known es) none side.alone_waits) k (subst (λ (l : List ℕ). Has l k) side.alone h))

pub side_settled : (known : List Truth) (os es : List (ℕ × ℕ)) (s : TargetSide) → IsTargetSide known os es s → s.waits ≡ None → AreSettled known es
side_settled known os es s side none = MatchOption-at_none (AreSettled known es) (IsWaitedBy known es) none side.waits

pub none_alone : (known : List Truth) (os es : List (ℕ × ℕ)) (s : TargetSide) → IsTargetSide known os es s → s.waits ≡ None → s.alone_waits ≡ None
none_alone known os es s side none = go s.alone_waits side.alone_waits
  where
    go : (o : Option ℕ) → MatchOption o (AreSettledAmong known es (open_targets known os es)) (IsWaitedBy known es) → o ≡ None
    go None h = refl
    go (Some k) h =
        let v = side_settled known os es s side none h.0 h.1 in
        let f : UndecidedBy k ≡ Known v.0 = sym h.2 ∙ v.1 in
        absurd cc

-- ---- the results of the tests

module _ (t : TableParts) (are : AreTables t) (known : List Truth) (atom : Atom) (universal : Option ℕ) (left right : List (ℕ × ℕ)) (own : AreEntries t left) (other : AreEntries t right) (at_left : AreRight t known atom left) (at_right : AreRight t known atom right) where
  -- every term that is surely among the targets is chosen
  sure_has : (u : ℕ) (es : List (ℕ × ℕ)) → AreRight t known atom es → is_sure known es u ≡ true → Has (chosen t es atom) (term_at t u)
  sure_has u es right_here s =
      let v = any_value (λ g. truly (known_of known g)) (guard_of es u) s in
      let member = guard_member u es v.0 v.1 in
      chosen_has t es atom (u, v.0) member (right_here (u, v.0) member true (truly_value (known_of known v.0) v.2))

  both_universal : (universal : Option ℕ) → option_map_or (λ u. is_sure known left u && is_sure known right u) universal false ≡ true → BothUniversal (option_map (term_at t) universal) (chosen t left atom) (chosen t right atom)
  both_universal None e = absurd cc
  both_universal (Some u) e =
      let parts = and_parts (is_sure known left u) (is_sure known right u) e in
      (sure_has u left at_left parts.0, sure_has u right at_right parts.1)

  more_universal : (universal : Option Term) (ps : List SetPair) (es fs : List Term) → BothUniversal universal es fs → BothUniversal universal (sat ps es) (sat ps fs)
  more_universal None ps es fs h = h
  more_universal (Some u) ps es fs h = (sat_keeps ps es u h.0, sat_keeps ps fs u h.1)

  -- both sets surely contain the universal term
  pub universal_holds : option_map_or (λ u. is_sure known left u && is_sure known right u) universal false ≡ true → (ps : List PairParts) (style : Style) (to : Atom) → AreMatchedIn (nodes_in t) style (option_map (term_at t) universal) ps (chosen t left atom) (chosen t right atom) to
  universal_holds e ps Plain to = inr (both_universal universal e)
  universal_holds e ps UpTo to = inr (more_universal (option_map (term_at t) universal) (pairs_at (map (tested_pair_of (nodes_in t)) ps) to) (chosen t left atom) (chosen t right atom) (both_universal universal e))
  universal_holds e ps Under to = inr (more_universal (option_map (term_at t) universal) (pairs_at (map (tested_pair_of (nodes_in t)) ps) to) (chosen t left atom) (chosen t right atom) (both_universal universal e))

  -- if all guards are settled, the chosen terms are the surely present ones
  settled_same : (es : List (ℕ × ℕ)) → AreRight t known atom es → AreSettled known es → SameMembers (chosen t es atom) (terms_of (nodes_in t) (sure_targets known es))
  settled_same es right_here settled x = (settled_sure t are known atom [] (λ p h. absurd h) es right_here settled x, sure_chosen t known atom es right_here x)

  module _ (ns : List NumberPair) (settled : AreSettled known left) (settled_other : AreSettled known right) where
    -- the sets of surely present terms are listed
    pub listed_holds : lists ns (sure_targets known left) (sure_targets known right) ≡ true → IsListed (set_pairs_of (nodes_in t) ns) (chosen t left atom) (chosen t right atom)
    listed_holds e =
        let found = has_any (λ (p : NumberPair). pointwise nat_eq p.left (sure_targets known left) && pointwise nat_eq p.right (sure_targets known right)) ns e in
        let parts = and_parts (pointwise nat_eq found.0.left (sure_targets known left)) (pointwise nat_eq found.0.right (sure_targets known right)) found.2 in
        record {
          pair = record { left = terms_of (nodes_in t) found.0.left; right = terms_of (nodes_in t) found.0.right };
          listed = map_has (λ (p : NumberPair). record { left = terms_of (nodes_in t) p.left; right = terms_of (nodes_in t) p.right }) ns found.0 found.1;
          lefts = subst (λ ks. SameMembers (chosen t left atom) (terms_of (nodes_in t) ks)) (sym (same_pointwise found.0.left (sure_targets known left) parts.0)) (settled_same left at_left settled);
          rights = subst (λ ks. SameMembers (chosen t right atom) (terms_of (nodes_in t) ks)) (sym (same_pointwise found.0.right (sure_targets known right) parts.1)) (settled_same right at_right settled_other);
        }

    module _ (sorted : IsStrictlySortedBy nat_cmp (keys_of left)) (sorted_other : IsStrictlySortedBy nat_cmp (keys_of right)) where
      -- a chosen universal term is surely present
      chosen_sure : (u : ℕ) → IsTerm t u → (es : List (ℕ × ℕ)) → AreEntries t es → AreRight t known atom es → AreSettled known es → IsStrictlySortedBy nat_cmp (keys_of es) → Has (chosen t es atom) (term_at t u) → is_sure known es u ≡ true
      chosen_sure u is_term es entries right_here all_settled keys h =
          let f = has_chosen t es atom (term_at t u) h in
          let one : f.0.0 ≡ u = one_id_a_tree (nodes_in t) are.rules f.0.0 u (entries f.0 f.1).0 is_term f.3 in
          let s = all_settled f.0 f.1 in
          let value : holds_at t f.0.1 atom ≡ s.0 = right_here f.0 f.1 s.0 s.1 in
          let sure : known_of known f.0.1 ≡ Known true = s.1 ∙ ap Known (sym value ∙ f.2) in
          let found : guard_of es u ≡ Some f.0.1 = ap (guard_of es) (sym one) ∙ guard_found es f.0 keys f.1 in
          ap (λ o. option_map_or (λ g. truly (known_of known g)) o false) found ∙ ap truly sure

      universal_sure : (universal : Option ℕ) → ((u : ℕ) → universal ≡ Some u → IsTerm t u) → BothUniversal (option_map (term_at t) universal) (chosen t left atom) (chosen t right atom) → option_map_or (λ u. is_sure known left u && is_sure known right u) universal false ≡ true
      universal_sure None within h = absurd h
      universal_sure (Some u) within h =
          and_from (is_sure known left u) (is_sure known right u)
          (chosen_sure u (within u refl) left own at_left settled sorted h.0)
          (chosen_sure u (within u refl) right other at_right settled_other sorted_other h.1)

      module _ (numbers : (n : NumberPair) → Has ns n → IsNumberSet (length t.terms) n.left × IsNumberSet (length t.terms) n.right) where
        listed_found : IsListed (set_pairs_of (nodes_in t) ns) (chosen t left atom) (chosen t right atom) → lists ns (sure_targets known left) (sure_targets known right) ≡ true
        listed_found h =
            let f = has_map (λ (p : NumberPair). record { left = terms_of (nodes_in t) p.left; right = terms_of (nodes_in t) p.right }) ns h.pair h.listed in
            let sets = numbers f.0 f.1 in
            let lefts_are : f.0.left ≡ sure_targets known left =
            same_numbers t are f.0.left (sure_targets known left) sets.0.there (sure_below t known left own) sets.0.ascending (sure_ascending known left sorted)
            (same_members_trans (terms_of (nodes_in t) f.0.left) (chosen t left atom) (terms_of (nodes_in t) (sure_targets known left))
            (same_members_sym (chosen t left atom) (terms_of (nodes_in t) f.0.left) (subst (λ (p : SetPair). SameMembers (chosen t left atom) p.left) (sym f.2) h.lefts))
            (settled_same left at_left settled)) in
            let rights_are : f.0.right ≡ sure_targets known right =
            same_numbers t are f.0.right (sure_targets known right) sets.1.there (sure_below t known right other) sets.1.ascending (sure_ascending known right sorted_other)
            (same_members_trans (terms_of (nodes_in t) f.0.right) (chosen t right atom) (terms_of (nodes_in t) (sure_targets known right))
            (same_members_sym (chosen t right atom) (terms_of (nodes_in t) f.0.right) (subst (λ (p : SetPair). SameMembers (chosen t right atom) p.right) (sym f.2) h.rights))
            (settled_same right at_right settled_other)) in
            any_has (λ (p : NumberPair). pointwise nat_eq p.left (sure_targets known left) && pointwise nat_eq p.right (sure_targets known right)) ns f.0 f.1
            (and_from (pointwise nat_eq f.0.left (sure_targets known left)) _
            (ap (λ ks. pointwise nat_eq ks (sure_targets known left)) lefts_are ∙ pointwise_itself (sure_targets known left))
            (ap (λ ks. pointwise nat_eq ks (sure_targets known right)) rights_are ∙ pointwise_itself (sure_targets known right)))

        pub unlisted_fails : ((u : ℕ) → universal ≡ Some u → IsTerm t u) → option_map_or (λ u. is_sure known left u && is_sure known right u) universal false ≡ false → (lists ns (sure_targets known left) (sure_targets known right) ≡ true → ⊥)
            → IsListed (set_pairs_of (nodes_in t) ns) (chosen t left atom) (chosen t right atom) ⊎ BothUniversal (option_map (term_at t) universal) (chosen t left atom) (chosen t right atom) → ⊥
        unlisted_fails within unsure none m =
            ⊎_elim
            (λ l. none (listed_found l))
            (λ u. true≢false (sym (universal_sure universal within u) ∙ unsure))
            m
