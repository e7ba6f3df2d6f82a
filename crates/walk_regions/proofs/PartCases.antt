-- Splitting of a region by the guards of items, one item after the other.
use Rattle.std.proofs.Common.{◌≡◌, ◌≢◌, ◌⊎◌, ◌+◌, ◌<◌, inl, inr, ⊎_elim, ℕ, zero, suc, Bool, true, false, not, ◌&&◌, ◌||◌, cond, List, [], ◌∷◌, ◌++◌, length, take, get_or, Some, Result, Ok, Err, OnOk, refl, sym, ap, ◌∙◌, subst}
use Rattle.std.specs.Bool.{IsTrue, IsFalse}
use Rattle.std.proofs.lemmas.Bool.{and_parts, and_from, not-true, or_left, or_right, both_ways, false_from_ne_true, true_from_ne_false, true≢false}
use Rattle.std.proofs.lemmas.Option.{slice_get-get_or}
use Rattle.kat_model.specs.Members.{Has}
use Rattle.kat_model.specs.Steps.{Atom}
use Rattle.kat_model.proofs.Lists.{has_left, has_right, has_append}
use Rattle.std.specs.List.Sorted.{IsPermutation}
use Rattle.std.proofs.lemmas.List.Sorted.{Contains-permutation}
use Rattle.kat_model.proofs.Places.{has_at, place_of_member, contains_at}
use Rattle.partial_derivs.proofs.Items.{take_item}
use Rattle.test_diagrams.specs.Functions.{DiagramsParts, value_of, IsDiagramId, IsAtomOf, IsDiagramOf, KeepsFunctions}
use Rattle.test_diagrams.specs.Reduced.{IsReduced}
use Rattle.test_diagrams.proofs.Apart.{different_apart}
use Rattle.walk_pairs.specs.Items.{guard_of, chosen}
use Rattle.walk_pairs.specs.Outputs.{one_of, IsSomewhereTrue}
use Rattle.walk_pairs.specs.declared.items.Item.{Item}
use Rattle.walk_pairs.specs.declared.items.Side.{Side}
use Rattle.walk_pairs.specs.declared.items.Side.TheVariants.{Left, Right}
use Rattle.walk_regions.specs.declared.parts.Part.{Part}
use Rattle.walk_regions.specs.Parts.{with_if, IsRegionWhere, IsPart, AreParts, HavePartIds, HasPartAt, IsCase, Distinguishes}
use Rattle.walk_regions.specs.Reaching.{IsPartOf}
use Rattle.walk_regions.proofs.AllowedImages.{within_kept}

-- ---- a region and a guard

pub region_true : (c d : DiagramsParts) (region guard id : ℕ) → IsDiagramOf d id (λ a. value_of c region a && value_of c guard a) → IsRegionWhere c d region guard true id
region_true c d region guard id is = record {
  is_id = is.in_range;
  given = λ atom fits. (
    (λ h. and_parts (value_of c region atom) (value_of c guard atom) (sym (is.value atom fits) ∙ h)),
    (λ p. is.value atom fits ∙ and_from (value_of c region atom) (value_of c guard atom) p.0 p.1),
  );
}

pub region_false : (c d : DiagramsParts) (region guard id : ℕ) → IsDiagramOf d id (λ a. value_of c region a && not (value_of c guard a)) → IsRegionWhere c d region guard false id
region_false c d region guard id is = record {
  is_id = is.in_range;
  given = λ atom fits. (
    (λ h. let p = and_parts (value_of c region atom) (not (value_of c guard atom)) (sym (is.value atom fits) ∙ h) in (p.0, not-true (value_of c guard atom) p.1)),
    (λ p. is.value atom fits ∙ and_from (value_of c region atom) (not (value_of c guard atom)) p.0 (ap not p.1)),
  );
}

-- ---- the targets of items

pub chosen-append : (d : DiagramsParts) (side : Side) (is : List Item) (i : Item) (atom : Atom) → chosen d side (is ++ i ∷ []) atom ≡ with_if (value_of d (guard_of side i) atom) (chosen d side is atom) i.target
chosen-append d side [] i atom = refl
chosen-append d side (j ∷ is) i atom = go (value_of d (guard_of side j) atom) (value_of d (guard_of side i) atom) (chosen d side (is ++ i ∷ []) atom) (chosen-append d side is i atom)
  where
    go : (w v : Bool) (ys : List ℕ) → ys ≡ cond v (chosen d side is atom ++ i.target ∷ []) (chosen d side is atom)
        → cond w (j.target ∷ ys) ys ≡ cond v (cond w (j.target ∷ chosen d side is atom) (chosen d side is atom) ++ i.target ∷ []) (cond w (j.target ∷ chosen d side is atom) (chosen d side is atom))
    go true true ys e = ap (λ zs. j.target ∷ zs) e
    go true false ys e = ap (λ zs. j.target ∷ zs) e
    go false true ys e = e
    go false false ys e = e

module _ (c d : DiagramsParts) (kept : KeepsFunctions c d) where
  guard_value : (side : Side) (i : Item) → IsDiagramId c i.left × IsDiagramId c i.right → (atom : Atom) → value_of d (guard_of side i) atom ≡ value_of c (guard_of side i) atom
  guard_value Left i ids atom = kept.values i.left ids.0 atom
  guard_value Right i ids atom = kept.values i.right ids.1 atom

  pub chosen_kept : (side : Side) (is : List Item) → ((i : Item) → Has is i → IsDiagramId c i.left × IsDiagramId c i.right) → (atom : Atom) → chosen d side is atom ≡ chosen c side is atom
  chosen_kept side [] ids atom = refl
  chosen_kept side (i ∷ is) ids atom =
      ap (λ b. cond b (i.target ∷ chosen d side is atom) (chosen d side is atom)) (guard_value side i (ids i (inl refl)) atom)
      ∙ ap (λ ts. cond (value_of c (guard_of side i) atom) (i.target ∷ ts) ts) (chosen_kept side is (λ j h. ids j (inr h)) atom)

  -- ---- when diagrams are added

  pub part_kept : (items : List Item) (whole : ℕ) (p : Part) → IsPart c items whole p → IsPart d items whole p
  part_kept items whole p part = record {
    is_id = kept.ids p.region part.is_id;
    is_whole = kept.ids whole part.is_whole;
    guards = λ i h. let g = part.guards i h in (kept.ids i.left g.0, kept.ids i.right g.1);
    within = within_kept c d kept p.region whole part.is_id part.is_whole part.within;
    lefts = λ atom fits h. part.lefts atom (fits ∙ kept.tests) (sym (kept.values p.region part.is_id atom) ∙ h) ∙ sym (chosen_kept Left items part.guards atom);
    rights = λ atom fits h. part.rights atom (fits ∙ kept.tests) (sym (kept.values p.region part.is_id atom) ∙ h) ∙ sym (chosen_kept Right items part.guards atom);
  }

  pub somewhere_kept : (id : ℕ) → IsDiagramId c id → IsSomewhereTrue c id → IsSomewhereTrue d id
  somewhere_kept id is some = record { atom = some.atom; fits = some.fits ∙ sym kept.tests; holds = kept.values id is some.atom ∙ some.holds }

  pub parts_kept : (items : List Item) (whole : ℕ) (ps : List Part) → AreParts c items whole ps → AreParts d items whole ps
  parts_kept items whole ps parts p h = let own = parts p h in (part_kept items whole p own.0, somewhere_kept p.region own.0.is_id own.1)

  pub part_ids_kept : (ps : List Part) → HavePartIds c ps → HavePartIds d ps
  part_ids_kept ps ids p h = kept.ids p.region (ids p h)

  pub part_at_kept : (ps : List Part) (atom : Atom) → HavePartIds c ps → HasPartAt c ps atom → HasPartAt d ps atom
  part_at_kept ps atom ids h = record { part = h.part; member = h.member; holds = kept.values h.part.region (ids h.part h.member) atom ∙ h.holds }

-- ---- the part of a part at which the guards of an item have two values

module _ (c₀ c₁ c₂ : DiagramsParts) (first : KeepsFunctions c₀ c₁) (second : KeepsFunctions c₁ c₂) (p : Part) (i : Item) (left right : Bool) (beside region : ℕ) (p_is : IsDiagramId c₀ p.region) (l_is : IsDiagramId c₀ i.left) (r_is : IsDiagramId c₀ i.right) (on_left : IsRegionWhere c₀ c₁ p.region i.left left beside) (on_right : IsRegionWhere c₁ c₂ beside i.right right region) where
  pub case_there : (atom : Atom) → IsAtomOf c₂ atom → IsCase c₀ p i left right atom → IsTrue (value_of c₂ region atom)
  case_there atom fits h = (on_right.given atom fits).1 ((on_left.given atom (fits ∙ second.tests)).1 (h.there, h.on_left), first.values i.right r_is atom ∙ h.on_right)

  there_case : (atom : Atom) → IsAtomOf c₂ atom → IsTrue (value_of c₂ region atom) → IsCase c₀ p i left right atom
  there_case atom fits h =
      let r = (on_right.given atom fits).0 h in
      let l = (on_left.given atom (fits ∙ second.tests)).0 r.0 in
      record { there = l.0; on_left = l.1; on_right = sym (first.values i.right r_is atom) ∙ r.1 }

  module _ (items : List Item) (whole : ℕ) (part : IsPart c₀ items whole p) (new : Part) (same : new.region ≡ region) (lefts : new.left.items ≡ with_if left p.left.items i.target) (rights : new.right.items ≡ with_if right p.right.items i.target) where
    both_kept : KeepsFunctions c₀ c₂
    both_kept = record {
      tests = second.tests ∙ first.tests;
      ids = λ id h. second.ids id (first.ids id h);
      values = λ id h atom. second.values id (first.ids id h) atom ∙ first.values id h atom;
    }

    own_ids : (j : Item) → i ≡ j → IsDiagramId c₀ j.left × IsDiagramId c₀ j.right
    own_ids j e = subst (λ (x : Item). IsDiagramId c₀ x.left × IsDiagramId c₀ x.right) e (l_is, r_is)

    all_guards : (j : Item) → Has (items ++ i ∷ []) j → IsDiagramId c₀ j.left × IsDiagramId c₀ j.right
    all_guards j h = ⊎_elim (part.guards j) (λ l. ⊎_elim (own_ids j) (λ a. absurd a) l) (has_append items (i ∷ []) j h)

    at_new : (atom : Atom) → IsTrue (value_of c₂ new.region atom) → IsTrue (value_of c₂ region atom)
    at_new atom h = subst (λ r. IsTrue (value_of c₂ r atom)) same h

    pub part_more : IsPart c₂ (items ++ i ∷ []) whole new
    part_more = record {
      is_id = subst (IsDiagramId c₂) (sym same) on_right.is_id;
      is_whole = both_kept.ids whole part.is_whole;
      guards = λ j h. let g = all_guards j h in (both_kept.ids j.left g.0, both_kept.ids j.right g.1);
      within = λ atom fits h. both_kept.values whole part.is_whole atom ∙ part.within atom (fits ∙ both_kept.tests) (there_case atom fits (at_new atom h)).there;
      lefts = λ atom fits h.
          let t = there_case atom fits (at_new atom h) in
          lefts
          ∙ ap (λ ts. with_if left ts i.target) (part.lefts atom (fits ∙ both_kept.tests) t.there)
          ∙ ap (λ b. with_if b (chosen c₀ Left items atom) i.target) (sym t.on_left)
          ∙ sym (chosen-append c₀ Left items i atom)
          ∙ sym (chosen_kept c₀ c₂ both_kept Left (items ++ i ∷ []) all_guards atom);
      rights = λ atom fits h.
          let t = there_case atom fits (at_new atom h) in
          rights
          ∙ ap (λ ts. with_if right ts i.target) (part.rights atom (fits ∙ both_kept.tests) t.there)
          ∙ ap (λ b. with_if b (chosen c₀ Right items atom) i.target) (sym t.on_right)
          ∙ sym (chosen-append c₀ Right items i atom)
          ∙ sym (chosen_kept c₀ c₂ both_kept Right (items ++ i ∷ []) all_guards atom);
    }

  more_guards : (items : List Item) → ((j : Item) → Has items j → IsDiagramId c₀ j.left × IsDiagramId c₀ j.right) → (j : Item) → Has (items ++ i ∷ []) j → IsDiagramId c₀ j.left × IsDiagramId c₀ j.right
  more_guards items guards j h =
      ⊎_elim (guards j) (λ l. ⊎_elim (λ e. subst (λ (x : Item). IsDiagramId c₀ x.left × IsDiagramId c₀ x.right) e (l_is, r_is)) (λ a. absurd a) l) (has_append items (i ∷ []) j h)

  -- an empty part may have any terms
  pub part_empty : (items : List Item) (whole : ℕ) → IsPart c₀ items whole p → (new : Part) → new.region ≡ region → ((atom : Atom) → IsAtomOf c₂ atom → IsTrue (value_of c₂ new.region atom) → ⊥) → IsPart c₂ (items ++ i ∷ []) whole new
  part_empty items whole part new same none = record {
    is_id = subst (IsDiagramId c₂) (sym same) on_right.is_id;
    is_whole = second.ids whole (first.ids whole part.is_whole);
    guards = λ j h. let g = more_guards items part.guards j h in (second.ids j.left (first.ids j.left g.0), second.ids j.right (first.ids j.right g.1));
    within = λ atom fits h. absurd (none atom fits h);
    lefts = λ atom fits h. absurd (none atom fits h);
    rights = λ atom fits h. absurd (none atom fits h);
  }

-- ---- an additional part in a list

pub parts_pushed : (d : DiagramsParts) (items : List Item) (whole : ℕ) (ps new : List Part) (p : Part) → new ≡ ps ++ p ∷ [] → AreParts d items whole ps → IsPart d items whole p → IsSomewhereTrue d p.region → AreParts d items whole new
parts_pushed d items whole ps new p e parts part some x h =
    ⊎_elim (parts x) (λ l. ⊎_elim (λ s. subst (λ (y : Part). IsPart d items whole y × IsSomewhereTrue d y.region) s (part, some)) (λ a. absurd a) l) (has_append ps (p ∷ []) x (subst (λ l. Has l x) e h))

pub part_ids_pushed : (d : DiagramsParts) (ps new : List Part) (p : Part) → new ≡ ps ++ p ∷ [] → HavePartIds d ps → IsDiagramId d p.region → HavePartIds d new
part_ids_pushed d ps new p e ids own x h =
    ⊎_elim (ids x) (λ l. ⊎_elim (λ s. subst (λ (y : Part). IsDiagramId d y.region) s own) (λ a. absurd a) l) (has_append ps (p ∷ []) x (subst (λ l. Has l x) e h))

pub part_at_pushed : (d : DiagramsParts) (ps new : List Part) (p : Part) (atom : Atom) → new ≡ ps ++ p ∷ [] → HasPartAt d ps atom ⊎ IsTrue (value_of d p.region atom) → HasPartAt d new atom
part_at_pushed d ps new p atom e h =
    ⊎_elim
    (λ old. record { part = old.part; member = subst (λ l. Has l old.part) (sym e) (has_left ps (p ∷ []) old.part old.member); holds = old.holds })
    (λ own. record { part = p; member = subst (λ l. Has l p) (sym e) (has_right ps (p ∷ []) p (inl refl)); holds = own })
    h

pub part_at_last : (d : DiagramsParts) (ps : List Part) (p : Part) (atom : Atom) → HasPartAt d (ps ++ p ∷ []) atom → HasPartAt d ps atom ⊎ IsTrue (value_of d p.region atom)
part_at_last d ps p atom h =
    ⊎_elim
    (λ old. inl (record { part = h.part; member = old; holds = h.holds }))
    (λ l. ⊎_elim (λ s. inr (subst (λ (y : Part). IsTrue (value_of d y.region atom)) (sym s) h.holds)) (λ a. absurd a) l)
    (has_append ps (p ∷ []) h.part h.member)

-- the empty part has no atom
pub none_there : (d : DiagramsParts) (never id : ℕ) (atom : Atom) → IsDiagramOf d never (λ a. false) → id ≡ never → IsAtomOf d atom → IsTrue (value_of d id atom) → ⊥
none_there d never id atom is e fits h = true≢false (sym h ∙ ap (λ i. value_of d i atom) e ∙ is.value atom fits)

-- a region other than the empty one has an atom
pub region_somewhere : (d : DiagramsParts) → IsReduced d → (never id : ℕ) → IsDiagramOf d never (λ a. false) → IsDiagramId d id → id ≢ never → IsSomewhereTrue d id
region_somewhere d reduced never id is own ne =
    let a = different_apart d reduced id never own is.in_range ne in
    record { atom = a.atom; fits = a.fits; holds = true_from_ne_false (value_of d id a.atom) (λ f. a.apart (f ∙ sym (is.value a.atom a.fits))) }

-- the case of one value of a guard, and then of the other
pub both_values : {H₀ H₁ H₂ P₀ P₁ : Type 0} (g₀ g₁ : Bool) → g₁ ≡ g₀ → (P₀ → P₁) → (H₀ ⊎ (P₀ × (g₀ ≡ false)) → H₁) → (H₁ ⊎ (P₁ × (g₁ ≡ true)) → H₂) → H₀ ⊎ P₀ → H₂
both_values true g₁ e more first second h = ⊎_elim (λ old. second (inl (first (inl old)))) (λ p. second (inr (more p, e))) h
both_values false g₁ e more first second h = ⊎_elim (λ old. second (inl (first (inl old)))) (λ p. second (inl (first (inr (p, refl))))) h

-- ---- guards that are true nowhere

-- the guard is false at each atom
pub never_true : (d : DiagramsParts) (never guard : ℕ) (atom : Atom) → IsDiagramOf d never (λ a. false) → guard ≡ never → IsAtomOf d atom → value_of d guard atom ≡ false
never_true d never guard atom is e fits = ap (λ i. value_of d i atom) e ∙ is.value atom fits

pub region_never : (d : DiagramsParts) (region never guard : ℕ) → IsDiagramId d region → IsDiagramOf d never (λ a. false) → guard ≡ never → IsRegionWhere d d region guard false region
region_never d region never guard own is e = record {
  is_id = own;
  given = λ atom fits. ((λ h. (h, never_true d never guard atom is e fits)), (λ p. p.0));
}

both_false : (a b : Bool) → (a || b) ≡ false → (a ≡ false) × (b ≡ false)
both_false true b e = absurd (true≢false e)
both_false false b e = (refl, e)

-- the guards differ where the guard of the other side is true
shows_side : (c d : DiagramsParts) (kept : KeepsFunctions c d) (old side never other id : ℕ) → IsDiagramOf c never (λ a. false) → other ≡ never → IsDiagramOf d id (λ a. value_of c old a || value_of c side a) → (atom : Atom) → IsAtomOf d atom → IsFalse (value_of d id atom) → (value_of c old atom ≡ false) × (value_of c side atom ≡ value_of c other atom)
shows_side c d kept old side never other id none e is atom fits h =
    let f = both_false (value_of c old atom) (value_of c side atom) (sym (is.value atom fits) ∙ h) in
    (f.0, f.1 ∙ sym (never_true c never other atom none e (fits ∙ kept.tests)))

pub shows_left : (c d : DiagramsParts) → KeepsFunctions c d → (old never id : ℕ) (i : Item) → IsDiagramOf c never (λ a. false) → i.right ≡ never → IsDiagramOf d id (λ a. value_of c old a || value_of c i.left a) → Distinguishes c d old i id
shows_left c d kept old never id i none e is = record {
  is_id = is.in_range;
  was = λ atom fits h. (shows_side c d kept old i.left never i.right id none e is atom fits h).0;
  alike = λ atom fits h. (shows_side c d kept old i.left never i.right id none e is atom fits h).1;
}

pub shows_right : (c d : DiagramsParts) → KeepsFunctions c d → (old never id : ℕ) (i : Item) → IsDiagramOf c never (λ a. false) → i.left ≡ never → IsDiagramOf d id (λ a. value_of c old a || value_of c i.right a) → Distinguishes c d old i id
shows_right c d kept old never id i none e is = record {
  is_id = is.in_range;
  was = λ atom fits h. (shows_side c d kept old i.right never i.left id none e is atom fits h).0;
  alike = λ atom fits h. sym (shows_side c d kept old i.right never i.left id none e is atom fits h).1;
}

-- ---- items whose guards differ

pub tells_apart : (c d e : DiagramsParts) → KeepsFunctions c d → KeepsFunctions d e → (old apart id : ℕ) (i : Item) → IsDiagramId c old → IsDiagramOf d apart (λ a. one_of (value_of c i.left a) (value_of c i.right a)) → IsDiagramOf e id (λ a. value_of d old a || value_of d apart a) → Distinguishes c e old i id
tells_apart c d e k l old apart id i old_is one all = record {
  is_id = all.in_range;
  was = λ atom fits h. false_from_ne_true (value_of c old atom) (λ t. both_ways (value_of e id atom) h (all.value atom fits ∙ or_left (value_of d old atom) (value_of d apart atom) (k.values old old_is atom ∙ t)));
  alike = λ atom fits h.
      let none : IsFalse (value_of d apart atom) = false_from_ne_true (value_of d apart atom) (λ t. both_ways (value_of e id atom) h (all.value atom fits ∙ or_right (value_of d old atom) (value_of d apart atom) t)) in
      same_values (value_of c i.left atom) (value_of c i.right atom) (sym (one.value atom (fits ∙ l.tests)) ∙ none);
}
  where
    same_values : (a b : Bool) → one_of a b ≡ false → a ≡ b
    same_values true true e = refl
    same_values true false e = absurd (true≢false e)
    same_values false true e = absurd (true≢false e)
    same_values false false e = refl

pub alike_chosen : (d : DiagramsParts) (is : List Item) (atom : Atom) → ((i : Item) → Has is i → value_of d i.left atom ≡ value_of d i.right atom) → chosen d Left is atom ≡ chosen d Right is atom
alike_chosen d [] atom same = refl
alike_chosen d (i ∷ is) atom same =
    ap (λ b. cond b (i.target ∷ chosen d Left is atom) (chosen d Left is atom)) (same i (inl refl))
    ∙ ap (λ ts. cond (value_of d i.right atom) (i.target ∷ ts) ts) (alike_chosen d is atom (λ j h. same j (inr h)))

-- what holds for the first k items and the next one holds for the first k + 1 items
pub front_more : {X : Type 0} (P : List X → Type 0) (xs : List X) (k : ℕ) (x : X) → k < length xs → x ≡ get_or xs k x → P (take k xs ++ x ∷ []) → P (take (k + 1) xs)
front_more P xs k x lt is h = subst P (sym (take_item xs k x lt is)) h

-- a fact that holds for any result
pub always_ok : {T E P : Type 0} (r : Result T E) → P → OnOk r P
always_ok (Ok v) p = p
always_ok (Err e) p = tt

-- two facts about one result
pub both_ok : {T E : Type 0} (P Q : Type 0) (r : Result T E) → OnOk r P → OnOk r Q → OnOk r (P × Q)
both_ok P Q (Ok v) p q = (p, q)
both_ok P Q (Err e) p q = tt

-- without items, the whole region is a part
pub first_part : (d : DiagramsParts) (region : ℕ) (p : Part) → p.region ≡ region → p.left.items ≡ [] → p.right.items ≡ [] → IsDiagramId d region → IsPart d [] region p
first_part d region p same lefts rights is = record {
  is_id = subst (IsDiagramId d) (sym same) is;
  is_whole = is;
  guards = λ i h. absurd h;
  within = λ a fits h. subst (λ r. IsTrue (value_of d r a)) same h;
  lefts = λ atom fits h. lefts;
  rights = λ atom fits h. rights;
}

pub first_parts : (d : DiagramsParts) (region : ℕ) (p : Part) (ps none : List Part) → ps ≡ none ++ p ∷ [] → none ≡ [] → p.region ≡ region → p.left.items ≡ [] → p.right.items ≡ [] → IsDiagramId d region → IsSomewhereTrue d region → AreParts d [] region ps × ((atom : Atom) → IsTrue (value_of d region atom) → HasPartAt d ps atom)
first_parts d region p ps none pushed empty same lefts rights is some = (
  parts_pushed d [] region none ps p pushed (λ x h. absurd (subst (λ l. Has l x) empty h)) (first_part d region p same lefts rights is) (subst (IsSomewhereTrue d) (sym same) some),
  (λ atom h. part_at_pushed d none ps p atom pushed (inr (subst (λ r. IsTrue (value_of d r atom)) (sym same) h))),
)

-- ---- items whose guards are equal if a diagram is false

abbrev pub AreAlike : DiagramsParts → DiagramsParts → ℕ → List Item → Type 0
AreAlike c d id items = (atom : Atom) → IsAtomOf d atom → IsFalse (value_of d id atom) → (i : Item) → Has items i → value_of c i.left atom ≡ value_of c i.right atom

pub alike_more : (c d e : DiagramsParts) → KeepsFunctions c d → KeepsFunctions d e → (items : List Item) (i : Item) (old id : ℕ) → IsDiagramId c i.left → IsDiagramId c i.right → Distinguishes d e old i id → AreAlike c d old items → AreAlike c e id (items ++ i ∷ [])
alike_more c d e first second items i old id l_is r_is given alike atom fits none j h =
    ⊎_elim
    (alike atom (fits ∙ second.tests) (given.was atom fits none) j)
    (λ l. ⊎_elim (λ s. subst (λ (x : Item). value_of c x.left atom ≡ value_of c x.right atom) s (sym (first.values i.left l_is atom) ∙ given.alike atom fits none ∙ first.values i.right r_is atom)) (λ a. absurd a) l)
    (has_append items (i ∷ []) j h)

second_false : (a b : Bool) → a ≡ true → (a && b) ≡ false → b ≡ false
second_false true b e f = f
second_false false b e f = absurd (true≢false (sym e))

pub alike_rest : (c d e : DiagramsParts) → KeepsFunctions c d → KeepsFunctions d e → (items : List Item) (region apart id : ℕ) → ((i : Item) → Has items i → IsDiagramId c i.left × IsDiagramId c i.right) → IsDiagramId c region → IsDiagramOf e id (λ a. value_of d region a && value_of d apart a) → AreAlike c d apart items
    → (atom : Atom) → IsAtomOf e atom → IsTrue (value_of e region atom) → IsFalse (value_of e id atom) → chosen e Left items atom ≡ chosen e Right items atom
alike_rest c d e first second items region apart id ids region_is is alike atom fits there none =
    let none' : IsFalse (value_of d apart atom) = second_false (value_of d region atom) (value_of d apart atom) (sym (second.values region (first.ids region region_is) atom) ∙ there) (sym (is.value atom fits) ∙ none) in
    alike_chosen e items atom
    (λ i h.
    let g = ids i h in
    second.values i.left (first.ids i.left g.0) atom ∙ first.values i.left g.0 atom
    ∙ alike atom (fits ∙ second.tests) none' i h
    ∙ sym (second.values i.right (first.ids i.right g.1) atom ∙ first.values i.right g.1 atom))

pub region_part : (d e : DiagramsParts) → KeepsFunctions d e → (region apart id : ℕ) → IsDiagramId d region → IsDiagramOf e id (λ a. value_of d region a && value_of d apart a) → IsPartOf e region id
region_part d e kept region apart id region_is is = record {
  is_id = is.in_range;
  within = λ atom fits h. kept.values region region_is atom ∙ (and_parts (value_of d region atom) (value_of d apart atom) (sym (is.value atom fits) ∙ h)).0;
}

-- a member of the first k is a member of the list
pub front_has : {X : Type 0} (xs : List X) (k : ℕ) (x : X) → Has (take k xs) x → Has xs x
front_has [] zero x h = absurd h
front_has [] (suc k) x h = absurd h
front_has (y ∷ xs) zero x h = absurd h
front_has (y ∷ xs) (suc k) x h = ⊎_elim inl (λ m. inr (front_has xs k x m)) h

-- a list in another order has the same members
pub has_permuted : {X : Type 0} (xs ys : List X) → IsPermutation xs ys → (x : X) → Has xs x → Has ys x
has_permuted xs ys p x h =
    let k = place_of_member xs x h in
    let c = Contains-permutation xs ys x p (contains_at xs k.0 x k.1) in
    has_at ys c.0 x (slice_get-get_or ys c.0 x c.1 ∙ ap Some c.2)
