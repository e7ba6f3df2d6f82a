-- Merging of the entries of a walk into one pair for each two sets.
use Rattle.std.proofs.Common.{◌≡◌, ◌<◌, ◌+◌, ◌||◌, inl, ⊎_elim, ℕ, Bool, true, false, nat_eq, List, [], ◌∷◌, ◌++◌, slice_get, Some, refl, sym, ap, ◌∙◌, subst, arith, append_assoc, append-nil}
use Rattle.std.specs.Bool.{IsTrue}
use Rattle.std.proofs.lemmas.Bool.{both_ways, eqb-true, eqb-false, or_cases, or_left, or_right}
use Rattle.std.proofs.lemmas.Option.{same_Some}
use Rattle.kat_model.specs.Members.{Has}
use Rattle.kat_model.specs.Problems.{IsTestInRange}
use Rattle.kat_model.specs.Steps.{Atom, truth}
use Rattle.kat_model.specs.Trees.{TestTree}
use Rattle.kat_model.proofs.Lists.{has_left, has_right, has_append}
use Rattle.kat_model.proofs.Places.{place_of_member}
use Rattle.term_nodes.specs.NodeLists.{NodeParts}
use Rattle.term_nodes.specs.NodeTrees.{test_tree_at}
use Rattle.term_nodes.specs.Growth.{Grows}
use Rattle.certificate.specs.PairParts.{PairParts}
use Rattle.test_diagrams.specs.Functions.{DiagramsParts, value_of, IsDiagramId, IsAtomOf, IsDiagramOf, KeepsFunctions}
use Rattle.walk_regions.specs.Entries.{EntryParts}
use Rattle.walk_regions.specs.Working.StoredTests.{IsTestFor}
use Rattle.walk_regions.specs.Merging.{IsReachedThere, AreAtomsOf, IsMergedPair, HasPairOf, HasEarlierAlike, IsFirst, AreFirst}

-- ---- the atoms of two sets

pub reached_more : (c : DiagramsParts) (es fs : List EntryParts) (left right : List ℕ) (atom : Atom) → ((e : EntryParts) → Has es e → Has fs e) → IsReachedThere c es left right atom → IsReachedThere c fs left right atom
reached_more c es fs left right atom more r = record { entry = r.entry; member = more r.entry r.member; left_is = r.left_is; right_is = r.right_is; holds = r.holds }

pub atoms_none : (c d : DiagramsParts) (left right : List ℕ) (never : ℕ) → IsDiagramOf d never (λ atom. false) → AreAtomsOf c d [] left right never
atoms_none c d left right never is = record {
  is_id = is.in_range;
  there = λ atom fits h. absurd (both_ways (value_of d never atom) (is.value atom fits) h);
  back = λ atom fits r. absurd r.member;
}

-- an entry with other sets adds no atoms
pub atoms_same : (c d : DiagramsParts) (es : List EntryParts) (e : EntryParts) (left right : List ℕ) (id : ℕ) → ((e.left ≡ left) × (e.right ≡ right) → ⊥) → AreAtomsOf c d es left right id → AreAtomsOf c d (es ++ e ∷ []) left right id
atoms_same c d es e left right id apart a = record {
  is_id = a.is_id;
  there = λ atom fits h. reached_more c es (es ++ e ∷ []) left right atom (λ f. has_left es (e ∷ []) f) (a.there atom fits h);
  back = λ atom fits r.
      ⊎_elim
      (λ m. a.back atom fits (record { entry = r.entry; member = m; left_is = r.left_is; right_is = r.right_is; holds = r.holds }))
      (λ m. ⊎_elim (λ s. absurd (apart (subst (λ (z : EntryParts). (z.left ≡ left) × (z.right ≡ right)) (sym s) (r.left_is, r.right_is)))) (λ x. absurd x) m)
      (has_append es (e ∷ []) r.entry r.member);
}

-- an entry with these sets adds its atoms
pub atoms_more : (c d f : DiagramsParts) (es : List EntryParts) (e : EntryParts) (left right : List ℕ) (id new : ℕ) → KeepsFunctions c d → KeepsFunctions d f → IsDiagramId c e.test → (e.left ≡ left) × (e.right ≡ right)
    → IsDiagramOf f new (λ atom. value_of d id atom || value_of d e.test atom) → AreAtomsOf c d es left right id → AreAtomsOf c f (es ++ e ∷ []) left right new
atoms_more c d f es e left right id new kept later own same is a = record {
  is_id = is.in_range;
  there = λ atom fits h.
      ⊎_elim
      (λ old. reached_more c es (es ++ e ∷ []) left right atom (λ x. has_left es (e ∷ []) x) (a.there atom (fits ∙ later.tests) old))
      (λ now. record { entry = e; member = has_right es (e ∷ []) e (inl refl); left_is = same.0; right_is = same.1; holds = sym (kept.values e.test own atom) ∙ now })
      (or_cases (value_of d id atom) (value_of d e.test atom) (sym (is.value atom fits) ∙ h));
  back = λ atom fits r.
      is.value atom fits
      ∙ ⊎_elim
      (λ m. or_left (value_of d id atom) (value_of d e.test atom) (a.back atom (fits ∙ later.tests) (record { entry = r.entry; member = m; left_is = r.left_is; right_is = r.right_is; holds = r.holds })))
      (λ m.
      ⊎_elim
      (λ s. or_right (value_of d id atom) (value_of d e.test atom) (kept.values e.test own atom ∙ subst (λ (z : EntryParts). IsTrue (value_of c z.test atom)) (sym s) r.holds))
      (λ x. absurd x) m)
      (has_append es (e ∷ []) r.entry r.member);
}

-- ---- one pair

module _ (c d : DiagramsParts) (kept : KeepsFunctions c d) (es : List EntryParts) (tests : (e : EntryParts) → Has es e → IsDiagramId c e.test) where
  pub reached_was : (left right : List ℕ) (atom : Atom) → IsReachedThere d es left right atom → IsReachedThere c es left right atom
  reached_was left right atom r = record { entry = r.entry; member = r.member; left_is = r.left_is; right_is = r.right_is; holds = sym (kept.values r.entry.test (tests r.entry r.member) atom) ∙ r.holds }

  pub reached_is : (left right : List ℕ) (atom : Atom) → IsReachedThere c es left right atom → IsReachedThere d es left right atom
  reached_is left right atom r = record { entry = r.entry; member = r.member; left_is = r.left_is; right_is = r.right_is; holds = kept.values r.entry.test (tests r.entry r.member) atom ∙ r.holds }

  -- a merged pair is one by the functions of an earlier collection
  pub pair_was : (s : NodeParts) (p : PairParts) → IsMergedPair s d es p → IsMergedPair s c es p
  pair_was s p m = record {
    test = m.test;
    has_test = m.has_test;
    is_id = m.is_id;
    in_range = subst (λ n. IsTestInRange n (test_tree_at s m.test)) kept.tests m.in_range;
    there = λ atom fits h. reached_was p.left p.right atom (m.there atom (fits ∙ sym kept.tests) h);
    back = λ atom fits r. m.back atom (fits ∙ sym kept.tests) (reached_is p.left p.right atom r);
  }

pub pair_kept : (s t : NodeParts) (d : DiagramsParts) (es : List EntryParts) (p : PairParts) → Grows s t → IsMergedPair s d es p → IsMergedPair t d es p
pair_kept s t d es p grows m = record {
  test = m.test;
  has_test = m.has_test;
  is_id = grows.test_numbers m.test m.is_id;
  in_range = subst (IsTestInRange d.tests) (sym (grows.test_trees m.test m.is_id)) m.in_range;
  there = λ atom fits h. m.there atom fits (ap (λ (b : TestTree). truth b atom) (sym (grows.test_trees m.test m.is_id)) ∙ h);
  back = λ atom fits r. ap (λ (b : TestTree). truth b atom) (grows.test_trees m.test m.is_id) ∙ m.back atom fits r;
}

-- a pair with the test of the diagram of its atoms is a merged pair
pub pair_of_atoms : (s : NodeParts) (c d f : DiagramsParts) (es : List EntryParts) (p : PairParts) (atoms test : ℕ) → KeepsFunctions c d → KeepsFunctions d f → p.test ≡ Some test → AreAtomsOf c d es p.left p.right atoms
    → IsTestFor s f.tests test (value_of f atoms) → IsMergedPair s c es p
pair_of_atoms s c d f es p atoms test kept later has a is = record {
  test = test;
  has_test = has;
  is_id = is.is_id;
  in_range = subst (λ n. IsTestInRange n (test_tree_at s test)) (later.tests ∙ kept.tests) is.in_range;
  there = λ atom fits h.
      let in_d : IsAtomOf d atom = fits ∙ sym kept.tests in
      a.there atom in_d (sym (later.values atoms a.is_id atom) ∙ sym (is.value atom (in_d ∙ sym later.tests)) ∙ h);
  back = λ atom fits r.
      let in_d : IsAtomOf d atom = fits ∙ sym kept.tests in
      is.value atom (in_d ∙ sym later.tests) ∙ later.values atoms a.is_id atom ∙ a.back atom in_d r;
}

-- ---- one pair after the other

pub has_pair_more : (ps qs : List PairParts) (e : EntryParts) → HasPairOf ps e → HasPairOf (ps ++ qs) e
has_pair_more ps qs e h = record { pair = h.pair; member = has_left ps qs h.pair h.member; left_is = h.left_is; right_is = h.right_is }

pub firsts_more : (es : List EntryParts) (before ps : List PairParts) (p : PairParts) → AreFirst es before ps → IsFirst es (before ++ ps) p → AreFirst es before (ps ++ p ∷ [])
firsts_more es before [] p firsts is = (subst (λ l. IsFirst es l p) (append-nil before) is, tt)
firsts_more es before (q ∷ ps) p firsts is = (firsts.0, firsts_more es (before ++ q ∷ []) ps p firsts.1 (subst (λ l. IsFirst es l p) (sym (append_assoc before (q ∷ []) ps)) is))

-- the entries before place i have pairs
abbrev pub AreCovered : List EntryParts → List PairParts → ℕ → Type 0
AreCovered es ps i = (k : ℕ) (e : EntryParts) → k < i → slice_get es k ≡ Some e → HasPairOf ps e

pub covered_more : (es : List EntryParts) (ps : List PairParts) (i : ℕ) (e : EntryParts) → slice_get es i ≡ Some e → HasPairOf ps e → AreCovered es ps i → AreCovered es ps (i + 1)
covered_more es ps i e at own before k f lt here = go (nat_eq k i) refl
  where
    go : (b : Bool) → nat_eq k i ≡ b → HasPairOf ps f
    go true s = subst (HasPairOf ps) (same_Some e f (sym at ∙ subst (λ n. slice_get es n ≡ Some f) (eqb-true k i s) here)) own
    go false s = let other = eqb-false k i s in before k f (omega (arith, lt, other)) here

pub covered_with : (es : List EntryParts) (ps qs : List PairParts) (i : ℕ) → AreCovered es ps i → AreCovered es (ps ++ qs) i
covered_with es ps qs i before k f lt here = has_pair_more ps qs f (before k f lt here)

pub first_new : (es : List EntryParts) (ps : List PairParts) (i : ℕ) (e : EntryParts) (p : PairParts) → slice_get es i ≡ Some e → (HasPairOf ps e → ⊥) → p.left ≡ e.left → p.right ≡ e.right → AreCovered es ps i → IsFirst es ps p
first_new es ps i e p at fresh left right before = record { place = i; entry = e; at = at; left_is = sym left; right_is = sym right; earlier = before; fresh = fresh }

pub pair_new : (ps : List PairParts) (e : EntryParts) (p : PairParts) → p.left ≡ e.left → p.right ≡ e.right → HasPairOf (ps ++ p ∷ []) e
pair_new ps e p left right = record { pair = p; member = has_right ps (p ∷ []) p (inl refl); left_is = sym left; right_is = sym right }

pub each_more : (P : PairParts → Type 0) (ps : List PairParts) (p : PairParts) → ((q : PairParts) → Has ps q → P q) → P p → (q : PairParts) → Has (ps ++ p ∷ []) q → P q
each_more P ps p each own q h = ⊎_elim (each q) (λ m. ⊎_elim (λ s. subst P s own) (λ x. absurd x) m) (has_append ps (p ∷ []) q h)

pub covered_all : (es : List EntryParts) (ps : List PairParts) → ((k : ℕ) (e : EntryParts) → slice_get es k ≡ Some e → HasPairOf ps e) → (e : EntryParts) → Has es e → HasPairOf ps e
covered_all es ps all e h = let k = place_of_member es e h in all k.0 e k.1

-- ---- entries with the same sets

-- the pairs have sets of entries before place i
abbrev pub AreEarly : List EntryParts → List PairParts → ℕ → Type 0
AreEarly es ps i = (p : PairParts) → Has ps p → (k : ℕ) × (e : EntryParts) × (k < i) × (slice_get es k ≡ Some e) × (e.left ≡ p.left) × (e.right ≡ p.right)

pub early_later : (es : List EntryParts) (ps : List PairParts) (i : ℕ) → AreEarly es ps i → AreEarly es ps (i + 1)
early_later es ps i early p h = let r = early p h in let lt = r.2 in (r.0, r.1, omega (arith, lt), r.3, r.4, r.5)

pub early_more : (es : List EntryParts) (ps : List PairParts) (i : ℕ) (e : EntryParts) (p : PairParts) → slice_get es i ≡ Some e → p.left ≡ e.left → p.right ≡ e.right → AreEarly es ps i → AreEarly es (ps ++ p ∷ []) (i + 1)
early_more es ps i e p at left right early =
    each_more (λ (q : PairParts). (k : ℕ) × (f : EntryParts) × (k < i + 1) × (slice_get es k ≡ Some f) × (f.left ≡ q.left) × (f.right ≡ q.right)) ps p
    (early_later es ps i early) (i, e, omega arith, at, sym left, sym right)

pub no_pair : (es : List EntryParts) (ps : List PairParts) (i : ℕ) (e : EntryParts) → AreEarly es ps i → (HasEarlierAlike es i e → ⊥) → HasPairOf ps e → ⊥
no_pair es ps i e early none h =
    let r = early h.pair h.member in
    none (r.0, record { before = r.2; entry = r.1; at = r.3; left_is = r.4 ∙ sym h.left_is; right_is = r.5 ∙ sym h.right_is })

pub pair_of_earlier : (es : List EntryParts) (ps : List PairParts) (i : ℕ) (e : EntryParts) → AreCovered es ps i → HasEarlierAlike es i e → HasPairOf ps e
pair_of_earlier es ps i e covers a =
    let h = covers a.0 a.1.entry a.1.before a.1.at in
    record { pair = h.pair; member = h.member; left_is = sym a.1.left_is ∙ h.left_is; right_is = sym a.1.right_is ∙ h.right_is }
