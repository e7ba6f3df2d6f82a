-- A case that is split by an undecided test: it is visited when both parts are.
use Rattle.std.proofs.Common.{◌≡◌, ◌<◌, ◌+◌, ◌⊎◌, ℕ, zero, suc, inl, inr, ⊎_elim, List, [], ◌∷◌, length, replicate, slice_get, get_or, set, refl, sym, ap, ◌∙◌, subst, arith, Bool, true, false, not, cond, Option, Some, None}
use mathlib.Core.Path.{ap₂}
use Rattle.std.proofs.lemmas.List.{set-get_or, length-replicate}
use Rattle.std.proofs.lemmas.Option.{slice_get-get_or}
use Rattle.kat_model.specs.Members.{Has, SameMembers}
use Rattle.kat_model.specs.Steps.{Atom, set_next}
use Rattle.kat_model.specs.Problems.{ProblemParts}
use Rattle.kat_model.specs.Pairs.{SetPair}
use Rattle.kat_model.proofs.Lists.{has_map, map_has}
use Rattle.term_nodes.specs.NodeLists.{NodeParts}
use Rattle.test_diagrams.specs.Functions.{DiagramsParts, IsDiagramId, IsDiagramOf, IsIndependent, DependsOn, KeepsFunctions}
use Rattle.test_diagrams.proofs.Kept.{KeepsFunctions-itself, KeepsFunctions-trans}
use Rattle.partial_derivs.specs.Moves.{IsTermOf}
use Rattle.term_nodes.specs.NumberSets.{terms_of}
use Rattle.walk_up_to.specs.Listings.{entries_of}
use Rattle.walk_up_to.specs.Marks.{ListedPairsParts}
use Rattle.walk_pairs.specs.Items.{guard_of, chosen, AreItems}
use Rattle.walk_pairs.specs.Items.{AreEnds}
use Rattle.walk_up_to.specs.Cases.{Extends, IsOpen, open_count, IsNextTest, IsCase, AreItemsWith}
use Rattle.walk_up_to.specs.Working.IdWalks.{Represent, Visits, VisitsInTurn, IsPastLimit, PassesLimit, PassesInTurn}
use Rattle.walk_pairs.specs.declared.items.Item.{Item}
use Rattle.walk_pairs.specs.declared.items.Ends.{Ends}
use Rattle.walk_pairs.specs.declared.items.Side.{Side}
use Rattle.walk_pairs.specs.declared.items.Side.TheVariants.{Left, Right}
use Rattle.walk_up_to.specs.declared.branching.StepSource.{StepSource}
use Rattle.walk_up_to.proofs.Visiting.{grown_at, visited_both}

-- ---- the next test

depends_not : (d : DiagramsParts) (id k : ℕ) → DependsOn d id k → IsIndependent d id k → ⊥
depends_not d id k dep ind = dep.changes (ind dep.atom dep.fits false ∙ sym (ind dep.atom dep.fits true))

pub next_open : (d : DiagramsParts) (decided : List (Option Bool)) (items : List Item) (test : ℕ) → IsCase d decided items → IsNextTest d items test → IsOpen decided test
next_open d decided items test is_case next = go (get_or decided test None) refl
  where
    here : slice_get decided test ≡ Some (get_or decided test None)
    here = slice_get-get_or decided test None (subst (λ n. test < n) (sym is_case.tests) next.depends.0)

    go : (o : Option Bool) → get_or decided test None ≡ o → slice_get decided test ≡ Some None
    go None e = here ∙ ap (λ (o : Option Bool). Some o) e
    go (Some b) e =
        let f = is_case.fixed next.item next.member test b (here ∙ ap (λ (o : Option Bool). Some o) e) in
        absurd (⊎_elim (λ dep. depends_not d next.item.left test dep f.0) (λ dep. depends_not d next.item.right test dep f.1) next.depends.1)

one_fewer : (ds : List (Option Bool)) (k : ℕ) (b : Bool) → slice_get ds k ≡ Some None → open_count (set ds k (Some b)) + 1 ≡ open_count ds
one_fewer [] k b o = absurd cc
one_fewer (None ∷ ds) zero b o = omega arith
one_fewer (Some c ∷ ds) zero b o = absurd cc
one_fewer (None ∷ ds) (suc k) b o = let r = one_fewer ds k b o in omega arith
one_fewer (Some c ∷ ds) (suc k) b o = one_fewer ds k b o

-- ---- the atoms of a part are those of the case with the value of the test

extends_with : (ds : List (Option Bool)) (atom : Atom) (k : ℕ) (b : Bool) → slice_get ds k ≡ Some None → Extends ds atom → get_or atom k false ≡ b → Extends (set ds k (Some b)) atom
extends_with [] atom k b o h e = absurd cc
extends_with (None ∷ ds) [] k b o h e = absurd h
extends_with (Some c ∷ ds) [] k b o h e = absurd h
extends_with (None ∷ ds) (x ∷ xs) zero b o h e = (sym e, h)
extends_with (Some c ∷ ds) (x ∷ xs) zero b o h e = absurd cc
extends_with (None ∷ ds) (x ∷ xs) (suc k) b o h e = extends_with ds xs k b o h e
extends_with (Some c ∷ ds) (x ∷ xs) (suc k) b o h e = (h.0, extends_with ds xs k b o h.1 e)

extends_without : (ds : List (Option Bool)) (atom : Atom) (k : ℕ) (b : Bool) → slice_get ds k ≡ Some None → Extends (set ds k (Some b)) atom → Extends ds atom × (get_or atom k false ≡ b)
extends_without [] atom k b o h = absurd cc
extends_without (None ∷ ds) [] zero b o h = absurd h
extends_without (None ∷ ds) [] (suc k) b o h = absurd h
extends_without (Some c ∷ ds) [] zero b o h = absurd h
extends_without (Some c ∷ ds) [] (suc k) b o h = absurd h
extends_without (None ∷ ds) (x ∷ xs) zero b o h = (h.1, sym h.0)
extends_without (Some c ∷ ds) (x ∷ xs) zero b o h = absurd cc
extends_without (None ∷ ds) (x ∷ xs) (suc k) b o h = extends_without ds xs k b o h
extends_without (Some c ∷ ds) (x ∷ xs) (suc k) b o h = let r = extends_without ds xs k b o h.1 in ((h.0, r.0), r.1)

-- ---- collections that keep their functions

module _ (d e : DiagramsParts) (kept : KeepsFunctions d e) where
  diagram_kept : (id : ℕ) (f : Atom → Bool) → IsDiagramOf d id f → IsDiagramOf e id f
  diagram_kept id f is = record { in_range = kept.ids id is.in_range; value = λ atom fits. kept.values id is.in_range atom ∙ is.value atom (fits ∙ kept.tests) }

  pub ends_kept : (ends : Ends) → AreEnds d ends → AreEnds e ends
  ends_kept ends are = record { never = diagram_kept ends.never (λ atom. false) are.never; always = diagram_kept ends.always (λ atom. true) are.always }

  pub items_kept : (items : List Item) → AreItems d items → AreItems e items
  items_kept items are = record { lefts = λ i h. kept.ids i.left (are.lefts i h); rights = λ i h. kept.ids i.right (are.rights i h); ascending = are.ascending }

  independent_kept : (id k : ℕ) → IsDiagramId d id → IsIndependent d id k → IsIndependent e id k
  independent_kept id k there ind atom fits value = kept.values id there (set atom k value) ∙ ind atom (fits ∙ kept.tests) value ∙ sym (kept.values id there atom)

  pub case_kept : (decided : List (Option Bool)) (items : List Item) → IsCase d decided items → IsCase e decided items
  case_kept decided items is_case = record {
    tests = is_case.tests ∙ sym kept.tests;
    are = items_kept items is_case.are;
    fixed = λ i h k b s. let f = is_case.fixed i h k b s in (independent_kept i.left k (is_case.are.lefts i h) f.0, independent_kept i.right k (is_case.are.rights i h) f.1);
  }

  chosen_kept : (side : Side) (items : List Item) (atom : Atom) → ((i : Item) → Has items i → IsDiagramId d (guard_of side i)) → chosen e side items atom ≡ chosen d side items atom
  chosen_kept side [] atom own = refl
  chosen_kept side (i ∷ is) atom own = ap₂ (λ (b : Bool) (ts : List ℕ). cond b (i.target ∷ ts) ts) (kept.values (guard_of side i) (own i (inl refl)) atom) (chosen_kept side is atom (λ j h. own j (inr h)))

  represents_kept : (q : ProblemParts) (store : NodeParts) (items : List Item) (p : SetPair) (a : ℕ) (decided : List (Option Bool)) → AreItems d items → Represent q store d items p a decided → Represent q store e items p a decided
  represents_kept q store items p a decided are represents = record {
    targets = represents.targets;
    lefts = λ atom wide c. subst (λ ts. SameMembers (set_next p.left atom a) (terms_of store ts)) (sym (chosen_kept Left items atom are.lefts)) (represents.lefts atom wide c);
    rights = λ atom wide c. subst (λ ts. SameMembers (set_next p.right atom a) (terms_of store ts)) (sym (chosen_kept Right items atom are.rights)) (represents.rights atom wide c);
  }

-- ---- the parts of a case

-- if the items represent the next sets at the atoms of one case, the other items do at those of another case
abbrev pub Carries : (c : DiagramsParts) (items : List Item) (decided : List (Option Bool)) (d : DiagramsParts) (others : List Item) (more : List (Option Bool)) → Type 0
Carries c items decided d others more = (q : ProblemParts) (store : NodeParts) (p : SetPair) (a : ℕ) → c.tests ≡ q.tests → Represent q store c items p a decided → Represent q store d others p a more

module _ (c d : DiagramsParts) (items others : List Item) (decided : List (Option Bool)) (test : ℕ) (value : Bool) (parts : AreItemsWith c d items test value others) (undecided : IsOpen decided test) (same : d.tests ≡ c.tests) where
  side_same : (side : Side) (atom : Atom) → length atom ≡ d.tests → get_or atom test false ≡ value → chosen c side items atom ≡ chosen d side others atom
  side_same side atom fits v = ap (chosen c side items) (sym (set-get_or atom test false) ∙ ap (set atom test) v) ∙ sym (parts.given side atom fits)

  part_represents : Carries c items decided d others (set decided test (Some value))
  part_represents q store p a tests represents = record {
    targets = λ i h.
        let f = has_map (λ (x : Item). x.target) items i.target (parts.targets i.target (map_has (λ (x : Item). x.target) others i h)) in
        subst (IsTermOf store q.tests) f.2 (represents.targets f.0 f.1);
    lefts = λ atom wide x.
        let w = extends_without decided atom test value undecided x in
        subst (λ ts. SameMembers (set_next p.left atom a) (terms_of store ts)) (side_same Left atom (wide ∙ sym (same ∙ tests)) w.1) (represents.lefts atom wide w.0);
    rights = λ atom wide x.
        let w = extends_without decided atom test value undecided x in
        subst (λ ts. SameMembers (set_next p.right atom a) (terms_of store ts)) (side_same Right atom (wide ∙ sym (same ∙ tests)) w.1) (represents.rights atom wide w.0);
  }

-- the part that is made first, and the part that is made after it
pub first_carries : (c d e : DiagramsParts) (items others : List Item) (decided : List (Option Bool)) (test : ℕ) (value : Bool) → AreItemsWith c d items test value others → IsOpen decided test → KeepsFunctions c d → KeepsFunctions d e → Carries c items decided e others (set decided test (Some value))
first_carries c d e items others decided test value parts undecided k l q store p a tests represents =
    represents_kept d e l q store others p a (set decided test (Some value)) parts.are (part_represents c d items others decided test value parts undecided k.tests q store p a tests represents)

pub second_carries : (b c d e : DiagramsParts) (items others : List Item) (decided : List (Option Bool)) (test : ℕ) (value : Bool) → AreItems b items → KeepsFunctions b c → AreItemsWith c d items test value others → IsOpen decided test → KeepsFunctions c d → KeepsFunctions d e → Carries b items decided e others (set decided test (Some value))
second_carries b c d e items others decided test value are j parts undecided k l q store p a tests represents =
    first_carries c d e items others decided test value parts undecided k l q store p a (j.tests ∙ tests) (represents_kept b c j q store items p a decided are represents)

module _ (c : DiagramsParts) (source : StepSource) (decided : List (Option Bool)) (items : List Item) (test : ℕ) (undecided : IsOpen decided test) (value : Bool) where
  either : (x y : Bool) (atom : Atom) → Extends decided atom → get_or atom test false ≡ y → Extends (set decided test (Some x)) atom ⊎ Extends (set decided test (Some (not x))) atom
  either true true atom h e = inl (extends_with decided atom test true undecided h e)
  either true false atom h e = inr (extends_with decided atom test false undecided h e)
  either false true atom h e = inr (extends_with decided atom test true undecided h e)
  either false false atom h e = inl (extends_with decided atom test false undecided h e)

  pub visits_both : (d e : DiagramsParts) (one other : List Item) (old middle new : ListedPairsParts) → d.tests ≡ c.tests → e.tests ≡ c.tests
      → Carries c items decided d one (set decided test (Some value))
      → Carries c items decided e other (set decided test (Some (not value)))
      → Visits d source (set decided test (Some value)) one old middle
      → Visits e source (set decided test (Some (not value))) other middle new
      → Visits c source decided items old new
  visits_both d e one other old middle new m n first_represents second_represents first second q store from tests acts listed at represents =
      let u = first q store from (m ∙ tests) acts listed at (first_represents q store from.pair source.act tests represents) in
      let v = second q store from (n ∙ tests) acts u.listed (grown_at (entries_of store old.pairs) (entries_of store middle.pairs) source.place from u.visited.grows at) (second_represents q store from.pair source.act tests represents) in
      record {
        listed = v.listed;
        visited =
            visited_both q source.place from.pair source.act (entries_of store old.pairs) (entries_of store middle.pairs) (entries_of store new.pairs) (Extends decided) (Extends (set decided test (Some value))) (Extends (set decided test (Some (not value))))
            (λ atom wide h. either value (get_or atom test false) atom h refl)
            u.visited v.visited;
      }

-- a case needs more pairs than may be listed if the part that is visited first or the other part does
pub passes_first : (c d : DiagramsParts) (source : StepSource) (decided more : List (Option Bool)) (items one : List Item) (old : ListedPairsParts) → d.tests ≡ c.tests → Carries c items decided d one more → PassesLimit d source more one old → PassesLimit c source decided items old
passes_first c d source decided more items one old same carries passes q store from tests acts listed at represents =
    passes q store from (same ∙ tests) acts listed at (carries q store from.pair source.act tests represents)

pub passes_second : (c d e : DiagramsParts) (source : StepSource) (decided more others : List (Option Bool)) (items one other : List Item) (old middle : ListedPairsParts) → d.tests ≡ c.tests → e.tests ≡ c.tests
    → Carries c items decided d one more
    → Carries c items decided e other others
    → Visits d source more one old middle
    → middle.limit ≡ old.limit
    → PassesLimit e source others other middle
    → PassesLimit c source decided items old
passes_second c d e source decided more others items one other old middle m n first_carries second_carries first limit passes q store from tests acts listed at represents =
    let u = first q store from (m ∙ tests) acts listed at (first_carries q store from.pair source.act tests represents) in
    let there = grown_at (entries_of store old.pairs) (entries_of store middle.pairs) source.place from u.visited.grows at in
    subst (IsPastLimit q) limit (passes q store from (n ∙ tests) acts u.listed there (second_carries q store from.pair source.act tests represents))

-- a part of a case has one undecided test fewer
pub fewer_part : (ds es : List (Option Bool)) (k : ℕ) (b : Bool) → IsOpen ds k → es ≡ set ds k (Some b) → open_count es + 1 ≡ open_count ds
fewer_part ds es k b o e = ap (λ xs. open_count xs + 1) e ∙ one_fewer ds k b o

-- a case is split by a test, and the part with the value `false` is made first; the parts are visited in either order
module _ (b c d : DiagramsParts) (source : StepSource) (decided : List (Option Bool)) (items : List Item) (test : ℕ) (undecided : IsOpen decided test) (are : AreItems b items) (kept_low : KeepsFunctions b c) (kept_high : KeepsFunctions c d) (lows highs : List (Option Bool)) (low high : List Item) (is_low : lows ≡ set decided test (Some false)) (is_high : highs ≡ set decided test (Some true)) (low_items : AreItemsWith b c items test false low) (high_items : AreItemsWith c d items test true high) where
  same_tests : d.tests ≡ b.tests
  same_tests = kept_high.tests ∙ kept_low.tests

  low_carries : (e : DiagramsParts) → KeepsFunctions d e → Carries b items decided e low (set decided test (Some false))
  low_carries e k = first_carries b c e items low decided test false low_items undecided kept_low (KeepsFunctions-trans c d e kept_high k)

  high_carries : (e : DiagramsParts) → KeepsFunctions d e → Carries b items decided e high (set decided test (Some true))
  high_carries e k = second_carries b c d e items high decided test true are kept_low high_items undecided kept_high k

  module _ (old new : ListedPairsParts) where
    pub low_then_high : VisitsInTurn d source lows low highs high old new → Visits b source decided items old new
    low_then_high v =
        visits_both b source decided items test undecided false d v.between low high old v.middle new same_tests (v.kept.tests ∙ same_tests)
        (low_carries d (KeepsFunctions-itself d)) (high_carries v.between v.kept)
        (subst (λ ds. Visits d source ds low old v.middle) is_low v.visits_first)
        (subst (λ ds. Visits v.between source ds high v.middle new) is_high v.visits_second)

    pub high_then_low : VisitsInTurn d source highs high lows low old new → Visits b source decided items old new
    high_then_low v =
        visits_both b source decided items test undecided true d v.between high low old v.middle new same_tests (v.kept.tests ∙ same_tests)
        (high_carries d (KeepsFunctions-itself d)) (low_carries v.between v.kept)
        (subst (λ ds. Visits d source ds high old v.middle) is_high v.visits_first)
        (subst (λ ds. Visits v.between source ds low v.middle new) is_low v.visits_second)

  module _ (old : ListedPairsParts) where
    pub low_first_passes : PassesInTurn d source lows low highs high old → PassesLimit b source decided items old
    low_first_passes p =
        ⊎_elim
        (passes_first b d source decided lows items low old same_tests (subst (Carries b items decided d low) (sym is_low) (low_carries d (KeepsFunctions-itself d))))
        (λ v.
        passes_second b d v.between source decided lows highs items low high old v.middle same_tests (v.kept.tests ∙ same_tests)
        (subst (Carries b items decided d low) (sym is_low) (low_carries d (KeepsFunctions-itself d)))
        (subst (Carries b items decided v.between high) (sym is_high) (high_carries v.between v.kept))
        v.visits_first v.limit v.passes)
        p

    pub high_first_passes : PassesInTurn d source highs high lows low old → PassesLimit b source decided items old
    high_first_passes p =
        ⊎_elim
        (passes_first b d source decided highs items high old same_tests (subst (Carries b items decided d high) (sym is_high) (high_carries d (KeepsFunctions-itself d))))
        (λ v.
        passes_second b d v.between source decided highs lows items high low old v.middle same_tests (v.kept.tests ∙ same_tests)
        (subst (Carries b items decided d high) (sym is_high) (high_carries d (KeepsFunctions-itself d)))
        (subst (Carries b items decided v.between low) (sym is_low) (low_carries v.between v.kept))
        v.visits_first v.limit v.passes)
        p

-- ---- the case in which no test is decided

none_decided : (n k : ℕ) (b : Bool) → slice_get (replicate n None) k ≡ Some (Some b) → ⊥
none_decided zero k b e = absurd cc
none_decided (suc n) zero b e = absurd cc
none_decided (suc n) (suc k) b e = none_decided n k b e

pub whole_case : (d : DiagramsParts) (decided : List (Option Bool)) (items : List Item) → decided ≡ replicate d.tests None → AreItems d items → IsCase d decided items
whole_case d decided items e are = record {
  tests = ap length e ∙ length-replicate d.tests None;
  are = are;
  fixed = λ i h k b s. absurd (none_decided d.tests k b (subst (λ ds. slice_get ds k ≡ Some (Some b)) e s));
}
