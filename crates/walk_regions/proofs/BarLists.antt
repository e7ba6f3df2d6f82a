-- The bars of the moves by an action, collected one move at a time.
use Rattle.std.proofs.Common.{◌≡◌, ◌≢◌, ◌+◌, ◌<◌, ◌≤◌, inl, ⊎_elim, ℕ, Bool, true, false, cond, List, [], ◌∷◌, ◌++◌, length, take, get_or, eqb, slice_get, Some, refl, sym, ap, ◌∙◌, subst, append-nil, arith}
use Rattle.std.specs.List.{filter, All}
use Rattle.std.specs.Prelude.{IsPermutation}
use Rattle.std.proofs.lemmas.Bool.{false≢true, eqb-true, eq-eqb, ne_eqb, cases_lt}
use Rattle.std.proofs.lemmas.List.{get_or_past, take_all, take-append-le}
use Rattle.std.proofs.lemmas.List.Sorted.{All-permutation, IsPermutation-sym}
use Rattle.std.proofs.lemmas.Option.{slice_get_within, slice_get-get_or, get_or_from_slice_get}
use Rattle.kat_model.specs.Members.{Has, SameMembers}
use Rattle.kat_model.specs.Steps.{set_out}
use Rattle.kat_model.proofs.Lists.{has_left, has_right, has_append}
use Rattle.kat_model.proofs.Filters.{has_filter, filter_has}
use Rattle.kat_model.proofs.Places.{slice_get_last, place_of_member, has_at}
use Rattle.term_nodes.specs.NodeLists.{NodeParts}
use Rattle.term_nodes.specs.NodeTrees.{tree_at}
use Rattle.test_diagrams.specs.Functions.{DiagramsParts, IsDiagramId, IsDiagramOf, IsIndependent}
use Rattle.test_diagrams.proofs.Kept.{IsDiagramOf-kept}
use Rattle.partial_derivs.specs.declared.moves.Guarded.{Guarded}
use Rattle.partial_derivs.specs.Moves.{IsTermOf, AreGuards, AreTargets, Keeps}
use Rattle.partial_derivs.proofs.Kept.{AreTargets-kept, AreGuards-kept}
use Rattle.partial_derivs.proofs.Items.{take_item, has_item, has_take}
use Rattle.walk_regions.specs.declared.bars.Bar.{Bar}
use Rattle.walk_regions.specs.declared.bars.Bars.{Bars}
use Rattle.walk_regions.specs.Bars.{AreUnasked, AreBars, AreSoundBars}
use Rattle.walk_regions.specs.Working.Querying.{IsUnaskedTest, AreFreshTests, IsBarOf, AreBarsOf, AreBarsSoFar}
use Rattle.walk_regions.proofs.ImageTables.{independent_kept, bars_kept}

bar_of_kept : (s t : NodeParts) (c d : DiagramsParts) → Keeps s t c d → (m : Guarded) (r : Bar) (n : ℕ) → IsTermOf s n m.to → IsBarOf s c m r → IsBarOf t d m r
bar_of_kept s t c d kept m r n term b = record {
  from = b.from;
  to = subst (λ e. IsDiagramOf d r.to (set_out (e ∷ []))) (sym (kept.trees.trees m.to term.is_id)) (IsDiagramOf-kept c d kept.functions r.to (set_out (tree_at s m.to ∷ [])) b.to);
}

-- an unasked test is in range
unasked_within : (queried : List Bool) (t : ℕ) → IsUnaskedTest queried t → t < length queried
unasked_within queried t u = ⊎_elim (λ l. l) (λ l. absurd (false≢true (sym u ∙ get_or_past queried t true l))) (cases_lt t (length queried))

pub so_far_none : (store : NodeParts) (d : DiagramsParts) (moves : List Guarded) (queried : List Bool) → length queried ≡ d.tests → AreBarsSoFar store d moves 0 [] queried
so_far_none store d moves queried tests = record {
  there = λ m h. absurd h;
  back = λ r h. absurd h;
  sound = record { froms = λ r h. absurd h; tos = λ r h. absurd h; fresh = λ i r at. absurd cc };
  tests = tests;
  unasked = λ t u r h. absurd h;
}

module _ (s t : NodeParts) (c d : DiagramsParts) (kept : Keeps s t c d) (moves : List Guarded) (n : ℕ) (targets : AreTargets s n moves) (i : ℕ) (bars : List Bar) (queried : List Bool) (so_far : AreBarsSoFar s c moves i bars queried) (m : Guarded) (lt : i < length moves) (is : m ≡ get_or moves i m) where
  there_before : (g : Guarded) → Has (take i moves) g → (r : Bar) × Has bars r × IsBarOf t d g r
  there_before g h = let r = so_far.there g h in (r.0, r.1, bar_of_kept s t c d kept g r.0 n (targets g (has_take moves i g h)) r.2)

  back_before : (r : Bar) → Has bars r → (g : Guarded) × Has moves g × IsBarOf t d g r
  back_before r h = let g = so_far.back r h in (g.0, g.1, bar_of_kept s t c d kept g.0 r n (targets g.0 g.1) g.2)

  module _ (new : List Bool) (wide : length new ≡ length queried) (r : Bar) (guard : IsDiagramId d r.from) (own : IsBarOf t d m r) (queries : AreFreshTests d r.from queried new (length queried) r.fresh.items) where
    free_before : (k : ℕ) → IsUnaskedTest queried k → (q : Bar) → Has bars q → IsIndependent d q.from k
    free_before k u q h = independent_kept c d kept.functions q.from k (so_far.sound.froms q h) (so_far.unasked k u q h)

    within : (k : ℕ) → IsUnaskedTest queried k → k < d.tests
    within k u = subst (λ x. k < x) (so_far.tests ∙ sym kept.functions.tests) (unasked_within queried k u)

    -- what holds for all bars and for the new one holds for the extended list
    each_of : (P : Bar → Type 0) → ((q : Bar) → Has bars q → P q) → P r → (q : Bar) → Has (bars ++ r ∷ []) q → P q
    each_of P old last q h = ⊎_elim (old q) (λ k. ⊎_elim (λ e. subst P e last) (λ x. absurd x) k) (has_append bars (r ∷ []) q h)

    -- the fresh tests of a bar are in range, and no bar of a prefix depends on them
    abbrev Unasked : Bar → List Bar → Type 0
    Unasked q front = (k : ℕ) → Has q.fresh.items k → (k < d.tests) × ((p : Bar) → Has front p → IsIndependent d p.from k)

    new_fresh : (j : ℕ) (q : Bar) → slice_get (bars ++ r ∷ []) j ≡ Some q → AreUnasked d (bars ++ r ∷ []) j q.fresh.items
    new_fresh j q at =
        ⊎_elim
        (λ old.
        let l : j ≤ length bars = let w = slice_get_within bars j q old in omega arith in
        subst (Unasked q) (sym (take-append-le j bars (r ∷ []) l)) ((bars_kept c d kept.functions bars so_far.sound).fresh j q old))
        (λ last.
        let same : take j (bars ++ r ∷ []) ≡ bars = ap (λ x. take x (bars ++ r ∷ [])) last.0 ∙ take-append-le (length bars) bars (r ∷ []) (omega arith) ∙ take_all (length bars) bars (omega arith) in
        subst (λ (p : Bar). AreUnasked d (bars ++ r ∷ []) j p.fresh.items) last.1
        (subst (Unasked r) (sym same) (λ k h. (within k (queries.first k h), free_before k (queries.first k h)))))
        (slice_get_last bars r j q at)

    pub so_far_more : AreBarsSoFar t d moves (i + 1) (bars ++ r ∷ []) new
    so_far_more = record {
      there = λ g h.
          ⊎_elim
          (λ k. let x = there_before g k in (x.0, has_left bars (r ∷ []) x.0 x.1, x.2))
          (λ k. ⊎_elim (λ same. (r, has_right bars (r ∷ []) r (inl refl), subst (λ z. IsBarOf t d z r) same own)) (λ x. absurd x) k)
          (has_append (take i moves) (m ∷ []) g (subst (λ l. Has l g) (take_item moves i m lt is) h));
      back = each_of (λ q. (g : Guarded) × Has moves g × IsBarOf t d g q) back_before (m, has_item moves i m lt is, own);
      sound = record {
        froms = each_of (λ q. IsDiagramId d q.from) (bars_kept c d kept.functions bars so_far.sound).froms guard;
        tos = each_of (λ q. IsDiagramId d q.to) (bars_kept c d kept.functions bars so_far.sound).tos own.to.in_range;
        fresh = new_fresh;
      };
      tests = wide ∙ so_far.tests ∙ sym kept.functions.tests;
      unasked = λ k u.
          each_of (λ q. IsIndependent d q.from k) (free_before k (queries.still k u))
          (queries.free k (unasked_within queried k (queries.still k u)) u);
    }

-- after all moves
module _ (store : NodeParts) (d : DiagramsParts) (moves : List Guarded) (i : ℕ) (bars : List Bar) (queried : List Bool) (so_far : AreBarsSoFar store d moves i bars queried) where
  pub so_far_all : (all : List Guarded) (act : ℕ) → SameMembers moves (filter (λ (m : Guarded). eqb m.act act) all) → length moves ≤ i → AreBarsOf store d all act bars
  so_far_all all act are past = record {
    there = λ m h a. so_far.there m (subst (λ l. Has l m) (sym (take_all i moves past)) ((are m).1 (filter_has (λ (x : Guarded). eqb x.act act) all m h (eq-eqb m.act act a))));
    back = λ r h.
        let m = so_far.back r h in
        let own = has_filter (λ (x : Guarded). eqb x.act act) all m.0 ((are m.0).0 m.1) in
        (m.0, own.0, eqb-true m.0.act act own.1, m.2);
  }

  pub so_far_sound : (b : Bars) → b.bars.items ≡ bars → b.images.entries ≡ [] → ((t : ℕ) → Has b.unasked.items t → IsUnaskedTest queried t) → AreSoundBars d b
  so_far_sound b same none unasked = record {
    bars = subst (AreBars d) (sym same) so_far.sound;
    unasked = λ t h. (
      subst (λ x. t < x) so_far.tests (unasked_within queried t (unasked t h)),
      (λ r k. so_far.unasked t (unasked t h) r (subst (λ l. Has l r) (ap (λ l. take (length l) l) same ∙ take_all (length bars) bars (omega arith)) k)),
    );
    images = λ e h. absurd (subst (λ l. Has l e) none h);
  }

-- ---- the moves by an action

filter-append : {X : Type 0} (p : X → Bool) (xs ys : List X) → filter p (xs ++ ys) ≡ filter p xs ++ filter p ys
filter-append p [] ys = refl
filter-append {X} p (x ∷ xs) ys = first (p x) (filter p (xs ++ ys)) (filter p xs) (filter p ys) (filter-append p xs ys)
  where
    first : (b : Bool) (all front rest : List X) → all ≡ front ++ rest → cond b (x ∷ all) all ≡ cond b (x ∷ front) front ++ rest
    first true all front rest e = ap (λ l. x ∷ l) e
    first false all front rest e = e

module _ (act : ℕ) (moves : List Guarded) (i : ℕ) (m : Guarded) (lt : i < length moves) (is : m ≡ get_or moves i m) (old new : List Guarded) (before : old ≡ filter (λ (g : Guarded). eqb g.act act) (take i moves)) where
  one_more : (b : Bool) → eqb m.act act ≡ b → filter (λ (g : Guarded). eqb g.act act) (take (i + 1) moves) ≡ old ++ cond b (m ∷ []) []
  one_more b e =
      ap (filter (λ (g : Guarded). eqb g.act act)) (take_item moves i m lt is) ∙ filter-append (λ (g : Guarded). eqb g.act act) (take i moves) (m ∷ []) ∙ ap (λ l. l ++ filter (λ (g : Guarded). eqb g.act act) (m ∷ [])) (sym before)
      ∙ ap (λ c. old ++ cond c (m ∷ []) []) e

  pub move_kept : m.act ≡ act → new ≡ old ++ m ∷ [] → new ≡ filter (λ (g : Guarded). eqb g.act act) (take (i + 1) moves)
  move_kept same is_new = is_new ∙ sym (one_more true (eq-eqb m.act act same))

  pub move_skipped : m.act ≢ act → new ≡ old → new ≡ filter (λ (g : Guarded). eqb g.act act) (take (i + 1) moves)
  move_skipped other is_old = is_old ∙ sym (append-nil old) ∙ sym (one_more false (ne_eqb m.act act other))

-- a permutation has the same members
has_shuffled : (xs ys : List Guarded) → IsPermutation xs ys → (m : Guarded) → Has xs m → Has ys m
has_shuffled xs ys s m h =
    let k = place_of_member xs m h in
    let own : All (Has ys) ys = λ i d lt. has_at ys i (get_or ys i d) (slice_get-get_or ys i d lt) in
    subst (Has ys) (get_or_from_slice_get xs k.0 m m k.1) (All-permutation (Has ys) ys xs (IsPermutation-sym xs ys s) own k.0 m (slice_get_within xs k.0 m k.1))

-- a permutation of the moves by an action has the same members
pub moves_shuffled : (all own other read : List Guarded) (act : ℕ) → own ≡ filter (λ (m : Guarded). eqb m.act act) all → IsPermutation own other → read ≡ other → SameMembers read (filter (λ (m : Guarded). eqb m.act act) all)
moves_shuffled all own other read act is s same m = (
  (λ h. subst (λ l. Has l m) is (has_shuffled other own (IsPermutation-sym own other s) m (subst (λ l. Has l m) same h))),
  (λ h. subst (λ l. Has l m) (sym same) (has_shuffled own other s m (subst (λ l. Has l m) (sym is) h))),
)

module _ (all read : List Guarded) (act : ℕ) (are : SameMembers read (filter (λ (m : Guarded). eqb m.act act) all)) where
  of_all : (m : Guarded) → Has read m → Has all m
  of_all m h = (has_filter (λ (x : Guarded). eqb x.act act) all m ((are m).0 h)).0

  pub targets_by : (s t : NodeParts) (c d : DiagramsParts) → Keeps s t c d → AreTargets s c.tests all → AreTargets t d.tests read
  targets_by s t c d kept targets m h = AreTargets-kept s t c d kept all targets m (of_all m h)

  pub guards_by : (s t : NodeParts) (c d : DiagramsParts) → Keeps s t c d → AreGuards c all → AreGuards d read
  guards_by s t c d kept guards m h = AreGuards-kept s t c d kept all guards m (of_all m h)

-- the bars remain those of the moves when nodes and diagrams are added
pub bars_of_kept : (s t : NodeParts) (c d : DiagramsParts) → Keeps s t c d → (n : ℕ) (moves : List Guarded) (act : ℕ) (bars : List Bar) → AreTargets s n moves → AreBarsOf s c moves act bars → AreBarsOf t d moves act bars
bars_of_kept s t c d kept n moves act bars targets are = record {
  there = λ m h a. let r = are.there m h a in (r.0, r.1, bar_of_kept s t c d kept m r.0 n (targets m h) r.2);
  back = λ r h. let m = are.back r h in (m.0, m.1, m.2, bar_of_kept s t c d kept m.0 r n (targets m.0 m.1) m.3);
}
