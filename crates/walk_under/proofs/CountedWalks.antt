-- Walks that count some of the short hypotheses. A shortest string of such a problem is one of the whole problem if it
-- breaks no other short hypothesis, and so is a string of as many moves that refutes the whole problem.
use Rattle.std.proofs.Common.{◌≡◌, ◌⊎◌, inl, inr, ⊎_elim, ℕ, Bool, List, [], ◌++◌, length, map, slice_index_or, refl, sym, ◌∙◌, subst, arith, false}
use Rattle.std.proofs.lemmas.Bool.{cases_Bool}
use Rattle.kat_model.specs.Trees.{Term, kat_tree}
use Rattle.kat_model.specs.Members.{Has, IsSubset}
use Rattle.kat_model.specs.Problems.{ProblemParts}
use Rattle.kat_model.specs.Relations.{Same}
use Rattle.kat_model.specs.Strings.{GuardedString}
use Rattle.kat_model.specs.Degrees.{is_short, is_long, short_hyps, long_hyps, AreSplit}
use Rattle.kat_model.proofs.Lists.{has_append, has_map, map_has}
use Rattle.kat_model.proofs.Filters.{has_filter}
use Rattle.kat_model.proofs.Places.{place_of_member, has_at}
use Rattle.kat_model.proofs.Splits.{split_by_degree}
use Rattle.term_nodes.specs.NodeLists.{NodeParts}
use Rattle.term_nodes.specs.NodeTrees.{tree_at}
use Rattle.term_nodes.specs.Growth.{Grows}
use Rattle.string_tables.specs.Tables.{Refutes}
use Rattle.goal_forms.specs.Broken.{IsBrokenBy}
use Rattle.goal_forms.proofs.FewerHypotheses.{unbroken_allowed}
use Rattle.certificate.specs.Decisions.{IsShortest}
use Rattle.partial_derivs.specs.Moves.{IsTermOf}
use Rattle.partial_derivs.specs.Tables.{AreRight}
use Rattle.partial_derivs.proofs.Kept.{IsTermOf-trees, Keeps-functions}
use Rattle.partial_derivs.proofs.Tables.{AreRight-kept}
use Rattle.test_diagrams.specs.Functions.{KeepsFunctions}
use Rattle.walk_under.specs.Counting.{tree_of, AreShortHyps, AreCounted, AreBroken}
use Rattle.walk_under.specs.Working.Counting.{IsCountedList, IsFoundUnder, with_counted, MayBegin}
use Rattle.walk_under.specs.declared.counting.ShortHyp.{ShortHyp}
use Rattle.walk_under.specs.declared.walk.TestedWorklist.{TestedWorklist}
use Rattle.walk_under.proofs.RefutedByAllowed.{refuted_by_allowed}

module _ (q : ProblemParts) (counted : List Term) (fewer : IsSubset counted (short_hyps q)) where
  pub counted_split : AreSplit (counted ++ long_hyps q) counted (long_hyps q)
  counted_split = record { all = λ h. ((λ k. k), (λ k. k)); short = λ h k. (has_filter is_short q.hyps h (fewer h k)).1 }

  counted_within : (h : Term) → Has (counted ++ long_hyps q) h → Has q.hyps h
  counted_within h k =
      ⊎_elim (λ s. (has_filter is_short q.hyps h (fewer h s)).0) (λ l. (has_filter is_long q.hyps h l).0) (has_append counted (long_hyps q) h k)

  -- fewer hypotheses allow more tables
  pub same_fewer : Same (with_counted q counted) → Same q
  same_fewer same t is_table keeps i j li lj = same t is_table (λ h k. keeps h (counted_within h k)) i j li lj

  refutes_fewer : (y : GuardedString) → Refutes q y → Refutes (with_counted q counted) y
  refutes_fewer y r = record { fits = r.fits; keeps = λ h k. r.keeps h (counted_within h k); differs = r.differs }

  pub shortest_as_long : (x z : GuardedString) → IsShortest (with_counted q counted) x → Refutes q z → length z.rest ≡ length x.rest → IsShortest q z
  shortest_as_long x z s r same = record { refutes = r; fewest = λ y t. let l = s.fewest y (refutes_fewer y t) in omega (arith, same, l) }

  -- each short hypothesis counts, or the string does not break it
  abbrev pub IsNoneBroken : GuardedString → Type 0
  IsNoneBroken x = (h : Term) → Has (short_hyps q) h → Has counted h ⊎ (IsBrokenBy h x.first x.rest → ⊥)

  unbroken_refutes : (x : GuardedString) → Refutes (with_counted q counted) x → IsNoneBroken x → Refutes q x
  unbroken_refutes x r each =
      let d = (refuted_by_allowed (with_counted q counted) counted (long_hyps q) x counted_split).0 r in
      (refuted_by_allowed q (short_hyps q) (long_hyps q) x (split_by_degree q)).1 (d.0, unbroken_allowed counted (short_hyps q) x.first x.rest each d.1, d.2)

  pub unbroken_shortest : (x : GuardedString) → IsShortest (with_counted q counted) x → IsNoneBroken x → IsShortest q x
  unbroken_shortest x s each = shortest_as_long x x s (unbroken_refutes x s.refutes each) refl

-- ---- the hypotheses as the program stores them

module _ (q : ProblemParts) (store : NodeParts) (hyps : List ShortHyp) (are : AreShortHyps q store hyps) (counts : List Bool) where
  -- the string breaks none of the hypotheses that do not count
  pub none_broken : (counted : List Term) → IsCountedList q hyps counts counted → (x : GuardedString) (places : List ℕ) → AreBroken hyps counts x places → places ≡ [] → (h : Term) → Has (short_hyps q) h → Has counted h ⊎ (IsBrokenBy h x.first x.rest → ⊥)
  none_broken counted list x places broken none h k =
      let r = has_map tree_of hyps h (subst (λ l. Has l h) (sym are.trees) k) in
      let p = place_of_member hyps r.0 r.1 in
      ⊎_elim
      (λ t. inl (subst (Has counted) r.2 (list.there p.0 r.0 p.1 t)))
      (λ f. inr (λ b. subst (λ l. Has l p.0) none (broken.there p.0 r.0 p.1 f (subst (λ z. IsBrokenBy z x.first x.rest) (sym r.2) b))))
      (cases_Bool (slice_index_or counts p.0 false))

  pub found_unbroken : (x : GuardedString) → IsFoundUnder q hyps counts x → (places : List ℕ) → AreBroken hyps counts x places → places ≡ [] → IsShortest q x
  found_unbroken x f places broken none = unbroken_shortest q f.counted f.list.fewer x f.shortest (none_broken f.counted f.list x places broken none)

  pub found_as_long : (x z : GuardedString) → IsFoundUnder q hyps counts x → Refutes q z → length z.rest ≡ length x.rest → IsShortest q z
  found_as_long x z f r same = shortest_as_long q f.counted f.list.fewer x z f.shortest r same

  -- the ids are those of short hypotheses
  pub counted_terms : (ids : List ℕ) → AreCounted hyps counts ids → (i : ℕ) → Has ids i → IsTermOf store q.tests i
  counted_terms ids c i k = let h = c.back i k in subst (IsTermOf store q.tests) h.2 (are.terms h.0 h.1).0

  pub counted_list : (ids : List ℕ) → AreCounted hyps counts ids → IsCountedList q hyps counts (map (tree_at store) ids)
  counted_list ids c = record {
    fewer = λ t k.
        let r = has_map (tree_at store) ids t k in
        let h = c.back r.0 r.1 in
        let is : kat_tree h.0.hyp ≡ t = sym (are.terms h.0 h.1).1 ∙ subst (λ i. tree_at store i ≡ t) (sym h.2) r.2 in
        subst (Has (short_hyps q)) is (subst (λ l. Has l (kat_tree h.0.hyp)) are.trees (map_has tree_of hyps h.0 h.1));
    there = λ i h at t.
        subst (Has (map (tree_at store) ids)) (are.terms h (has_at hyps i h at)).1 (map_has (tree_at store) ids h.term (c.there i h at t));
  }

-- the ids keep their trees when the store grows
pub short_hyps_later : (q : ProblemParts) (s t : NodeParts) (hyps : List ShortHyp) → Grows s t → AreShortHyps q s hyps → AreShortHyps q t hyps
short_hyps_later q s t hyps grows are = record {
  trees = are.trees;
  terms = λ h k.
      let own = are.terms h k in
      (IsTermOf-trees s t grows q.tests h.term own.0, grows.trees h.term own.0.is_id ∙ own.1);
}

-- after more diagrams, the next walk may begin
pub may_begin : (q : ProblemParts) (store : NodeParts) (old new : TestedWorklist) → new.derivatives ≡ old.derivatives → KeepsFunctions old.diagrams new.diagrams → old.diagrams.tests ≡ q.tests → AreRight store old.diagrams old.derivatives → MayBegin q store new
may_begin q store old new same kept tests right = record {
  tests = kept.tests ∙ tests;
  right = subst (AreRight store new.diagrams) (sym same) (AreRight-kept store store old.diagrams new.diagrams old.derivatives (Keeps-functions store old.diagrams new.diagrams kept) right);
}
