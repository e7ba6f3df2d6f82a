-- The atoms from which no bar blocks a move, one bar after the other; and tests on which a diagram does not depend.
use Rattle.std.proofs.Common.{◌≡◌, ◌+◌, ◌<◌, ◌≤◌, inl, ⊎_elim, ℕ, Bool, true, false, not, ◌&&◌, List, [], ◌∷◌, ◌++◌, length, take, get_or, set, refl, sym, ap, ◌∙◌, subst, arith}
use Rattle.std.specs.Bool.{IsTrue}
use Rattle.std.proofs.lemmas.Bool.{and_parts, and_from, both_ways, not-true}
use Rattle.std.proofs.lemmas.List.{set-get_or, take_all}
use Rattle.kat_model.specs.Members.{Has}
use Rattle.kat_model.specs.Steps.{Atom}
use Rattle.kat_model.proofs.Lists.{has_left, has_right, has_append}
use Rattle.kat_model.proofs.Places.{has_at}
use Rattle.test_diagrams.specs.Functions.{DiagramsParts, value_of, IsDiagramId, IsDiagramOf, IsIndependent, KeepsFunctions}
use Rattle.partial_derivs.proofs.Items.{take_item, has_take}
use Rattle.walk_regions.specs.declared.bars.Bar.{Bar}
use Rattle.walk_regions.specs.Bars.{IsBarred, AreAtomsPast, AreSources, AreBars}
use Rattle.walk_regions.proofs.ImageSteps.{bar_at}

-- ---- one bar

module _ (c d : DiagramsParts) (r : Bar) (region : ℕ) (after : Atom) where
  pub past_all : KeepsFunctions c d → IsDiagramId c region → value_of c r.to after ≡ false → AreAtomsPast c d r region after region
  past_all kept is out = record {
    is_id = kept.ids region is;
    there = λ a fits h. (sym (kept.values region is a) ∙ h, (λ from to. both_ways _ out to));
    back = λ a fits h free. kept.values region is a ∙ h;
  }

  pub past_some : (id : ℕ) → value_of c r.to after ≡ true → IsDiagramOf d id (λ a. value_of c region a && not (value_of c r.from a)) → AreAtomsPast c d r region after id
  past_some id ends is = record {
    is_id = is.in_range;
    there = λ a fits h. let both = and_parts (value_of c region a) (not (value_of c r.from a)) (sym (is.value a fits) ∙ h) in (both.0, (λ from to. both_ways (value_of c r.from a) (not-true (value_of c r.from a) both.1) from));
    back = λ a fits h free. is.value a fits ∙ and_from _ _ h (true_of (value_of c r.from a) (λ from. free from ends));
  }
    where
      true_of : (v : Bool) → (IsTrue v → ⊥) → not v ≡ true
      true_of true n = absurd (n refl)
      true_of false n = refl

-- ---- bar by bar

pub sources_none : (d : DiagramsParts) (bars : List Bar) (region : ℕ) (after : Atom) → IsDiagramId d region → AreSources d bars region after 0 region
sources_none d bars region after is = record { is_id = is; there = λ a fits h. (h, (λ k. absurd k.1)); back = λ a fits h free. h }

module _ (b c d : DiagramsParts) (first : KeepsFunctions b c) (kept : KeepsFunctions c d) (bars : List Bar) (all : AreBars b bars) (region : ℕ) (in_region : IsDiagramId b region) (after : Atom) where
  pub sources_more : (i id next : ℕ) (r : Bar) → i < length bars → r ≡ get_or bars i r → AreSources c bars region after i id → AreAtomsPast c d r id after next → AreSources d bars region after (i + 1) next
  sources_more i id next r lt is s p = record {
    is_id = p.is_id;
    there = λ a fits h.
        let now = p.there a fits h in
        let old = s.there a (fits ∙ kept.tests) now.0 in
        (kept.values region in_c a ∙ old.0, (λ k. either a (λ j. old.1 j) now.1 (subst (λ l. IsBarred d l a after) taken k)));
    back = λ a fits h free.
        p.back a fits
        (s.back a (fits ∙ kept.tests) (sym (kept.values region in_c a) ∙ h) (λ k. free (subst (λ l. IsBarred d l a after) (sym taken) (k.0, has_left (take i bars) (r ∷ []) k.0 k.1, kept.values k.0.from (from_in k.0 (inside k.0 k.1)) a ∙ k.2, kept.values k.0.to (to_in k.0 (inside k.0 k.1)) after ∙ k.3))))
        (λ from to. free (subst (λ l. IsBarred d l a after) (sym taken) (r, has_right (take i bars) (r ∷ []) r (inl refl), kept.values r.from (from_in r here) a ∙ from, kept.values r.to (to_in r here) after ∙ to)));
  }
    where
      taken : take (i + 1) bars ≡ take i bars ++ r ∷ []
      taken = take_item bars i r lt is

      here : Has bars r
      here = has_at bars i r (bar_at bars i r lt is)

      in_c : IsDiagramId c region
      in_c = first.ids region in_region

      from_in : (q : Bar) → Has bars q → IsDiagramId c q.from
      from_in q h = first.ids q.from (all.froms q h)

      to_in : (q : Bar) → Has bars q → IsDiagramId c q.to
      to_in q h = first.ids q.to (all.tos q h)

      inside : (q : Bar) → Has (take i bars) q → Has bars q
      inside q h = has_take bars i q h

      either : (a : Atom) → (IsBarred c (take i bars) a after → ⊥) → (IsTrue (value_of c r.from a) → IsTrue (value_of c r.to after) → ⊥) → IsBarred d (take i bars ++ r ∷ []) a after → ⊥
      either a none own k =
          ⊎_elim
          (λ h. none (k.0, h, sym (kept.values k.0.from (from_in k.0 (inside k.0 h)) a) ∙ k.2, sym (kept.values k.0.to (to_in k.0 (inside k.0 h)) after) ∙ k.3))
          (λ h. ⊎_elim
          (λ e. own
          (sym (kept.values r.from (from_in r here) a) ∙ subst (λ (q : Bar). IsTrue (value_of d q.from a)) (sym e) k.2)
          (sym (kept.values r.to (to_in r here) after) ∙ subst (λ (q : Bar). IsTrue (value_of d q.to after)) (sym e) k.3))
          absurd h)
          (has_append (take i bars) (r ∷ []) k.0 k.1)

-- ---- tests that do not matter

-- if both values of the test give the same diagram, the diagram does not depend on the test
pub independent_of_equal : (b c d : DiagramsParts) (id t low high : ℕ) → KeepsFunctions b c → KeepsFunctions c d → IsDiagramId b id → IsDiagramOf c low (λ a. value_of b id (set a t false)) → IsDiagramOf d high (λ a. value_of c id (set a t true)) → low ≡ high → IsIndependent d id t
independent_of_equal b c d id t low high first second is is_low is_high same a fits v = alike v (get_or a t false) ∙ ap (value_of d id) (set-get_or a t false)
  where
    low_value : value_of d low a ≡ value_of d id (set a t false)
    low_value =
        second.values low is_low.in_range a ∙ is_low.value a (fits ∙ second.tests)
        ∙ sym (first.values id is (set a t false)) ∙ sym (second.values id (first.ids id is) (set a t false))

    high_value : value_of d high a ≡ value_of d id (set a t true)
    high_value = is_high.value a fits ∙ sym (second.values id (first.ids id is) (set a t true))

    both : value_of d id (set a t false) ≡ value_of d id (set a t true)
    both = sym low_value ∙ ap (λ i. value_of d i a) same ∙ high_value

    alike : (v w : Bool) → value_of d id (set a t v) ≡ value_of d id (set a t w)
    alike true true = refl
    alike true false = sym both
    alike false true = both
    alike false false = refl

-- if n is at least their number, the first n bars are all bars
pub sources_all : (d : DiagramsParts) (bars : List Bar) (region : ℕ) (after : Atom) (n id : ℕ) → length bars ≤ n → AreSources d bars region after n id → AreSources d bars region after (length bars) id
sources_all d bars region after n id le s =
    let same : take n bars ≡ take (length bars) bars = take_all n bars le ∙ sym (take_all (length bars) bars (omega arith)) in
    record {
      is_id = s.is_id;
      there = λ a fits h. let r = s.there a fits h in (r.0, (λ k. r.1 (subst (λ l. IsBarred d l a after) (sym same) k)));
      back = λ a fits h free. s.back a fits h (λ k. free (subst (λ l. IsBarred d l a after) same k));
    }
