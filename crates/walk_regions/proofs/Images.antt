-- The image of a region under bars, computed from the last bar.
use Rattle.std.proofs.Common.{◌≡◌, ◌≢◌, inl, ⊎_elim, ℕ, Bool, true, false, not, ◌&&◌, ◌||◌, List, [], ◌∷◌, ◌++◌, refl, sym, ap, ◌∙◌, subst}
use Rattle.std.specs.Bool.{IsTrue}
use Rattle.std.proofs.lemmas.Bool.{or_cases, or_left, or_right, and_parts, and_from, both_ways, not-true}
use Rattle.kat_model.specs.Members.{Has}
use Rattle.kat_model.specs.Steps.{Atom}
use Rattle.kat_model.proofs.Lists.{has_left, has_right, has_append}
use Rattle.test_diagrams.specs.Functions.{DiagramsParts, value_of, IsDiagramId, IsAtomOf, IsDiagramOf, IsIndependent}
use Rattle.test_diagrams.specs.Reduced.{IsReduced}
use Rattle.test_diagrams.proofs.Apart.{different_apart}
use Rattle.walk_regions.specs.declared.bars.Bar.{Bar}
use Rattle.walk_regions.specs.declared.bars.RegionParts.{RegionParts}
use Rattle.walk_regions.specs.Bars.{IsReset, IsForgotten, IsSplit, IsBarred, IsLedTo, IsImageOf}
use Rattle.walk_regions.proofs.Forgetting.{reset_same}

module _ (d : DiagramsParts) where
  -- the image of an empty region is empty; without bars, the image of any other region has all atoms
  pub image_never : (bars : List Bar) (region : ℕ) → IsDiagramOf d region (λ a. false) → IsImageOf d bars region region
  image_never bars region is = record {
    is_id = is.in_range;
    there = λ b fits h. absurd (both_ways _ (is.value b fits) h);
    back = λ b fits l. absurd (both_ways _ (is.value l.before l.fits) l.there);
  }

  pub image_free : (region always never : ℕ) → IsReduced d → IsDiagramId d region → IsDiagramOf d always (λ a. true) → IsDiagramOf d never (λ a. false) → region ≢ never → IsImageOf d [] region always
  image_free region always never reduced is is_always is_never differ = record {
    is_id = is_always.in_range;
    there = λ b fits h.
        let apart = different_apart d reduced region never is is_never.in_range differ in
        record {
          before = apart.atom;
          fits = apart.fits;
          there = not_false (value_of d region apart.atom) (λ f. apart.apart (f ∙ sym (is_never.value apart.atom apart.fits)));
          free = λ r. absurd r.1;
        };
    back = λ b fits l. is_always.value b fits;
  }
    where
      not_false : (v : Bool) → v ≢ false → IsTrue v
      not_false true ne = refl
      not_false false ne = absurd (ne refl)

  -- ---- an additional bar

  module _ (rest : List Bar) (r : Bar) (region : ℕ) (p : RegionParts) (s : IsSplit d r region p) (fresh : (t : ℕ) → Has r.fresh.items t → (q : Bar) → Has rest q → IsIndependent d q.from t) where
    -- an earlier bar that blocks a move from one of two atoms that differ only in the fresh tests blocks it from both
    barred_same : {a b : Atom} → IsReset r.fresh.items a b → IsAtomOf d a → (after : Atom) → IsBarred d rest b after → IsBarred d rest a after
    barred_same same fits after k = (k.0, k.1, sym (reset_same d r.fresh.items k.0.from (λ t h. fresh t h k.0 k.1) same fits) ∙ k.2, k.3)

    either : (a b : Atom) → (IsBarred d rest a b → ⊥) → (IsTrue (value_of d r.from a) → IsTrue (value_of d r.to b) → ⊥) → IsBarred d (rest ++ r ∷ []) a b → ⊥
    either a b none own k =
        ⊎_elim
        (λ h. none (k.0, h, k.2, k.3))
        (λ h. ⊎_elim (λ e. own (subst (λ (q : Bar). IsTrue (value_of d q.from a)) (sym e) k.2) (subst (λ (q : Bar). IsTrue (value_of d q.to b)) (sym e) k.3)) absurd h)
        (has_append rest (r ∷ []) k.0 k.1)

    module _ (within kept free id : ℕ) (inside : IsImageOf d rest p.inside within) (outside : IsImageOf d rest p.outside free)
        (is_kept : IsDiagramOf d kept (λ b. value_of d within b && not (value_of d r.to b))) (is : IsDiagramOf d id (λ b. value_of d kept b || value_of d free b)) where
      from_inside : (b : Atom) → IsAtomOf d b → IsTrue (value_of d kept b) → IsLedTo d (rest ++ r ∷ []) region b
      from_inside b fits h =
          let both = and_parts (value_of d within b) (not (value_of d r.to b)) (sym (is_kept.value b fits) ∙ h) in
          let l = inside.there b fits both.0 in
          let a = s.inside.there l.before l.fits l.there in
          let there = and_parts (value_of d region a.0) (value_of d r.from a.0) (sym (s.is_start.value a.0 a.2) ∙ a.3) in
          record {
            before = a.0;
            fits = a.2;
            there = there.0;
            free = either a.0 b (λ k. l.free (barred_same a.1 l.fits b k)) (λ from to. both_ways (value_of d r.to b) (not-true (value_of d r.to b) both.1) to);
          }

      from_outside : (b : Atom) → IsAtomOf d b → IsTrue (value_of d free b) → IsLedTo d (rest ++ r ∷ []) region b
      from_outside b fits h =
          let l = outside.there b fits h in
          let a = s.outside.there l.before l.fits l.there in
          let there = and_parts (value_of d region a.0) (not (value_of d r.from a.0)) (sym (s.is_other.value a.0 a.2) ∙ a.3) in
          record {
            before = a.0;
            fits = a.2;
            there = there.0;
            free = either a.0 b (λ k. l.free (barred_same a.1 l.fits b k)) (λ from to. both_ways (value_of d r.from a.0) (not-true (value_of d r.from a.0) there.1) from);
          }

      -- an atom to which a move leads is in one of the two images
      reached : (b : Atom) → IsAtomOf d b → (l : IsLedTo d (rest ++ r ∷ []) region b) → (v : Bool) → value_of d r.from l.before ≡ v → (value_of d kept b || value_of d free b) ≡ true
      reached b fits l true e =
          or_left _ _
          (is_kept.value b fits
          ∙ and_from _ _
          (inside.back b fits (record { before = l.before; fits = l.fits; there = s.inside.back l.before l.fits (s.is_start.value l.before l.fits ∙ and_from _ _ l.there e); free = λ k. l.free (k.0, has_left rest (r ∷ []) k.0 k.1, k.2, k.3) }))
          (true_of (value_of d r.to b) (λ t. l.free (r, has_right rest (r ∷ []) r (inl refl), e, t))))
        where
          true_of : (v : Bool) → (IsTrue v → ⊥) → not v ≡ true
          true_of true n = absurd (n refl)
          true_of false n = refl
      reached b fits l false e =
          or_right _ _
          (outside.back b fits
          (record {
            before = l.before;
            fits = l.fits;
            there = s.outside.back l.before l.fits (s.is_other.value l.before l.fits ∙ and_from _ _ l.there (ap not e));
            free = λ k. l.free (k.0, has_left rest (r ∷ []) k.0 k.1, k.2, k.3);
          }))

      pub image_more : IsImageOf d (rest ++ r ∷ []) region id
      image_more = record {
        is_id = is.in_range;
        there = λ b fits h. ⊎_elim (from_inside b fits) (from_outside b fits) (or_cases _ _ (sym (is.value b fits) ∙ h));
        back = λ b fits l. is.value b fits ∙ reached b fits l (value_of d r.from l.before) refl;
      }

  -- tests on which no bar depends do not change the image
  pub image_forgotten : (bars : List Bar) (tests : List ℕ) (region rest id : ℕ) → ((t : ℕ) → Has tests t → (q : Bar) → Has bars q → IsIndependent d q.from t) → IsForgotten d region tests rest → IsImageOf d bars rest id → IsImageOf d bars region id
  image_forgotten bars tests region rest id free f im = record {
    is_id = im.is_id;
    there = λ b fits h.
        let l = im.there b fits h in
        let a = f.there l.before l.fits l.there in
        record { before = a.0; fits = a.2; there = a.3; free = λ k. l.free (k.0, k.1, sym (reset_same d tests k.0.from (λ t m. free t m k.0 k.1) a.1 l.fits) ∙ k.2, k.3) };
    back = λ b fits l. im.back b fits (record { before = l.before; fits = l.fits; there = f.back l.before l.fits l.there; free = l.free });
  }
