-- The table of images: an image that is found is correct, and remains correct.
use Rattle.std.proofs.Common.{◌≡◌, ◌<◌, ⊎_elim, ℕ, true, eqb, List, length, take, Some, sym, ◌∙◌, subst}
use Rattle.std.specs.Map.{lookup}
use Rattle.indexmap.specs.IndexMap.{insert_entry}
use Rattle.std.proofs.lemmas.Bool.{and_parts, eqb-true}
use Rattle.kat_model.specs.Members.{Has}
use Rattle.test_diagrams.specs.Functions.{DiagramsParts, IsDiagramId, IsIndependent, KeepsFunctions}
use Rattle.partial_derivs.proofs.Entries.{insert_entry_has, lookup_has}
use Rattle.partial_derivs.proofs.Items.{has_take}
use Rattle.kat_model.specs.Steps.{Atom}
use Rattle.walk_regions.specs.declared.bars.Bar.{Bar}
use Rattle.walk_regions.specs.declared.bars.Bars.{Bars}
use Rattle.walk_regions.specs.declared.bars.ImageKey.{ImageKey}
use Rattle.walk_regions.specs.Bars.{IsBarred, IsImageOf, AreUnasked, AreBars, AreImages, AreSoundBars, same_key}

pub same_key_is : (x y : ImageKey) → same_key x y ≡ true → x ≡ y
same_key_is x y e =
    let p = and_parts (eqb x.region y.region) (eqb x.count y.count) e in
    λ i. record { region = eqb-true x.region y.region p.0 i; count = eqb-true x.count y.count p.1 i }

pub image_found : (d : DiagramsParts) (bars : List Bar) (images : List (ImageKey × ℕ)) (key : ImageKey) (id : ℕ) → lookup (same_key key) images ≡ Some id → AreImages d bars images → IsImageOf d (take key.count bars) key.region id
image_found d bars images key id e all = (all (key, id) (lookup_has same_key same_key_is key images id e)).1

pub image_noted : (d : DiagramsParts) (bars : List Bar) (images new : List (ImageKey × ℕ)) (key : ImageKey) (id : ℕ) → new ≡ insert_entry same_key images key id → AreImages d bars images → IsDiagramId d key.region → IsImageOf d (take key.count bars) key.region id → AreImages d bars new
image_noted d bars images new key id is all region own e h =
    ⊎_elim
    (λ old. all e old)
    (λ s. subst (λ (x : ImageKey × ℕ). IsDiagramId d x.0.region × IsImageOf d (take x.0.count bars) x.0.region x.1) (sym s) (region, own))
    (insert_entry_has same_key same_key_is key id images e (subst (λ l. Has l e) is h))

-- ---- when diagrams are added

module _ (c d : DiagramsParts) (kept : KeepsFunctions c d) where
  pub independent_kept : (id t : ℕ) → IsDiagramId c id → IsIndependent c id t → IsIndependent d id t
  independent_kept id t is free a fits v = kept.values id is _ ∙ free a (fits ∙ kept.tests) v ∙ sym (kept.values id is a)

  unasked_kept : (bars : List Bar) (n : ℕ) (tests : List ℕ) → ((r : Bar) → Has bars r → IsDiagramId c r.from) → AreUnasked c bars n tests → AreUnasked d bars n tests
  unasked_kept bars n tests froms all t h =
      let own = all t h in
      (subst (λ m. t < m) (sym kept.tests) own.0, (λ r k. independent_kept r.from t (froms r (has_take bars n r k)) (own.1 r k)))

  pub bars_kept : (bars : List Bar) → AreBars c bars → AreBars d bars
  bars_kept bars all = record {
    froms = λ r h. kept.ids r.from (all.froms r h);
    tos = λ r h. kept.ids r.to (all.tos r h);
    fresh = λ i r at. unasked_kept bars i r.fresh.items all.froms (all.fresh i r at);
  }

  pub taken_bars : (bars : List Bar) (n : ℕ) → AreBars c bars → (r : Bar) → Has (take n bars) r → Has bars r
  taken_bars bars n all r h = has_take bars n r h

  module _ (bars some : List Bar) (all : AreBars c bars) (within : (r : Bar) → Has some r → Has bars r) where
    some_kept : (a b : Atom) → IsBarred c some a b → IsBarred d some a b
    some_kept a b k = (k.0, k.1, kept.values k.0.from (all.froms k.0 (within k.0 k.1)) a ∙ k.2, kept.values k.0.to (all.tos k.0 (within k.0 k.1)) b ∙ k.3)

    some_was : (a b : Atom) → IsBarred d some a b → IsBarred c some a b
    some_was a b k = (k.0, k.1, sym (kept.values k.0.from (all.froms k.0 (within k.0 k.1)) a) ∙ k.2, sym (kept.values k.0.to (all.tos k.0 (within k.0 k.1)) b) ∙ k.3)

    pub image_kept : (region id : ℕ) → IsDiagramId c region → IsImageOf c some region id → IsImageOf d some region id
    image_kept region id is im = record {
      is_id = kept.ids id im.is_id;
      there = λ b fits h.
          let l = im.there b (fits ∙ kept.tests) (sym (kept.values id im.is_id b) ∙ h) in
          record { before = l.before; fits = l.fits ∙ sym kept.tests; there = kept.values region is l.before ∙ l.there; free = λ k. l.free (some_was l.before b k) };
      back = λ b fits l.
          kept.values id im.is_id b
          ∙ im.back b (fits ∙ kept.tests) (record { before = l.before; fits = l.fits ∙ kept.tests; there = sym (kept.values region is l.before) ∙ l.there; free = λ k. l.free (some_kept l.before b k) });
    }

  pub images_kept : (bars : List Bar) (images : List (ImageKey × ℕ)) → AreBars c bars → AreImages c bars images → AreImages d bars images
  images_kept bars images all each e h =
      let own = each e h in
      (kept.ids e.0.region own.0, image_kept bars (take e.0.count bars) all (taken_bars bars e.0.count all) e.0.region e.1 own.0 own.1)

  pub sound_bars_kept : (b : Bars) → AreSoundBars c b → AreSoundBars d b
  sound_bars_kept b s = record {
    bars = bars_kept b.bars.items s.bars;
    unasked = unasked_kept b.bars.items (length b.bars.items) b.unasked.items s.bars.froms s.unasked;
    images = images_kept b.bars.items b.images.entries s.bars s.images;
  }

-- the bars with another table of correct images
pub sound_bars_with : (d : DiagramsParts) (b new : Bars) → new.bars ≡ b.bars → new.unasked ≡ b.unasked → AreImages d new.bars.items new.images.entries → AreSoundBars d b → AreSoundBars d new
sound_bars_with d b new same unasked images s = record {
  bars = subst (λ l. AreBars d l.items) (sym same) s.bars;
  unasked = subst (λ l. AreUnasked d l.items (length l.items) new.unasked.items) (sym same) (subst (λ l. AreUnasked d b.bars.items (length b.bars.items) l.items) (sym unasked) s.unasked);
  images = images;
}
