-- An image is built from the images of both parts of the region, while diagrams are added.
use Rattle.std.proofs.Common.{◌≡◌, ◌+◌, ◌<◌, ℕ, not, ◌&&◌, ◌||◌, List, length, take, get_or, slice_get, Some, sym, ap, ◌∙◌, subst}
use Rattle.std.proofs.lemmas.Option.{slice_get-get_or}
use Rattle.kat_model.specs.Members.{Has}
use Rattle.kat_model.proofs.Places.{has_at}
use Rattle.test_diagrams.specs.Functions.{DiagramsParts, value_of, IsDiagramId, IsDiagramOf, KeepsFunctions}
use Rattle.test_diagrams.proofs.Kept.{KeepsFunctions-itself, KeepsFunctions-trans}
use Rattle.partial_derivs.proofs.Items.{take_item}
use Rattle.walk_regions.specs.declared.bars.Bar.{Bar}
use Rattle.walk_regions.specs.declared.bars.RegionParts.{RegionParts}
use Rattle.walk_regions.specs.Bars.{IsSplit, IsImageOf, AreBars}
use Rattle.walk_regions.proofs.Forgetting.{forgotten_kept}
use Rattle.walk_regions.proofs.KeptValues.{of_two_kept}
use Rattle.walk_regions.proofs.Images.{image_more}
use Rattle.walk_regions.proofs.ImageTables.{bars_kept, image_kept, taken_bars}

-- a bar read in range is the one at that place
pub bar_at : (bars : List Bar) (i : ℕ) (r : Bar) → i < length bars → r ≡ get_or bars i r → slice_get bars i ≡ Some r
bar_at bars i r lt is = slice_get-get_or bars i r lt ∙ ap Some (sym is)

split_kept : (c d : DiagramsParts) → KeepsFunctions c d → (r : Bar) (region : ℕ) (p : RegionParts) → IsDiagramId c r.from → IsDiagramId c region → IsSplit c r region p → IsSplit d r region p
split_kept c d kept r region p from is s = record {
  start = s.start;
  other = s.other;
  is_start = of_two_kept (λ x y. x && y) c c d kept kept region r.from s.start is from s.is_start;
  is_other = of_two_kept (λ x y. x && not y) c c d kept kept region r.from s.other is from s.is_other;
  inside = forgotten_kept c d kept s.start r.fresh.items p.inside s.is_start.in_range s.inside;
  outside = forgotten_kept c d kept s.other r.fresh.items p.outside s.is_other.in_range s.outside;
}

module _ (a b e f g h : DiagramsParts) (ab : KeepsFunctions a b) (be : KeepsFunctions b e) (ef : KeepsFunctions e f) (fg : KeepsFunctions f g) (gh : KeepsFunctions g h) where
  abbrev pub eh : KeepsFunctions e h
  eh = KeepsFunctions-trans e f h ef (KeepsFunctions-trans f g h fg gh)

  abbrev pub bh : KeepsFunctions b h
  bh = KeepsFunctions-trans b e h be eh

  abbrev pub ah : KeepsFunctions a h
  ah = KeepsFunctions-trans a b h ab bh

  module _ (bars : List Bar) (all : AreBars a bars) (last : ℕ) (r : Bar) (lt : last < length bars) (is : r ≡ get_or bars last r) (region : ℕ) (in_region : IsDiagramId a region) (p : RegionParts) where
    here : Has bars r
    here = has_at bars last r (bar_at bars last r lt is)

    pub image_joined : (within kept free id count : ℕ) → count ≡ last + 1 → IsSplit b r region p → IsImageOf e (take last bars) p.inside within → IsDiagramOf f kept (λ x. value_of e within x && not (value_of e r.to x))
        → IsImageOf g (take last bars) p.outside free → IsDiagramOf h id (λ x. value_of g kept x || value_of g free x) → IsImageOf h (take count bars) region id
    image_joined within kept free id count n s w k fr o =
        let ae = KeepsFunctions-trans a b e ab be in
        let ag = KeepsFunctions-trans a e g ae (KeepsFunctions-trans e f g ef fg) in
        let own = split_kept b h bh r region p (ab.ids r.from (all.froms r here)) (ab.ids region in_region) s in
        let inside = image_kept e h eh bars (take last bars) (bars_kept a e ae bars all) (taken_bars a e ae bars last all) p.inside within (be.ids p.inside s.inside.is_id) w in
        let outside = image_kept g h gh bars (take last bars) (bars_kept a g ag bars all) (taken_bars a g ag bars last all) p.outside free ((KeepsFunctions-trans b e g be (KeepsFunctions-trans e f g ef fg)).ids p.outside s.outside.is_id) fr in
        let is_kept = of_two_kept (λ x y. x && not y) e f h eh (KeepsFunctions-trans f g h fg gh) within r.to kept w.is_id (ae.ids r.to (all.tos r here)) k in
        let is_id = of_two_kept (λ x y. x || y) g h h gh (KeepsFunctions-itself h) kept free id (fg.ids kept k.in_range) fr.is_id o in
        let later = (bars_kept a h ah bars all).fresh last r (bar_at bars last r lt is) in
        subst (λ l. IsImageOf h l region id) (sym (ap (λ m. take m bars) n ∙ take_item bars last r lt is))
        (image_more h (take last bars) r region p own (λ t m q j. (later t m).1 q j) within kept free id inside outside is_kept is_id)

-- a bar read in a loop is the one at that place of the list
pub read_bar : (bars read : List Bar) (i : ℕ) (r : Bar) → read ≡ bars → i < length read → r ≡ get_or read i r → (i < length bars) × (r ≡ get_or bars i r) × Has bars r
read_bar bars read i r same lt is =
    let within = subst (λ (l : List Bar). i < length l) same lt in
    let own : r ≡ get_or bars i r = is ∙ ap (λ (l : List Bar). get_or l i r) same in
    (within, own, has_at bars i r (bar_at bars i r within own))
