use Rattle.std.proofs.Common.{◌≡◌, ◌+◌, ⊎_elim, inl, inr, ℕ, List, take, true, false, Bool, refl, sym, ap, ◌∙◌, subst}
use Rattle.std.specs.Bool.{IsTrue}
use Rattle.std.proofs.lemmas.Bool.{eqb-true, eqb-false}
use Rattle.std.proofs.lemmas.List.{take_all}
use Rattle.kat_model.specs.Members.{Has}
use Rattle.partial_derivs.proofs.Items.{has_item, take_item}
use Rattle.test_diagrams.specs.Functions.{DiagramsParts, value_of, IsAtomOf, KeepsFunctions}
use Rattle.test_diagrams.proofs.Kept.{KeepsFunctions-itself, KeepsFunctions-trans}
use Rattle.walk_pairs.specs.declared.items.Item.{Item}
use Rattle.walk_regions.specs.declared.parts.Part.{Part}
use Rattle.walk_under.specs.declared.walk.TestedWorklist.{TestedWorklist}
use Rattle.walk_under.specs.declared.walk.StepSource.{StepSource}
use Rattle.walk_regions.specs.Entries.{EntryParts}
use Rattle.walk_regions.specs.Allowance.{IsWithin}
use Rattle.walk_regions.specs.Reaching.{IsPartOf}
use Rattle.walk_regions.specs.Parts.{HasPartAt, AreParts}
use Rattle.walk_under.specs.Working.IdEntries.{IsNextPart}
use Rattle.walk_under.specs.Working.Walking.{WalkContext, IsAtSource, AreNextItems}
use Rattle.walk_regions.proofs.AllowedImages.{within_kept}
use Rattle.walk_regions.proofs.PartCases.{region_somewhere, part_at_last}
use Rattle.walk_under.proofs.Standing.{next_part_kept, source_later}
use Rattle.walk_under.proofs.Visiting.{visited_then, visited_part, visited_nowhere, visited_from, next_items_kept, next_same, part_next}
use Rattle.walk_under.proofs.walk.TestedWorklist.visit.Goals as goal

pub differing_part-requires-clause-items : goal.differing_part-requires-clause-items
differing_part-requires-clause-items c = c.requires.represents.3.are

pub differing_part-requires-clause-region : goal.differing_part-requires-clause-region
differing_part-requires-clause-region c = c.requires.represents.2.atoms.is_id

pub returns-then-eq : goal.returns-then-eq
returns-then-eq c s from represents next =
    let w : TestedWorklist = c.args.self.now in
    let x : TestedWorklist = record w { diagrams = c.differing_part.new.diagrams } in
    let k : KeepsFunctions w.diagrams x.diagrams = c.in_ok-region.ensures.kept in
    let source = c.args.source.now in
    let items : List Item = c.args.items.now in
    let stands' = source_later s source from w x.diagrams k represents in
    let empty : c.in_ok-region.region ≡ c.constant.result = eqb-true c.in_ok-region.region c.constant.result (sym c.eq.ensures ∙ c.if-eq.true) in
    visited_nowhere s source from w x (λ atom. IsTrue (value_of w.diagrams source.test atom)) stands' k refl
    (λ atom wide h.
    let fits : IsAtomOf x.diagrams atom = wide ∙ sym stands'.under_way.tests in
    next_same s x source from items (next_items_kept s w x k source from items next) atom fits
    (c.in_ok-region.ensures.alike atom fits (k.values source.test represents.atoms.is_id atom ∙ h) (ap (λ i. value_of x.diagrams i atom) empty ∙ c.constant.ensures.function.value atom fits)))

pub parts_of-requires-clause-items : goal.parts_of-requires-clause-items
parts_of-requires-clause-items c =
    let w : TestedWorklist = c.args.self.now in
    let x : TestedWorklist = record w { diagrams = c.differing_part.new.diagrams } in
    (next_items_kept c.requires.represents.0 w x c.in_ok-region.ensures.kept c.args.source.now c.requires.represents.1 c.args.items.now c.requires.represents.3).are

pub parts_of-requires-clause-region : goal.parts_of-requires-clause-region
parts_of-requires-clause-region c = c.in_ok-region.ensures.part.is_id

pub parts_of-requires-clause-somewhere : goal.parts_of-requires-clause-somewhere
parts_of-requires-clause-somewhere c =
    region_somewhere c.differing_part.new.diagrams c.constant.ensures.reduced c.constant.result c.in_ok-region.region c.constant.ensures.function c.in_ok-region.ensures.part.is_id
    (eqb-false c.in_ok-region.region c.constant.result (sym c.eq.ensures ∙ c.if-eq.false))

pub loop-part-init : goal.loop-part-init
loop-part-init c s from represents nexts =
    let w : TestedWorklist = c.args.self.now in
    let y : TestedWorklist = record w { diagrams = c.parts_of.new.diagrams } in
    visited_nowhere s c.args.source.now from y y _ represents (KeepsFunctions-itself y.diagrams) refl (λ atom wide h. absurd h.member)

either : {R : Type 0} (b : Bool) → (b ≡ true → R) → (b ≡ false → R) → R
either true f g = f refl
either false f g = g refl

-- the parts lead to the next sets
parts_next : (s : WalkContext) (w : TestedWorklist) (x y : DiagramsParts) (k : KeepsFunctions w.diagrams x) (l : KeepsFunctions x y) (source : StepSource) (from : EntryParts) (items : List Item) (region : ℕ) (parts : List Part) → IsAtSource s w source from → AreNextItems s w source from items
    → IsPartOf x source.test region → AreParts y items region parts → (p : Part) → Has parts p → IsNextPart s.store y from source.test source.act p
parts_next s w x y k l source from items region parts represents next part are p h =
    let both = KeepsFunctions-trans w.diagrams x y k l in
    let within : IsWithin y region source.test = within_kept x y l region source.test part.is_id (k.ids source.test represents.atoms.is_id) part.within in
    part_next s (record w { diagrams = y }) source from items (next_items_kept s w (record w { diagrams = y }) both source from items next) region p (are p h).0 (are p h).1 within

pub visit_part-requires-clause-level : goal.visit_part-requires-clause-level
visit_part-requires-clause-level c = c.requires.level

pub visit_part-requires-clause-represents : goal.visit_part-requires-clause-represents
visit_part-requires-clause-represents c =
    let s = c.requires.represents.0 in
    let from = c.requires.represents.1 in
    let source = c.args.source.now in
    let w : TestedWorklist = c.args.self.now in
    let x = c.differing_part.new.diagrams in
    let y = c.parts_of.new.diagrams in
    let k = c.in_ok-region.ensures.kept in
    let l = c.in_ok-parts.ensures.kept in
    let both = KeepsFunctions-trans w.diagrams x y k l in
    let here = source_later s source from w y both c.requires.represents.2 in
    let nexts = parts_next s w x y k l source from c.args.items.now c.in_ok-region.region c.in_ok-parts.parts.items c.requires.represents.2 c.requires.represents.3 c.in_ok-region.ensures.part c.in_ok-parts.ensures.parts in
    let inv = c.loop-part.invariant s from here (λ p h. nexts p (subst (λ (ps : List Part). Has ps p) c.deref-part-items.ensures.value h)) in
    let part : Part = c.part-item.result in
    let member = has_item c.deref-part-items.result.now c.loop-part.part-index part c.loop-part-test.true c.part-item.is in
    let own = nexts part (subst (λ (ps : List Part). Has ps part) c.deref-part-items.ensures.value member) in
    (s, from, inv.represents, next_part_kept s.store y c.loop-part.self.diagrams inv.kept from source.test source.act part here.atoms.is_id own)

pub loop-part-preserved : goal.loop-part-preserved
loop-part-preserved c s from here nexts =
    let w : TestedWorklist = c.args.self.now in
    let y : TestedWorklist = record w { diagrams = c.parts_of.new.diagrams } in
    let v : TestedWorklist = c.loop-part.self in
    let source = c.args.source.now in
    let parts : List Part = c.deref-part-items.result.now in
    let k = c.loop-part.part-index in
    let part : Part = c.part-item.result in
    let inv = c.loop-part.invariant s from here nexts in
    let member = has_item parts k part c.loop-part-test.true c.part-item.is in
    let own = next_part_kept s.store y.diagrams v.diagrams inv.kept from source.test source.act part here.atoms.is_id (nexts part member) in
    let step = c.in_ok-visit_part.ensures s from inv.represents own in
    visited_part s source from y c.visit_part.new.self _ (λ atom. HasPartAt y.diagrams (take (k + 1) parts) atom)
    (λ atom wide h.
    ⊎_elim inl (λ t. inr (inv.kept.values part.region (nexts part member).region atom ∙ t))
    (part_at_last y.diagrams (take k parts) part atom (subst (λ (ps : List Part). HasPartAt y.diagrams ps atom) (take_item parts k part c.loop-part-test.true c.part-item.is) h)))
    (visited_then s source from y v c.visit_part.new.self (λ atom. HasPartAt y.diagrams (take k parts) atom) (λ atom. IsTrue (value_of v.diagrams part.region atom)) inv step)

pub returns : goal.returns
returns c s from represents next =
    let w : TestedWorklist = c.args.self.now in
    let x : TestedWorklist = record w { diagrams = c.differing_part.new.diagrams } in
    let y : TestedWorklist = record w { diagrams = c.parts_of.new.diagrams } in
    let source = c.args.source.now in
    let items : List Item = c.args.items.now in
    let k = c.in_ok-region.ensures.kept in
    let l = c.in_ok-parts.ensures.kept in
    let both = KeepsFunctions-trans w.diagrams x.diagrams y.diagrams k l in
    let here = source_later s source from w y.diagrams both represents in
    let parts : List Part = c.deref-part-items.result.now in
    let nexts = parts_next s w x.diagrams y.diagrams k l source from items c.in_ok-region.region c.in_ok-parts.parts.items represents next c.in_ok-region.ensures.part c.in_ok-parts.ensures.parts in
    let inv = c.loop-part.invariant s from here (λ p h. nexts p (subst (λ (ps : List Part). Has ps p) c.deref-part-items.ensures.value h)) in
    let i = c.loop-part.part-index in
    let all : c.in_ok-parts.parts.items ≡ take i parts = sym c.deref-part-items.ensures.value ∙ sym (take_all i parts c.loop-part-test.false) in
    visited_from s source from w y c.loop-part.self both refl (λ atom. HasPartAt y.diagrams (take i parts) atom) (λ atom. IsTrue (value_of w.diagrams source.test atom)) inv
    (λ atom wide h.
    let fits : IsAtomOf y.diagrams atom = wide ∙ sym here.under_way.tests in
    let fits' : IsAtomOf x.diagrams atom = fits ∙ l.tests in
    either (value_of x.diagrams c.in_ok-region.region atom)
    (λ t. inl (subst (λ (ps : List Part). HasPartAt y.diagrams ps atom) all (c.in_ok-parts.ensures.covers atom fits (l.values c.in_ok-region.region c.in_ok-region.ensures.part.is_id atom ∙ t))))
    (λ f. inr (next_same s x source from items (next_items_kept s w x k source from items next) atom fits' (c.in_ok-region.ensures.alike atom fits' (k.values source.test represents.atoms.is_id atom ∙ h) f))))
