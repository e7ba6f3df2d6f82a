use Rattle.std.proofs.Common.{◌≡◌, ◌<◌, ⊎_elim, ℕ, Bool, List, [], ◌∷◌, ◌++◌, length, reverse, slice_get, Some, None, refl, sym, ap, ◌∙◌, subst, arith}
use Rattle.std.specs.Bool.{IsTrue}
use Rattle.kat_model.specs.Members.{Has}
use Rattle.kat_model.specs.Trees.{Term}
use Rattle.kat_model.specs.Steps.{Atom}
use Rattle.kat_model.specs.AllowedMoves.{IsAllowedAtom}
use Rattle.test_diagrams.specs.Functions.{DiagramsParts, value_of, IsDiagramId, IsAtomOf, KeepsFunctions}
use Rattle.kat_model.specs.Strings.{Move, GuardedString}
use Rattle.kat_model.specs.Degrees.{with_hyps}
use Rattle.kat_model.proofs.Places.{element_at, has_at}
use Rattle.kat_model.proofs.Lists.{has_pushed}
use Rattle.certificate.specs.Decisions.{IsShortest}
use Rattle.test_diagrams.proofs.Kept.{KeepsFunctions-itself, KeepsFunctions-trans}
use Rattle.walk_regions.specs.declared.entry.StepOrigin.{StepOrigin}
use Rattle.walk_regions.specs.declared.listing.Listing.{Listing}
use Rattle.walk_regions.specs.declared.allowed.AllowedMoves.{AllowedMoves}
use Rattle.walk_under.specs.declared.walk.TestedWorklist.{TestedWorklist}
use Rattle.walk_regions.specs.Entries.{EntryParts}
use Rattle.walk_regions.specs.Allowance.{IsAllowance, IsWithin, IsAllowedSource, HasAllowedSource}
use Rattle.walk_regions.specs.Listings.{IsLevelAtom, IsPlaceWith}
use Rattle.walk_under.specs.Working.Walking.{WalkContext, walk_context, IsUnderWay}
use Rattle.walk_regions.proofs.Allowances.{allowance_kept}
use Rattle.walk_regions.proofs.AllowedImages.{within_kept, source_kept, source_was}
use Rattle.walk_regions.proofs.LevelAtoms.{level_atom_kept}
use Rattle.walk_under.proofs.Backward.{string_of, IsSoFar, so_far_start, so_far_within, origin_region, origin_act, origin_source, origin_within, origin_listed, level_of, level_at, level_down, first_fits, first_allowed, source_listed, origin_step, so_far_shortest}
use Rattle.walk_under.proofs.walk.TestedWorklist.string_to.Goals as goal

abbrev as_string : Atom → List Move → GuardedString
as_string first rest = record { first = first; rest = rest }

pub loop-origin-init : goal.loop-origin-init
loop-origin-init c =
    let w : TestedWorklist = c.args.self.now in
    let r = c.requires in
    record {
      kept = KeepsFunctions-itself w.diagrams;
      listing = refl;
      same = refl;
      derivatives = refl;
      regions = λ id h. absurd (subst (λ l. Has l id) c.new-regions.ensures.items h);
      some = (r.0, r.2.from.level, r.1, subst (IsSoFar r.0 w r.2.from.level c.args.place c.args.last.items) (sym c.new-moves.ensures.items) (so_far_start r.0 w c.args.place c.args.last.items r.1 r.2));
      each = λ s u d. subst (IsSoFar s w d.from.level c.args.place c.args.last.items) (sym c.new-moves.ensures.items) (so_far_start s w c.args.place c.args.last.items u d);
    }

pub origin_at-requires : goal.origin_at-requires
origin_at-requires c =
    let b = c.loop-origin.invariant in
    let f = b.some in
    subst (λ (l : Listing). c.loop-origin.place < length l.entries.items) (sym b.listing) (so_far_within f.0 c.args.self.now c.args.place f.2 f.1 c.loop-origin.place c.loop-origin.first.items c.loop-origin.moves.items f.3)

pub source-requires-clause-moves : goal.source-requires-clause-moves
source-requires-clause-moves c =
    let w : TestedWorklist = c.args.self.now in
    let v : TestedWorklist = c.loop-origin.self in
    let b = c.loop-origin.invariant in
    let f = b.some in
    let s = f.0 in
    let k = c.loop-origin.place in
    let first = c.loop-origin.first.items in
    let moves = c.loop-origin.moves.items in
    let o : StepOrigin = c.in-Some.origin in
    let e = element_at w.listing.entries.items k (so_far_within s w c.args.place f.2 f.1 k first moves f.3) in
    let is : e.0.origin ≡ Some o = sym (c.in-Some.ensures e.0 (ap (λ (l : Listing). slice_get l.entries.items k) b.listing ∙ e.1)) in
    let region = origin_region s w c.args.place f.2 f.1 k first moves f.3 e.0 e.1 o is in
    let source = source_kept w.diagrams v.diagrams b.kept s.shorts o.region o.act first region (origin_source s w c.args.place f.2 f.1 k first moves f.3 e.0 e.1 o is) in
    let own = allowance_kept w.diagrams v.diagrams b.kept s.shorts s.problem.actions w.moves f.2.allowance in (
      s.shorts,
      subst (λ (m : AllowedMoves). IsAllowance v.diagrams s.shorts (length m.actions.items) m) (sym b.same) (subst (λ n. IsAllowance v.diagrams s.shorts n w.moves) (sym own.count) own),
      subst (HasAllowedSource v.diagrams s.shorts o.region o.act) (sym c.as_slice-after.ensures.value) source,
    )

pub source-requires-clause-region : goal.source-requires-clause-region
source-requires-clause-region c =
    let w : TestedWorklist = c.args.self.now in
    let v : TestedWorklist = c.loop-origin.self in
    let b = c.loop-origin.invariant in
    let f = b.some in
    let s = f.0 in
    let k = c.loop-origin.place in
    let first = c.loop-origin.first.items in
    let moves = c.loop-origin.moves.items in
    let o : StepOrigin = c.in-Some.origin in
    let e = element_at w.listing.entries.items k (so_far_within s w c.args.place f.2 f.1 k first moves f.3) in
    let is : e.0.origin ≡ Some o = sym (c.in-Some.ensures e.0 (ap (λ (l : Listing). slice_get l.entries.items k) b.listing ∙ e.1)) in
    b.kept.ids o.region (origin_region s w c.args.place f.2 f.1 k first moves f.3 e.0 e.1 o is)

pub source-requires-clause-act : goal.source-requires-clause-act
source-requires-clause-act c =
    let w : TestedWorklist = c.args.self.now in
    let v : TestedWorklist = c.loop-origin.self in
    let b = c.loop-origin.invariant in
    let f = b.some in
    let s = f.0 in
    let k = c.loop-origin.place in
    let first = c.loop-origin.first.items in
    let moves = c.loop-origin.moves.items in
    let o : StepOrigin = c.in-Some.origin in
    let e = element_at w.listing.entries.items k (so_far_within s w c.args.place f.2 f.1 k first moves f.3) in
    let is : e.0.origin ≡ Some o = sym (c.in-Some.ensures e.0 (ap (λ (l : Listing). slice_get l.entries.items k) b.listing ∙ e.1)) in
    let own = allowance_kept w.diagrams v.diagrams b.kept s.shorts s.problem.actions w.moves f.2.allowance in
    let below = origin_act s w c.args.place f.2 f.1 k first moves f.3 e.0 e.1 o is in
    subst (λ (m : AllowedMoves). o.act < length m.actions.items) (sym b.same) (subst (λ n. o.act < n) (sym own.count) below)

pub source-requires-clause-after : goal.source-requires-clause-after
source-requires-clause-after c =
    let w : TestedWorklist = c.args.self.now in
    let v : TestedWorklist = c.loop-origin.self in
    let b = c.loop-origin.invariant in
    let f = b.some in
    let s = f.0 in
    let k = c.loop-origin.place in
    let first = c.loop-origin.first.items in
    let moves = c.loop-origin.moves.items in
    let o : StepOrigin = c.in-Some.origin in
    let e = element_at w.listing.entries.items k (so_far_within s w c.args.place f.2 f.1 k first moves f.3) in
    let is : e.0.origin ≡ Some o = sym (c.in-Some.ensures e.0 (ap (λ (l : Listing). slice_get l.entries.items k) b.listing ∙ e.1)) in
    subst (IsAtomOf v.diagrams) (sym c.as_slice-after.ensures.value) (first_fits s w c.args.place f.2 f.1 k first moves f.3 e.0 e.1 o is ∙ sym b.kept.tests)

-- ---- one step back

abbrev IsSourceFound : TestedWorklist → ℕ → ℕ → Atom → Atom → Type 0
IsSourceFound v region act first before =
    (shorts : List Term) (actions : ℕ) → IsAllowance v.diagrams shorts actions v.moves → IsAllowedAtom shorts first → IsWithin v.diagrams region v.moves.allowed → IsAllowedSource v.diagrams shorts region act first before

module _ (s : WalkContext) (w v : TestedWorklist) (done n k : ℕ) (kept : KeepsFunctions w.diagrams v.diagrams) (same : v.moves ≡ w.moves) (u : IsUnderWay s w done) (first : Atom) (moves : List Move) (f : IsSoFar s w n k first moves) (e : EntryParts) (at : slice_get w.listing.entries.items k ≡ Some e)
    (o : StepOrigin) (is : e.origin ≡ Some o) (before : Atom) (found : IsSourceFound v o.region o.act first before) where
  abbrev ids : List EntryParts
  ids = w.listing.entries.items

  source_there : IsAllowedSource w.diagrams s.shorts o.region o.act first before
  source_there =
      let region = origin_region s w done u n k first moves f e at o is in
      let own = allowance_kept w.diagrams v.diagrams kept s.shorts s.problem.actions w.moves u.allowance in
      let within = within_kept w.diagrams v.diagrams kept o.region w.moves.allowed region u.allowance.allowed.in_range (origin_within s w done u n k first moves f e at o is) in
      let there = found s.shorts s.problem.actions (subst (IsAllowance v.diagrams s.shorts s.problem.actions) (sym same) own) (first_allowed s w done u n k first moves f e at o is) (subst (λ (m : AllowedMoves). IsWithin v.diagrams o.region m.allowed) (sym same) within) in
      source_was w.diagrams v.diagrams kept s.shorts o.region o.act first before region there

  entry_before : (b : EntryParts) × (slice_get ids o.place ≡ Some b)
  entry_before = element_at ids o.place (origin_listed s w done u n k first moves f e at o is)

  module _ (d : DiagramsParts) (later : KeepsFunctions w.diagrams d) (first' : Atom) (is_first : first' ≡ before) where
    first_fits' : IsAtomOf d first'
    first_fits' = subst (IsAtomOf d) (sym is_first) (source_there.fits ∙ sym later.tests)

    listed_there : (b : EntryParts) → slice_get ids o.place ≡ Some b → IsLevelAtom d ids b first'
    listed_there b here =
        subst (IsLevelAtom d ids b) (sym is_first)
        (level_atom_kept w.diagrams d later ids (λ x h. (u.entries x h).test) b before (source_listed s w done u n k first moves f e at o is b here before source_there))

    module _ (place : ℕ) (placed : (b : EntryParts) → slice_get ids o.place ≡ Some b → IsPlaceWith d ids b first' place) where
      placed_before : IsPlaceWith w.diagrams ids entry_before.0 before place
      placed_before =
          let p = placed entry_before.0 entry_before.1 in
          record {
            entry = p.entry;
            at = p.at;
            is = p.is;
            holds = subst (λ a. IsTrue (value_of w.diagrams p.entry.test a)) is_first (sym (later.values p.entry.test (u.entries p.entry (has_at ids place p.entry p.at)).test first') ∙ p.holds);
          }

      fewer_moves : level_at ids place < level_at ids k
      fewer_moves =
          let p = placed_before in
          let down = level_down s w done u n k first moves f e at o is entry_before.0 entry_before.1 in
          let new : level_at ids place ≡ p.entry.level = ap level_of p.at in
          let old : level_at ids k ≡ e.level = ap level_of at in
          let level : p.entry.level ≡ entry_before.0.level = p.is.level in
          omega (arith, down, new, old, level)

      go_on : (moves' : List Move) → moves' ≡ moves ++ record { act = o.act; atom = first } ∷ [] → IsSoFar s w n place first' moves'
      go_on moves' is_moves =
          subst (λ a. IsSoFar s w n place a moves') (sym is_first)
          (subst (IsSoFar s w n place before) (sym is_moves)
          (origin_step s w done u n k first moves f e at o is entry_before.0 entry_before.1 before source_there place placed_before))

source_found : (v : TestedWorklist) (region act : ℕ) (first after before : Atom) → after ≡ first → IsSourceFound v region act after before → IsSourceFound v region act first before
source_found v region act first after before e found = subst (λ a. IsSourceFound v region act a before) e found

pub place_at-place-requires-clause-place : goal.place_at-place-requires-clause-place
place_at-place-requires-clause-place c =
    let w : TestedWorklist = c.args.self.now in
    let b = c.loop-origin.invariant in
    let f = b.some in
    let k = c.loop-origin.place in
    let first = c.loop-origin.first.items in
    let moves = c.loop-origin.moves.items in
    let o : StepOrigin = c.in-Some.origin in
    let e = element_at w.listing.entries.items k (so_far_within f.0 w c.args.place f.2 f.1 k first moves f.3) in
    let is : e.0.origin ≡ Some o = sym (c.in-Some.ensures e.0 (ap (λ (l : Listing). slice_get l.entries.items k) b.listing ∙ e.1)) in
    subst (λ (l : Listing). o.place < length l.entries.items) (sym b.listing) (origin_listed f.0 w c.args.place f.2 f.1 k first moves f.3 e.0 e.1 o is)

pub place_at-place-requires-clause-tests : goal.place_at-place-requires-clause-tests
place_at-place-requires-clause-tests c x h =
    let w : TestedWorklist = c.args.self.now in
    let b = c.loop-origin.invariant in
    c.in_ok-before.ensures.kept.ids x.test (b.kept.ids x.test (b.some.2.entries x (subst (λ (l : Listing). Has l.entries.items x) b.listing h)).test)

pub place_at-place-requires-clause-atom : goal.place_at-place-requires-clause-atom
place_at-place-requires-clause-atom c =
    let w : TestedWorklist = c.args.self.now in
    let v : TestedWorklist = c.loop-origin.self in
    let b = c.loop-origin.invariant in
    let f = b.some in
    let k = c.loop-origin.place in
    let first = c.loop-origin.first.items in
    let moves = c.loop-origin.moves.items in
    let o : StepOrigin = c.in-Some.origin in
    let e = element_at w.listing.entries.items k (so_far_within f.0 w c.args.place f.2 f.1 k first moves f.3) in
    let is : e.0.origin ≡ Some o = sym (c.in-Some.ensures e.0 (ap (λ (l : Listing). slice_get l.entries.items k) b.listing ∙ e.1)) in
    let found = source_found v o.region o.act first c.as_slice-after.result.now c.in_ok-before.before.items c.as_slice-after.ensures.value c.in_ok-before.ensures.source in
    first_fits' f.0 w v c.args.place f.1 k b.kept b.same f.2 first moves f.3 e.0 e.1 o is c.in_ok-before.before.items found
    c.source.new.diagrams (KeepsFunctions-trans w.diagrams v.diagrams c.source.new.diagrams b.kept c.in_ok-before.ensures.kept) c.as_slice.result.now (c.as_slice.ensures.value ∙ ap (λ x. x.items) c.replace.ensures.after)

pub place_at-place-requires-clause-listed : goal.place_at-place-requires-clause-listed
place_at-place-requires-clause-listed c x here =
    let w : TestedWorklist = c.args.self.now in
    let v : TestedWorklist = c.loop-origin.self in
    let b = c.loop-origin.invariant in
    let f = b.some in
    let k = c.loop-origin.place in
    let first = c.loop-origin.first.items in
    let moves = c.loop-origin.moves.items in
    let o : StepOrigin = c.in-Some.origin in
    let e = element_at w.listing.entries.items k (so_far_within f.0 w c.args.place f.2 f.1 k first moves f.3) in
    let is : e.0.origin ≡ Some o = sym (c.in-Some.ensures e.0 (ap (λ (l : Listing). slice_get l.entries.items k) b.listing ∙ e.1)) in
    let found = source_found v o.region o.act first c.as_slice-after.result.now c.in_ok-before.before.items c.as_slice-after.ensures.value c.in_ok-before.ensures.source in
    subst (λ (l : Listing). IsLevelAtom c.source.new.diagrams l.entries.items x c.as_slice.result.now) (sym b.listing)
    (listed_there f.0 w v c.args.place f.1 k b.kept b.same f.2 first moves f.3 e.0 e.1 o is c.in_ok-before.before.items found
    c.source.new.diagrams (KeepsFunctions-trans w.diagrams v.diagrams c.source.new.diagrams b.kept c.in_ok-before.ensures.kept) c.as_slice.result.now (c.as_slice.ensures.value ∙ ap (λ x. x.items) c.replace.ensures.after)
    x (ap (λ (l : Listing). slice_get l.entries.items o.place) (sym b.listing) ∙ here))

-- the place that is found is one for the walk at the start
placed_by : (w v : TestedWorklist) (d : DiagramsParts) (from place : ℕ) (atom first' : Atom) → atom ≡ first' → v.listing ≡ w.listing → ((e : EntryParts) → slice_get v.listing.entries.items from ≡ Some e → IsPlaceWith d v.listing.entries.items e atom place)
    → (e : EntryParts) → slice_get w.listing.entries.items from ≡ Some e → IsPlaceWith d w.listing.entries.items e first' place
placed_by w v d from place atom first' same listing placed e at =
    subst (λ a. IsPlaceWith d w.listing.entries.items e a place) same
    (subst (λ (l : Listing). IsPlaceWith d l.entries.items e atom place) listing (placed e (ap (λ (l : Listing). slice_get l.entries.items from) listing ∙ at)))

pub loop-origin-smaller : goal.loop-origin-smaller
loop-origin-smaller c =
    let w : TestedWorklist = c.args.self.now in
    let v : TestedWorklist = c.loop-origin.self in
    let b = c.loop-origin.invariant in
    let f = b.some in
    let k = c.loop-origin.place in
    let first = c.loop-origin.first.items in
    let moves = c.loop-origin.moves.items in
    let o : StepOrigin = c.in-Some.origin in
    let e = element_at w.listing.entries.items k (so_far_within f.0 w c.args.place f.2 f.1 k first moves f.3) in
    let is : e.0.origin ≡ Some o = sym (c.in-Some.ensures e.0 (ap (λ (l : Listing). slice_get l.entries.items k) b.listing ∙ e.1)) in
    let found = source_found v o.region o.act first c.as_slice-after.result.now c.in_ok-before.before.items c.as_slice-after.ensures.value c.in_ok-before.ensures.source in
    fewer_moves f.0 w v c.args.place f.1 k b.kept b.same f.2 first moves f.3 e.0 e.1 o is c.in_ok-before.before.items found
    c.source.new.diagrams (KeepsFunctions-trans w.diagrams v.diagrams c.source.new.diagrams b.kept c.in_ok-before.ensures.kept) c.replace.new.dest.items (ap (λ x. x.items) c.replace.ensures.after)
    c.place_at-place.result (placed_by w v c.source.new.diagrams o.place c.place_at-place.result c.as_slice.result.now c.replace.new.dest.items c.as_slice.ensures.value b.listing c.place_at-place.ensures)

pub loop-origin-preserved : goal.loop-origin-preserved
loop-origin-preserved c =
    let w : TestedWorklist = c.args.self.now in
    let v : TestedWorklist = c.loop-origin.self in
    let b = c.loop-origin.invariant in
    let f = b.some in
    let s = f.0 in
    let k = c.loop-origin.place in
    let first = c.loop-origin.first.items in
    let moves = c.loop-origin.moves.items in
    let o : StepOrigin = c.in-Some.origin in
    let e = element_at w.listing.entries.items k (so_far_within s w c.args.place f.2 f.1 k first moves f.3) in
    let is : e.0.origin ≡ Some o = sym (c.in-Some.ensures e.0 (ap (λ (l : Listing). slice_get l.entries.items k) b.listing ∙ e.1)) in
    let before = c.in_ok-before.before.items in
    let d = c.source.new.diagrams in
    let later = KeepsFunctions-trans w.diagrams v.diagrams d b.kept c.in_ok-before.ensures.kept in
    let found = source_found v o.region o.act first c.as_slice-after.result.now before c.as_slice-after.ensures.value c.in_ok-before.ensures.source in
    let first_is : c.replace.new.dest.items ≡ before = ap (λ x. x.items) c.replace.ensures.after in
    let was : c.of-atom.result ≡ first = c.of-atom.ensures ∙ ap (λ x. x.items) c.replace.ensures.value in
    let moves_are : c.append.new.list.items ≡ moves ++ record { act = o.act; atom = first } ∷ [] = c.in_ok-append.ensures ∙ ap (λ (a : List Bool). moves ++ record { act = o.act; atom = a } ∷ []) was in
    let placed = placed_by w v d o.place c.place_at-place.result c.as_slice.result.now c.replace.new.dest.items c.as_slice.ensures.value b.listing c.place_at-place.ensures in
    let region : IsDiagramId d o.region = later.ids o.region (origin_region s w c.args.place f.2 f.1 k first moves f.3 e.0 e.1 o is) in
    record {
      kept = later;
      listing = b.listing;
      same = b.same;
      derivatives = b.derivatives;
      regions = λ id h.
          ⊎_elim
          (λ old. c.in_ok-before.ensures.kept.ids id (b.regions id old))
          (λ last. subst (IsDiagramId d) last region)
          (has_pushed c.loop-origin.regions.items o.region id (subst (λ l. Has l id) c.in_ok-push.ensures.items h));
      some = (s, f.1, f.2, go_on s w v c.args.place f.1 k b.kept b.same f.2 first moves f.3 e.0 e.1 o is before found d later c.replace.new.dest.items first_is c.place_at-place.result placed c.append.new.list.items moves_are);
      each = λ z u x. go_on z w v c.args.place x.from.level k b.kept b.same u first moves (b.each z u x) e.0 e.1 o is before found d later c.replace.new.dest.items first_is c.place_at-place.result placed c.append.new.list.items moves_are;
    }

pub returns-clause-shortest : goal.returns-clause-shortest
returns-clause-shortest c whole shorts longs store split u d =
    let w : TestedWorklist = c.args.self.now in
    let b = c.loop-origin.invariant in
    let k = c.loop-origin.place in
    let first = c.loop-origin.first.items in
    let moves = c.loop-origin.moves.items in
    let s = walk_context shorts (with_hyps whole longs) store in
    let f = b.each s u d in
    let e = element_at w.listing.entries.items k (so_far_within s w c.args.place u d.from.level k first moves f) in
    let none : e.0.origin ≡ None = sym (c.in_default.ensures e.0 (ap (λ (l : Listing). slice_get l.entries.items k) b.listing ∙ e.1)) in
    let rest : c.of-2.result ≡ reverse moves = c.of-2.ensures ∙ c.reverse.ensures.items in
    let same : as_string c.of.result c.of-2.result ≡ string_of first moves = ap (λ a. as_string a c.of-2.result) c.of.ensures ∙ ap (as_string first) rest in
    subst (IsShortest whole) (sym same) (so_far_shortest whole shorts longs split store w c.args.place u d.from d.at k first moves f e.0 e.1 none)

pub returns-clause-regions : goal.returns-clause-regions
returns-clause-regions c id h = c.loop-origin.invariant.regions id h

pub returns-clause-kept : goal.returns-clause-kept
returns-clause-kept c = c.loop-origin.invariant.kept

pub returns-clause-derivatives : goal.returns-clause-derivatives
returns-clause-derivatives c = c.loop-origin.invariant.derivatives
