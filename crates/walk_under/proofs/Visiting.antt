-- A step of the pair that is processed: the open atoms of a part, the pair that is listed, and the parts of a region.
use Rattle.std.proofs.Common.{◌≡◌, ◌≢◌, ◌≤◌, ◌+◌, ◌⊎◌, inl, ⊎_elim, ℕ, suc, Bool, true, false, List, [], ◌∷◌, ◌++◌, length, slice_get, Some, refl, sym, ap, ◌∙◌, subst, arith, append-nil, append_assoc}
use Rattle.std.specs.Bool.{IsTrue, IsFalse}
use Rattle.std.specs.Option.{option_map}
use Rattle.std.proofs.lemmas.Bool.{both_ways, true_from_ne_false}
use Rattle.kat_model.specs.Trees.{Term}
use Rattle.kat_model.specs.Members.{Has, SameMembers}
use Rattle.kat_model.specs.Steps.{Atom, set_next}
use Rattle.kat_model.specs.Pairs.{SetPair}
use Rattle.kat_model.specs.AllowedMoves.{IsAllowedMove}
use Rattle.kat_model.proofs.Congruence.{sat_same}
use Rattle.kat_model.proofs.Places.{slice_get-append_some}
use Rattle.kat_model.proofs.Lists.{has_right, has_append, has_map, same_members_sym, same_members_trans}
use Rattle.term_nodes.specs.NodeTrees.{tree_at}
use Rattle.term_nodes.specs.NumberSets.{are_ascending, terms_of}
use Rattle.test_diagrams.specs.Functions.{DiagramsParts, value_of, IsDiagramId, IsAtomOf, IsDiagramOf, KeepsFunctions}
use Rattle.test_diagrams.specs.Reduced.{IsReduced}
use Rattle.test_diagrams.proofs.Kept.{KeepsFunctions-trans}
use Rattle.test_diagrams.proofs.Apart.{different_apart}
use Rattle.partial_derivs.specs.Moves.{IsTermOf}
use Rattle.walk_pairs.specs.Items.{guard_of, chosen}
use Rattle.walk_pairs.specs.Outputs.{IsSomewhereTrue}
use Rattle.walk_pairs.specs.declared.items.Item.{Item}
use Rattle.walk_pairs.specs.declared.items.Side.{Side}
use Rattle.walk_pairs.specs.declared.items.Side.TheVariants.{Left, Right}
use Rattle.walk_pairs.proofs.ItemTargets.{chosen_where, has_where, where_ascending}
use Rattle.walk_under.specs.TestedWalks.{TestedOrigin, TestedEntry, IsRegion, HasSource, IsApart, AreJoined, IsTestedWalk}
use Rattle.walk_regions.specs.Entries.{EntryParts}
use Rattle.walk_regions.specs.Allowance.{IsAllowance, IsWithin, HasAllowedSource, IsAllowedImage}
use Rattle.walk_regions.specs.Reaching.{IsOpenPart}
use Rattle.walk_regions.specs.Parts.{IsPart}
use Rattle.walk_regions.specs.Listings.{IsFreshPart, AreLevelAtoms}
use Rattle.walk_under.specs.Working.IdEntries.{entry_of, entries_of, IsIdEntry, IsNextPart}
use Rattle.walk_pairs.specs.IdSets.{IsIdSet}
use Rattle.walk_under.specs.Working.Walking.{WalkContext, new_ids, IsAtSource, IsVisited, IsOpenAt, AreNextItems}
use Rattle.walk_regions.specs.declared.entry.StepOrigin.{StepOrigin}
use Rattle.walk_regions.specs.declared.listing.Listing.{Listing}
use Rattle.walk_regions.specs.declared.parts.Part.{Part}
use Rattle.walk_under.specs.declared.walk.TestedWorklist.{TestedWorklist}
use Rattle.walk_under.specs.declared.walk.StepSource.{StepSource}
use Rattle.walk_under.proofs.WalkSteps.{joined_more, walk_lists}
use Rattle.walk_regions.proofs.Allowances.{allowance_kept}
use Rattle.walk_regions.proofs.AllowedImages.{allowed_atom, source_kept, source_was}
use Rattle.walk_regions.proofs.PartCases.{chosen_kept}
use Rattle.walk_under.proofs.JoinedAt.{pairs_true, joined_by, joined_same, brought_congruent, entry_congruent, entries-append, entry_at}
use Rattle.walk_under.proofs.Standing.{entries_same, next_part_kept, fresh_part_kept, listed_at, at_source_kept, one_id_set}
use Rattle.walk_regions.proofs.LevelAtoms.{level_past, level_atoms_within}

pub allowed_image_kept : (c d : DiagramsParts) → KeepsFunctions c d → (shorts : List Term) (region act id : ℕ) → IsDiagramId c region → IsAllowedImage c shorts region act id → IsAllowedImage d shorts region act id
allowed_image_kept c d kept shorts region act id is image = record {
  is_id = kept.ids id image.is_id;
  there = λ after fits h. source_kept c d kept shorts region act after is (image.there after (fits ∙ kept.tests) (sym (kept.values id image.is_id after) ∙ h));
  back = λ after fits h. kept.values id image.is_id after ∙ image.back after (fits ∙ kept.tests) (h.0, source_was c d kept shorts region act after h.0 is h.1);
}

-- the part lies within the allowed atoms
pub region_within : (s : WalkContext) (w : TestedWorklist) (source : StepSource) (from : EntryParts) (p : Part) → IsAtSource s w source from → IsNextPart s.store w.diagrams from source.test source.act p → IsWithin w.diagrams p.region w.moves.allowed
region_within s w source from p represents next a fits h =
    level_atoms_within w.diagrams w.listing.entries.items from source.test w.moves.allowed (λ e m. (represents.under_way.entries e m).within) represents.atoms a fits (next.within a fits h)

-- ---- the open atoms of a part

module _ (s : WalkContext) (w x : TestedWorklist) (source : StepSource) (from : EntryParts) (p : Part) (represents : IsAtSource s w source from) (next : IsNextPart s.store w.diagrams from source.test source.act p) (c₁ c₂ : DiagramsParts) (k₁ : KeepsFunctions w.diagrams c₁) (k₂ : KeepsFunctions c₁ c₂) (k₃ : KeepsFunctions c₂ x.diagrams) where
  module _ (listing : x.listing ≡ w.listing) (derivatives : x.derivatives ≡ w.derivatives) (allowed : x.moves.allowed ≡ w.moves.allowed) (moves : IsAllowance c₁ s.shorts s.problem.actions x.moves) (image fresh id : ℕ) (is_image : IsAllowedImage c₁ s.shorts p.region source.act image) (is_fresh : IsFreshPart c₂ w.listing.entries.items p.left.items p.right.items image fresh) (is_open : IsOpenPart x.diagrams w.listing.entries.items w.listing.universal p.left.items p.right.items p.left.items p.right.items fresh id) where
    kept₁₃ : KeepsFunctions c₁ x.diagrams
    kept₁₃ = KeepsFunctions-trans c₁ c₂ x.diagrams k₂ k₃

    kept : KeepsFunctions w.diagrams x.diagrams
    kept = KeepsFunctions-trans w.diagrams c₁ x.diagrams k₁ kept₁₃

    allowance : IsAllowance x.diagrams s.shorts s.problem.actions x.moves
    allowance = allowance_kept c₁ x.diagrams kept₁₃ s.shorts s.problem.actions x.moves moves

    later : IsAtSource s x source from
    later = at_source_kept s source from w x kept listing derivatives allowed allowance represents

    -- the entries of the new walk
    abbrev es : List EntryParts
    es = x.listing.entries.items

    img : IsAllowedImage x.diagrams s.shorts p.region source.act image
    img = allowed_image_kept c₁ x.diagrams kept₁₃ s.shorts p.region source.act image (k₁.ids p.region next.region) is_image

    tests₂ : (e : EntryParts) → Has w.listing.entries.items e → IsDiagramId c₂ e.test
    tests₂ e h = k₂.ids e.test (k₁.ids e.test (represents.under_way.entries e h).test)

    fr : IsFreshPart x.diagrams es p.left.items p.right.items image fresh
    fr =
        subst (λ (l : Listing). IsFreshPart x.diagrams l.entries.items p.left.items p.right.items image fresh) (sym listing)
        (fresh_part_kept s.store c₂ x.diagrams k₃ w.listing.entries.items p.left.items p.right.items image fresh tests₂ (k₂.ids image is_image.is_id) is_fresh)

    opened : IsOpenPart x.diagrams es x.listing.universal p.left.items p.right.items p.left.items p.right.items fresh id
    opened = subst (λ (l : Listing). IsOpenPart x.diagrams l.entries.items l.universal p.left.items p.right.items p.left.items p.right.items fresh id) (sym listing) is_open

    low : (e : TestedEntry) → Has (entries_of s.store x.diagrams es) e → e.level ≤ suc from.level
    low e h = later.under_way.walk.so_far e (entry_of s.store x.diagrams from) h (entry_at s.store x.diagrams es source.place from later.at)

    source_of : (atom : Atom) → IsAtomOf x.diagrams atom → IsTrue (value_of x.diagrams id atom) → HasAllowedSource x.diagrams s.shorts p.region source.act atom
    source_of atom fits h = img.there atom fits (fr.within atom fits (opened.part.within atom fits h))

    joined_rest : (atom : Atom) → IsAtomOf x.diagrams atom → HasAllowedSource x.diagrams s.shorts p.region source.act atom → IsFalse (value_of x.diagrams id atom)
        → AreJoined s.problem (entries_of s.store x.diagrams es) (suc from.level) atom (terms_of s.store p.left.items) (terms_of s.store p.right.items)
    joined_rest atom fits has_source none = go (value_of x.diagrams fresh atom) refl
      where
        there : IsTrue (value_of x.diagrams image atom)
        there = img.back atom fits has_source

        go : (b : Bool) → value_of x.diagrams fresh atom ≡ b → AreJoined s.problem (entries_of s.store x.diagrams es) (suc from.level) atom (terms_of s.store p.left.items) (terms_of s.store p.right.items)
        go true t =
            joined_by s.problem (entries_of s.store x.diagrams es) (suc from.level) atom (terms_of s.store p.left.items) (terms_of s.store p.right.items) low
            (brought_congruent s.problem s.store x.diagrams es x.listing.universal later.under_way.universal atom p.left.items p.right.items (opened.lefts atom fits t none) (opened.rights atom fits t none))
        go false f =
            let r = fr.rest atom fits there (λ u. both_ways (value_of x.diagrams fresh atom) f u) in
            let c = entry_congruent s.problem s.store x.diagrams es x.listing.universal later.under_way.universal atom r.0 r.1 r.4 in
            subst (λ ks. AreJoined s.problem (entries_of s.store x.diagrams es) (suc from.level) atom (terms_of s.store ks) (terms_of s.store p.right.items)) r.2
            (subst (λ ks. AreJoined s.problem (entries_of s.store x.diagrams es) (suc from.level) atom (terms_of s.store r.0.left) (terms_of s.store ks)) r.3
            (joined_by s.problem (entries_of s.store x.diagrams es) (suc from.level) atom (terms_of s.store r.0.left) (terms_of s.store r.0.right) low c))

    pub open_at : IsOpenAt s w x source from p id
    open_at = record {
      represents = later;
      next = next_part_kept s.store w.diagrams x.diagrams kept from source.test source.act p represents.atoms.is_id next;
      kept = kept;
      listing = listing;
      is_id = opened.part.is_id;
      within = λ atom fits h. allowed_atom x.diagrams s.shorts s.problem.actions x.moves allowance atom fits (source_of atom fits h).1.allowed.to;
      apart = λ e h l r atom fits t u. fr.apart e h l r atom fits (opened.part.within atom fits t) u;
      sources = source_of;
      joined = joined_rest;
    }

-- ---- a part is visited

module _ (s : WalkContext) (w x : TestedWorklist) (source : StepSource) (from : EntryParts) (p : Part) (id : ℕ) (before : IsNextPart s.store w.diagrams from source.test source.act p) (o : IsOpenAt s w x source from p id) where
  abbrev d : DiagramsParts
  d = x.diagrams

  abbrev left_terms : List Term
  left_terms = terms_of s.store p.left.items

  abbrev right_terms : List Term
  right_terms = terms_of s.store p.right.items

  -- an atom from which an allowed move leads to the atom after it
  start : (atom : Atom) → length atom ≡ s.problem.tests → IsTrue (value_of w.diagrams p.region atom) → (after : Atom) → IsAllowedMove s.shorts atom (record { act = source.act; atom = after }) → HasAllowedSource d s.shorts p.region source.act after
  start atom wide there after allowed = (atom, record { fits = wide ∙ sym o.represents.under_way.tests; there = o.kept.values p.region before.region atom ∙ there; allowed = allowed })

  module _ (es : List TestedEntry) where
    to_next : (atom : Atom) → length atom ≡ s.problem.tests → IsTrue (value_of w.diagrams p.region atom) → (after : Atom) → AreJoined s.problem es (suc from.level) after left_terms right_terms
        → AreJoined s.problem es (suc from.level) after (set_next (terms_of s.store from.left) atom source.act) (set_next (terms_of s.store from.right) atom source.act)
    to_next atom wide there after j =
        let fits : IsAtomOf d atom = wide ∙ sym o.represents.under_way.tests in
        let now = o.kept.values p.region before.region atom ∙ there in
        joined_same s.problem es (suc from.level) after left_terms right_terms (set_next (terms_of s.store from.left) atom source.act) (set_next (terms_of s.store from.right) atom source.act)
        (same_members_sym (set_next (terms_of s.store from.left) atom source.act) left_terms (o.next.lefts atom fits now))
        (same_members_sym (set_next (terms_of s.store from.right) atom source.act) right_terms (o.next.rights atom fits now)) j

  -- without an open atom, nothing is listed
  pub visited_none : (never : ℕ) → id ≡ never → IsDiagramOf d never (λ a. false) → IsVisited s w x source from (λ atom. IsTrue (value_of w.diagrams p.region atom))
  visited_none never same is = record {
    represents = o.represents;
    kept = o.kept;
    more = [];
    grows = ap (λ (l : Listing). l.entries.items) o.listing ∙ sym (append-nil w.listing.entries.items);
    joined = λ atom wide there after wide' allowed.
        let fits : IsAtomOf d after = wide' ∙ sym o.represents.under_way.tests in
        to_next (entries_of s.store d x.listing.entries.items) atom wide there after (o.joined after fits (start atom wide there after allowed) (ap (λ i. value_of d i after) same ∙ is.value after fits));
  }

  -- with an open atom, the pair is listed
  module _ (never : ℕ) (differs : id ≢ never) (is_never : IsDiagramOf d never (λ a. false)) (reduced : IsReduced d) (l : Listing) (items : l.entries.items ≡ x.listing.entries.items ++ new_ids source p id ∷ []) (universal : l.universal ≡ x.listing.universal) where
    abbrev y : TestedWorklist
    y = record x { listing = l }

    abbrev olds : List TestedEntry
    olds = entries_of s.store d x.listing.entries.items

    abbrev from_entry : TestedEntry
    from_entry = entry_of s.store d from

    abbrev sets : SetPair
    sets = record { left = left_terms; right = right_terms }

    abbrev step : TestedOrigin
    step = record { place = source.place; act = source.act; region = value_of d p.region }

    here : slice_get olds source.place ≡ Some from_entry
    here = entry_at s.store d x.listing.entries.items source.place from o.represents.at

    is_region : IsRegion s.problem.tests olds from_entry step sets
    is_region = record {
      within = λ atom wide h.
          let fits : IsAtomOf d atom = wide ∙ sym o.represents.under_way.tests in
          listed_at s.store d x.listing.entries.items from atom (o.represents.atoms.there atom fits (o.next.within atom fits h));
      lefts = λ atom wide h. o.next.lefts atom (wide ∙ sym o.represents.under_way.tests) h;
      rights = λ atom wide h. o.next.rights atom (wide ∙ sym o.represents.under_way.tests) h;
    }

    have_sources : (atom : Atom) → length atom ≡ s.problem.tests → IsTrue (value_of d id atom) → HasSource s.shorts s.problem.tests step atom
    have_sources atom wide h =
        let r = o.sources atom (wide ∙ sym o.represents.under_way.tests) h in
        record { before = r.0; of_tests = r.1.fits ∙ o.represents.under_way.tests; there = r.1.there; allowed = r.1.allowed }

    somewhere : (atom : Atom) × (length atom ≡ s.problem.tests) × IsTrue (value_of d id atom)
    somewhere =
        let a = different_apart d reduced id never o.is_id is_never.in_range differs in
        (a.atom, a.fits ∙ o.represents.under_way.tests, true_from_ne_false (value_of d id a.atom) (λ f. a.apart (f ∙ sym (is_never.value a.atom a.fits))))

    is_fresh : (e : TestedEntry) → Has olds e → IsApart s.problem.tests e (record { pair = sets; test = value_of d id; level = suc from.level; origin = Some step })
    is_fresh e h lefts rights atom wide t u =
        let f = has_map (entry_of s.store d) x.listing.entries.items e h in
        let own = o.represents.under_way.entries f.0 f.1 in
        let is : entry_of s.store d f.0 ≡ e = f.2 in
        o.apart f.0 f.1
        (one_id_set s.store o.represents.under_way.sound d.tests f.0.left p.left.items own.left o.next.left_set (subst (λ (z : TestedEntry). SameMembers z.pair.left left_terms) (sym is) lefts))
        (one_id_set s.store o.represents.under_way.sound d.tests f.0.right p.right.items own.right o.next.right_set (subst (λ (z : TestedEntry). SameMembers z.pair.right right_terms) (sym is) rights))
        atom (wide ∙ sym o.represents.under_way.tests) u (subst (λ (z : TestedEntry). IsTrue (z.test atom)) (sym is) t)

    listed_walk : IsTestedWalk s.shorts s.problem (olds ++ record { pair = sets; test = value_of d id; level = suc from.level; origin = Some step } ∷ []) source.place
    listed_walk = walk_lists s.shorts s.problem olds source.place o.represents.under_way.walk from_entry here sets (value_of d id) step refl o.represents.of_actions is_region have_sources somewhere is_fresh

    level_is : source.level + 1 ≡ suc from.level
    level_is = let e = o.represents.level in omega arith

    new_entries : entries_of s.store d l.entries.items ≡ olds ++ record { pair = sets; test = value_of d id; level = suc from.level; origin = Some step } ∷ []
    new_entries =
        ap (entries_of s.store d) items
        ∙ entries-append s.store d x.listing.entries.items (new_ids source p id ∷ [])
        ∙ ap (λ n. olds ++ at_level n ∷ []) level_is
      where
        at_level : ℕ → TestedEntry
        at_level n = record { pair = sets; test = value_of d id; level = n; origin = Some step }

    new_listed : Has l.entries.items (new_ids source p id)
    new_listed = subst (λ (xs : List EntryParts). Has xs (new_ids source p id)) (sym items) (has_right x.listing.entries.items (new_ids source p id ∷ []) (new_ids source p id) (inl refl))

    region_id : (q : StepOrigin) → Some (record { place = source.place; act = source.act; region = p.region }) ≡ Some q → IsDiagramId d q.region
    region_id q e =
        let r : StepOrigin = record { place = source.place; act = source.act; region = p.region } in
        let same : r ≡ q = cc in
        subst (λ (z : StepOrigin). IsDiagramId d z.region) same o.next.region

    new_is : IsIdEntry s.store d x.moves.allowed (new_ids source p id)
    new_is = record { left = o.next.left_set; right = o.next.right_set; test = o.is_id; within = o.within; region = region_id }

    new_represents : IsAtSource s y source from
    new_represents = record {
      under_way = record {
        sound = o.represents.under_way.sound;
        tests = o.represents.under_way.tests;
        allowance = o.represents.under_way.allowance;
        right = o.represents.under_way.right;
        entries = λ e h.
            ⊎_elim
            (o.represents.under_way.entries e)
            (λ m. ⊎_elim (λ q. subst (IsIdEntry s.store d x.moves.allowed) q new_is) (λ a. absurd a) m)
            (has_append x.listing.entries.items (new_ids source p id ∷ []) e (subst (λ (xs : List EntryParts). Has xs e) items h));
        universal = ap (option_map (tree_at s.store)) universal ∙ o.represents.under_way.universal;
        universal_id = λ u e. o.represents.under_way.universal_id u (sym universal ∙ e);
        walk = subst (λ es. IsTestedWalk s.shorts s.problem es source.place) (sym new_entries) listed_walk;
      };
      at = subst (λ (xs : List EntryParts). slice_get xs source.place ≡ Some from) (sym items) (slice_get-append_some x.listing.entries.items (new_ids source p id ∷ []) source.place from o.represents.at);
      level = o.represents.level;
      atoms =
          subst (λ (xs : List EntryParts). AreLevelAtoms d xs from source.test) (sym items)
          (level_past d x.listing.entries.items (new_ids source p id) from source.test (let e = level_is in omega arith) o.represents.atoms);
      of_actions = o.represents.of_actions;
    }

    new_low : (e : TestedEntry) → Has (entries_of s.store d l.entries.items) e → e.level ≤ suc from.level
    new_low e h = new_represents.under_way.walk.so_far e from_entry h (entry_at s.store d l.entries.items source.place from new_represents.at)

    joined_there : (after : Atom) → IsAtomOf d after → HasAllowedSource d s.shorts p.region source.act after → AreJoined s.problem (entries_of s.store d l.entries.items) (suc from.level) after left_terms right_terms
    joined_there after fits has_source = go (value_of d id after) refl
      where
        go : (b : Bool) → value_of d id after ≡ b → AreJoined s.problem (entries_of s.store d l.entries.items) (suc from.level) after left_terms right_terms
        go true t =
            joined_by s.problem (entries_of s.store d l.entries.items) (suc from.level) after left_terms right_terms new_low
            (entry_congruent s.problem s.store d l.entries.items l.universal new_represents.under_way.universal after (new_ids source p id) new_listed t)
        go false f =
            subst (λ es. AreJoined s.problem es (suc from.level) after left_terms right_terms) (sym new_entries)
            (joined_more s.problem olds (record { pair = sets; test = value_of d id; level = suc from.level; origin = Some step } ∷ []) (suc from.level) after left_terms right_terms (o.joined after fits has_source f))

    pub visited_listed : IsVisited s w y source from (λ atom. IsTrue (value_of w.diagrams p.region atom))
    visited_listed = record {
      represents = new_represents;
      kept = o.kept;
      more = new_ids source p id ∷ [];
      grows = items ∙ ap (λ (k : Listing). k.entries.items ++ new_ids source p id ∷ []) o.listing;
      joined = λ atom wide there after wide' allowed.
          to_next (entries_of s.store d l.entries.items) atom wide there after (joined_there after (wide' ∙ sym o.represents.under_way.tests) (start atom wide there after allowed));
    }

-- ---- one visit after another

module _ (s : WalkContext) (source : StepSource) (from : EntryParts) where
  -- joined sets remain joined
  pub joined_grown : (v w : TestedWorklist) (P : Atom → Type 0) → IsAtSource s v source from → IsVisited s v w source from P → (after : Atom) (lefts rights : List Term)
      → AreJoined s.problem (entries_of s.store v.diagrams v.listing.entries.items) (suc from.level) after lefts rights → AreJoined s.problem (entries_of s.store w.diagrams w.listing.entries.items) (suc from.level) after lefts rights
  joined_grown v w P represents visited after lefts rights j =
      subst (λ es. AreJoined s.problem es (suc from.level) after lefts rights)
      (sym (ap (entries_of s.store w.diagrams) visited.grows
      ∙ entries-append s.store w.diagrams v.listing.entries.items visited.more
      ∙ ap (λ es. es ++ entries_of s.store w.diagrams visited.more) (entries_same s.store v.diagrams w.diagrams visited.kept v.moves.allowed v.listing.entries.items represents.under_way.entries)))
      (joined_more s.problem (entries_of s.store v.diagrams v.listing.entries.items) (entries_of s.store w.diagrams visited.more) (suc from.level) after lefts rights j)

  pub visited_then : (u v w : TestedWorklist) (P Q : Atom → Type 0) → IsVisited s u v source from P → IsVisited s v w source from Q → IsVisited s u w source from (λ atom. P atom ⊎ Q atom)
  visited_then u v w P Q first second = record {
    represents = second.represents;
    kept = KeepsFunctions-trans u.diagrams v.diagrams w.diagrams first.kept second.kept;
    more = first.more ++ second.more;
    grows = second.grows ∙ ap (λ es. es ++ second.more) first.grows ∙ append_assoc u.listing.entries.items first.more second.more;
    joined = λ atom wide there after wide' allowed.
        ⊎_elim
        (λ h. joined_grown v w Q first.represents second after (set_next (terms_of s.store from.left) atom source.act) (set_next (terms_of s.store from.right) atom source.act) (first.joined atom wide h after wide' allowed))
        (λ h. second.joined atom wide h after wide' allowed)
        there;
  }

  -- fewer atoms, and other walks that differ only in diagrams
  pub visited_part : (u w : TestedWorklist) (P Q : Atom → Type 0) → ((atom : Atom) → length atom ≡ s.problem.tests → Q atom → P atom) → IsVisited s u w source from P → IsVisited s u w source from Q
  visited_part u w P Q part v = record { represents = v.represents; kept = v.kept; more = v.more; grows = v.grows; joined = λ atom wide h. v.joined atom wide (part atom wide h) }

  pub visited_nowhere : (u w : TestedWorklist) (P : Atom → Type 0) → IsAtSource s w source from → KeepsFunctions u.diagrams w.diagrams → w.listing ≡ u.listing → ((atom : Atom) → length atom ≡ s.problem.tests → P atom → SameMembers (set_next (terms_of s.store from.left) atom source.act) (set_next (terms_of s.store from.right) atom source.act)) → IsVisited s u w source from P
  visited_nowhere u w P represents kept listing same = record {
    represents = represents;
    kept = kept;
    more = [];
    grows = ap (λ (l : Listing). l.entries.items) listing ∙ sym (append-nil u.listing.entries.items);
    joined = λ atom wide h after wide' allowed.
        let es = entries_of s.store w.diagrams w.listing.entries.items in
        let pairs = pairs_true es after in
        let lefts = set_next (terms_of s.store from.left) atom source.act in
        let rights = set_next (terms_of s.store from.right) atom source.act in
        joined_by s.problem es (suc from.level) after lefts rights
        (λ e m. represents.under_way.walk.so_far e (entry_of s.store w.diagrams from) m (entry_at s.store w.diagrams w.listing.entries.items source.place from represents.at))
        (inl (sat_same pairs lefts rights (same atom wide h)));
  }

  -- sets that are joined after moves from some atoms, if from all others the next sets are the same
  pub visited_from : (u v w : TestedWorklist) → KeepsFunctions u.diagrams v.diagrams → v.listing ≡ u.listing → (P Q : Atom → Type 0) → IsVisited s v w source from P
      → ((atom : Atom) → length atom ≡ s.problem.tests → Q atom → P atom ⊎ SameMembers (set_next (terms_of s.store from.left) atom source.act) (set_next (terms_of s.store from.right) atom source.act))
      → IsVisited s u w source from Q
  visited_from u v w kept listing P Q visited split = record {
    represents = visited.represents;
    kept = KeepsFunctions-trans u.diagrams v.diagrams w.diagrams kept visited.kept;
    more = visited.more;
    grows = visited.grows ∙ ap (λ (l : Listing). l.entries.items ++ visited.more) listing;
    joined = λ atom wide h after wide' allowed.
        let es = entries_of s.store w.diagrams w.listing.entries.items in
        let lefts = set_next (terms_of s.store from.left) atom source.act in
        let rights = set_next (terms_of s.store from.right) atom source.act in
        ⊎_elim
        (λ there. visited.joined atom wide there after wide' allowed)
        (λ same.
        joined_by s.problem es (suc from.level) after lefts rights
        (λ e m. visited.represents.under_way.walk.so_far e (entry_of s.store w.diagrams from) m (entry_at s.store w.diagrams w.listing.entries.items source.place from visited.represents.at))
        (inl (sat_same (pairs_true es after) lefts rights same)))
        (split atom wide h);
  }

-- ---- the parts of a region

pub next_items_kept : (s : WalkContext) (v w : TestedWorklist) → KeepsFunctions v.diagrams w.diagrams → (source : StepSource) (from : EntryParts) (items : List Item) → AreNextItems s v source from items → AreNextItems s w source from items
next_items_kept s v w kept source from items n = record {
  are = record { lefts = λ i h. kept.ids i.left (n.are.lefts i h); rights = λ i h. kept.ids i.right (n.are.rights i h); ascending = n.are.ascending };
  targets = λ i h. subst (λ k. IsTermOf s.store k i.target) (sym kept.tests) (n.targets i h);
  lefts = λ atom fits. subst (λ ks. SameMembers (set_next (terms_of s.store from.left) atom source.act) (terms_of s.store ks)) (sym (chosen_kept v.diagrams w.diagrams kept Left items guards atom)) (n.lefts atom (fits ∙ kept.tests));
  rights = λ atom fits. subst (λ ks. SameMembers (set_next (terms_of s.store from.right) atom source.act) (terms_of s.store ks)) (sym (chosen_kept v.diagrams w.diagrams kept Right items guards atom)) (n.rights atom (fits ∙ kept.tests));
}
  where
    guards : (i : Item) → Has items i → IsDiagramId v.diagrams i.left × IsDiagramId v.diagrams i.right
    guards i h = (n.are.lefts i h, n.are.rights i h)

-- if the items lead to the same terms on both sides, the next sets are the same
pub next_same : (s : WalkContext) (w : TestedWorklist) (source : StepSource) (from : EntryParts) (items : List Item) → AreNextItems s w source from items → (atom : Atom) → IsAtomOf w.diagrams atom → chosen w.diagrams Left items atom ≡ chosen w.diagrams Right items atom
    → SameMembers (set_next (terms_of s.store from.left) atom source.act) (set_next (terms_of s.store from.right) atom source.act)
next_same s w source from items n atom fits e =
    let lefts = set_next (terms_of s.store from.left) atom source.act in
    let rights = set_next (terms_of s.store from.right) atom source.act in
    let there = terms_of s.store (chosen w.diagrams Right items atom) in
    same_members_trans lefts there rights
    (subst (λ ks. SameMembers lefts (terms_of s.store ks)) e (n.lefts atom fits))
    (same_members_sym rights there (n.rights atom fits))

module _ (s : WalkContext) (w : TestedWorklist) (source : StepSource) (from : EntryParts) (items : List Item) (next : AreNextItems s w source from items) where
  side_set : (side : Side) (atom : Atom) → IsIdSet s.store w.diagrams.tests (chosen w.diagrams side items atom)
  side_set side atom = record {
    there = λ k h.
        let f = has_where (λ j. value_of w.diagrams (guard_of side j) atom) items k (subst (λ ts. Has ts k) (chosen_where w.diagrams side items atom) h) in
        subst (IsTermOf s.store w.diagrams.tests) f.3 (next.targets f.0 f.1);
    ascending = subst (λ ts. are_ascending ts ≡ true) (sym (chosen_where w.diagrams side items atom)) (where_ascending (λ j. value_of w.diagrams (guard_of side j) atom) items next.are.ascending);
  }

  pub part_next : (whole : ℕ) (p : Part) → IsPart w.diagrams items whole p → IsSomewhereTrue w.diagrams p.region → IsWithin w.diagrams whole source.test → IsNextPart s.store w.diagrams from source.test source.act p
  part_next whole p part some within = record {
    region = part.is_id;
    within = λ a fits h. within a fits (part.within a fits h);
    left_set = subst (IsIdSet s.store w.diagrams.tests) (sym (part.lefts some.atom some.fits some.holds)) (side_set Left some.atom);
    right_set = subst (IsIdSet s.store w.diagrams.tests) (sym (part.rights some.atom some.fits some.holds)) (side_set Right some.atom);
    lefts = λ atom fits h. subst (λ ks. SameMembers (set_next (terms_of s.store from.left) atom source.act) (terms_of s.store ks)) (sym (part.lefts atom fits h)) (next.lefts atom fits);
    rights = λ atom fits h. subst (λ ks. SameMembers (set_next (terms_of s.store from.right) atom source.act) (terms_of s.store ks)) (sym (part.rights atom fits h)) (next.rights atom fits);
  }
