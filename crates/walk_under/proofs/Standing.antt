-- A walk remains under way when diagrams are added; and its entries by terms and by ids.
use Rattle.std.proofs.Common.{◌≡◌, inl, inr, ⊎_elim, ℕ, Bool, true, List, [], ◌∷◌, slice_get, Option, Some, None, refl, sym, ap, ◌∙◌, subst, arith}
use mathlib.Core.Path.{ap₂}
use Rattle.std.specs.Option.{option_map}
use Rattle.kat_model.specs.Members.{Has, SameMembers}
use Rattle.kat_model.specs.Steps.{Atom}
use Rattle.kat_model.specs.Pairs.{SetPair}
use Rattle.kat_model.specs.Trees.{Term}
use Rattle.kat_model.proofs.Lists.{has_map, map_has}
use Rattle.certificate.proofs.Ascending.{ascending_tail, ascending_first}
use Rattle.term_nodes.specs.NodeLists.{NodeParts, AreNodes}
use Rattle.term_nodes.specs.NodeTrees.{tree_at}
use Rattle.term_nodes.specs.NumberSets.{are_ascending, terms_of}
use Rattle.term_nodes.proofs.TermTrees.{one_id_a_tree}
use Rattle.test_diagrams.specs.Functions.{DiagramsParts, value_of, IsDiagramId, KeepsFunctions}
use Rattle.partial_derivs.specs.Moves.{IsTermOf}
use Rattle.partial_derivs.specs.Tables.{AreRight}
use Rattle.partial_derivs.proofs.Kept.{Keeps-functions}
use Rattle.partial_derivs.proofs.Tables.{AreRight-kept}
use Rattle.walk_under.specs.TestedWalks.{TestedOrigin, TestedEntry, IsListedAt, IsTestedWalk}
use Rattle.walk_regions.specs.Entries.{EntryParts}
use Rattle.walk_regions.specs.Allowance.{IsAllowance}
use Rattle.walk_regions.specs.Listings.{IsFreshPart, IsLevelAtom, AreLevelAtoms}
use Rattle.walk_under.specs.Working.IdEntries.{origin_of, pair_of, entry_of, entries_of, IsIdEntry, IsNextPart}
use Rattle.walk_pairs.specs.IdSets.{IsIdSet}
use Rattle.walk_under.specs.Working.Walking.{WalkContext, IsUnderWay, IsAtSource}
use Rattle.walk_regions.specs.declared.entry.StepOrigin.{StepOrigin}
use Rattle.walk_regions.specs.declared.parts.Part.{Part}
use Rattle.walk_under.specs.declared.walk.TestedWorklist.{TestedWorklist}
use Rattle.walk_under.specs.declared.walk.StepSource.{StepSource}
use Rattle.walk_regions.proofs.Allowances.{allowance_kept}
use Rattle.walk_regions.proofs.AllowedImages.{within_kept}
use Rattle.walk_regions.proofs.LevelAtoms.{level_atoms_kept}

module _ (store : NodeParts) (c d : DiagramsParts) (kept : KeepsFunctions c d) where
  -- the functions are the same at all atoms
  values_same : (id : ℕ) → IsDiagramId c id → value_of d id ≡ value_of c id
  values_same id is = λ k. λ atom. kept.values id is atom k

  origins_same : (o : Option StepOrigin) → ((x : StepOrigin) → o ≡ Some x → IsDiagramId c x.region) → option_map (origin_of d) o ≡ option_map (origin_of c) o
  origins_same None ids = refl
  origins_same (Some x) ids = ap (λ f. some_origin f) (values_same x.region (ids x refl))
    where
      some_origin : (Atom → Bool) → Option TestedOrigin
      some_origin f = Some (record { place = x.place; act = x.act; region = f })

  pub entry_same : (allowed : ℕ) (e : EntryParts) → IsIdEntry store c allowed e → entry_of store d e ≡ entry_of store c e
  entry_same allowed e is = ap₂ (λ f o. with_both f o) (values_same e.test is.test) (origins_same e.origin is.region)
    where
      with_both : (Atom → Bool) → Option TestedOrigin → TestedEntry
      with_both f o = record { pair = pair_of store e; test = f; level = e.level; origin = o }

  pub entries_same : (allowed : ℕ) (es : List EntryParts) → ((e : EntryParts) → Has es e → IsIdEntry store c allowed e) → entries_of store d es ≡ entries_of store c es
  entries_same allowed [] are = refl
  entries_same allowed (e ∷ es) are = ap₂ (λ (x : TestedEntry) (xs : List TestedEntry). x ∷ xs) (entry_same allowed e (are e (inl refl))) (entries_same allowed es (λ f h. are f (inr h)))

  id_set_kept : (ids : List ℕ) → IsIdSet store c.tests ids → IsIdSet store d.tests ids
  id_set_kept ids set = subst (λ n. IsIdSet store n ids) (sym kept.tests) set

  pub id_entry_kept : (allowed : ℕ) (e : EntryParts) → IsDiagramId c allowed → IsIdEntry store c allowed e → IsIdEntry store d allowed e
  id_entry_kept allowed e allowed_is is = record {
    left = id_set_kept e.left is.left;
    right = id_set_kept e.right is.right;
    test = kept.ids e.test is.test;
    within = within_kept c d kept e.test allowed is.test allowed_is is.within;
    region = λ o at. kept.ids o.region (is.region o at);
  }

  pub next_part_kept : (from : EntryParts) (whole act : ℕ) (p : Part) → IsDiagramId c whole → IsNextPart store c from whole act p → IsNextPart store d from whole act p
  next_part_kept from whole act p whole_is n = record {
    region = kept.ids p.region n.region;
    within = within_kept c d kept p.region whole n.region whole_is n.within;
    left_set = id_set_kept p.left.items n.left_set;
    right_set = id_set_kept p.right.items n.right_set;
    lefts = λ atom fits h. n.lefts atom (fits ∙ kept.tests) (sym (kept.values p.region n.region atom) ∙ h);
    rights = λ atom fits h. n.rights atom (fits ∙ kept.tests) (sym (kept.values p.region n.region atom) ∙ h);
  }

  pub fresh_part_kept : (es : List EntryParts) (left right : List ℕ) (whole id : ℕ) → ((e : EntryParts) → Has es e → IsDiagramId c e.test) → IsDiagramId c whole → IsFreshPart c es left right whole id → IsFreshPart d es left right whole id
  fresh_part_kept es left right whole id tests whole_is f = record {
    is_id = kept.ids id f.is_id;
    within = within_kept c d kept id whole f.is_id whole_is f.within;
    apart = λ e h l r atom fits t u. f.apart e h l r atom (fits ∙ kept.tests) (sym (kept.values id f.is_id atom) ∙ t) (sym (kept.values e.test (tests e h) atom) ∙ u);
    rest = λ atom fits t none.
        let r = f.rest atom (fits ∙ kept.tests) (sym (kept.values whole whole_is atom) ∙ t) (λ u. none (kept.values id f.is_id atom ∙ u)) in
        (r.0, r.1, r.2, r.3, kept.values r.0.test (tests r.0 r.1) atom ∙ r.4);
  }

-- ---- by terms

-- the sets of the entry were reached at the atom by equally many moves, by terms
pub listed_at : (store : NodeParts) (d : DiagramsParts) (es : List EntryParts) (other : EntryParts) (atom : Atom) → IsLevelAtom d es other atom → IsListedAt (entries_of store d es) (entry_of store d other) atom
listed_at store d es other atom l = record {
  entry = entry_of store d l.entry;
  member = map_has (entry_of store d) es l.entry l.member;
  sets = ap₂ (λ x y. both_of x y) l.is.left l.is.right;
  level = l.is.level;
  there = l.holds;
}
  where
    both_of : List ℕ → List ℕ → SetPair
    both_of x y = record { left = terms_of store x; right = terms_of store y }

-- ---- a walk that has other diagrams

pub under_way_kept : (s : WalkContext) (done : ℕ) (w x : TestedWorklist) → KeepsFunctions w.diagrams x.diagrams → x.listing ≡ w.listing → x.derivatives ≡ w.derivatives → x.moves.allowed ≡ w.moves.allowed → IsAllowance x.diagrams s.shorts s.problem.actions x.moves → IsUnderWay s w done → IsUnderWay s x done
under_way_kept s done w x kept listing derivatives allowed allowance u = record {
  sound = u.sound;
  tests = kept.tests ∙ u.tests;
  allowance = allowance;
  right = subst (AreRight s.store x.diagrams) (sym derivatives) (AreRight-kept s.store s.store w.diagrams x.diagrams w.derivatives (Keeps-functions s.store w.diagrams x.diagrams kept) u.right);
  entries = λ e h.
      subst (λ a. IsIdEntry s.store x.diagrams a e) (sym allowed)
      (id_entry_kept s.store w.diagrams x.diagrams kept w.moves.allowed e u.allowance.allowed.in_range (u.entries e (subst (λ l. Has l.entries.items e) listing h)));
  universal = ap (λ l. option_map (tree_at s.store) l.universal) listing ∙ u.universal;
  universal_id = λ i e. u.universal_id i (ap (λ l. l.universal) (sym listing) ∙ e);
  walk =
      subst (λ es. IsTestedWalk s.shorts s.problem es done)
      (sym (ap (λ l. entries_of s.store x.diagrams l.entries.items) listing ∙ entries_same s.store w.diagrams x.diagrams kept w.moves.allowed w.listing.entries.items u.entries))
      u.walk;
}

pub at_source_kept : (s : WalkContext) (source : StepSource) (from : EntryParts) (w x : TestedWorklist) → KeepsFunctions w.diagrams x.diagrams → x.listing ≡ w.listing → x.derivatives ≡ w.derivatives → x.moves.allowed ≡ w.moves.allowed → IsAllowance x.diagrams s.shorts s.problem.actions x.moves → IsAtSource s w source from → IsAtSource s x source from
at_source_kept s source from w x kept listing derivatives allowed allowance a = record {
  under_way = under_way_kept s source.place w x kept listing derivatives allowed allowance a.under_way;
  at = ap (λ l. slice_get l.entries.items source.place) listing ∙ a.at;
  level = a.level;
  atoms =
      subst (λ l. AreLevelAtoms x.diagrams l.entries.items from source.test) (sym listing)
      (level_atoms_kept w.diagrams x.diagrams kept w.listing.entries.items (λ e h. (a.under_way.entries e h).test) from source.test a.atoms);
  of_actions = a.of_actions;
}

-- ---- sets of ids with the same terms are one list

module _ (store : NodeParts) (sound : AreNodes store) (n : ℕ) where
  same_has : (xs ys : List ℕ) → ((i : ℕ) → Has xs i → IsTermOf store n i) → ((i : ℕ) → Has ys i → IsTermOf store n i) → SameMembers (terms_of store xs) (terms_of store ys) → (i : ℕ) → Has xs i → Has ys i
  same_has xs ys own other same i h =
      let f = has_map (tree_at store) ys (tree_at store i) ((same (tree_at store i)).0 (map_has (tree_at store) xs i h)) in
      subst (Has ys) (one_id_a_tree store sound f.0 i (other f.0 f.1).is_id (own i h).is_id f.2) f.1

  least_same : (x y : ℕ) (xs ys : List ℕ) → are_ascending (x ∷ xs) ≡ true → are_ascending (y ∷ ys) ≡ true → Has (y ∷ ys) x → Has (x ∷ xs) y → x ≡ y
  least_same x y xs ys first second h k =
      ⊎_elim sym (λ m. ⊎_elim (λ e. e) (λ l. absurd (let a = ascending_first y ys second x m in let b = ascending_first x xs first y l in omega (arith, a, b))) k) h

  tail_has : (x : ℕ) (xs ys : List ℕ) → are_ascending (x ∷ xs) ≡ true → ((i : ℕ) → Has (x ∷ xs) i → Has (x ∷ ys) i) → (i : ℕ) → Has xs i → Has ys i
  tail_has x xs ys up all i h = ⊎_elim (λ e. absurd (let a = ascending_first x xs up i h in omega (arith, a, e))) (λ m. m) (all i (inr h))

  pub one_list : (xs ys : List ℕ) → are_ascending xs ≡ true → are_ascending ys ≡ true → ((i : ℕ) → Has xs i → Has ys i) → ((i : ℕ) → Has ys i → Has xs i) → xs ≡ ys
  one_list [] [] first second f g = refl
  one_list [] (y ∷ ys) first second f g = absurd (g y (inl refl))
  one_list (x ∷ xs) [] first second f g = absurd (f x (inl refl))
  one_list (x ∷ xs) (y ∷ ys) first second f g =
      let e = least_same x y xs ys first second (f x (inl refl)) (g y (inl refl)) in
      let second' : are_ascending (x ∷ ys) ≡ true = subst (λ z. are_ascending (z ∷ ys) ≡ true) (sym e) second in
      let f' : (i : ℕ) → Has (x ∷ xs) i → Has (x ∷ ys) i = λ i. subst (λ z. Has (x ∷ xs) i → Has (z ∷ ys) i) (sym e) (f i) in
      let g' : (i : ℕ) → Has (x ∷ ys) i → Has (x ∷ xs) i = λ i. subst (λ z. Has (z ∷ ys) i → Has (x ∷ xs) i) (sym e) (g i) in
      ap₂ (λ (z : ℕ) (zs : List ℕ). z ∷ zs) e
      (one_list xs ys (ascending_tail x xs first) (ascending_tail y ys second) (tail_has x xs ys first f') (tail_has x ys xs second' g'))

  pub one_id_set : (xs ys : List ℕ) → IsIdSet store n xs → IsIdSet store n ys → SameMembers (terms_of store xs) (terms_of store ys) → xs ≡ ys
  one_id_set xs ys first second same =
      one_list xs ys first.ascending second.ascending (same_has xs ys first.there second.there same) (same_has ys xs second.there first.there (λ e. ((same e).1, (same e).0)))

-- when only diagrams are added
pub under_way_later : (s : WalkContext) (done : ℕ) (w : TestedWorklist) (d : DiagramsParts) → KeepsFunctions w.diagrams d → IsUnderWay s w done → IsUnderWay s (record w { diagrams = d }) done
under_way_later s done w d kept u = under_way_kept s done w (record w { diagrams = d }) kept refl refl refl (allowance_kept w.diagrams d kept s.shorts s.problem.actions w.moves u.allowance) u

pub source_later : (s : WalkContext) (source : StepSource) (from : EntryParts) (w : TestedWorklist) (d : DiagramsParts) → KeepsFunctions w.diagrams d → IsAtSource s w source from → IsAtSource s (record w { diagrams = d }) source from
source_later s source from w d kept a = record {
  under_way = under_way_later s source.place w d kept a.under_way;
  at = a.at;
  level = a.level;
  atoms = level_atoms_kept w.diagrams d kept w.listing.entries.items (λ e h. (a.under_way.entries e h).test) from source.test a.atoms;
  of_actions = a.of_actions;
}

-- ---- entries with the same terms

module _ (s : WalkContext) (w : TestedWorklist) (done : ℕ) (u : IsUnderWay s w done) where
  abbrev ids : List EntryParts
  ids = w.listing.entries.items

  -- entries with the same sets have the same ids
  pub same_ids : (e f : EntryParts) → Has ids e → Has ids f → pair_of s.store e ≡ pair_of s.store f → (e.left ≡ f.left) × (e.right ≡ f.right)
  same_ids e f h k same = (
    one_id_set s.store u.sound w.diagrams.tests e.left f.left (u.entries e h).left (u.entries f k).left (members (ap (λ (x : SetPair). x.left) same)),
    one_id_set s.store u.sound w.diagrams.tests e.right f.right (u.entries e h).right (u.entries f k).right (members (ap (λ (x : SetPair). x.right) same)),
  )
    where
      members : {xs ys : List Term} → xs ≡ ys → SameMembers xs ys
      members {xs} {ys} e x = (subst (λ l. Has l x) e, subst (λ l. Has l x) (sym e))

  -- what is listed by terms is listed by ids
  pub level_atom : (e : EntryParts) → Has ids e → (atom : Atom) → IsListedAt (entries_of s.store w.diagrams ids) (entry_of s.store w.diagrams e) atom → IsLevelAtom w.diagrams ids e atom
  level_atom e h atom l =
      let f = has_map (entry_of s.store w.diagrams) ids l.entry l.member in
      let same = same_ids f.0 e f.1 h (ap (λ (x : TestedEntry). x.pair) f.2 ∙ l.sets) in
      record {
        entry = f.0;
        member = f.1;
        is = record { left = same.0; right = same.1; level = ap (λ (x : TestedEntry). x.level) f.2 ∙ l.level };
        holds = ap (λ (x : TestedEntry). x.test atom) f.2 ∙ l.there;
      }
