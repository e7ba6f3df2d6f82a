-- The marks of ids and the sets of their terms: which terms are reached, and which are covered.
use Rattle.std.proofs.Common.{◌≡◌, ◌↔◌, ℕ, inl, inr, ⊎_elim, List, length, get_or, refl, sym, ◌∙◌, subst, Bool, true, false, Option, Some, None, nat_eq}
use Rattle.std.specs.Option.{option_map, option_map_or}
use Rattle.std.proofs.lemmas.Bool.{or_cases, or_left, or_right, and_parts, and_from}
use Rattle.kat_model.specs.Trees.{Term}
use Rattle.kat_model.specs.Members.{Has, IsSubset}
use Rattle.kat_model.specs.Pairs.{SetPair, sat}
use Rattle.kat_model.specs.Problems.{ProblemParts}
use Rattle.kat_model.specs.Closed.{closed}
use Rattle.term_nodes.specs.NodeLists.{NodeParts, IsTerm}
use Rattle.term_nodes.specs.NodeTrees.{tree_at}
use Rattle.walk_up_to.specs.Walks.{pairs_of}
use Rattle.walk_pairs.specs.Covered.{HasUniversal, IsReached, IsCovered}
use Rattle.term_nodes.specs.NumberSets.{terms_of}
use Rattle.walk_up_to.specs.Listings.{entries_of}
use Rattle.walk_up_to.specs.Marks.{ListedPairsParts, are_marked, saturated_marks, reaches_targets}
use Rattle.walk_pairs.specs.Items.{targets_under, open_targets, is_open, guard_of}
use Rattle.walk_up_to.specs.Covers.{covers_on, covers}
use Rattle.walk_up_to.specs.Working.IdWalks.{AreListedOf}
use Rattle.walk_pairs.specs.declared.items.Item.{Item}
use Rattle.walk_pairs.specs.declared.items.Ends.{Ends}
use Rattle.walk_pairs.specs.declared.items.Side.{Side}
use Rattle.walk_pairs.specs.declared.items.Side.TheVariants.{Left, Right}
use Rattle.walk_up_to.proofs.MarkedTerms.{AreIds, ArePairIds, MarksAre, marked_id, all_marked, saturated_set, saturated_length}
use Rattle.walk_pairs.proofs.ItemTargets.{targets_where, under_where, open_where, has_where}

-- the targets of all items are ids, and so are those of some of the items
abbrev pub AreTargetIds : NodeParts → List Item → Type 0
AreTargetIds store is = (i : Item) → Has is i → IsTerm store i.target

pub where_ids : (store : NodeParts) (p : Item → Bool) (is : List Item) → AreTargetIds store is → AreIds store (targets_where p is)
where_ids store p is own k h = let f = has_where p is k h in subst (IsTerm store) f.3 (own f.0 f.1)

pub under_ids : (store : NodeParts) (guard : ℕ) (side : Side) (is : List Item) → AreTargetIds store is → AreIds store (targets_under guard side is)
under_ids store guard side is own = subst (AreIds store) (sym (under_where guard side is)) (where_ids store (λ i. nat_eq (guard_of side i) guard) is own)

pub open_ids : (store : NodeParts) (never always : ℕ) (side : Side) (is : List Item) → AreTargetIds store is → AreIds store (open_targets never always side is)
open_ids store never always side is own = subst (AreIds store) (sym (open_where never always side is)) (where_ids store (is_open never always side) is own)

module _ (q : ProblemParts) (store : NodeParts) (r : ListedPairsParts) (done : ℕ) (listed : AreListedOf q store r done) where
  pub pair_ids : ArePairIds store r.pairs
  pair_ids p h = let s = listed.sets p h in ((λ k m. (s.0.there k m).is_id), (λ k m. (s.1.there k m).is_id))

  abbrev pub listed_pairs : List SetPair
  listed_pairs = pairs_of (entries_of store r.pairs)

  module _ (ids : List ℕ) (own : AreIds store ids) where
    abbrev marks : List Bool
    marks = saturated_marks r.count r.pairs ids

    abbrev made : List Term
    made = sat listed_pairs (terms_of store ids)

    wide : length marks ≡ length store.terms
    wide = saturated_length r.count r.pairs ids ∙ listed.count

    marked : MarksAre store marks made
    marked = subst (λ n. MarksAre store (saturated_marks n r.pairs ids) made) (sym listed.count) (saturated_set store listed.sound r.pairs ids pair_ids own)

    universal_given : (u : Option ℕ) → ((k : ℕ) → u ≡ Some k → IsTerm store k) → (option_map_or (λ k. get_or marks k false) u false ≡ true) ↔ HasUniversal (option_map (tree_at store) u) made
    universal_given None there = ((λ e. absurd cc), (λ h. absurd h))
    universal_given (Some k) there = marked_id store listed.sound marks made wide marked k (there k refl)

    -- targets are reached by ids if and only if their terms are reached
    pub reached_given : (targets : List ℕ) → AreIds store targets → (reaches_targets r ids targets ≡ true) ↔ IsReached (closed q).universal listed_pairs (terms_of store ids) (terms_of store targets)
    reached_given targets there = (
      (λ e. ⊎_elim (λ u. inr (subst (λ o. HasUniversal o made) listed.universal (given.0 u))) (λ m. inl (all.0 m)) (or_cases any (are_marked marks targets) e)),
      (λ h. ⊎_elim (λ m. or_right any (are_marked marks targets) (all.1 m)) (λ u. or_left any (are_marked marks targets) (given.1 (subst (λ o. HasUniversal o made) (sym listed.universal) u))) h),
    )
      where
        any : Bool
        any = option_map_or (λ k. get_or marks k false) r.universal false

        given : (any ≡ true) ↔ HasUniversal (option_map (tree_at store) r.universal) made
        given = universal_given r.universal (λ k e. (listed.universal_id k e).is_id)

        all : (are_marked marks targets ≡ true) ↔ IsSubset (terms_of store targets) made
        all = all_marked store listed.sound marks made wide marked targets there

  module _ (ends : Ends) (items : List Item) (own : AreTargetIds store items) where
    pub side_given : (side other : Side) → (covers_on r ends items side other ≡ true) ↔ IsReached (closed q).universal listed_pairs (terms_of store (targets_under ends.always other items)) (terms_of store (open_targets ends.never ends.always side items))
    side_given side other = reached_given (targets_under ends.always other items) (under_ids store ends.always other items own) (open_targets ends.never ends.always side items) (open_ids store ends.never ends.always side items own)

    abbrev pub CoversTerms : Type 0
    CoversTerms = IsCovered (closed q).universal listed_pairs (terms_of store (targets_under ends.always Left items)) (terms_of store (targets_under ends.always Right items)) (terms_of store (open_targets ends.never ends.always Left items)) (terms_of store (open_targets ends.never ends.always Right items))

    -- items are covered by ids if and only if their terms are covered
    pub covers_given : (covers r ends items ≡ true) ↔ CoversTerms
    covers_given = (
      (λ e. let parts = and_parts (covers_on r ends items Left Right) (covers_on r ends items Right Left) e in record { lefts = (side_given Left Right).0 parts.0; rights = (side_given Right Left).0 parts.1 }),
      (λ c. and_from (covers_on r ends items Left Right) (covers_on r ends items Right Left) ((side_given Left Right).1 c.lefts) ((side_given Right Left).1 c.rights)),
    )
