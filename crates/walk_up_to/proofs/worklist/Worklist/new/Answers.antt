use Rattle.std.proofs.Common.{◌≡◌, [], ◌∷◌, ◌++◌, sym, ap, ◌∙◌, subst}
use Rattle.std.specs.Option.{option_map}
use Rattle.kat_model.specs.Closed.{closed}
use Rattle.term_nodes.specs.NodeTrees.{tree_at}
use Rattle.walk_up_to.specs.Listings.{IdEntry}
use Rattle.walk_up_to.specs.Marks.{ListedPairsParts}
use Rattle.walk_up_to.specs.Decisions.{IsWithinLimit}
use Rattle.walk_up_to.proofs.UnderWay.{first_ids, listed_start}
use Rattle.walk_up_to.proofs.worklist.Worklist.new.Goals as goal

pub returns-clause-limit : goal.returns-clause-limit
returns-clause-limit c = c.in_ok-list.ensures.limit ∙ ap (λ (r : ListedPairsParts). r.limit) c.new-listed.ensures

pub returns-clause-under_way : goal.returns-clause-under_way
returns-clause-under_way c = λ q store problem sound tests count left_id left_tree right_id right_tree ids universal.
    let listed : ListedPairsParts = c.list.new.self in
    let pairs : listed.pairs ≡ first_ids c.args.left c.args.right ∷ [] =
    c.in_ok-list.ensures.pairs
    ∙ ap (λ (r : ListedPairsParts). r.pairs ++ c.in_ok-pair.pair ∷ []) c.new-listed.ensures
    ∙ ap (λ (p : IdEntry). p ∷ []) c.in_ok-pair.ensures in
    let kept : listed.universal ≡ c.args.universal = c.in_ok-list.ensures.universal ∙ ap (λ (r : ListedPairsParts). r.universal) c.new-listed.ensures in
    let room : listed.limit ≡ c.args.limit = c.in_ok-list.ensures.limit ∙ ap (λ (r : ListedPairsParts). r.limit) c.new-listed.ensures in
    let counted : listed.count ≡ c.args.count = c.in_ok-list.ensures.count ∙ ap (λ (r : ListedPairsParts). r.count) c.new-listed.ensures in
    record {
      tests = c.in_ok-new.ensures.tests ∙ tests;
      listed = listed_start q store problem sound c.args.left c.args.right left_id left_tree right_id right_tree listed pairs (subst (λ o. IsWithinLimit o 1) (sym room) c.requires) (counted ∙ count)
          (λ u e. ids u (sym kept ∙ e))
          (subst (λ u. option_map (tree_at store) u ≡ (closed q).universal) (sym kept) universal);
      right = c.new-2.ensures store c.in_ok-new.field-0;
    }
