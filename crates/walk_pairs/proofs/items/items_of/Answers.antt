use Rattle.std.proofs.Common.{List, ℕ, sym, subst}
use Rattle.std.proofs.lemmas.Result.{IfOk-weaker}
use Rattle.walk_pairs.specs.declared.items.Item.{Item}
use Rattle.walk_pairs.specs.declared.items.Side.TheVariants.{Left, Right}
use Rattle.walk_pairs.specs.Items.{AddsMoves, AddsTargets, AreItemsOf, AreLedTo}
use Rattle.walk_pairs.proofs.ItemLists.{items_of_moves}
use Rattle.walk_pairs.proofs.ItemTables.{are_led_to}
use Rattle.walk_pairs.proofs.items.items_of.Goals as goal

pub returns-clause-items : goal.returns-clause-items
returns-clause-items c =
    let d = c.args.diagrams.now in
    let left = c.args.left.now in
    let right = c.args.right.now in
    let never = c.constant-never.result in
    let mid = c.add_moves.new.items.entries in
    let all = c.add_moves-2.new.items.entries in
    let first = subst (λ (l : List (ℕ × Item)). AddsMoves never Left Right l mid left c.args.act) c.new-items.ensures.empty c.in_ok-add_moves.ensures.added in
    let are = items_of_moves d left right c.args.act never mid all c.constant-never.ensures.function first c.in_ok-add_moves-2.ensures.added c.in_ok-add_moves-2.ensures.keyed c.item_list.ensures.ordered
    c.requires.left c.requires.right c.requires.left_merged c.requires.right_merged in
    IfOk-weaker c.item_list.result _ _ (λ v e. subst (AreItemsOf d left right c.args.act) (sym e) are) c.item_list.ensures.items

pub returns-clause-targets : goal.returns-clause-targets
returns-clause-targets c =
    let left = c.args.left.now in
    let right = c.args.right.now in
    let mid = c.add_moves.new.items.entries in
    let first = subst (λ (l : List (ℕ × Item)). AddsTargets l mid left) c.new-items.ensures.empty c.in_ok-add_moves.ensures.targets in
    let led = are_led_to left right mid c.add_moves-2.new.items.entries first c.in_ok-add_moves-2.ensures.targets c.in_ok-add_moves-2.ensures.keyed in
    IfOk-weaker c.item_list.result _ _ (λ v e. subst (AreLedTo left right) (sym e) led) c.item_list.ensures.items
