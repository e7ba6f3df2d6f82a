use Rattle.std.proofs.Common.{◌≡◌, map, drop}
use Rattle.tool_commands.specs.StoreWords.{with_items}
use Rattle.tool_commands.proofs.store_words.set_items.Given as goal

abbrev pub invariant-loop-item : goal.invariant-loop-item
invariant-loop-item l =
    with_items l.scope l.width l.values.items (map (λ i. i.now) (drop l.item-index l.items))
    ≡ with_items l.scope l.width l.initial.values.items (map (λ i. i.now) l.items)
