-- The test to decide next, from the items one at a time.
use Rattle.std.proofs.Common.{◌≡◌, ◌<◌, ◌+◌, ℕ, ⊎_elim, List, length, get_or, drop, sym, ◌∙◌, subst, Option, Some, None}
use Rattle.std.specs.Option.{MatchOption, IfSome}
use Rattle.std.proofs.lemmas.List.{drop_more}
use Rattle.kat_model.specs.Members.{Has}
use Rattle.test_diagrams.specs.Functions.{DiagramsParts}
use Rattle.walk_pairs.specs.declared.items.Item.{Item}
use Rattle.walk_up_to.specs.Cases.{IsConstantItem, HasNextTest, IsNextTest, AreConstant}

-- a next test of one item is one of the items
pub next_of : (d : DiagramsParts) (items : List Item) (x : Item) → Has items x → (r : Option ℕ) → MatchOption r (IsConstantItem d x) (HasNextTest d x) → IfSome r (IsNextTest d items)
next_of d items x h None m = tt
next_of d items x h (Some test) m = record { item = x; member = h; depends = m }

-- the items are constant if this one and those after it are
pub constant_next : (d : DiagramsParts) (items : List Item) (i : ℕ) (x : Item) → i < length items → x ≡ get_or items i x → IsConstantItem d x
    → (AreConstant d (drop i items) → AreConstant d items) → AreConstant d (drop (i + 1) items) → AreConstant d items
constant_next d items i x lt is own before rest =
    before (subst (AreConstant d) (sym (drop_more items i x lt)) (λ y h. ⊎_elim (λ s. subst (IsConstantItem d) (is ∙ s) own) (λ r. rest y r) h))
