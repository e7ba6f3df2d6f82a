use Rattle.std.proofs.Common.{◌≤◌, ◌∙◌, arith}
use Rattle.std.proofs.lemmas.Result.{IfOk-weaker}
use Rattle.kat_model.specs.Trees.{top}
use Rattle.kat_model.proofs.BalancedTrees.{balanced-parts}
use Rattle.gkat_front.specs.Expressions.{test, product, gkat_tree}
use Rattle.gkat_front.proofs.products.+product_of_last.Goals as goal

-- The product of both parts is the product of the last members of the list. The second part is removed first.
pub returns-clause-tree : goal.returns-clause-tree
returns-clause-tree t c =
    let two : 2 ≤ c.args.count = omega arith in
    let parts = balanced-parts (test top) product gkat_tree c.args.list.now.items c.product_of_last.new.list.items _ _ c.args.count _ _ in
    let whole = parts c.args.list.now.ok.0 c.product_of_last.new.list.ok.0 c.requires two c.in_ok-second.ensures.left c.in_ok-first.ensures.tree c.in_ok-second.ensures.tree in
    IfOk-weaker c.new_seq.result _ _ (λ e k. k ∙ whole) c.new_seq.ensures
