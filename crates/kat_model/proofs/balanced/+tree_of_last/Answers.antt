-- The node over both trees is the tree of the last members, since the second part is taken from the list first.
use Rattle.std.proofs.Common.{◌≤◌, ◌≡◌, ◌∙◌, arith}
use Rattle.std.proofs.lemmas.Result.{IfOk-weaker}
use Rattle.kat_model.proofs.BalancedTrees.{before-none, balanced-none, before-one, one-of-none, balanced-one, before-parts, balanced-parts}
use Rattle.kat_model.proofs.balanced.+tree_of_last.Goals as goal

pub returns-clause-tree : goal.returns-clause-tree
returns-clause-tree g t c =
    let two : 2 ≤ c.args.count = omega arith in
    let parts = balanced-parts g.J.Joint.unit g.J.Joint.node g.J.Joint.view c.args.list.now.items c.tree_of_last.new.list.items _ _ c.args.count _ _ in
    let whole = parts c.args.list.now.ok.0 c.tree_of_last.new.list.ok.0 c.requires two c.in_ok-right.ensures.left c.in_ok-left.ensures.tree c.in_ok-right.ensures.tree in
    let node-is : g.row.J-Tree.Denot → Type 0 = λ e. g.J.Joint.view e ≡ g.J.Joint.node (g.J.Joint.view c.in_ok-left.left) (g.J.Joint.view c.in_ok-right.right) in
    IfOk-weaker c.node.result node-is _ (λ e k. k ∙ whole) c.node.ensures

pub returns-then-count-eq0-clause-left : goal.returns-then-count-eq0-clause-left
returns-then-count-eq0-clause-left g t c = before-none g.J.Joint.unit g.J.Joint.node c.args.list.now.items _ c.args.count c.args.list.now.ok.0 c.if-count-eq0.true

pub returns-then-count-eq0-clause-tree : goal.returns-then-count-eq0-clause-tree
returns-then-count-eq0-clause-tree g t c = c.unit.ensures ∙ balanced-none g.J.Joint.unit g.J.Joint.node g.J.Joint.view c.args.list.now.items _ c.args.count c.args.list.now.ok.0 c.if-count-eq0.true

pub returns-in-Some-clause-left : goal.returns-in-Some-clause-left
returns-in-Some-clause-left g t c = before-one g.J.Joint.unit g.J.Joint.node c.args.list.now.items c.pop.new.self.items c.in-Some.tree _ c.args.count c.args.list.now.ok.0 c.if-count-eq1.true c.in-Some.ensures.items

pub returns-in-Some-clause-tree : goal.returns-in-Some-clause-tree
returns-in-Some-clause-tree g t c = balanced-one g.J.Joint.unit g.J.Joint.node g.J.Joint.view c.args.list.now.items c.pop.new.self.items c.in-Some.tree _ c.args.count c.args.list.now.ok.0 c.if-count-eq1.true c.in-Some.ensures.items

pub returns-in-None-clause-left : goal.returns-in-None-clause-left
returns-in-None-clause-left g t c = absurd (one-of-none g.J.Joint.unit g.J.Joint.node _ c.args.count c.in-None.ensures.cases.0 c.if-count-eq1.true c.requires)

pub returns-in-None-clause-tree : goal.returns-in-None-clause-tree
returns-in-None-clause-tree g t c = absurd (one-of-none g.J.Joint.unit g.J.Joint.node _ c.args.count c.in-None.ensures.cases.0 c.if-count-eq1.true c.requires)

pub returns-clause-left : goal.returns-clause-left
returns-clause-left g t c =
    let first = before-parts g.J.Joint.unit g.J.Joint.node c.args.list.now.items c.tree_of_last.new.list.items c.tree_of_last-2.new.list.items _ _ c.args.count c.args.list.now.ok.0 c.tree_of_last.new.list.ok.0 c.requires c.in_ok-right.ensures.left c.in_ok-left.ensures.left in
    let node-is : g.row.J-Tree.Denot → Type 0 = λ e. g.J.Joint.view e ≡ g.J.Joint.node (g.J.Joint.view c.in_ok-left.left) (g.J.Joint.view c.in_ok-right.right) in
    IfOk-weaker c.node.result node-is _ (λ e k. first) c.node.ensures
