-- Lists that are from the last member to the first.
use Rattle.std.proofs.Common.{◌≡◌, ◌<◌, List, [], ◌∷◌, ◌++◌, length, map, reverse, refl, ◌∙◌, ap, arith}
use Rattle.std.proofs.lemmas.List.{reverse-append, map-append, length-map, length-reverse}
use Rattle.flow_syntax.specs.declared.written.CondNode.{CondNode}
use Rattle.flow_syntax.specs.declared.written.Node.{Node}
use Rattle.flow_syntax.specs.declared.written.Block.{Block}
use Rattle.flow_syntax.specs.Syntax.{CondNodeSyntax, CondSyntax}
use Rattle.flow_syntax.specs.Actions.{linked}
use Rattle.flow_syntax.specs.SyntaxViews.{cond_node_syntax, cond_syntax, node_syntax, expr_syntax, block_syntax, blocks_syntax}

pub reversed_append : {X Y : Type 0} (f : X → Y) (xs ys : List X) → map f (reverse (xs ++ ys)) ≡ map f (reverse ys) ++ map f (reverse xs)
reversed_append f xs ys = ap (map f) (reverse-append xs ys) ∙ map-append f (reverse ys) (reverse xs)

pub expr_append : (xs ys : List Node) → expr_syntax (xs ++ ys) ≡ expr_syntax ys ++ expr_syntax xs
unfolding expr_syntax
expr_append xs ys = reversed_append node_syntax xs ys

pub cond_append : (xs ys : List CondNode) → cond_syntax (xs ++ ys) ≡ cond_syntax ys ++ cond_syntax xs
unfolding cond_syntax
cond_append xs ys = reversed_append cond_node_syntax xs ys

pub blocks_append : (xs ys : List Block) → blocks_syntax (xs ++ ys) ≡ blocks_syntax ys ++ blocks_syntax xs
unfolding blocks_syntax
blocks_append xs ys = reversed_append block_syntax xs ys

linked_more : (node : CondNodeSyntax) (b c : CondSyntax) → 0 < length c → linked node b c ≡ node ∷ b ++ c
linked_more node b [] h = absurd (omega (arith, h))
linked_more node b (n ∷ ns) h = refl

pub linked_some : (node : CondNodeSyntax) (b : CondSyntax) (c : List CondNode) → 0 < length c → linked node b (cond_syntax c) ≡ node ∷ b ++ cond_syntax c
unfolding cond_syntax
linked_some node b c h =
    let e : length (cond_syntax c) ≡ length c = length-map (reverse c) cond_node_syntax ∙ length-reverse c in
    linked_more node b (cond_syntax c) (omega (arith, h, e))
