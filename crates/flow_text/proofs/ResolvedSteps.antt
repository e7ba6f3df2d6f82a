-- Names of an expression resolved, with another node.
use Rattle.std.proofs.Common.{◌≡◌, List, [], ◌∷◌, ◌++◌, length, Result, Ok, Err, refl, sym, ap, ◌∙◌}
use Rattle.text_parser.specs.declared.fault.TextFault.{TextFault}
use Rattle.text_parser.specs.declared.fault.TextFault.TheVariants.{NoMemory}
use Rattle.text_parser.specs.Parsed.{◌>>=◌, Makes}
use Rattle.flow_model.specs.declared.graph.ExprNode.{ExprNode}
use Rattle.flow_syntax.specs.declared.written.Node.{Node}
use Rattle.flow_syntax.specs.Syntax.{ExprSyntax}
use Rattle.flow_text.specs.Scopes.{ScopeParts}
use Rattle.flow_syntax.specs.SyntaxViews.{node_syntax, expr_syntax}
use Rattle.flow_text.specs.Resolving.{Expected, next_node, nodes_after}
use Rattle.flow_text.specs.Working.Wanting.{Gives}
use Rattle.flow_syntax.proofs.Stacked.{expr_push, expr_none}
use Rattle.flow_text.proofs.LastTaken.{nothing_left}

-- the last node is the first that is resolved
pub node_first : (s : ScopeParts) (made : List ExprNode) (w : Expected) (ws : List Expected) (before : List Node) (n : Node) → nodes_after s made (w ∷ ws) (expr_syntax (before ++ n ∷ [])) ≡ (next_node s w ws (node_syntax n) >>= λ x. nodes_after s (made ++ x.0 ∷ []) x.1 (expr_syntax before))
node_first s made w ws before n = ap (nodes_after s made (w ∷ ws)) (expr_push before n)

-- a turn of the loop
pub node_kept : (s : ScopeParts) (made : List ExprNode) (expected now : List Expected) (w : Expected) (ws : List Expected) (rest before : List Node) (n : Node) (x : ExprNode) (whole : Result (List ExprNode) TextFault) → rest ≡ before ++ n ∷ [] → expected ≡ w ∷ ws → next_node s w ws (node_syntax n) ≡ Ok (x, now) → nodes_after s made expected (expr_syntax rest) ≡ whole → nodes_after s (made ++ x ∷ []) now (expr_syntax before) ≡ whole
node_kept s made expected now w ws rest before n x whole e f g kept =
    sym (ap (λ m. m >>= λ y. nodes_after s (made ++ y.0 ∷ []) y.1 (expr_syntax before)) g) ∙ sym (node_first s made w ws before n) ∙ sym (ap (λ v. nodes_after s made v (expr_syntax (before ++ n ∷ []))) f)
    ∙ sym (ap (λ ns. nodes_after s made expected (expr_syntax ns)) e) ∙ kept

pub node_refused : (s : ScopeParts) (made : List ExprNode) (expected : List Expected) (w : Expected) (ws : List Expected) (rest before : List Node) (n : Node) (fault : TextFault) (whole : Result (List ExprNode) TextFault) → rest ≡ before ++ n ∷ [] → expected ≡ w ∷ ws → next_node s w ws (node_syntax n) ≡ Err fault → nodes_after s made expected (expr_syntax rest) ≡ whole → whole ≡ Err fault
node_refused s made expected w ws rest before n fault whole e f g kept =
    sym kept ∙ ap (λ ns. nodes_after s made expected (expr_syntax ns)) e ∙ ap (λ v. nodes_after s made v (expr_syntax (before ++ n ∷ []))) f ∙ node_first s made w ws before n
    ∙ ap (λ m. m >>= λ y. nodes_after s (made ++ y.0 ∷ []) y.1 (expr_syntax before)) g

-- nothing is wanted
pub none_expected : (s : ScopeParts) (made : List ExprNode) (expected : List Expected) (e : ExprSyntax) (whole : Result (List ExprNode) TextFault) → expected ≡ [] → nodes_after s made expected e ≡ whole → whole ≡ Ok made
none_expected s made expected e whole none kept = sym kept ∙ ap (λ v. nodes_after s made v e) none ∙ unwanted s made e
  where
    unwanted : (s : ScopeParts) (made : List ExprNode) (e : ExprSyntax) → nodes_after s made [] e ≡ Ok made
    unwanted s made [] = refl
    unwanted s made (n ∷ ns) = refl

-- no node is left
pub none_left : (s : ScopeParts) (made : List ExprNode) (expected : List Expected) (rest : List Node) (whole : Result (List ExprNode) TextFault) → length rest ≡ 0 → nodes_after s made expected (expr_syntax rest) ≡ whole → whole ≡ Ok made
none_left s made expected rest whole none kept = sym kept ∙ ap (λ ns. nodes_after s made expected (expr_syntax ns)) (nothing_left rest none) ∙ ap (nodes_after s made expected) expr_none

at_fault_given : {V W : Type 0} (f : V → W) (fault : TextFault) (ws : List Expected) (m : Result (ExprNode × List Expected) TextFault) (whole : Result W TextFault) → Gives (Err fault) ws m → (m ≡ Err fault → whole ≡ Err fault) → Makes (Unit {0}) f (Err fault) whole
at_fault_given f NoMemory ws m whole seen fails = tt
at_fault_given f fault ws m whole seen fails = fails seen

-- a fault of a node is that of the whole
pub fault_given : {V W : Type 0} (f : V → W) (r : Result V TextFault) (fault : TextFault) (ws : List Expected) (m : Result (ExprNode × List Expected) TextFault) (whole : Result W TextFault) → r ≡ Err fault → Gives (Err fault) ws m → (m ≡ Err fault → whole ≡ Err fault) → Makes (Unit {0}) f r whole
fault_given f r fault ws m whole is seen fails = rw is (at_fault_given f fault ws m whole seen fails)

pub ruleset steps = (node_first, node_kept, node_refused, none_expected)
