-- Names of a condition resolved, with another node.
use Rattle.std.proofs.Common.{◌≡◌, List, [], ◌∷◌, ◌++◌, Result, Ok, Err, sym, ap, ◌∙◌, map}
use Rattle.std.proofs.lemmas.List.{map-append}
use Rattle.text_parser.specs.declared.fault.TextFault.{TextFault}
use Rattle.text_parser.specs.Parsed.{◌>>=◌}
use Rattle.flow_model.specs.declared.graph.CondNode.{CondNode as Checked}
use Rattle.flow_model.specs.Polish.{CondPart}
use Rattle.flow_text.specs.Trees.{cond_part}
use Rattle.flow_syntax.specs.declared.written.CondNode.{CondNode}
use Rattle.flow_text.specs.Scopes.{ScopeParts}
use Rattle.flow_syntax.specs.SyntaxViews.{cond_node_syntax, cond_syntax}
use Rattle.flow_text.specs.Resolving.{part_of, parts_after}
use Rattle.flow_syntax.proofs.Stacked.{cond_push}

node_first : (s : ScopeParts) (made : List CondPart) (before : List CondNode) (n : CondNode) → parts_after s made (cond_syntax (before ++ n ∷ [])) ≡ (part_of s (cond_node_syntax n) >>= λ x. parts_after s (made ++ x ∷ []) (cond_syntax before))
node_first s made before n = ap (parts_after s made) (cond_push before n)

pub node_made : (s : ScopeParts) (made : List Checked) (before : List CondNode) (n : CondNode) (x : Checked) → part_of s (cond_node_syntax n) ≡ Ok (cond_part x) → parts_after s (map cond_part made) (cond_syntax (before ++ n ∷ [])) ≡ parts_after s (map cond_part (made ++ x ∷ [])) (cond_syntax before)
node_made s made before n x e =
    node_first s (map cond_part made) before n ∙ ap (λ (m : Result CondPart TextFault). m >>= λ y. parts_after s (map cond_part made ++ y ∷ []) (cond_syntax before)) e
    ∙ ap (λ ps. parts_after s ps (cond_syntax before)) (sym (map-append cond_part made (x ∷ [])))

pub node_refused : (s : ScopeParts) (made : List CondPart) (before : List CondNode) (n : CondNode) (fault : TextFault) → part_of s (cond_node_syntax n) ≡ Err fault → parts_after s made (cond_syntax (before ++ n ∷ [])) ≡ Err fault
node_refused s made before n fault e = node_first s made before n ∙ ap (λ (m : Result CondPart TextFault). m >>= λ y. parts_after s (made ++ y ∷ []) (cond_syntax before)) e

pub ruleset nodes = (node_made, node_refused)
