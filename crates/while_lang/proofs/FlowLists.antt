-- Flows as lists of statements.
use Rattle.std.proofs.Common.{◌≡◌, ℕ, ◌+◌, ◌<◌, List, [], ◌∷◌, ◌++◌, map, length, drop, get_or, refl, sym, ap, ◌∙◌}
use Rattle.std.proofs.lemmas.List.{append_assoc, drop_more}
use Rattle.kat_model.specs.Trees.{kat_tree, Term}
use Rattle.kat_model.specs.declared.tree.Kat.{Kat}
use Rattle.while_lang.specs.Encoding.{stmt_terms, encoded}
use Rattle.while_lang.specs.Flows.{FlowTree, FlowStmt, skip, abort, assert, act, branch, loop, with_stmt, empty}
use Rattle.while_lang.specs.FlowViews.{flow_stmt, flows_tree}
use Rattle.while_lang.specs.declared.flow.Flow.{Flow}

stmt_terms-with_stmt : (s : FlowStmt) (rest : FlowTree) → stmt_terms (with_stmt s rest) ≡ encoded (with_stmt s empty) ∷ stmt_terms rest
stmt_terms-with_stmt skip rest = refl
stmt_terms-with_stmt abort rest = refl
stmt_terms-with_stmt (assert b) rest = refl
stmt_terms-with_stmt (act a) rest = refl
stmt_terms-with_stmt (branch b f g) rest = refl
stmt_terms-with_stmt (loop b f) rest = refl

-- one step of a loop over the statements: the terms so far and those of the remaining statements are the same terms
pub encoded_more : (terms new : List Kat) (items : List Flow) (i : ℕ) (f : Flow) (e : Kat) → map kat_tree new ≡ map kat_tree terms ++ kat_tree e ∷ [] →
    kat_tree e ≡ encoded (with_stmt (flow_stmt f) empty) → i < length items → f ≡ get_or items i f →
    map kat_tree new ++ stmt_terms (flows_tree (drop (i + 1) items)) ≡ map kat_tree terms ++ stmt_terms (flows_tree (drop i items))
encoded_more terms new items i f e pushed same lt is =
    let rest : List Term = stmt_terms (flows_tree (drop (i + 1) items)) in
    let left : stmt_terms (flows_tree (drop i items)) ≡ kat_tree e ∷ rest =
    ap (λ (fs : List Flow). stmt_terms (flows_tree fs)) (drop_more items i f lt ∙ ap (λ (g : Flow). g ∷ drop (i + 1) items) (sym is))
    ∙ stmt_terms-with_stmt (flow_stmt f) (flows_tree (drop (i + 1) items))
    ∙ ap (λ (x : Term). x ∷ rest) (sym same) in
    ap (λ (ts : List Term). ts ++ rest) pushed ∙ append_assoc (map kat_tree terms) (kat_tree e ∷ []) rest ∙ ap (λ (ts : List Term). map kat_tree terms ++ ts) (sym left)
