-- Loops unrolled statement by statement.
use Rattle.std.proofs.Common.{◌≡◌, ℕ, ◌+◌, ◌<◌, ◌≤◌, List, [], ◌∷◌, ◌++◌, map, length, take, get_or, refl, sym, ap, ◌∙◌}
use Rattle.std.proofs.lemmas.List.{take_all, map_more}
use Rattle.while_lang.specs.Flows.{FlowTree, FlowStmt, skip, abort, assert, act, branch, loop, with_stmt, flow_of, empty, skip_then, abort_then, assert_then, act_then, branch_then, loop_then}
use Rattle.while_lang.specs.FlowViews.{flow_stmt, flows_tree}
use Rattle.while_lang.specs.declared.flow.Flow.{Flow}
use Rattle.bench_problems.specs.Generator.{followed_by, unrolled}
use Rattle.bench_problems.specs.Working.Unrolling.{unrolled_stmt}

unrolled-with_stmt : (s : FlowStmt) (rest : FlowTree) → unrolled (with_stmt s rest) ≡ with_stmt (unrolled_stmt s) (unrolled rest)
unrolled-with_stmt skip rest = refl
unrolled-with_stmt abort rest = refl
unrolled-with_stmt (assert b) rest = refl
unrolled-with_stmt (act a) rest = refl
unrolled-with_stmt (branch b f g) rest = refl
unrolled-with_stmt (loop b f) rest = refl

unrolled-flow_of : (ss : List FlowStmt) → unrolled (flow_of ss) ≡ flow_of (map unrolled_stmt ss)
unrolled-flow_of [] = refl
unrolled-flow_of (s ∷ ss) = unrolled-with_stmt s (flow_of ss) ∙ ap (with_stmt (unrolled_stmt s)) (unrolled-flow_of ss)

-- the tree of a statement with its loops unrolled
abbrev pub unrolled_flow : Flow → FlowStmt
unrolled_flow s = unrolled_stmt (flow_stmt s)

map_unrolled : (ss : List Flow) → map unrolled_flow ss ≡ map unrolled_stmt (map flow_stmt ss)
map_unrolled [] = refl
map_unrolled (s ∷ ss) = ap (λ (xs : List FlowStmt). unrolled_flow s ∷ xs) (map_unrolled ss)

pub unrolled_more : (list new items : List Flow) (i : ℕ) (s t : Flow) → map flow_stmt new ≡ map flow_stmt list ++ flow_stmt t ∷ [] → flow_stmt t ≡ unrolled_flow s → i < length items → s ≡ get_or items i s →
    map flow_stmt list ≡ map unrolled_flow (take i items) → map flow_stmt new ≡ map unrolled_flow (take (i + 1) items)
unrolled_more list new items i s t pushed same lt is before =
    pushed ∙ rw (before, same, is) (sym (map_more unrolled_flow items i s lt))

pub unrolled_all : (list items : List Flow) (i : ℕ) → length items ≤ i → map flow_stmt list ≡ map unrolled_flow (take i items) → flows_tree list ≡ unrolled (flows_tree items)
unrolled_all list items i le before =
    ap flow_of (before ∙ ap (map unrolled_flow) (take_all i items le) ∙ map_unrolled items) ∙ sym (unrolled-flow_of (map flow_stmt items))

pub unrolled-followed_by : (f g : FlowTree) → unrolled (followed_by f g) ≡ followed_by (unrolled f) (unrolled g)
unrolled-followed_by empty g = refl
unrolled-followed_by (skip_then rest) g = ap skip_then (unrolled-followed_by rest g)
unrolled-followed_by (abort_then rest) g = ap abort_then (unrolled-followed_by rest g)
unrolled-followed_by (assert_then b rest) g = ap (assert_then b) (unrolled-followed_by rest g)
unrolled-followed_by (act_then a rest) g = ap (act_then a) (unrolled-followed_by rest g)
unrolled-followed_by (branch_then b p q rest) g = ap (branch_then b (unrolled p) (unrolled q)) (unrolled-followed_by rest g)
unrolled-followed_by (loop_then b p rest) g = ap (branch_then b (followed_by (unrolled p) (loop_then b (unrolled p) empty)) empty) (unrolled-followed_by rest g)
