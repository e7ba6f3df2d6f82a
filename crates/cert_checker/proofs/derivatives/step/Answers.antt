use Rattle.std.proofs.Common.{◌≡◌, ◌<◌, ℕ, List, Option, Some, inl, inr, refl, [], ◌∷◌, length, map, ap, ◌∙◌, sym, subst, cond, arith}
use Rattle.std.proofs.lemmas.Option.{slice_get_within}
use Rattle.std.proofs.lemmas.Result.{IfOk-weaker}
use Rattle.kat_model.specs.Members.{Has}
use Rattle.term_nodes.specs.declared.TermNode.TheVariants.{Sum}
use Rattle.term_nodes.specs.Nodes.{IsOver, term_parts}
use Rattle.kat_model.specs.Steps.{next}
use Rattle.term_nodes.specs.NodeTrees.{tree_in}
use Rattle.kat_model.specs.Trees.{Term, one}
use Rattle.cert_checker.specs.NodeTables.{TableParts, nodes_in, term_at}
use Rattle.cert_checker.specs.Marks.{IsPart}
use Rattle.cert_checker.specs.Targets.{Represent, AreSteps, leads_to}
use Rattle.term_nodes.proofs.Parts.{IsOver-part, has_below}
use Rattle.term_nodes.proofs.TermTrees.{tree_at-node}
use Rattle.cert_checker.proofs.TargetSets.{test_within, entries_kept}
use Rattle.cert_checker.proofs.StepLists.{read_map, accept_at, nothing_represents, still, sum_represents, star_represents, product_represents}
use Rattle.cert_checker.proofs.GrowingTables.{grows_itself, grows_trans}
use Rattle.cert_checker.proofs.derivatives.step.Goals as goal

-- targets that stand for the steps of an action, if the action is given
led : {o : Option ℕ} {a : ℕ} {t : TableParts} {es : List (ℕ × ℕ)} (e : Term) → o ≡ Some a → Represent t es (λ atom. next e atom a) → Represent t es (leads_to o e)
led {t = t} {es = es} e is s = subst (λ o. Represent t es (leads_to o e)) (sym is) s

pub returns-in-Zero-clause-targets : goal.returns-in-Zero-clause-targets
returns-in-Zero-clause-targets c =
    let t = c.args.tables.now in
    let tree = tree_at-node (nodes_in t) c.term_node.ensures.tables.rules (length c.args.earlier.now) c.term_node.result c.term_node.ensures.node in
    led _ c.in-Some.is (nothing_represents t c.new.result.entries _ c.new.ensures.empty (λ atom. ap (λ e. next e atom c.in-Some.act) tree ∙ still t c.term_node.result atom c.in-Some.act c.in-Zero.is))

-- ---- the sum of two nodes

pub of_set-requires-clause-steps : goal.of_set-requires-clause-steps
of_set-requires-clause-steps c = λ k es m at. subst (λ o. Represent c.args.tables.now es (leads_to o (term_at c.args.tables.now k))) c.in-Some.is (c.requires.parts k es (c.term_node.result, c.term_node.ensures.node, subst (λ n. Has (term_parts n) k) (sym c.in-Sum.is) m) at)

pub of_set-requires-clause-numbers : goal.of_set-requires-clause-numbers
of_set-requires-clause-numbers c =
    let n = length c.args.earlier.now in
    let over = subst (IsOver (length c.args.tables.now.tests) n) c.in-Sum.is c.term_node.ensures.parts in
    has_below n (c.in-Sum.x ∷ c.in-Sum.y ∷ []) (λ k m. IsOver-part (length c.args.tables.now.tests) n (Sum c.in-Sum.x c.in-Sum.y) over k m)

pub returns-in-Sum-clause-targets : goal.returns-in-Sum-clause-targets
returns-in-Sum-clause-targets c =
    let t = c.args.tables.now in
    let tree = tree_at-node (nodes_in t) c.term_node.ensures.tables.rules (length c.args.earlier.now) c.term_node.result c.term_node.ensures.node ∙ ap (tree_in (nodes_in t)) c.in-Sum.is in
    IfOk-weaker c.of_set.result _ _
    (λ made s. led _ c.in-Some.is (subst (λ e. Represent c.of_set.new.tables made.entries (λ atom. next e atom c.in-Some.act)) (sym tree)
    (sum_represents c.of_set.new.tables made.entries (term_at t c.in-Sum.x) (term_at t c.in-Sum.y) c.in-Some.act s)))
    c.of_set.ensures.targets

-- ---- the product of two nodes

pub continued-requires-clause-entries : goal.continued-requires-clause-entries
continued-requires-clause-entries c =
    let earlier = c.args.earlier.now in
    let parts = subst (IsOver (length c.args.tables.now.tests) (length earlier)) c.in-Seq.is c.term_node.ensures.parts in
    let low : c.in-Seq.x < length earlier = parts.0 in
    (c.requires.parts c.in-Seq.x c.index-earlier-x.result.entries (c.term_node.result, c.term_node.ensures.node, subst (λ n. Has (term_parts n) c.in-Seq.x) (sym c.in-Seq.is) (inl refl)) (read_map (λ t. t.entries) earlier c.in-Seq.x c.index-earlier-x.result low c.index-earlier-x.is)).entries

pub continued-requires-clause-is_term : goal.continued-requires-clause-is_term
continued-requires-clause-is_term c =
    let earlier = c.args.earlier.now in
    let parts = subst (IsOver (length c.args.tables.now.tests) (length earlier)) c.in-Seq.is c.term_node.ensures.parts in
    let low : c.in-Seq.y < length earlier = parts.1 in
    let here : length earlier < length c.args.tables.now.terms = slice_get_within c.args.tables.now.terms (length earlier) c.term_node.result c.term_node.ensures.node in
    omega (arith, low, here)

pub add_all-requires-clause-others : goal.add_all-requires-clause-others
add_all-requires-clause-others c =
    let earlier = c.args.earlier.now in
    let parts = subst (IsOver (length c.args.tables.now.tests) (length earlier)) c.in-Seq.is c.term_node.ensures.parts in
    let low : c.in-Seq.y < length earlier = parts.1 in
    let second = c.requires.parts c.in-Seq.y c.index-earlier-y.result.entries (c.term_node.result, c.term_node.ensures.node, subst (λ n. Has (term_parts n) c.in-Seq.y) (sym c.in-Seq.is) (inr (inl refl))) (read_map (λ t. t.entries) earlier c.in-Seq.y c.index-earlier-y.result low c.index-earlier-y.is) in
    entries_kept c.args.tables.now c.continued.new.tables c.term_node.ensures.tables c.continued.ensures.grows c.index-earlier-y.result.entries second.entries

pub add_all-requires-clause-is_test : goal.add_all-requires-clause-is_test
add_all-requires-clause-is_test c =
    let earlier = c.args.earlier.now in
    let accepting = c.args.accepting.now in
    let parts = subst (IsOver (length c.args.tables.now.tests) (length earlier)) c.in-Seq.is c.term_node.ensures.parts in
    let low : c.in-Seq.x < length earlier = parts.0 in
    let accepts = accept_at c.args.tables.now accepting c.in-Seq.x c.requires.accepting (omega (arith, low, c.requires.count)) in
    test_within c.args.tables.now c.continued.new.tables c.term_node.ensures.tables c.continued.ensures.grows _ accepts.0

pub returns-in_ok-add_all-in-Seq-clause-targets : goal.returns-in_ok-add_all-in-Seq-clause-targets
returns-in_ok-add_all-in-Seq-clause-targets c =
    let t = c.args.tables.now in
    let earlier = c.args.earlier.now in
    let accepting = c.args.accepting.now in
    let parts = subst (IsOver (length c.args.tables.now.tests) (length earlier)) c.in-Seq.is c.term_node.ensures.parts in
    let low : c.in-Seq.x < length earlier = parts.0 in
    let also : c.in-Seq.y < length earlier = parts.1 in
    let parts_represent = subst (λ o. AreSteps t o (IsPart t (length earlier)) (map (λ t. t.entries) earlier)) c.in-Some.is c.requires.parts in
    let first = parts_represent c.in-Seq.x c.index-earlier-x.result.entries (c.term_node.result, c.term_node.ensures.node, subst (λ n. Has (term_parts n) c.in-Seq.x) (sym c.in-Seq.is) (inl refl)) (read_map (λ t. t.entries) earlier c.in-Seq.x c.index-earlier-x.result low c.index-earlier-x.is) in
    let second = parts_represent c.in-Seq.y c.index-earlier-y.result.entries (c.term_node.result, c.term_node.ensures.node, subst (λ n. Has (term_parts n) c.in-Seq.y) (sym c.in-Seq.is) (inr (inl refl))) (read_map (λ t. t.entries) earlier c.in-Seq.y c.index-earlier-y.result also c.index-earlier-y.is) in
    let accepts = accept_at t accepting c.in-Seq.x c.requires.accepting (omega (arith, low, c.requires.count)) in
    let tree = tree_at-node (nodes_in t) c.term_node.ensures.tables.rules (length earlier) c.term_node.result c.term_node.ensures.node ∙ ap (tree_in (nodes_in t)) c.in-Seq.is in
    led _ c.in-Some.is (subst (λ e. Represent c.add_all.new.tables c.add_all.new.targets.entries (λ atom. next e atom c.in-Some.act)) (sym tree)
    (product_represents t c.continued.new.tables c.add_all.new.tables c.in-Seq.x c.in-Seq.y c.in-Some.act _ c.index-earlier-x.result.entries c.index-earlier-y.result.entries c.in_ok-targets-in-Seq.targets.entries c.add_all.new.targets.entries
    c.term_node.ensures.tables c.continued.ensures.grows first second accepts.0 accepts.1 c.in_ok-targets-in-Seq.ensures.targets c.in_ok-add_all-in-Seq.ensures.added))

pub returns-in_err-add_all-in-Seq-clause-grows : goal.returns-in_err-add_all-in-Seq-clause-grows
returns-in_err-add_all-in-Seq-clause-grows c = grows_trans c.args.tables.now c.continued.new.tables c.add_all.new.tables c.continued.ensures.grows c.add_all.ensures.grows.grows

pub returns-in_ok-add_all-in-Seq-clause-grows : goal.returns-in_ok-add_all-in-Seq-clause-grows
returns-in_ok-add_all-in-Seq-clause-grows c = grows_trans c.args.tables.now c.continued.new.tables c.add_all.new.tables c.continued.ensures.grows c.add_all.ensures.grows.grows

-- ---- the repetition of a node

pub continued-requires-in-Star-clause-entries : goal.continued-requires-in-Star-clause-entries
continued-requires-in-Star-clause-entries c =
    let earlier = c.args.earlier.now in
    let parts = subst (IsOver (length c.args.tables.now.tests) (length earlier)) c.in-Star.is c.term_node.ensures.parts in
    let low : c.in-Star.x < length earlier = parts in
    (c.requires.parts c.in-Star.x c.index-earlier-x-in-Star.result.entries (c.term_node.result, c.term_node.ensures.node, subst (λ n. Has (term_parts n) c.in-Star.x) (sym c.in-Star.is) (inl refl)) (read_map (λ t. t.entries) earlier c.in-Star.x c.index-earlier-x-in-Star.result low c.index-earlier-x-in-Star.is)).entries

pub continued-requires-in-Star-clause-is_term : goal.continued-requires-in-Star-clause-is_term
continued-requires-in-Star-clause-is_term c = slice_get_within c.args.tables.now.terms (length c.args.earlier.now) c.term_node.result c.term_node.ensures.node

pub returns-in-Star-clause-targets : goal.returns-in-Star-clause-targets
returns-in-Star-clause-targets c =
    let t = c.args.tables.now in
    let earlier = c.args.earlier.now in
    let parts = subst (IsOver (length c.args.tables.now.tests) (length earlier)) c.in-Star.is c.term_node.ensures.parts in
    let low : c.in-Star.x < length earlier = parts in
    let parts_represent = subst (λ o. AreSteps t o (IsPart t (length earlier)) (map (λ t. t.entries) earlier)) c.in-Some.is c.requires.parts in
    let first = parts_represent c.in-Star.x c.index-earlier-x-in-Star.result.entries (c.term_node.result, c.term_node.ensures.node, subst (λ n. Has (term_parts n) c.in-Star.x) (sym c.in-Star.is) (inl refl)) (read_map (λ t. t.entries) earlier c.in-Star.x c.index-earlier-x-in-Star.result low c.index-earlier-x-in-Star.is) in
    let tree = tree_at-node (nodes_in t) c.term_node.ensures.tables.rules (length earlier) c.term_node.result c.term_node.ensures.node ∙ ap (tree_in (nodes_in t)) c.in-Star.is in
    IfOk-weaker c.continued-in-Star.result _ _
    (λ made s. led _ c.in-Some.is (star_represents t c.continued-in-Star.new.tables c.in-Star.x (length earlier) c.in-Some.act c.index-earlier-x-in-Star.result.entries made.entries tree first s))
    c.continued-in-Star.ensures.targets

-- ---- the action of the step

pub returns-in_ok-always-in-Act-clause-grows : goal.returns-in_ok-always-in-Act-clause-grows
returns-in_ok-always-in-Act-clause-grows c = grows_trans c.args.tables.now c.constant.new.self c.empty_product-in-Act.new.tables c.constant.ensures.grows.grows c.empty_product-in-Act.ensures.grows

-- ---- what calls and indices require, and how the tables grow

pub bounds-accepting-term : goal.bounds-accepting-term
bounds-accepting-term c = c.requires.count

pub returns-in_default-clause-targets : goal.returns-in_default-clause-targets
returns-in_default-clause-targets c =
    let t = c.args.tables.now in
    let new = c.empty_product.new.tables in
    let n = length c.args.earlier.now in
    let accepts = accept_at t c.args.accepting.now n c.requires.accepting c.requires.count in
    IfOk-weaker c.empty_product.result _ _
    (λ made s. subst (λ o. Represent new made.entries (leads_to o (term_at t n))) (sym c.in_default.is) (subst (λ (P : Type 0). P) (λ i. Represent new made.entries (λ atom. cond (accepts.1 atom i) (one ∷ []) [])) s))
    c.empty_product.ensures.targets

pub empty_product-requires : goal.empty_product-requires
empty_product-requires c = (accept_at c.args.tables.now c.args.accepting.now (length c.args.earlier.now) c.requires.accepting c.requires.count).0

pub empty_product-requires-in-Act : goal.empty_product-requires-in-Act
empty_product-requires-in-Act c = c.in_ok-always-in-Act.ensures.values.0

pub bounds-earlier-x : goal.bounds-earlier-x
bounds-earlier-x c = (subst (IsOver (length c.args.tables.now.tests) (length c.args.earlier.now)) c.in-Seq.is c.term_node.ensures.parts).0

pub bounds-earlier-y : goal.bounds-earlier-y
bounds-earlier-y c = (subst (IsOver (length c.args.tables.now.tests) (length c.args.earlier.now)) c.in-Seq.is c.term_node.ensures.parts).1

pub bounds-earlier-x-in-Star : goal.bounds-earlier-x-in-Star
bounds-earlier-x-in-Star c = subst (IsOver (length c.args.tables.now.tests) (length c.args.earlier.now)) c.in-Star.is c.term_node.ensures.parts

pub continued-requires-clause-tables : goal.continued-requires-clause-tables
continued-requires-clause-tables c = c.term_node.ensures.tables

pub continued-requires-in-Star-clause-tables : goal.continued-requires-in-Star-clause-tables
continued-requires-in-Star-clause-tables c = c.term_node.ensures.tables

pub add_all-requires-clause-entries : goal.add_all-requires-clause-entries
add_all-requires-clause-entries c = c.in_ok-targets-in-Seq.ensures.targets.entries

pub returns-in_default-clause-grows : goal.returns-in_default-clause-grows
returns-in_default-clause-grows c = c.empty_product.ensures.grows

pub returns-in_err-always-in-Act-clause-grows : goal.returns-in_err-always-in-Act-clause-grows
returns-in_err-always-in-Act-clause-grows c = c.constant.ensures.grows.grows

pub returns-in-Zero-clause-grows : goal.returns-in-Zero-clause-grows
returns-in-Zero-clause-grows c = grows_itself c.args.tables.now c.term_node.ensures.tables

pub returns-in-Act-2-clause-grows : goal.returns-in-Act-2-clause-grows
returns-in-Act-2-clause-grows c = grows_itself c.args.tables.now c.term_node.ensures.tables

pub returns-in-Sum-clause-grows : goal.returns-in-Sum-clause-grows
returns-in-Sum-clause-grows c = c.of_set.ensures.grows.grows

pub returns-in_err-targets-in-Seq-clause-grows : goal.returns-in_err-targets-in-Seq-clause-grows
returns-in_err-targets-in-Seq-clause-grows c = c.continued.ensures.grows

pub returns-in-Star-clause-grows : goal.returns-in-Star-clause-grows
returns-in-Star-clause-grows c = c.continued-in-Star.ensures.grows
