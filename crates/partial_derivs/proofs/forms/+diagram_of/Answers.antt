use Rattle.std.proofs.Common.{◌<◌, sym, subst, IfOk}
use Rattle.kat_model.specs.Problems.{IsTestInRange}
use Rattle.kat_model.specs.Steps.{truth}
use Rattle.term_nodes.specs.NodeTrees.{test_tree_at}
use Rattle.test_diagrams.specs.Functions.{IsDiagramOf}
use Rattle.test_diagrams.proofs.Kept.{KeepsFunctions-itself, KeepsFunctions-trans}
use Rattle.partial_derivs.proofs.Derived.{earlier}
use Rattle.partial_derivs.proofs.TestDiagrams.{not_diagram, and_diagram, or_diagram}
use Rattle.partial_derivs.proofs.forms.+diagram_of.Goals as goal

pub returns-in_err-inner-in-Not-clause-kept : goal.returns-in_err-inner-in-Not-clause-kept
returns-in_err-inner-in-Not-clause-kept t c = c.in_err-inner-in-Not.ensures.kept

pub not-requires : goal.not-requires
not-requires t c = c.in_ok-inner-in-Not.ensures.function.in_range

pub returns-in_ok-inner-in-Not-clause-function : goal.returns-in_ok-inner-in-Not-clause-function
returns-in_ok-inner-in-Not-clause-function t c =
    not_diagram c.not.result _ _ c.in_ok-inner-in-Not.inner _ _ c.in-Not.ensures.tree c.in_ok-inner-in-Not.ensures.function c.not.ensures.kept c.not.ensures.function

pub returns-in_ok-inner-in-Not-clause-kept : goal.returns-in_ok-inner-in-Not-clause-kept
returns-in_ok-inner-in-Not-clause-kept t c = KeepsFunctions-trans _ _ _ c.in_ok-inner-in-Not.ensures.kept c.not.ensures.kept

pub returns-in_err-left-in-And-clause-kept : goal.returns-in_err-left-in-And-clause-kept
returns-in_err-left-in-And-clause-kept t c = c.in_err-left-in-And.ensures.kept

pub returns-in_err-right-in-And-clause-kept : goal.returns-in_err-right-in-And-clause-kept
returns-in_err-right-in-And-clause-kept t c = KeepsFunctions-trans _ _ _ c.in_ok-left-in-And.ensures.kept c.in_err-right-in-And.ensures.kept

pub and-requires-clause-left : goal.and-requires-clause-left
and-requires-clause-left t c = c.in_ok-right-in-And.ensures.kept.ids c.in_ok-left-in-And.left c.in_ok-left-in-And.ensures.function.in_range

pub and-requires-clause-right : goal.and-requires-clause-right
and-requires-clause-right t c = c.in_ok-right-in-And.ensures.function.in_range

pub returns-in_ok-right-in-And-clause-function : goal.returns-in_ok-right-in-And-clause-function
returns-in_ok-right-in-And-clause-function t c =
    and_diagram c.and.result _ _ _ c.in_ok-left-in-And.left c.in_ok-right-in-And.right _ _ _ c.in-And.ensures.tree c.in_ok-left-in-And.ensures.function c.in_ok-right-in-And.ensures.function c.in_ok-right-in-And.ensures.kept c.and.ensures.kept c.and.ensures.function

pub returns-in_ok-right-in-And-clause-kept : goal.returns-in_ok-right-in-And-clause-kept
returns-in_ok-right-in-And-clause-kept t c =
    KeepsFunctions-trans _ _ _ c.in_ok-left-in-And.ensures.kept (KeepsFunctions-trans _ _ _ c.in_ok-right-in-And.ensures.kept c.and.ensures.kept)

pub returns-in_err-left-in-Or-clause-kept : goal.returns-in_err-left-in-Or-clause-kept
returns-in_err-left-in-Or-clause-kept t c = c.in_err-left-in-Or.ensures.kept

pub returns-in_err-right-in-Or-clause-kept : goal.returns-in_err-right-in-Or-clause-kept
returns-in_err-right-in-Or-clause-kept t c = KeepsFunctions-trans _ _ _ c.in_ok-left-in-Or.ensures.kept c.in_err-right-in-Or.ensures.kept

pub or-requires-clause-left : goal.or-requires-clause-left
or-requires-clause-left t c = c.in_ok-right-in-Or.ensures.kept.ids c.in_ok-left-in-Or.left c.in_ok-left-in-Or.ensures.function.in_range

pub or-requires-clause-right : goal.or-requires-clause-right
or-requires-clause-right t c = c.in_ok-right-in-Or.ensures.function.in_range

pub returns-in_ok-right-in-Or-clause-function : goal.returns-in_ok-right-in-Or-clause-function
returns-in_ok-right-in-Or-clause-function t c =
    or_diagram c.or.result _ _ _ c.in_ok-left-in-Or.left c.in_ok-right-in-Or.right _ _ _ c.in-Or.ensures.tree c.in_ok-left-in-Or.ensures.function c.in_ok-right-in-Or.ensures.function c.in_ok-right-in-Or.ensures.kept c.or.ensures.kept c.or.ensures.function

pub returns-in_ok-right-in-Or-clause-kept : goal.returns-in_ok-right-in-Or-clause-kept
returns-in_ok-right-in-Or-clause-kept t c =
    KeepsFunctions-trans _ _ _ c.in_ok-left-in-Or.ensures.kept (KeepsFunctions-trans _ _ _ c.in_ok-right-in-Or.ensures.kept c.or.ensures.kept)

pub returns-in-False-clause-function : goal.returns-in-False-clause-function
returns-in-False-clause-function t c =
    subst (λ b. IsDiagramOf c.args.diagrams.now c.constant.result (truth b)) (sym c.in-False.ensures.tree) c.constant.ensures.function

pub returns-in-False-clause-kept : goal.returns-in-False-clause-kept
returns-in-False-clause-kept t c = KeepsFunctions-itself _

pub returns-in-True-clause-function : goal.returns-in-True-clause-function
returns-in-True-clause-function t c =
    subst (λ b. IsDiagramOf c.args.diagrams.now c.constant-in-True.result (truth b)) (sym c.in-True.ensures.tree) c.constant-in-True.ensures.function

pub returns-in-True-clause-kept : goal.returns-in-True-clause-kept
returns-in-True-clause-kept t c = KeepsFunctions-itself _

pub returns-in-Prim-clause-function : goal.returns-in-Prim-clause-function
returns-in-Prim-clause-function t c =
    subst (λ b. IfOk c.of_test.result (λ id. IsDiagramOf c.of_test.new.self id (truth b))) (sym c.in-Prim.ensures.tree) c.of_test.ensures.function

pub returns-in-Prim-clause-kept : goal.returns-in-Prim-clause-kept
returns-in-Prim-clause-kept t c = c.of_test.ensures.kept

pub diagram_of-requires : goal.diagram_of-requires
diagram_of-requires t c =
    let part = c.in-Not.ensures.parts in
    let range = subst (IsTestInRange c.args.diagrams.now.tests) c.in-Not.ensures.tree c.requires.in_range in
    (subst (λ n. c.in-Not.b < n) c.decreases part, (earlier _ _ _ part c.requires.id, range))

pub diagram_of-requires-in-And : goal.diagram_of-requires-in-And
diagram_of-requires-in-And t c =
    let part = c.in-And.ensures.parts.0 in
    let range = subst (IsTestInRange c.args.diagrams.now.tests) c.in-And.ensures.tree c.requires.in_range in
    (subst (λ n. c.in-And.b < n) c.decreases part, (earlier _ _ _ part c.requires.id, range.0))

pub diagram_of-requires-in-And-2 : goal.diagram_of-requires-in-And-2
diagram_of-requires-in-And-2 t c =
    let part = c.in-And.ensures.parts.1 in
    let range = subst (IsTestInRange c.args.diagrams.now.tests) c.in-And.ensures.tree c.requires.in_range in
    let tests = c.in_ok-left-in-And.ensures.kept.tests in (
      subst (λ n. c.in-And.c < n) c.decreases part,
      (earlier _ _ _ part c.requires.id, subst (λ n. IsTestInRange n (test_tree_at c.args.store.now c.in-And.c)) (sym tests) range.1),
    )

pub diagram_of-requires-in-Or : goal.diagram_of-requires-in-Or
diagram_of-requires-in-Or t c =
    let part = c.in-Or.ensures.parts.0 in
    let range = subst (IsTestInRange c.args.diagrams.now.tests) c.in-Or.ensures.tree c.requires.in_range in
    (subst (λ n. c.in-Or.b < n) c.decreases part, (earlier _ _ _ part c.requires.id, range.0))

pub diagram_of-requires-in-Or-2 : goal.diagram_of-requires-in-Or-2
diagram_of-requires-in-Or-2 t c =
    let part = c.in-Or.ensures.parts.1 in
    let range = subst (IsTestInRange c.args.diagrams.now.tests) c.in-Or.ensures.tree c.requires.in_range in
    let tests = c.in_ok-left-in-Or.ensures.kept.tests in (
      subst (λ n. c.in-Or.c < n) c.decreases part,
      (earlier _ _ _ part c.requires.id, subst (λ n. IsTestInRange n (test_tree_at c.args.store.now c.in-Or.c)) (sym tests) range.1),
    )
