use Rattle.std.proofs.Common.{length, ◌&&◌, ◌||◌, Bool, sym, ap, ◌∙◌, subst}
use mathlib.Core.Path.{ap₂}
use Rattle.std.proofs.lemmas.Result.{IfOk-weaker}
use Rattle.kat_model.specs.Steps.{out}
use Rattle.term_nodes.specs.Nodes.{IsOver}
use Rattle.term_nodes.specs.NodeTrees.{tree_in}
use Rattle.cert_checker.specs.NodeTables.{nodes_in}
use Rattle.cert_checker.proofs.GrowingTables.{tests_itself}
use Rattle.cert_checker.proofs.StepLists.{accept_at, silent, ready}
use Rattle.cert_checker.proofs.derivatives.acceptance.Goals as goal

pub returns-in-Zero-clause-values : goal.returns-in-Zero-clause-values
returns-in-Zero-clause-values c =
    let t = c.args.tables.now in
    let node = c.term_node in
    IfOk-weaker c.constant.result _ _ (λ g given. (given.0, (λ atom. given.1 atom ∙ sym (ap (λ e. out e atom) node.ensures.tree ∙ silent t node.result atom c.in-Zero.is)))) c.constant.ensures.values

pub returns-in-One-clause-values : goal.returns-in-One-clause-values
returns-in-One-clause-values c =
    let t = c.args.tables.now in
    let node = c.term_node in
    IfOk-weaker c.constant-in-One.result _ _ (λ g given. (given.0, (λ atom. given.1 atom ∙ sym (ap (λ e. out e atom) node.ensures.tree ∙ ready t node.result atom c.in-One.is)))) c.constant-in-One.ensures.values

pub returns-in-Test-clause-values : goal.returns-in-Test-clause-values
returns-in-Test-clause-values c =
    let t = c.args.tables.now in
    let node = c.term_node in
    (subst (IsOver (length t.tests) (length c.args.earlier.now)) c.in-Test.is node.ensures.parts, (λ atom. sym (ap (λ e. out e atom) (node.ensures.tree ∙ ap (tree_in (nodes_in t)) c.in-Test.is))))

pub returns-in-Sum-clause-values : goal.returns-in-Sum-clause-values
returns-in-Sum-clause-values c =
    let t = c.args.tables.now in
    let earlier = c.args.earlier.now in
    let node = c.term_node in
    let parts = subst (IsOver (length t.tests) (length earlier)) c.in-Sum.is node.ensures.parts in
    let first = accept_at t earlier c.in-Sum.x c.requires.earlier parts.0 in
    let second = accept_at t earlier c.in-Sum.y c.requires.earlier parts.1 in
    IfOk-weaker c.either.result _ _
    (λ g given. (given.0, (λ atom. given.1 atom ∙ ap₂ (λ (a b : Bool). a || b) (first.1 atom) (second.1 atom) ∙ sym (ap (λ e. out e atom) (node.ensures.tree ∙ ap (tree_in (nodes_in t)) c.in-Sum.is)))))
    c.either.ensures.values

pub returns-in-Seq-clause-values : goal.returns-in-Seq-clause-values
returns-in-Seq-clause-values c =
    let t = c.args.tables.now in
    let earlier = c.args.earlier.now in
    let node = c.term_node in
    let parts = subst (IsOver (length t.tests) (length earlier)) c.in-Seq.is node.ensures.parts in
    let first = accept_at t earlier c.in-Seq.x c.requires.earlier parts.0 in
    let second = accept_at t earlier c.in-Seq.y c.requires.earlier parts.1 in
    IfOk-weaker c.both.result _ _
    (λ g given. (given.0, (λ atom. given.1 atom ∙ ap₂ (λ (a b : Bool). a && b) (first.1 atom) (second.1 atom) ∙ sym (ap (λ e. out e atom) (node.ensures.tree ∙ ap (tree_in (nodes_in t)) c.in-Seq.is)))))
    c.both.ensures.values

pub bounds-earlier-x : goal.bounds-earlier-x
bounds-earlier-x c = (subst (IsOver (length c.args.tables.now.tests) (length c.args.earlier.now)) c.in-Sum.is c.term_node.ensures.parts).0

pub bounds-earlier-y : goal.bounds-earlier-y
bounds-earlier-y c = (subst (IsOver (length c.args.tables.now.tests) (length c.args.earlier.now)) c.in-Sum.is c.term_node.ensures.parts).1

pub either-requires-clause-first : goal.either-requires-clause-first
either-requires-clause-first c = (accept_at c.args.tables.now c.args.earlier.now c.in-Sum.x c.requires.earlier (subst (IsOver (length c.args.tables.now.tests) (length c.args.earlier.now)) c.in-Sum.is c.term_node.ensures.parts).0).0

pub either-requires-clause-second : goal.either-requires-clause-second
either-requires-clause-second c = (accept_at c.args.tables.now c.args.earlier.now c.in-Sum.y c.requires.earlier (subst (IsOver (length c.args.tables.now.tests) (length c.args.earlier.now)) c.in-Sum.is c.term_node.ensures.parts).1).0

pub bounds-earlier-x-in-Seq : goal.bounds-earlier-x-in-Seq
bounds-earlier-x-in-Seq c = (subst (IsOver (length c.args.tables.now.tests) (length c.args.earlier.now)) c.in-Seq.is c.term_node.ensures.parts).0

pub bounds-earlier-y-in-Seq : goal.bounds-earlier-y-in-Seq
bounds-earlier-y-in-Seq c = (subst (IsOver (length c.args.tables.now.tests) (length c.args.earlier.now)) c.in-Seq.is c.term_node.ensures.parts).1

pub both-requires-clause-first : goal.both-requires-clause-first
both-requires-clause-first c = (accept_at c.args.tables.now c.args.earlier.now c.in-Seq.x c.requires.earlier (subst (IsOver (length c.args.tables.now.tests) (length c.args.earlier.now)) c.in-Seq.is c.term_node.ensures.parts).0).0

pub both-requires-clause-second : goal.both-requires-clause-second
both-requires-clause-second c = (accept_at c.args.tables.now c.args.earlier.now c.in-Seq.y c.requires.earlier (subst (IsOver (length c.args.tables.now.tests) (length c.args.earlier.now)) c.in-Seq.is c.term_node.ensures.parts).1).0

pub returns-in-Zero-clause-grows : goal.returns-in-Zero-clause-grows
returns-in-Zero-clause-grows c = c.constant.ensures.grows

pub returns-in-One-clause-grows : goal.returns-in-One-clause-grows
returns-in-One-clause-grows c = c.constant-in-One.ensures.grows

pub returns-in-Test-clause-grows : goal.returns-in-Test-clause-grows
returns-in-Test-clause-grows c = tests_itself c.args.tables.now c.term_node.ensures.tables

pub returns-in-Sum-clause-grows : goal.returns-in-Sum-clause-grows
returns-in-Sum-clause-grows c = c.either.ensures.grows

pub returns-in-Seq-clause-grows : goal.returns-in-Seq-clause-grows
returns-in-Seq-clause-grows c = c.both.ensures.grows
