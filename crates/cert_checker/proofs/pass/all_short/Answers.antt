use Rattle.std.proofs.Common.{◌≡◌, ◌≤◌, ◌++◌, ℕ, List, length, map, drop, refl, sym, ap, ◌∙◌, subst, arith, add-one, append-nil}
use Rattle.std.specs.List.{filter}
use Rattle.std.proofs.lemmas.List.{drop_all}
use Rattle.kat_model.specs.declared.tree.Kat.{Kat}
use Rattle.kat_model.specs.Trees.{kat_tree}
use Rattle.kat_model.specs.Problems.{ProblemParts, HasTestsBelow}
use Rattle.kat_model.specs.Degrees.{is_short, short_hyps}
use Rattle.term_nodes.specs.NumberSets.{terms_of}
use Rattle.cert_checker.specs.NodeTables.{TableParts, nodes_in}
use Rattle.cert_checker.proofs.RootRanges.{AreShorts, hyp_below, shorts_more, shorts_same}
use Rattle.cert_checker.proofs.GrowingTables.{grows_itself, grows_trans}
use Rattle.cert_checker.proofs.pass.all_short.Goals as goal
use Rattle.cert_checker.proofs.pass.all_short.Goals.{then-is_short+in_ok-number_of+in_ok-push, else-is_short}

-- after the loop, the numbers are those of all short hypotheses
shorts_all : (first now : TableParts) (numbers : List ℕ) (hyps : List Kat) (i : ℕ) (q : ProblemParts) → AreShorts first now numbers (map kat_tree (drop i hyps)) (map kat_tree hyps) → length hyps ≤ i → map kat_tree hyps ≡ q.hyps → terms_of (nodes_in now) numbers ≡ short_hyps q
shorts_all first now numbers hyps i q s end are =
    sym (append-nil (terms_of (nodes_in now) numbers))
    ∙ ap (λ (l : List Kat). terms_of (nodes_in now) numbers ++ filter is_short (map kat_tree l)) (sym (drop_all i hyps end))
    ∙ s.terms
    ∙ ap (filter is_short) are

pub number_of-requires : goal.number_of-requires
number_of-requires c =
    subst (λ n. HasTestsBelow n (kat_tree c.hyp-item.result)) (c.requires.width ∙ sym c.loop-hyp.invariant.grows.width)
    (hyp_below c.args.problem.now c.hyps-hyp-items.ensures.within c.hyps-hyp-items.result.now c.hyps-hyp-items.ensures.value c.loop-hyp.hyp-index c.hyp-item.result (omega arith) c.hyp-item.is)

pub loop-hyp-init : goal.loop-hyp-init
loop-hyp-init c = record {
  grows = grows_itself c.args.tables.now c.requires.tables;
  there = rw c.new-numbers.ensures.items refl;
  terms = rw c.new-numbers.ensures.items refl;
}

pub loop-hyp-preserved : goal.loop-hyp-preserved
loop-hyp-preserved c =
    let first = c.args.tables.now in
    let now = c.loop-hyp.tables in
    let items = c.hyps-hyp-items.result.now in
    let i = c.loop-hyp.hyp-index in
    let x = c.hyp-item.result in
    elim c.if-is_short.branch [
      | then-is_short+in_ok-number_of+in_ok-push w ↦
          rw (add-one, w.tables-is, w.numbers-is, w.in_ok-push.ensures.items)
          (shorts_more first now w.number_of.new.self c.loop-hyp.numbers.items items i w.in_ok-number_of.field-0 x (map kat_tree items) c.loop-hyp.invariant (omega arith) c.hyp-item.is (sym c.is_short.ensures ∙ w.if-is_short.true)
          w.number_of.ensures.grows w.in_ok-number_of.ensures.is_term w.in_ok-number_of.ensures.tree)
      | else-is_short w ↦
          rw (add-one, w.tables-is, w.numbers-is)
          (shorts_same first now c.loop-hyp.numbers.items items i x (map kat_tree items) c.loop-hyp.invariant (omega arith) c.hyp-item.is (sym c.is_short.ensures ∙ w.if-is_short.false))
    ]

pub returns-clause-terms : goal.returns-clause-terms
returns-clause-terms c =
    shorts_all c.args.tables.now c.loop-hyp.tables c.loop-hyp.numbers.items c.hyps-hyp-items.result.now c.loop-hyp.hyp-index c.args.problem.now c.loop-hyp.invariant (omega arith) c.hyps-hyp-items.ensures.value

pub returns-clause-there : goal.returns-clause-there
returns-clause-there c = c.loop-hyp.invariant.there

pub returns-clause-grows : goal.returns-clause-grows
returns-clause-grows c = c.loop-hyp.invariant.grows

pub returns-in_err-number_of-clause-grows : goal.returns-in_err-number_of-clause-grows
returns-in_err-number_of-clause-grows c = grows_trans c.args.tables.now c.loop-hyp.tables c.number_of.new.self c.loop-hyp.invariant.grows c.number_of.ensures.grows

pub returns-in_err-push-clause-grows : goal.returns-in_err-push-clause-grows
returns-in_err-push-clause-grows c = grows_trans c.args.tables.now c.loop-hyp.tables c.number_of.new.self c.loop-hyp.invariant.grows c.number_of.ensures.grows
