use Rattle.std.proofs.Common.{List, map, not, refl, sym, ap, ◌∙◌, subst, arith, add-one}
use Rattle.kat_model.specs.declared.tree.Kat.{Kat}
use Rattle.kat_model.specs.Trees.{kat_tree}
use Rattle.cert_checker.proofs.FewerHyps.{AreKept, kept_more, kept_same, kept_at_end}
use Rattle.cert_checker.proofs.checking.kept_hyps.Goals as goal
use Rattle.cert_checker.proofs.checking.kept_hyps.Goals.{then-not-is_short+in_ok-copy+in_ok-push, else-not-is_short+else-tests_only_from}

pub loop-hyp-preserved : goal.loop-hyp-preserved
loop-hyp-preserved c =
    let kept = c.loop-hyp.hyps.items in
    let items = c.hyps-hyp-items.result.now in
    let i = c.loop-hyp.hyp-index in
    let x = c.hyp-item.result in
    elim c.if-not-is_short.branch [
      | then-not-is_short+in_ok-copy+in_ok-push w ↦
          rw (add-one, w.hyps-is, w.in_ok-push.ensures.items)
          (kept_more kept items i x c.loop-hyp.invariant (omega arith) c.hyp-item.is w.in_ok-copy.field-0 w.in_ok-copy.ensures)
      | else-not-is_short+else-tests_only_from w ↦
          rw (add-one, w.hyps-is)
          (kept_same kept items i x c.loop-hyp.invariant (omega arith) c.hyp-item.is (ap not (sym c.is_short.ensures ∙ w.if-not-is_short.false)))
    ]

pub loop-hyp-init : goal.loop-hyp-init
loop-hyp-init c =
    let all = map kat_tree c.hyps-hyp-items.result.now in
    subst (λ (l : List Kat). AreKept (map kat_tree l) all all) (sym c.new-hyps.ensures.items) (record { longs = refl; within = λ h m. absurd m })

pub returns-clause-longs : goal.returns-clause-longs
returns-clause-longs c =
    (kept_at_end c.args.problem.now.hyps c.loop-hyp.hyps.items c.hyps-hyp-items.result.now c.loop-hyp.hyp-index c.loop-hyp.invariant c.loop-hyp-test.false c.hyps-hyp-items.ensures.value).0

pub returns-clause-fewer : goal.returns-clause-fewer
returns-clause-fewer c =
    (kept_at_end c.args.problem.now.hyps c.loop-hyp.hyps.items c.hyps-hyp-items.result.now c.loop-hyp.hyp-index c.loop-hyp.invariant c.loop-hyp-test.false c.hyps-hyp-items.ensures.value).1
