use Rattle.std.proofs.Common.{◌≡◌, ◌+◌, ◌++◌, ◌∷◌, [], List, map, drop, refl, sym, ap, ◌∙◌, subst, ⊎_elim, append-nil}
use Rattle.std.specs.List.{filter}
use Rattle.std.proofs.lemmas.List.{map-append, drop_all}
use Rattle.kat_model.specs.declared.tree.Kat.{Kat}
use Rattle.kat_model.specs.Trees.{Term, kat_tree}
use Rattle.kat_model.specs.Members.{Has}
use Rattle.kat_model.specs.Problems.{HasTestsBelow}
use Rattle.kat_model.specs.Degrees.{is_short}
use Rattle.kat_model.proofs.Lists.{map_has, has_pushed}
use Rattle.kat_model.proofs.Ranges.{IsInRange-HasTestsBelow}
use Rattle.term_nodes.specs.NodeTrees.{tree_at}
use Rattle.term_nodes.proofs.Growing.{Grows-itself, Grows-trans}
use Rattle.partial_derivs.specs.Moves.{IsTermOf}
use Rattle.partial_derivs.proofs.Kept.{IsTermOf-trees}
use Rattle.walk_under.specs.declared.counting.ShortHyp.{ShortHyp}
use Rattle.walk_under.proofs.ShortIds.{read_item}
use Rattle.walk_under.proofs.ShortIds.{in_range_each, short_more, short_past}
use Rattle.walk_under.specs.Counting.{tree_of}
use Rattle.walk_under.proofs.counting.short_hyps.Goals as goal
use Rattle.walk_under.proofs.counting.short_hyps.Goals.{then-is_short+in_ok-short_hyp+in_ok-push, else-is_short}

pub loop-hyp-preserved : goal.loop-hyp-preserved
loop-hyp-preserved c =
    let before = c.loop-hyp.invariant in
    let p = c.args.problem.now in
    let s = c.loop-hyp.store in
    let shorts = c.loop-hyp.shorts.items in
    let hyps = c.hyps-hyp-items.result.now in
    let k = c.loop-hyp.hyp-index in
    let hyp = c.hyp-item.result in
    elim c.if-is_short.branch [
      | then-is_short+in_ok-short_hyp+in_ok-push w ↦
          let t = w.short_hyp.new.store in
          let new : ShortHyp = w.in_ok-short_hyp.field-0 in
          let own = w.in_ok-short_hyp.ensures in
          let items : w.push.new.self.items ≡ shorts ++ new ∷ [] = w.in_ok-push.ensures.items in
          let member : Has p.hyps (kat_tree hyp) = subst (λ (l : List Term). Has l (kat_tree hyp)) c.hyps-hyp-items.ensures.value (map_has kat_tree hyps hyp (read_item hyps k hyp c.loop-hyp-test.true c.hyp-item.is)) in
          let range : HasTestsBelow p.tests (kat_tree hyp) = IsInRange-HasTestsBelow p.tests p.actions (kat_tree hyp) (in_range_each p.tests p.actions p.hyps c.hyps-hyp-items.ensures.within.hyps (kat_tree hyp) member) in
          let is_term : IsTermOf t p.tests new.term = record { is_id = own.id; in_range = subst (HasTestsBelow p.tests) (sym own.term) range } in
          rw (w.store-is, w.shorts-is, items)
          (record {
            kept = Grows-trans c.args.store.now s t before.kept own.kept;
            trees = ap (λ (l : List Term). l ++ filter is_short (map kat_tree (drop (k + 1) hyps))) (map-append tree_of shorts (new ∷ []) ∙ ap (λ (e : Term). map tree_of shorts ++ e ∷ []) own.tree)
                ∙ short_more kat_tree hyps k hyp c.loop-hyp-test.true c.hyp-item.is (map tree_of shorts) before.trees (sym c.is_short.ensures ∙ w.if-is_short.true);
            terms = λ h m.
                ⊎_elim
                (λ old. let r = before.terms h old in (IsTermOf-trees s t own.kept p.tests h.term r.0, own.kept.trees h.term r.0.is_id ∙ r.1))
                (λ last. subst (λ (z : ShortHyp). IsTermOf t p.tests z.term × (tree_at t z.term ≡ kat_tree z.hyp)) last (is_term, own.term ∙ sym own.tree))
                (has_pushed shorts new h m);
          })
      | else-is_short w ↦
          rw (w.store-is, w.shorts-is)
          (record {
            kept = before.kept;
            trees = short_past kat_tree hyps k hyp c.loop-hyp-test.true c.hyp-item.is (map tree_of shorts) before.trees (sym c.is_short.ensures ∙ w.if-is_short.false);
            terms = before.terms;
          })
    ]

pub loop-hyp-init : goal.loop-hyp-init
loop-hyp-init c = record {
  kept = Grows-itself c.args.store.now;
  trees = rw c.new-shorts.ensures.items refl;
  terms = λ h m. absurd (subst (λ (l : List ShortHyp). Has l h) c.new-shorts.ensures.items m);
}

pub returns-clause-hyps : goal.returns-clause-hyps
returns-clause-hyps c =
    let shorts = c.loop-hyp.shorts.items in
    let hyps = c.hyps-hyp-items.result.now in
    record {
      trees = sym (append-nil (map tree_of shorts)) ∙ ap (λ (l : List Kat). map tree_of shorts ++ filter is_short (map kat_tree l)) (sym (drop_all c.loop-hyp.hyp-index hyps c.loop-hyp-test.false)) ∙ c.loop-hyp.invariant.trees
          ∙ ap (filter is_short) c.hyps-hyp-items.ensures.value;
      terms = c.loop-hyp.invariant.terms;
    }

pub returns-clause-kept : goal.returns-clause-kept
returns-clause-kept c = c.loop-hyp.invariant.kept

pub returns-in_err-short_hyp-clause-kept : goal.returns-in_err-short_hyp-clause-kept
returns-in_err-short_hyp-clause-kept c = Grows-trans c.args.store.now c.loop-hyp.store c.short_hyp.new.store c.loop-hyp.invariant.kept c.in_err-short_hyp.ensures.kept

pub returns-in_err-push-clause-kept : goal.returns-in_err-push-clause-kept
returns-in_err-push-clause-kept c = Grows-trans c.args.store.now c.loop-hyp.store c.short_hyp.new.store c.loop-hyp.invariant.kept c.in_ok-short_hyp.ensures.kept
