use Rattle.std.proofs.Common.{◌≡◌, ℕ, ◌+◌, take, sym, ap, ◌∙◌, subst}
use Rattle.std.specs.BTreeMap.{BTreeMap}
use Rattle.std.proofs.lemmas.Bool.{eq-eqb, ne_eqb}
use Rattle.partial_derivs.proofs.Items.{has_item}
use Rattle.walk_pairs.specs.declared.items.Item.{Item}
use Rattle.walk_pairs.specs.Items.{guard_of, opposite_of, AddsMoves, AddsTargets, AreKeyed}
use Rattle.walk_pairs.proofs.ItemTables.{with_guard_target, with_guard_own, with_guard_other, item_target, keyed_insert, target_put}
use Rattle.walk_pairs.proofs.LastGuards.{adds_skipped, adds_move}
use Rattle.walk_pairs.proofs.items.add_moves.Goals.{then-guarded-act+in_ok-insert, else-guarded-act}
use Rattle.walk_pairs.proofs.items.add_moves.Goals as goal

pub loop-guarded-preserved : goal.loop-guarded-preserved
loop-guarded-preserved c =
    let never = c.args.never in
    let old = c.args.items.now.entries in
    let es = c.loop-guarded.items.entries in
    let moves = c.args.moves.now in
    let i = c.loop-guarded.guarded-index in
    let move = c.guarded-item.result in
    let act = c.args.act in
    let side = c.args.side in
    elim c.if-guarded-act.branch [
      | then-guarded-act+in_ok-insert w ↦
          let found : Item = w.item_at-item.result in
          let value : Item = w.with_guard.result in
          let new = w.insert.new.self.entries in
          let own : value.target ≡ move.to = ap (λ (x : Item). x.target) w.with_guard.ensures ∙ with_guard_target side found move.guard ∙ ap (λ (x : Item). x.target) w.item_at-item.ensures ∙ item_target never es move.to c.loop-guarded.invariant.keyed in
          let same : c.if-guarded-act.items.entries ≡ new = ap (λ (m : BTreeMap ℕ Item). m.entries) w.items-is in
          record {
            keyed = subst AreKeyed (sym same) (subst AreKeyed (sym w.in_ok-insert.ensures.entries) (keyed_insert move.to value own es c.loop-guarded.invariant.keyed));
            added = subst (λ l. AddsMoves never side (opposite_of side) old l (take (i + 1) moves) act) (sym same)
                (adds_move never side (opposite_of side) act old es moves i move c.loop-guarded-test.true c.guarded-item.is new value (eq-eqb move.act act w.if-guarded-act.true) (ap (guard_of side) w.with_guard.ensures ∙ with_guard_own side found move.guard)
                (ap (guard_of (opposite_of side)) w.with_guard.ensures ∙ with_guard_other side found move.guard ∙ ap (guard_of (opposite_of side)) w.item_at-item.ensures) w.in_ok-insert.ensures.updates.0 c.loop-guarded.invariant.added);
            targets = subst (λ l. AddsTargets old l moves) (sym same) (target_put moves move (has_item moves i move c.loop-guarded-test.true c.guarded-item.is) old es new value w.in_ok-insert.ensures.entries c.loop-guarded.invariant.targets);
          }
      | else-guarded-act w ↦
          let same : c.if-guarded-act.items.entries ≡ es = ap (λ (m : BTreeMap ℕ Item). m.entries) w.items-is in
          record {
            keyed = subst AreKeyed (sym same) c.loop-guarded.invariant.keyed;
            added = subst (λ l. AddsMoves never side (opposite_of side) old l (take (i + 1) moves) act) (sym same)
                (adds_skipped never side (opposite_of side) act old es moves i move c.loop-guarded-test.true c.guarded-item.is (ne_eqb move.act act w.if-guarded-act.false) c.loop-guarded.invariant.added);
            targets = subst (λ l. AddsTargets old l moves) (sym same) c.loop-guarded.invariant.targets;
          }
    ]
