use Rattle.std.proofs.Common.{◌≡◌, ◌∙◌, ◌<◌, ◌++◌, [], ◌∷◌, sym, ap, true, false, arith}
use Rattle.kat_model.specs.Trees.{test_tree}
use Rattle.kat_model.specs.Steps.{truth}
use Rattle.while_lang.specs.FlowViews.{flows_tree}
use Rattle.tool_explain.specs.Places.{path_in}
use Rattle.tool_explain.specs.Working.Walks.{atom_from, list_end}
use Rattle.tool_explain.proofs.Steps.{path_left, list_continues, list_stops, list_over, block_end, part_over, part_halted, path_kept, loop_left, turn_ended, turn_repeats, turn_stopped}
use Rattle.tool_explain.proofs.walking.+walks.Goals as goal

-- ---- lists

pub walk_list-loop-k-preserved : goal.walk_list-loop-k-preserved
walk_list-loop-k-preserved t c =
    let x = c.args.cursor.now.string.now in
    let base = c.args.path.now.items in
    let at = c.in_ok-push_number.ensures ∙ ap (λ p. p ++ c.loop-k.k ∷ []) c.loop-k.invariant.back in
    let none = c.in_default.is in
    record {
      whole = list_continues x base c.args.list.now c.args.cursor.now.at c.loop-k.k c.loop-k.cursor.at c.index-list-k.result c.loop-k.cursor.string.now c.push_number.new.path.items c.walk_stmt.new.path.items c.in_ok-part.part c.walk_stmt.new.cursor.at
          c.loop-k-test.true c.index-list-k.is c.loop-k.invariant.string at c.in_ok-part.ensures.walked c.loop-k.invariant.whole none;
      back = path_left base c.push_number.new.path.items c.walk_stmt.new.path.items c.leave.new.path.items c.loop-k.k at (c.in_ok-part.ensures.back none) (c.leave.ensures.left none);
      string = c.walk_stmt.ensures.string ∙ c.loop-k.invariant.string;
      onward = omega (arith, c.loop-k.invariant.onward, c.walk_stmt.ensures.onward);
    }

pub walk_list-returns-in-Some-clause-walked : goal.walk_list-returns-in-Some-clause-walked
walk_list-returns-in-Some-clause-walked t c =
    let x = c.args.cursor.now.string.now in
    let base = c.args.path.now.items in
    let at = c.in_ok-push_number.ensures ∙ ap (λ p. p ++ c.loop-k.k ∷ []) c.loop-k.invariant.back in
    let l = c.walk_stmt.new.cursor.at in
    path_kept c.in_ok-part.part l c.leave.new.path.items c.walk_stmt.new.path.items _ c.in-Some.stop c.in-Some.is (c.leave.ensures.kept l)
    (list_stops x base c.args.list.now c.args.cursor.now.at c.loop-k.k c.loop-k.cursor.at c.index-list-k.result c.loop-k.cursor.string.now c.push_number.new.path.items c.walk_stmt.new.path.items c.in_ok-part.part l
    c.loop-k-test.true c.index-list-k.is c.loop-k.invariant.string at c.in_ok-part.ensures.walked c.loop-k.invariant.whole c.in-Some.stop c.in-Some.is)

pub walk_list-returns-clause-walked : goal.walk_list-returns-clause-walked
walk_list-returns-clause-walked t c =
    list_over c.args.cursor.now.string.now c.args.path.now.items c.args.list.now c.args.cursor.now.at c.loop-k.k c.loop-k.cursor.at c.loop-k-test.false c.loop-k.invariant.whole

-- ---- blocks

pub walk_block-returns-clause-walked : goal.walk_block-returns-clause-walked
walk_block-returns-clause-walked t c =
    let x = c.args.cursor.now.string.now in
    let k = c.args.cursor.now.at in
    c.leave.ensures.kept c.walk_list.new.cursor.at
    ∙ c.in_ok-stop.ensures.walked
    ∙ ap (λ p. list_end x p 0 (flows_tree c.deref.result.now) k) c.in_ok-push_number.ensures
    ∙ ap (λ f. list_end x (path_in c.args.path.now.items c.args.number) 0 f k) (ap flows_tree c.deref.ensures.value ∙ c.block.view_is)

pub walk_block-returns-clause-back : goal.walk_block-returns-clause-back
walk_block-returns-clause-back t c none =
    path_left c.args.path.now.items c.push_number.new.path.items c.walk_list.new.path.items c.leave.new.path.items c.args.number
    c.in_ok-push_number.ensures (c.in_ok-stop.ensures.back none) (c.leave.ensures.left none)

-- ---- loops

pub walk_stmt-turns-preserved : goal.walk_stmt-turns-preserved
walk_stmt-turns-preserved t c =
    let x = c.args.cursor.now.string.now in
    let base = c.args.path.now.items in
    let b = test_tree c.in-While.b in
    let f = c.in-While.f in
    let k = c.turns.cursor.at in
    let l = c.walk_block-in-turns.new.cursor.at in
    let inner = c.walk_block-in-turns.new.path.items in
    let none = c.in_default.is in
    let on : truth b (atom_from x k) ≡ true = ap (λ y. truth b (atom_from y k)) (sym c.turns.invariant.string) ∙ sym c.holds-in-turns.ensures ∙ c.turns-test.true in
    let end = block_end x c.turns.cursor.string.now base c.turns.path.items inner 0 f k l c.in_ok-turn-in-While.turn c.turns.invariant.string c.turns.invariant.back c.in_ok-turn-in-While.ensures.walked in
    let later : k < l = omega (arith, c.walk_block-in-turns.ensures.onward, c.if-cursor-before.false) in
    record {
      whole = c.turns.invariant.whole ∙ turn_ended x base b f k on l later (part_over c.in_ok-turn-in-While.turn l inner _ none end);
      back = c.in_ok-turn-in-While.ensures.back none ∙ c.turns.invariant.back;
      string = c.walk_block-in-turns.ensures.string ∙ c.turns.invariant.string;
      onward = omega (arith, c.turns.invariant.onward, c.walk_block-in-turns.ensures.onward);
    }

pub walk_stmt-returns-in-Some-clause-walked : goal.walk_stmt-returns-in-Some-clause-walked
walk_stmt-returns-in-Some-clause-walked t c =
    let x = c.args.cursor.now.string.now in
    let base = c.args.path.now.items in
    let b = test_tree c.in-While.b in
    let f = c.in-While.f in
    let k = c.turns.cursor.at in
    let l = c.walk_block-in-turns.new.cursor.at in
    let inner = c.walk_block-in-turns.new.path.items in
    let on : truth b (atom_from x k) ≡ true = ap (λ y. truth b (atom_from y k)) (sym c.turns.invariant.string) ∙ sym c.holds-in-turns.ensures ∙ c.turns-test.true in
    let end = block_end x c.turns.cursor.string.now base c.turns.path.items inner 0 f k l c.in_ok-turn-in-While.turn c.turns.invariant.string c.turns.invariant.back c.in_ok-turn-in-While.ensures.walked in
    rw c.in-While.is
    (sym (c.turns.invariant.whole ∙ turn_stopped x base b f k on c.in-Some.stop l inner (part_halted c.in_ok-turn-in-While.turn l inner _ c.in-Some.stop c.in-Some.is end)))

pub walk_stmt-returns-then-cursor-before-clause-walked : goal.walk_stmt-returns-then-cursor-before-clause-walked
walk_stmt-returns-then-cursor-before-clause-walked t c =
    let x = c.args.cursor.now.string.now in
    let base = c.args.path.now.items in
    let b = test_tree c.in-While.b in
    let f = c.in-While.f in
    let k = c.turns.cursor.at in
    let l = c.walk_block-in-turns.new.cursor.at in
    let inner = c.walk_block-in-turns.new.path.items in
    let none = c.in_default.is in
    let on : truth b (atom_from x k) ≡ true = ap (λ y. truth b (atom_from y k)) (sym c.turns.invariant.string) ∙ sym c.holds-in-turns.ensures ∙ c.turns-test.true in
    let end = block_end x c.turns.cursor.string.now base c.turns.path.items inner 0 f k l c.in_ok-turn-in-While.turn c.turns.invariant.string c.turns.invariant.back c.in_ok-turn-in-While.ensures.walked in
    rw c.in-While.is
    (turn_repeats x base b f k on l inner c.if-cursor-before.true (c.in_ok-turn-in-While.ensures.back none ∙ c.turns.invariant.back) (part_over c.in_ok-turn-in-While.turn l inner _ none end)
    ∙ sym c.turns.invariant.whole)

pub walk_stmt-returns-after-turns-clause-walked : goal.walk_stmt-returns-after-turns-clause-walked
walk_stmt-returns-after-turns-clause-walked t c =
    let x = c.args.cursor.now.string.now in
    let base = c.args.path.now.items in
    let b = test_tree c.in-While.b in
    let f = c.in-While.f in
    let k = c.turns.cursor.at in
    let off : truth b (atom_from x k) ≡ false = ap (λ y. truth b (atom_from y k)) (sym c.turns.invariant.string) ∙ sym c.holds-in-turns.ensures ∙ c.turns-test.false in
    rw c.in-While.is (sym (c.turns.invariant.whole ∙ loop_left x base b f k off))
