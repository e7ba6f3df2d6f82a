use Rattle.std.proofs.Common.{◌≡◌, ◌<◌, ◌≤◌, ℕ, List, false, length, get_or, sym, ap, ◌∙◌, subst, arith}
use Rattle.kat_model.specs.Trees.{kat_tree}
use Rattle.kat_model.specs.Problems.{HasTestsBelow}
use Rattle.kat_model.specs.Strings.{Move, GuardedString}
use Rattle.string_tables.specs.Working.Marks.{mark_tree}
use Rattle.string_tables.specs.Parts.{ends_at}
use Rattle.string_tables.proofs.MarkedRuns.{AreMarksAt, marks_begin, run_more, run_ends, none_yet, late_end, no_late_end, no_end}
use Rattle.string_tables.proofs.first_parts.first_end.Goals as goal

pub loop-k-init : goal.loop-k-init
loop-k-init c =
    let x = c.args.string.now in
    let e = kat_tree c.args.term.now in
    record {
      within = omega arith;
      at = marks_begin x e c.args.from c.args.to;
      none = λ j le lt. absurd (omega arith);
    }

pub step-requires : goal.step-requires
step-requires c =
    let x : GuardedString = c.args.string.now in
    let e = kat_tree c.args.term.now in
    let shown : c.as_slice-moves.result.now ≡ x.rest = c.as_slice-moves.ensures ∙ ap (λ (s : GuardedString). s.rest) c.string.view_is in
    let within : c.loop-k.k ≤ length x.rest = omega (arith, ap length shown) in
    subst (λ a. HasTestsBelow (length a) e) (sym c.atom_at-atom.ensures) (c.requires c.loop-k.k within)

pub loop-k-preserved : goal.loop-k-preserved
loop-k-preserved c =
    let x : GuardedString = c.args.string.now in
    let e = kat_tree c.args.term.now in
    let k = c.loop-k.k in
    let m : Move = c.index-moves-k.result in
    let shown : c.as_slice-moves.result.now ≡ x.rest = c.as_slice-moves.ensures ∙ ap (λ (s : GuardedString). s.rest) c.string.view_is in
    let lt : k < length x.rest = omega (arith, ap length shown) in
    let is : m ≡ get_or x.rest k m = c.index-moves-k.is ∙ ap (λ (l : List Move). get_or l k m) shown in
    let named = ap (λ (n : Move). n.act) c.m.view_is in
    let ends = run_ends x e c.args.from c.args.to k (mark_tree c.loop-k.marks) _ c.in_ok-ends.ends _ c.is_between-begins.ensures c.atom_at-atom.ensures c.in_ok-ends.ensures.end c.loop-k.invariant.at in
    record {
      within = omega arith;
      at = run_more x e c.args.from c.args.to k m (mark_tree c.loop-k.marks) _ _ _ _ lt is c.is_between-begins.ensures c.atom_at-atom.ensures named c.in_ok-ends.ensures.marks c.loop-k.invariant.at;
      none = none_yet x e c.args.from c.args.to c.args.after k c.loop-k.invariant.none (no_late_end x e c.args.from c.args.to c.args.after k c.in_ok-ends.ends _ ends c.is_late.ensures c.if-is_late.false);
    }

pub returns-then-is_late : goal.returns-then-is_late
returns-then-is_late c =
    let x : GuardedString = c.args.string.now in
    let e = kat_tree c.args.term.now in
    let k = c.loop-k.k in
    let ends = run_ends x e c.args.from c.args.to k (mark_tree c.loop-k.marks) _ c.in_ok-ends.ends _ c.is_between-begins.ensures c.atom_at-atom.ensures c.in_ok-ends.ensures.end c.loop-k.invariant.at in
    let shown : c.as_slice-moves.result.now ≡ x.rest = c.as_slice-moves.ensures ∙ ap (λ (s : GuardedString). s.rest) c.string.view_is in
    let late = late_end x e c.args.from c.args.to c.args.after k c.in_ok-ends.ends _ ends c.is_late.ensures c.if-is_late.true in
    record { late = late.0; within = omega (arith, ap length shown); is = late.1; first = c.loop-k.invariant.none }

pub returns-then-is_late-2 : goal.returns-then-is_late-2
returns-then-is_late-2 c =
    let x : GuardedString = c.args.string.now in
    let e = kat_tree c.args.term.now in
    let from = c.args.from in
    let to = c.args.to in
    let after = c.args.after in
    let marks = mark_tree c.loop-k.marks in
    let last = length c.as_slice-moves.result.now in
    let shown : c.as_slice-moves.result.now ≡ x.rest = c.as_slice-moves.ensures ∙ ap (λ (s : GuardedString). s.rest) c.string.view_is in
    let ended : c.loop-k.k ≡ last = omega (arith, c.loop-k.invariant.within, c.loop-k-test.false) in
    let at = subst (λ n. AreMarksAt x e from to n marks) ended c.loop-k.invariant.at in
    let none = subst (λ n. (j : ℕ) → after ≤ j → j < n → ends_at x e from to j ≡ false) ended c.loop-k.invariant.none in
    let given = c.reach-is_reached.ensures in
    let ends = run_ends x e from to last marks _ c.reach-is_reached.result _ c.is_between-starts.ensures c.atom_at-final_atom.ensures given at in
    let late = late_end x e from to after last c.reach-is_reached.result _ ends c.is_late-2.ensures c.if-is_late-2.true in
    record { late = late.0; within = omega (arith, ap length shown); is = late.1; first = none }

pub returns : goal.returns
returns c =
    let x : GuardedString = c.args.string.now in
    let e = kat_tree c.args.term.now in
    let from = c.args.from in
    let to = c.args.to in
    let after = c.args.after in
    let marks = mark_tree c.loop-k.marks in
    let last = length c.as_slice-moves.result.now in
    let shown : c.as_slice-moves.result.now ≡ x.rest = c.as_slice-moves.ensures ∙ ap (λ (s : GuardedString). s.rest) c.string.view_is in
    let ended : c.loop-k.k ≡ last = omega (arith, c.loop-k.invariant.within, c.loop-k-test.false) in
    let at = subst (λ n. AreMarksAt x e from to n marks) ended c.loop-k.invariant.at in
    let none = subst (λ n. (j : ℕ) → after ≤ j → j < n → ends_at x e from to j ≡ false) ended c.loop-k.invariant.none in
    let given = c.reach-is_reached.ensures in
    let ends = run_ends x e from to last marks _ c.reach-is_reached.result _ c.is_between-starts.ensures c.atom_at-final_atom.ensures given at in
    no_end x e from to after last (ap length shown) none (no_late_end x e from to after last c.reach-is_reached.result _ ends c.is_late-2.ensures c.if-is_late-2.false)
