use Rattle.std.proofs.Common.{◌≡◌, ◌+◌, List, ⊎_elim, refl, sym, ap, ◌∙◌, subst}
use Rattle.std.proofs.lemmas.Bool.{both_ways, false≢true}
use Rattle.kat_model.specs.Trees.{Term, kat_tree}
use Rattle.kat_model.specs.Steps.{Atom, out}
use Rattle.kat_model.specs.Strings.{Move, GuardedString}
use Rattle.goal_forms.specs.Broken.{IsBrokenBy}
use Rattle.goal_forms.proofs.FewerHypotheses.{first_breaks}
use Rattle.walk_under.proofs.BrokenStrings.{IsRest, rest_start, broken_here, broken_after, rest_next, rest_end, unbroken_on}
use Rattle.walk_under.proofs.counting.is_broken_by.Goals as goal

pub returns-then-starts : goal.returns-then-starts
returns-then-starts c =
    let h : Term = kat_tree c.args.hyp.now in
    let x : GuardedString = c.args.string.now in
    let first : c.as_slice-from.result.now ≡ x.first = c.as_slice-from.ensures ∙ ap (λ (y : GuardedString). y.first) c.string.view_is in
    ((λ t. first_breaks h x.first x.rest (ap (out h) (sym first) ∙ sym c.accepts_atom-starts.ensures ∙ c.if-starts.true)), (λ b. refl))

pub loop-m-init : goal.loop-m-init
loop-m-init c =
    let h : Term = kat_tree c.args.hyp.now in
    let x : GuardedString = c.args.string.now in
    let ms : List Move = c.as_slice-m-items.result.now in
    let first : c.as_slice-from.result.now ≡ x.first = c.as_slice-from.ensures ∙ ap (λ (y : GuardedString). y.first) c.string.view_is in
    record {
      rest = subst (λ (a : Atom). IsRest h x.first ms a 0) (sym first) (rest_start h x.first ms);
      refused = sym c.accepts_atom-starts.ensures ∙ c.if-starts.false;
    }

pub returns-then-breaks : goal.returns-then-breaks
returns-then-breaks c =
    let h : Term = kat_tree c.args.hyp.now in
    let x : GuardedString = c.args.string.now in
    let ms : List Move = c.as_slice-m-items.result.now in
    let from : Atom = c.loop-m.from.now in
    let k = c.loop-m.m-index in
    let m : Move = c.m-item.result in
    let inv = c.loop-m.invariant in
    let rest : ms ≡ x.rest = c.as_slice-m-items.ensures ∙ ap (λ (y : GuardedString). y.rest) c.string.view_is in
    let broken : IsBrokenBy h x.first ms =
    ⊎_elim
    (broken_here h x.first ms from k m c.loop-m-test.true c.m-item.is inv.rest)
    (broken_after h x.first ms from k m c.loop-m-test.true c.m-item.is inv.rest)
    (c.is_broken_on-breaks.ensures.0 c.if-breaks.true) in
    ((λ t. subst (IsBrokenBy h x.first) rest broken), (λ b. refl))

pub loop-m-preserved : goal.loop-m-preserved
loop-m-preserved c =
    let h : Term = kat_tree c.args.hyp.now in
    let x : GuardedString = c.args.string.now in
    let ms : List Move = c.as_slice-m-items.result.now in
    let from : Atom = c.loop-m.from.now in
    let k = c.loop-m.m-index in
    let m : Move = c.m-item.result in
    let inv = c.loop-m.invariant in
    let none = unbroken_on h from m (λ b. both_ways c.is_broken_on-breaks.result c.if-breaks.false (c.is_broken_on-breaks.ensures.1 b)) in
    let to : c.atom_after-from.result.now ≡ m.atom = c.atom_after-from.ensures in
    record {
      rest = subst (λ (a : Atom). IsRest h x.first ms a (k + 1)) (sym to) (rest_next h x.first ms from k m c.loop-m-test.true c.m-item.is inv.rest inv.refused none.0);
      refused = ap (out h) to ∙ none.1;
    }

pub returns : goal.returns
returns c =
    let h : Term = kat_tree c.args.hyp.now in
    let x : GuardedString = c.args.string.now in
    let ms : List Move = c.as_slice-m-items.result.now in
    let inv = c.loop-m.invariant in
    let rest : ms ≡ x.rest = c.as_slice-m-items.ensures ∙ ap (λ (y : GuardedString). y.rest) c.string.view_is in
    ((λ t. absurd (false≢true t)), (λ b. absurd (rest_end h x.first ms c.loop-m.from.now c.loop-m.m-index inv.rest inv.refused c.loop-m-test.false (subst (IsBrokenBy h x.first) (sym rest) b))))
