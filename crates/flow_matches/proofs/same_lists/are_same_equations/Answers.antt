use Rattle.std.proofs.Common.{inl, inr, sym}
use Rattle.flow_pieces.specs.Exits.{is_same_equation}
use Rattle.flow_model.specs.Matches.{equation_of}
use Rattle.flow_matches.proofs.SameLists.{unlike_lengths, item_differs, item_same, lengths_kept, none_left, none_right}
use Rattle.flow_matches.proofs.same_lists.are_same_equations.Goals as goal

pub returns-then-left-right : goal.returns-then-left-right
returns-then-left-right c = sym (unlike_lengths is_same_equation equation_of c.args.left.now c.args.right.now c.if-left-right.true)

pub returns-then-not-is_same_equation : goal.returns-then-not-is_same_equation
returns-then-not-is_same_equation c =
    item_differs is_same_equation equation_of c.loop-one.one-iterator.a.rest.now c.next.new.self.a.rest.now c.in-Some.one.now
    c.loop-one.one-iterator.b.rest.now c.next.new.self.b.rest.now c.in-Some.other.now _ c.is_same_equation.result
    c.in-Some.ensures.steps.0 c.in-Some.ensures.steps.1 c.is_same_equation.ensures c.loop-one.invariant.rest c.if-not-is_same_equation.true

pub loop-one-preserved : goal.loop-one-preserved
loop-one-preserved c = record {
  lengths =
      lengths_kept is_same_equation equation_of c.loop-one.one-iterator.a.rest.now c.next.new.self.a.rest.now c.in-Some.one.now
      c.loop-one.one-iterator.b.rest.now c.next.new.self.b.rest.now c.in-Some.other.now _ c.is_same_equation.result
      c.in-Some.ensures.steps.0 c.in-Some.ensures.steps.1 c.is_same_equation.ensures c.loop-one.invariant.rest c.loop-one.invariant.lengths;
  rest =
      item_same is_same_equation equation_of c.loop-one.one-iterator.a.rest.now c.next.new.self.a.rest.now c.in-Some.one.now
      c.loop-one.one-iterator.b.rest.now c.next.new.self.b.rest.now c.in-Some.other.now _ c.is_same_equation.result
      c.in-Some.ensures.steps.0 c.in-Some.ensures.steps.1 c.is_same_equation.ensures c.loop-one.invariant.rest c.if-not-is_same_equation.false;
}

pub returns : goal.returns
returns c =
    elim c.in-None.ensures.steps [
      | inl none ↦ none_left is_same_equation equation_of c.loop-one.one-iterator.a.rest.now c.loop-one.one-iterator.b.rest.now _ none.1.0 c.loop-one.invariant.lengths c.loop-one.invariant.rest
      | inr none ↦ none_right is_same_equation equation_of c.loop-one.one-iterator.a.rest.now c.loop-one.one-iterator.b.rest.now _ none.1.0 c.loop-one.invariant.lengths c.loop-one.invariant.rest
    ]
