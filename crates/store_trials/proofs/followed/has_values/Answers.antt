use Rattle.std.proofs.Common.{inl, inr, sym}
use Rattle.kat_model.specs.Stores.{modulus}
use Rattle.store_trials.proofs.TestValues.{unlike_lengths, value_fails, value_kept, lengths_kept, no_test_left, no_value_left}
use Rattle.store_trials.proofs.followed.has_values.Goals as goal

pub returns-then-rows-atom : goal.returns-then-rows-atom
returns-then-rows-atom c = sym (unlike_lengths (modulus c.args.width) c.args.store.now c.args.rows.now c.args.atom.now c.if-rows-atom.true)

pub returns-then-not-has_value : goal.returns-then-not-has_value
returns-then-not-has_value c =
    value_fails (modulus c.args.width) c.args.store.now c.loop-row.row-iterator.a.rest.now c.next.new.self.a.rest.now c.in-Some.row.now
    c.loop-row.row-iterator.b.rest.now c.next.new.self.b.rest.now c.in-Some.truth.now _ c.has_value.result
    c.in-Some.ensures.steps.0 c.in-Some.ensures.steps.1 c.has_value.ensures c.loop-row.invariant.rest c.if-not-has_value.true

pub loop-row-preserved : goal.loop-row-preserved
loop-row-preserved c = record {
  lengths =
      lengths_kept (modulus c.args.width) c.args.store.now c.loop-row.row-iterator.a.rest.now c.next.new.self.a.rest.now c.in-Some.row.now
      c.loop-row.row-iterator.b.rest.now c.next.new.self.b.rest.now c.in-Some.truth.now _ c.has_value.result
      c.in-Some.ensures.steps.0 c.in-Some.ensures.steps.1 c.has_value.ensures c.loop-row.invariant.rest c.loop-row.invariant.lengths;
  rest =
      value_kept (modulus c.args.width) c.args.store.now c.loop-row.row-iterator.a.rest.now c.next.new.self.a.rest.now c.in-Some.row.now
      c.loop-row.row-iterator.b.rest.now c.next.new.self.b.rest.now c.in-Some.truth.now _ c.has_value.result
      c.in-Some.ensures.steps.0 c.in-Some.ensures.steps.1 c.has_value.ensures c.loop-row.invariant.rest c.if-not-has_value.false;
}

pub returns : goal.returns
returns c =
    elim c.in-None.ensures.steps [
      | inl none ↦ no_test_left (modulus c.args.width) c.args.store.now c.loop-row.row-iterator.a.rest.now c.loop-row.row-iterator.b.rest.now _ none.1.0 c.loop-row.invariant.lengths c.loop-row.invariant.rest
      | inr none ↦ no_value_left (modulus c.args.width) c.args.store.now c.loop-row.row-iterator.a.rest.now c.loop-row.row-iterator.b.rest.now _ none.1.0 c.loop-row.invariant.lengths c.loop-row.invariant.rest
    ]
