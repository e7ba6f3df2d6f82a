use Rattle.std.proofs.Common.{ℕ, List, Some, length, slice_get, sym, ap, ◌∙◌, subst, arith}
use Rattle.std.proofs.lemmas.Option.{same_Some}
use Rattle.std.specs.Prelude.{◌≡◌, [], slice_index_or}
use Rattle.kat_model.specs.Members.{Has}
use Rattle.walk_up_to.specs.declared.pair.PairSide.{PairSide}
use Rattle.walk_up_to.specs.Marks.{IsClosedAt, IsMore, MarkSetParts}
use Rattle.walk_up_to.proofs.Closures.{made_itself, made_then, more_itself, more_then, all_next, at_read}
use Rattle.walk_up_to.proofs.saturation.add_under_first.Goals as goal

pub loop-index-init : goal.loop-index-init
loop-index-init c = record {
  made = made_itself c.args.listed.now.pairs c.args.marked.now.marks;
  closed = λ f j h. absurd (omega (arith, h));
  more = more_itself c.args.marked.now;
}

pub loop-index-preserved : goal.loop-index-preserved
loop-index-preserved c =
    let now = c.loop-index.invariant in
    let given = c.in_ok-is_new.ensures in
    let terms : List ℕ = c.args.marked.now.terms in
    let i = c.loop-index.index in
    let term : ℕ = c.index-terms-index.result in
    let read : slice_get c.terms.result.now i ≡ Some term = at_read c.terms.result.now i term (omega (arith, c.loop-index-test.true, c.requires, now.more.longer, ap length c.terms.ensures.value)) c.index-terms-index.is in
    record {
      made = made_then c.args.listed.now.pairs c.args.marked.now.marks c.loop-index.marked.marks c.add_under.new.marked.marks now.made given.made;
      closed = all_next (λ s j. (t : ℕ) → slice_get terms j ≡ Some t → (k : PairSide) → Has (slice_index_or c.args.listed.now.index.under t []) k → IsClosedAt c.args.listed.now.pairs s.marks k) c.loop-index.marked c.add_under.new.marked i c.loop-index.grew c.in_ok-is_new.is_new c.either-grew.result c.either-grew.ensures given.more now.closed
          (λ unchanged f t at k h.
          let first : slice_get terms i ≡ Some term = subst (λ (s : MarkSetParts). slice_get s.terms i ≡ Some term) (now.more.same unchanged) (subst (λ ts. slice_get ts i ≡ Some term) c.terms.ensures.value read) in
          given.closed f k (subst (λ u. Has (slice_index_or c.args.listed.now.index.under u []) k) (same_Some t term (sym at ∙ first)) h));
      more = subst (IsMore c.args.marked.now c.add_under.new.marked) (sym c.either-grew.ensures) (more_then c.args.marked.now c.loop-index.marked c.add_under.new.marked c.loop-index.grew c.in_ok-is_new.is_new now.more given.more);
    }
