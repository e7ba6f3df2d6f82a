use Rattle.std.proofs.Common.{◌≡◌, ◌++◌, ◌∷◌, [], false, sym, ◌∙◌, subst, ℕ}
use Rattle.certificate.proofs.Lines.{more_bits, bits_written}
use Rattle.certificate.proofs.writing.put_bits.Goals as goal

pub loop-value-preserved : goal.loop-value-preserved
loop-value-preserved c =
    more_bits c.push.new.self.items c.loop-value.out.items c.push-in-loop-value.new.self.items c.args.atom.now c.loop-value.value-index false c.loop-value-test.true c.loop-value.invariant
    (subst (λ (b : ℕ). c.push-in-loop-value.new.self.items ≡ c.loop-value.out.items ++ b ∷ []) c.bit.ensures c.in_ok-push-2.ensures.items)

pub returns : goal.returns
returns c =
    bits_written c.args.out.now.items c.push.new.self.items c.loop-value.out.items c.args.atom.now c.loop-value.value-index (sym c.is_empty.ensures ∙ c.if-is_empty.false) c.loop-value-test.false c.in_ok-push.ensures.items c.loop-value.invariant
