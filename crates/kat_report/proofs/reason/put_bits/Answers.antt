use Rattle.std.proofs.Common.{◌≡◌, ◌++◌, ◌∷◌, [], ℕ, false, ap, ◌∙◌, subst}
use Rattle.std.proofs.lemmas.List.{take_all}
use Rattle.certificate.specs.Texts.{atom_bits}
use Rattle.certificate.proofs.Lines.{more_bits}
use Rattle.kat_report.proofs.reason.put_bits.Goals as goal

pub loop-value-preserved : goal.loop-value-preserved
loop-value-preserved c =
    more_bits c.args.out.now.items c.loop-value.out.items c.push.new.self.items c.args.atom.now c.loop-value.value-index false c.loop-value-test.true c.loop-value.invariant
    (subst (λ (b : ℕ). c.push.new.self.items ≡ c.loop-value.out.items ++ b ∷ []) c.bit.ensures c.in_ok-push.ensures.items)

pub returns : goal.returns
returns c = c.loop-value.invariant ∙ ap (λ l. c.args.out.now.items ++ atom_bits l) (take_all c.loop-value.value-index c.args.atom.now c.loop-value-test.false)
