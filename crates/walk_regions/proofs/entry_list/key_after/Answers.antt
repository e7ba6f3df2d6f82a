use Rattle.std.proofs.Common.{◌≡◌, ◌+◌, ◌*◌, ◌%◌, ℕ, suc, List, ◌∷◌, drop, sym, ap, ◌∙◌, subst, arith}
use Rattle.std.proofs.Math.Seq.{drop-cons}
use Rattle.std.proofs.lemmas.List.{drop_all}
use Rattle.walk_regions.specs.Filing.{key_from}
use Rattle.walk_regions.proofs.entry_list.key_after.Goals as goal

pub loop-id-preserved : goal.loop-id-preserved
loop-id-preserved c =
    let ids : List ℕ = c.args.ids.now in
    let k = c.loop-id.id-index in
    let x : ℕ = c.id-item.result in
    let before = c.loop-id.invariant in
    let more : suc k ≡ k + 1 = omega arith in
    let cut : drop k ids ≡ x ∷ drop (k + 1) ids = subst (λ n. drop k ids ≡ x ∷ drop n ids) more (subst (λ y. drop k ids ≡ y ∷ drop (suc k) ids) (sym c.id-item.is) (drop-cons ids k x c.loop-id-test.true)) in
    record {
      below = omega arith;
      rest = subst (λ n. key_from ((c.loop-id.key * 31 + n % 4096) % 4096) (drop (k + 1) ids) ≡ key_from c.args.start ids) (sym c.number.ensures) (ap (key_from c.loop-id.key) (sym cut) ∙ before.rest);
    }

pub returns-clause-key : goal.returns-clause-key
returns-clause-key c = ap (key_from c.loop-id.key) (sym (drop_all c.loop-id.id-index c.args.ids.now c.loop-id-test.false)) ∙ c.loop-id.invariant.rest
