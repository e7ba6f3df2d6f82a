use Rattle.std.proofs.Common.{◌≡◌, List, [], ◌∷◌, slice_get, Some, None, refl, sym, ap, ◌∙◌}
use Rattle.std.specs.Option.{option_copied}
use Rattle.std.proofs.lemmas.Bool.{true≢false}
use Rattle.std.proofs.lemmas.Result.{IfOk-weaker}
use Rattle.certificate.specs.PairParts.{PairParts}
use Rattle.cert_checker.specs.Passes.{PassParts}
use Rattle.cert_checker.proofs.FirstPairs.{sets_differ, other_left, other_right, begins_untested, begins_tested}
use Rattle.cert_checker.proofs.CertPairs.{test_in_tables}
use Rattle.kat_model.proofs.Places.{has_at}
use Rattle.cert_checker.proofs.first_pairs.begins.Goals as goal
use Rattle.cert_checker.proofs.first_pairs.begins.Goals.{then-ne-via-then-ne, then-ne-via-else-ne+then-ne-2}

pub holds_throughout-requires-clause-is_test : goal.holds_throughout-requires-clause-is_test
holds_throughout-requires-clause-is_test c =
    let p = c.args.pass.now in
    let r = c.in-Some.pair.now in
    let pairs = c.pairs.ensures.value ∙ ap (λ (z : PassParts). z.cert.pairs) c.pass.view_is in
    let at : slice_get p.cert.pairs 0 ≡ Some r = ap (λ (l : List PairParts). slice_get l 0) (sym pairs) ∙ sym c.first.ensures.value ∙ ap option_copied c.in-Some.is in
    let test : r.test ≡ Some c.in-Some-test.test = sym (ap (λ (z : PairParts). z.test) c.pair.view_is) ∙ c.in-Some-test.is in
    test_in_tables p c.requires r (has_at p.cert.pairs 0 r at) c.in-Some-test.test test

pub returns-then-ne-clause-begins : goal.returns-then-ne-clause-begins
returns-then-ne-clause-begins c =
    let p = c.args.pass.now in
    let r = c.in-Some.pair.now in
    let pairs = c.pairs.ensures.value ∙ ap (λ (z : PassParts). z.cert.pairs) c.pass.view_is in
    let at : slice_get p.cert.pairs 0 ≡ Some r = ap (λ (l : List PairParts). slice_get l 0) (sym pairs) ∙ sym c.first.ensures.value ∙ ap option_copied c.in-Some.is in
    let lefts : c.as_slice.result.now ≡ r.left = c.as_slice.ensures ∙ ap (λ (z : PairParts). z.left) c.pair.view_is in
    let left : c.as_slice-2.result.now ≡ p.left ∷ [] = c.as_slice-2.ensures ∙ ap (λ (z : PassParts). z.left ∷ []) c.pass.view_is in (
      (λ e. absurd (true≢false (sym e))),
      (λ b. elim c.then-ne.branch [
        | then-ne-via-then-ne w ↦ absurd (other_left p c.requires r at (λ s. (sets_differ _ _ _ c.ne.ensures).0 w.if-ne.true (lefts ∙ s ∙ sym left)) b)
        | then-ne-via-else-ne+then-ne-2 w ↦
            let rights : w.as_slice-else-ne.result.now ≡ r.right = w.as_slice-else-ne.ensures ∙ ap (λ (z : PairParts). z.right) c.pair.view_is in
            let right : w.as_slice-else-ne-2.result.now ≡ p.right ∷ [] = w.as_slice-else-ne-2.ensures ∙ ap (λ (z : PassParts). z.right ∷ []) c.pass.view_is in
            absurd (other_right p c.requires r at (λ s. (sets_differ _ _ _ w.ne-else-ne.ensures).0 w.if-ne-2.true (rights ∙ s ∙ sym right)) b)
      ]),
    )

pub returns-in-Some-test-clause-begins : goal.returns-in-Some-test-clause-begins
returns-in-Some-test-clause-begins c =
    let p = c.args.pass.now in
    let r = c.in-Some.pair.now in
    let pairs = c.pairs.ensures.value ∙ ap (λ (z : PassParts). z.cert.pairs) c.pass.view_is in
    let at : slice_get p.cert.pairs 0 ≡ Some r = ap (λ (l : List PairParts). slice_get l 0) (sym pairs) ∙ sym c.first.ensures.value ∙ ap option_copied c.in-Some.is in
    let test : r.test ≡ Some c.in-Some-test.test = sym (ap (λ (z : PairParts). z.test) c.pair.view_is) ∙ c.in-Some-test.is in
    let lefts : c.as_slice.result.now ≡ r.left = c.as_slice.ensures ∙ ap (λ (z : PairParts). z.left) c.pair.view_is in
    let left : c.as_slice-2.result.now ≡ p.left ∷ [] = c.as_slice-2.ensures ∙ ap (λ (z : PassParts). z.left ∷ []) c.pass.view_is in
    let rights : c.as_slice-else-ne.result.now ≡ r.right = c.as_slice-else-ne.ensures ∙ ap (λ (z : PairParts). z.right) c.pair.view_is in
    let right : c.as_slice-else-ne-2.result.now ≡ p.right ∷ [] = c.as_slice-else-ne-2.ensures ∙ ap (λ (z : PassParts). z.right ∷ []) c.pass.view_is in
    let left_same : r.left ≡ p.left ∷ [] = sym lefts ∙ (sets_differ _ _ _ c.ne.ensures).1 c.if-ne.false ∙ left in
    let right_same : r.right ≡ p.right ∷ [] = sym rights ∙ (sets_differ _ _ _ c.ne-else-ne.ensures).1 c.if-ne-2.false ∙ right in
    let given = begins_tested p c.requires r at left_same right_same c.in-Some-test.test test in
    IfOk-weaker c.holds_throughout.result _ _ (λ b h. ((λ e. given.0 (h.0 e)), (λ g. h.1 (given.1 g)))) c.holds_throughout.ensures.holds

pub returns-in-None-clause-begins : goal.returns-in-None-clause-begins
returns-in-None-clause-begins c =
    let p = c.args.pass.now in
    let r = c.in-Some.pair.now in
    let pairs = c.pairs.ensures.value ∙ ap (λ (z : PassParts). z.cert.pairs) c.pass.view_is in
    let at : slice_get p.cert.pairs 0 ≡ Some r = ap (λ (l : List PairParts). slice_get l 0) (sym pairs) ∙ sym c.first.ensures.value ∙ ap option_copied c.in-Some.is in
    let test : r.test ≡ None = sym (ap (λ (z : PairParts). z.test) c.pair.view_is) ∙ c.in-None.is in
    let lefts : c.as_slice.result.now ≡ r.left = c.as_slice.ensures ∙ ap (λ (z : PairParts). z.left) c.pair.view_is in
    let left : c.as_slice-2.result.now ≡ p.left ∷ [] = c.as_slice-2.ensures ∙ ap (λ (z : PassParts). z.left ∷ []) c.pass.view_is in
    let rights : c.as_slice-else-ne.result.now ≡ r.right = c.as_slice-else-ne.ensures ∙ ap (λ (z : PairParts). z.right) c.pair.view_is in
    let right : c.as_slice-else-ne-2.result.now ≡ p.right ∷ [] = c.as_slice-else-ne-2.ensures ∙ ap (λ (z : PassParts). z.right ∷ []) c.pass.view_is in
    let left_same : r.left ≡ p.left ∷ [] = sym lefts ∙ (sets_differ _ _ _ c.ne.ensures).1 c.if-ne.false ∙ left in
    let right_same : r.right ≡ p.right ∷ [] = sym rights ∙ (sets_differ _ _ _ c.ne-else-ne.ensures).1 c.if-ne-2.false ∙ right in
    ((λ e. begins_untested p c.requires r at left_same right_same test), (λ b. refl))
