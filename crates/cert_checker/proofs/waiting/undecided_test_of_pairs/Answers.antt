use Rattle.std.proofs.Common.{ℕ, ◌≡◌, ◌+◌, List, Option, length, take, refl, sym, ap, ◌∙◌, subst}
use Rattle.std.specs.Option.{MatchOption}
use Rattle.std.proofs.lemmas.Option.{slice_get_read}
use Rattle.kat_model.specs.Members.{Has}
use Rattle.kat_model.proofs.Places.{has_at}
use Rattle.certificate.specs.PairParts.{PairParts}
use Rattle.cert_checker.specs.declared.known.Truth.{Truth}
use Rattle.cert_checker.specs.Cases.{known_test}
use Rattle.cert_checker.specs.Questions.{ActionPassParts, QuestionParts}
use Rattle.cert_checker.specs.Waiting.{IsWaited}
use Rattle.cert_checker.specs.Waiting.{AreTestsSettled}
use Rattle.cert_checker.proofs.NextTests.{pair_waits, pairs_more}
use Rattle.cert_checker.proofs.waiting.undecided_test_of_pairs.Goals as goal
use Rattle.cert_checker.proofs.waiting.undecided_test_of_pairs.Goals.{in-Undecided+else-has_surely_all, in_default}

pub returns-then-has_surely_all-2 : goal.returns-then-has_surely_all-2
returns-then-has_surely_all-2 c =
    let q = c.args.question.now in
    let end : List Truth = c.args.case.now.end.items in
    let p : PairParts = c.pair-item.result in
    let ps : List PairParts = c.action_pass.inside.pairs.now in
    let same : ps ≡ q.action_pass.pairs = ap (λ (t : ActionPassParts). t.pairs) c.action_pass.view_is ∙ ap (λ (q : QuestionParts). q.action_pass.pairs) c.question.view_is in
    let here : Has ps p = has_at ps c.loop-pair.pair-index p (slice_get_read ps (length ps) c.loop-pair.pair-index p refl c.loop-pair-test.true c.pair-item.is) in
    let value : c.test_value.result ≡ known_test end p.test = c.test_value.ensures ∙ ap (λ (l : List Truth). known_test l c.pair.inside.test) c.deref.ensures.value ∙ ap (λ (z : PairParts). known_test end z.test) c.pair.view_is in
    pair_waits q c.args.case.now p (subst (λ (l : List PairParts). Has l p) same here) c.in-Undecided.test (sym value ∙ c.in-Undecided.is)

pub loop-pair-preserved : goal.loop-pair-preserved
loop-pair-preserved c =
    let q = c.args.question.now in
    let end : List Truth = c.args.case.now.end.items in
    let p : PairParts = c.pair-item.result in
    let ps : List PairParts = c.action_pass.inside.pairs.now in
    let same : ps ≡ q.action_pass.pairs = ap (λ (t : ActionPassParts). t.pairs) c.action_pass.view_is ∙ ap (λ (q : QuestionParts). q.action_pass.pairs) c.question.view_is in
    let i = c.loop-pair.pair-index in
    let waited : ℕ → Type 0 = IsWaited q c.args.case.now in
    let value : c.test_value.result ≡ known_test end p.test = c.test_value.ensures ∙ ap (λ (l : List Truth). known_test l c.pair.inside.test) c.deref.ensures.value ∙ ap (λ (z : PairParts). known_test end z.test) c.pair.view_is in
    let before : MatchOption c.loop-pair.waiting (AreTestsSettled end (take i ps)) waited = subst (λ (l : List PairParts). MatchOption c.loop-pair.waiting (AreTestsSettled end (take i l)) waited) (sym same) c.loop-pair.invariant in
    subst (λ (l : List PairParts). MatchOption c.match-test_value.waiting (AreTestsSettled end (take (i + 1) l)) waited) same
    (elim c.match-test_value.branch [
      | in-Undecided+else-has_surely_all w ↦
          let here : Has ps p = has_at ps i p (slice_get_read ps (length ps) i p refl c.loop-pair-test.true c.pair-item.is) in
          subst (λ (o : Option ℕ). MatchOption o (AreTestsSettled end (take (i + 1) ps)) waited) (sym w.waiting-is) (pair_waits q c.args.case.now p (subst (λ (l : List PairParts). Has l p) same here) w.in-Undecided.test (sym value ∙ w.in-Undecided.is))
      | in_default w ↦
          subst (λ (o : Option ℕ). MatchOption o (AreTestsSettled end (take (i + 1) ps)) waited) (sym w.waiting-is)
          (pairs_more end ps i p c.loop-pair.waiting waited c.loop-pair-test.true c.pair-item.is (w.in_default.field-0, sym value ∙ w.in_default.is) before)
    ])
