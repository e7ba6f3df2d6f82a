use Rattle.std.proofs.Common.{inl, inr, ⊎_elim, refl, sym, ◌∙◌}
use Rattle.std.proofs.lemmas.Bool.{false≢true}
use Rattle.std.proofs.lemmas.Result.{IfOk-weaker}
use Rattle.cert_checker.specs.Working.Rounds.{counting_in}
use Rattle.cert_checker.proofs.Coverage.{covered_listed}
use Rattle.cert_checker.proofs.matching.are_covered.Goals as goal

pub returns-then-are_listed : goal.returns-then-are_listed
returns-then-are_listed c =
    let counted = c.args.counted.now in
    ((λ _. covered_listed (counting_in counted) counted.action_pass.now.universal c.args.sides.now (sym c.are_listed.ensures ∙ c.if-are_listed.true) c.requires.left c.requires.right), (λ _. refl))

pub returns-then-joined : goal.returns-then-joined
returns-then-joined c = ((λ _. inl (c.in_ok-joined.ensures.0 c.if-joined.true)), (λ _. refl))

pub returns : goal.returns
returns c =
    IfOk-weaker c.reach_universal.result _ _
    (λ b given. ((λ e. inr (given.0 e)), (λ h. ⊎_elim (λ m. absurd (false≢true (sym c.if-joined.false ∙ c.in_ok-joined.ensures.1 m))) given.1 h)))
    c.reach_universal.ensures
