use Rattle.std.proofs.Common.{rules, ◌≡◌, ℕ, None, replicate, ap, ◌∙◌, subst}
use Rattle.std.proofs.lemmas.Result.{on_ok_weaker}
use Rattle.walk_up_to.specs.Working.IdWalks.{Visits, PassesLimit}
use Rattle.walk_up_to.proofs.Splits.{whole_case}
use Rattle.walk_up_to.proofs.branching.visit_all.Goals as goal

pub visit-requires : goal.visit-requires
visit-requires c =
    let all : c.in_ok-decided.decided.items ≡ replicate c.args.diagrams.now.tests None = c.in_ok-decided.ensures.items_if_clones_equal (λ y e. search rules) ∙ ap (λ (n : ℕ). replicate n None) c.tests.ensures.tests in
    record { case = whole_case c.args.diagrams.now c.in_ok-decided.decided.items c.args.items.items all c.requires.items }

pub returns-clause-visited : goal.returns-clause-visited
returns-clause-visited c =
    let all : c.in_ok-decided.decided.items ≡ replicate c.args.diagrams.now.tests None = c.in_ok-decided.ensures.items_if_clones_equal (λ y e. search rules) ∙ ap (λ (n : ℕ). replicate n None) c.tests.ensures.tests in
    on_ok_weaker c.visit.result
    (λ visited. subst (λ ds. Visits c.args.diagrams.now c.args.source.now ds c.args.items.items c.args.listed.now c.visit.new.listed) all visited)
    c.visit.ensures.visited

pub returns-clause-full : goal.returns-clause-full
returns-clause-full c = λ is.
    let all : c.in_ok-decided.decided.items ≡ replicate c.args.diagrams.now.tests None = c.in_ok-decided.ensures.items_if_clones_equal (λ y e. search rules) ∙ ap (λ (n : ℕ). replicate n None) c.tests.ensures.tests in
    subst (λ ds. PassesLimit c.args.diagrams.now c.args.source.now ds c.args.items.items c.args.listed.now) all (c.visit.ensures.full is)
