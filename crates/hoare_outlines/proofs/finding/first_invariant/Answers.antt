use Rattle.std.proofs.Common.{Option, IfSome, subst}
use Rattle.std.proofs.lemmas.Result.{IfOk-weaker}
use Rattle.hoare_outlines.specs.declared.finding.FoundLoop.{FoundLoop}
use Rattle.hoare_outlines.specs.Working.FoundLoops.{HasLoopIds, IsFoundLoop}
use Rattle.hoare_outlines.proofs.LoopSteps.{starts_itself, starts_kept, starts_found}
use Rattle.hoare_outlines.proofs.finding.first_invariant.Goals as goal

pub entails-requires-clause-first : goal.entails-requires-clause-first
entails-requires-clause-first c = (subst (λ (e : Option FoundLoop). IfSome e (HasLoopIds c.args.diagrams.now)) c.in-Some.is c.requires.earlier).0

pub or-requires-clause-left : goal.or-requires-clause-left
or-requires-clause-left c =
    let ids = subst (λ (e : Option FoundLoop). IfSome e (HasLoopIds c.args.diagrams.now)) c.in-Some.is c.requires.earlier in
    c.in_ok-entails.ensures.kept.functions.ids c.in-Some.found.invariant ids.1

pub returns-in_default-clause-starts : goal.returns-in_default-clause-starts
returns-in_default-clause-starts c q turn tests is = starts_itself q turn c.args.diagrams.now c.args.set

pub returns-then-not-branch-clause-starts : goal.returns-then-not-branch-clause-starts
returns-then-not-branch-clause-starts c q turn tests is = starts_kept q turn c.args.diagrams.now c.entails.new.self c.args.set c.in_ok-entails.ensures.kept

pub returns-clause-starts : goal.returns-clause-starts
returns-clause-starts c =
    let d = c.args.diagrams.now in
    IfOk-weaker c.or.result _ _
    (λ start is_start q turn tests is.
    starts_found q turn d c.entails.new.self c.or.new.self c.in-Some.found c.args.set start c.in_ok-entails.ensures.kept c.or.ensures.kept tests (c.in_ok-entails.ensures.entails.0 c.if-not-branch.false) is_start
    (subst (λ (e : Option FoundLoop). IfSome e (IsFoundLoop q d turn)) c.in-Some.is is))
    c.or.ensures.function
