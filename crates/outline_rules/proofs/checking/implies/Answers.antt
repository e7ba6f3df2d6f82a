use Rattle.outline_rules.proofs.StepSets.{IsStepId-kept, KeepsSteps-trans}
use Rattle.outline_rules.proofs.Entailments.{given_same, under_entails}
use Rattle.outline_rules.proofs.checking.implies.Goals as goal

pub and-requires-2-clause-left : goal.and-requires-2-clause-left
and-requires-2-clause-left c = IsStepId-kept _ _ c.in_ok-both.ensures.kept _ c.requires.allowed

pub entails-requires-clause-second : goal.entails-requires-clause-second
entails-requires-clause-second c = IsStepId-kept _ _ (KeepsSteps-trans _ _ _ c.in_ok-both.ensures.kept c.in_ok-there.ensures.kept) _ c.requires.to

pub returns-in_err-there-clause-kept : goal.returns-in_err-there-clause-kept
returns-in_err-there-clause-kept c = KeepsSteps-trans _ _ _ c.in_ok-both.ensures.kept c.in_err-there.ensures.kept

pub returns-clause-kept : goal.returns-clause-kept
returns-clause-kept c = KeepsSteps-trans _ _ _ c.in_ok-both.ensures.kept (KeepsSteps-trans _ _ _ c.in_ok-there.ensures.kept c.entails.ensures.kept)

pub returns-clause-implies : goal.returns-clause-implies
returns-clause-implies c =
    given_same c.entails.result c.entails.ensures.entails
    (under_entails c.args.diagrams.now c.and.new.self c.and-2.new.self c.args.allowed c.args.from c.args.guard c.args.to c.in_ok-both.both c.in_ok-there.there
    c.in_ok-both.ensures.kept c.in_ok-there.ensures.kept c.requires.allowed c.requires.to c.in_ok-both.ensures.function c.in_ok-there.ensures.function)
