use Rattle.std.proofs.Common.{◌≡◌, sym, ◌∙◌, eqb-true, eq-eqb}
use Rattle.outline_rules.proofs.StepSets.{IsStepId-kept, KeepsSteps-trans}
use Rattle.outline_rules.proofs.Compositions.{never_entails, entails_never}
use Rattle.outline_rules.proofs.steps.StepDiagrams.entails.Goals as goal

pub and-requires-clause-left : goal.and-requires-clause-left
and-requires-clause-left c = IsStepId-kept _ _ c.in_ok-outside.ensures.kept _ c.requires.first

pub returns-in_err-broken-clause-kept : goal.returns-in_err-broken-clause-kept
returns-in_err-broken-clause-kept c = KeepsSteps-trans _ _ _ c.in_ok-outside.ensures.kept c.in_err-broken.ensures.kept

pub returns-clause-kept : goal.returns-clause-kept
returns-clause-kept c = KeepsSteps-trans _ _ _ c.in_ok-outside.ensures.kept c.in_ok-broken.ensures.kept

pub returns-clause-entails : goal.returns-clause-entails
returns-clause-entails c =
    let ids = c.equal_ids_are_equal_functions.ensures c.and.new.self.diagrams c.and.ensures.sound.reduced in (
      (λ h. never_entails c.args.self.now c.not.new.self c.and.new.self c.args.a c.args.b c.in_ok-outside.outside c.in_ok-broken.broken c.constant.result
          c.not.ensures.kept c.and.ensures.kept c.requires.first c.requires.second c.in_ok-outside.ensures.function c.in_ok-broken.ensures.function c.constant.ensures.function c.and.ensures.sound ids
          (eqb-true _ _ (sym c.eq.ensures ∙ h))),
      (λ en. c.eq.ensures ∙ eq-eqb _ _ (entails_never c.args.self.now c.not.new.self c.and.new.self c.args.a c.args.b c.in_ok-outside.outside c.in_ok-broken.broken c.constant.result
          c.not.ensures.kept c.and.ensures.kept c.requires.first c.requires.second c.in_ok-outside.ensures.function c.in_ok-broken.ensures.function c.constant.ensures.function c.and.ensures.sound ids en)),
    )
