use Rattle.std.proofs.Common.{◌∙◌}
use Rattle.std.proofs.lemmas.Result.{IfOk-weaker}
use Rattle.test_diagrams.proofs.Kept.{KeepsFunctions-trans}
use Rattle.walk_pairs.proofs.TrueAtoms.{apart_somewhere}
use Rattle.walk_pairs.proofs.outputs.differing_atom.Goals as goal

pub true_atom-requires-clause-somewhere : goal.true_atom-requires-clause-somewhere
true_atom-requires-clause-somewhere c = apart_somewhere c.args.diagrams.now c.difference.new.diagrams c.args.a c.args.b c.in_ok-apart.apart c.in_ok-apart.ensures.kept c.requires.first c.requires.second c.in_ok-apart.ensures.function c.in_ok-apart.ensures.reduced c.requires.two

pub difference-requires-clause-first : goal.difference-requires-clause-first
difference-requires-clause-first c = c.requires.first

pub difference-requires-clause-second : goal.difference-requires-clause-second
difference-requires-clause-second c = c.requires.second

pub returns-in_err-apart-clause-kept : goal.returns-in_err-apart-clause-kept
returns-in_err-apart-clause-kept c = c.in_err-apart.ensures.kept

pub true_atom-requires-clause-id : goal.true_atom-requires-clause-id
true_atom-requires-clause-id c = c.in_ok-apart.ensures.function.in_range

pub returns-clause-kept : goal.returns-clause-kept
returns-clause-kept c = KeepsFunctions-trans _ _ _ c.in_ok-apart.ensures.kept c.true_atom.ensures.kept

pub returns-clause-fits : goal.returns-clause-fits
returns-clause-fits c = IfOk-weaker c.true_atom.result _ _ (λ v fits. fits ∙ c.in_ok-apart.ensures.kept.tests) c.true_atom.ensures.fits
