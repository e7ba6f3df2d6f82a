use Rattle.kat_model.proofs.Determined.{one_step_guarded, one_step_reached}
use Rattle.kat_model.proofs.SingleSets.{single_next}
use Rattle.kat_model.proofs.laws.guarded_has_one_step.Goals as goal

pub returns : goal.returns
returns c e g = record { own = one_step_guarded g; further = one_step_reached g; sets = single_next e (one_step_guarded g) (one_step_reached g) }
