use Rattle.kat_model.proofs.AllowedPaths.{kept_allowed, allowed_keeps}
use Rattle.kat_model.proofs.laws.short_are_kept.Goals as goal

pub returns : goal.returns
returns c t shorts are_short = (kept_allowed t shorts, λ allowed. allowed_keeps t shorts allowed are_short)
