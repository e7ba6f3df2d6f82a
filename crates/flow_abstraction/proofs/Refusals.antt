-- What the exit of a `?` returns.
use Rattle.std.proofs.Common.{◌≡◌, Result, IfErr, sym, subst}
use Rattle.std.specs.Result.{IsErrAnd}
use Rattle.std.proofs.lemmas.Result.{err_from_is_err_and}

-- a fault of a part, as the fault that it is made into
pub refused_as : {T E : Type 0} (P : E → Type 0) (fault : E) (r : Result T E) → IsErrAnd r (λ e. e ≡ fault) → P fault → IfErr r P
refused_as P fault r h p =
    let made = err_from_is_err_and r h in
    subst (λ s. IfErr s P) (sym made.1) (subst P (sym made.2) p)
