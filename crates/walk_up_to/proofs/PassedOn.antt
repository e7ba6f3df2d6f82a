-- The stop that `?` propagates.
use Rattle.std.proofs.Common.{◌≡◌, Result, Ok, Err, IsErrAnd, sym, ◌∙◌}
use Rattle.walk_up_to.specs.declared.stop.EarlyStop.{EarlyStop}
use Rattle.walk_up_to.specs.declared.stop.EarlyStop.TheVariants.{NoMemory as NoRoom, PairLimit, CostLimit}

pub passed_on : {T : Type 0} (r : Result T EarlyStop) (stop : EarlyStop) → IsErrAnd r (λ h. h ≡ stop) → r ≡ Err PairLimit → stop ≡ PairLimit
passed_on (Ok x) stop same is = absurd same
passed_on (Err h) stop same is = let other : h ≡ PairLimit = cc in sym same ∙ other

pub passed_cost : {T : Type 0} (r : Result T EarlyStop) (stop : EarlyStop) → IsErrAnd r (λ h. h ≡ stop) → r ≡ Err CostLimit → stop ≡ CostLimit
passed_cost (Ok v) stop same is = absurd cc
passed_cost (Err h) stop same is = let other : h ≡ CostLimit = cc in sym same ∙ other

-- a result that is `Ok` is not a stop
pub not_stopped : {T E : Type 0} (x : T) (e : E) → Ok x ≡ Err e → ⊥
not_stopped x e is = absurd cc

-- a stop is at one limit only
pub one_limit : {T : Type 0} (r : Result T EarlyStop) → r ≡ Err PairLimit → r ≡ Err CostLimit → ⊥
one_limit r full costly = cc

-- a stop for lack of memory is at no limit
pub no_room_full : {T : Type 0} (r : Result T EarlyStop) → IsErrAnd r (λ h. h ≡ NoRoom) → r ≡ Err PairLimit → ⊥
no_room_full r stopped is = let same : NoRoom ≡ PairLimit = passed_on r NoRoom stopped is in cc

pub no_room_cost : {T : Type 0} (r : Result T EarlyStop) → IsErrAnd r (λ h. h ≡ NoRoom) → r ≡ Err CostLimit → ⊥
no_room_cost r stopped is = let same : NoRoom ≡ CostLimit = passed_cost r NoRoom stopped is in cc
