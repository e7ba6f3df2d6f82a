-- The bytes read from a shelf, and the bytes that a file may contain if its content is known.
use Rattle.std.proofs.Common.{◌≡◌, ◌<◌, ℕ, suc, List, length, replicate, Option, None, Some, Ok, Err, Vec, refl, sym, subst, arith}
use Rattle.std.proofs.lemmas.Bool.{false≢true}
use Rattle.std.proofs.lemmas.List.{length-replicate}
use Rattle.std.specs.declared.alloc.Global.{Global}
use Rattle.kat_io.specs.KnownContent.{KnownContent, Unknown, Missing, Known}
use Rattle.kat_io.specs.Gets.{GetsFrom, IsWithin, IsPast}
use Rattle.kat_io.specs.declared.outside.GetFault.TheVariants.{TooLong}
use Rattle.tool_inputs.specs.Contents.{MayContain}

-- a file may contain the bytes read
pub got_contained : (given : KnownContent) (v : Vec ℕ Global) (limit : Option ℕ) → GetsFrom given (Ok v) limit → MayContain given v.items
got_contained Unknown v limit g = tt
got_contained Missing v limit g = absurd g
got_contained (Known bytes) v limit g = g.0

-- the bytes read are within the limit
pub got_within : (given : KnownContent) (v : Vec ℕ Global) (limit : Option ℕ) → GetsFrom given (Ok v) limit → IsWithin (length v.items) limit
got_within Unknown v limit g = g
got_within Missing v limit g = absurd g
got_within (Known bytes) v limit g = subst (λ l. IsWithin (length l) limit) (sym g.0) g.1

-- more bytes than the limit
past_limit : (limit byte : ℕ) → limit < length (replicate (suc limit) byte)
past_limit limit byte = subst (λ n. limit < n) (sym (length-replicate (suc limit) byte)) (omega arith)

-- a file that is refused as too long may contain more bytes than the limit
pub got_long : (given : KnownContent) (limit : Option ℕ) → GetsFrom given (Err TooLong) limit → (bytes : List ℕ) × MayContain given bytes × IsPast (length bytes) limit
got_long Unknown None g = absurd (false≢true g)
got_long Unknown (Some limit) g = (replicate (suc limit) 0, tt, past_limit limit 0)
got_long Missing limit g = absurd g
got_long (Known bytes) limit g = (bytes, refl, g)

-- a file with known bytes may contain only these bytes
pub held_same : (given : KnownContent) (bytes got : List ℕ) → given ≡ Known bytes → MayContain given got → got ≡ bytes
held_same Unknown bytes got e h = cc
held_same Missing bytes got e h = cc
held_same (Known held) bytes got e h = cc

-- if the content is known and may be these bytes, it is these bytes
pub given_bytes : (given : KnownContent) (bytes : List ℕ) → (given ≡ Unknown → ⊥) → MayContain given bytes → given ≡ Known bytes
given_bytes Unknown bytes is_given h = absurd (is_given refl)
given_bytes Missing bytes is_given h = absurd h
given_bytes (Known held) bytes is_given h = cc
