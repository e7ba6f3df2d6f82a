-- Reading to a limit.
use Rattle.std.proofs.Common.{◌≡◌, ◌<◌, ℕ, List, [], ◌++◌, length, take, Bool, true, false, ◌↔◌, IsTrue, Option, None, Some, Ok, Err, Vec, MatchOption, refl, sym, ap, ◌∙◌, subst, arith, length-append, append-nil}
use Rattle.std.specs.declared.alloc.Global.{Global}
use Rattle.std.specs.Io.KnownBytes.{Consumes, IsAtEnd}
use Rattle.kat_io.specs.declared.outside.GetFault.TheVariants.{TooLong}
use Rattle.kat_io.specs.KnownContent.{known_left}
use Rattle.kat_io.specs.Gets.{IsWithin, IsPast, GetsFrom}

-- what the test of the limit shows
pub kept_within : (count : ℕ) (limit : Option ℕ) (past : Bool) → MatchOption limit (past ≡ false) (λ most. IsTrue past ↔ (most < count)) → past ≡ false → IsWithin count limit
kept_within count None past given e = tt
kept_within count (Some most) true given e = cc
kept_within count (Some most) false given e = grind (arith, given)

pub gone_past : (count : ℕ) (limit : Option ℕ) (past : Bool) → MatchOption limit (past ≡ false) (λ most. IsTrue past ↔ (most < count)) → past ≡ true → IsPast count limit
gone_past count None true given e = cc
gone_past count None false given e = cc
gone_past count (Some most) true given e = given.0 refl
gone_past count (Some most) false given e = cc

-- a content that was read to its end
pub all_read : (a b c : Option (List ℕ)) (bytes : Vec ℕ Global) (piece : List ℕ) (n : ℕ) (limit : Option ℕ) → Consumes a b bytes.items → Consumes b c (take n piece) → (n ≡ 0 → 0 < length piece → IsAtEnd c) → n ≡ 0 → 0 < length piece → IsWithin (length bytes.items) limit → GetsFrom (known_left a) (Ok bytes) limit
all_read None b c bytes piece n limit lost more end none room within = within
all_read (Some x) None c bytes piece n limit lost more end none room within = absurd lost
all_read (Some x) (Some y) None bytes piece n limit lost more end none room within = absurd more
all_read (Some x) (Some y) (Some z) bytes piece n limit lost more end none room within =
    let nothing : y ≡ [] = more ∙ ap (λ k. take k piece ++ z) none ∙ end none room in
    let whole : bytes.items ≡ x = sym (lost ∙ ap (λ l. bytes.items ++ l) nothing ∙ append-nil bytes.items) in
    (whole, subst (λ l. IsWithin (length l) limit) whole within)

-- a content of which more than the limit was read
pub read_past : (a b c : Option (List ℕ)) (bytes piece : List ℕ) (limit : Option ℕ) → Consumes a b bytes → Consumes b c piece → IsPast (length (bytes ++ piece)) limit → GetsFrom (known_left a) (Err TooLong) limit
read_past None b c bytes piece None lost more past = absurd past
read_past None b c bytes piece (Some most) lost more past = refl
read_past (Some x) None c bytes piece limit lost more past = absurd lost
read_past (Some x) (Some y) None bytes piece limit lost more past = absurd more
read_past (Some x) (Some y) (Some z) bytes piece None lost more past = absurd past
read_past (Some x) (Some y) (Some z) bytes piece (Some most) lost more past =
    omega (arith, past, length-append bytes piece, length-append bytes y, length-append piece z, ap length lost, ap length more)
