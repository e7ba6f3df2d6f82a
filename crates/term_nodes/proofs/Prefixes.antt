-- A list that is a prefix of another.
use Rattle.std.proofs.Common.{ℕ, ◌<◌, List, [], ◌++◌, length, sym, ap, ◌∙◌, arith, append_assoc, append-nil, length-append}
use Rattle.term_nodes.specs.Growth.{IsPrefix}

pub IsPrefix-itself : {X : Type 0} (xs : List X) → IsPrefix xs xs
IsPrefix-itself xs = ([], sym (append-nil xs))

pub IsPrefix-trans : {X : Type 0} (xs ys zs : List X) → IsPrefix xs ys → IsPrefix ys zs → IsPrefix xs zs
IsPrefix-trans xs ys zs (m, e) (n, f) = (m ++ n, f ∙ ap (λ l. l ++ n) e ∙ append_assoc xs m n)

-- a place of the prefix is a place of the whole list
pub IsPrefix-within : {X : Type 0} (xs ys : List X) (i : ℕ) → IsPrefix xs ys → i < length xs → i < length ys
IsPrefix-within xs ys i (more, e) within = rw e (omega (arith, length-append xs more))
