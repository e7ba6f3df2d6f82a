-- Concatenated values of two atoms: what is decided of each, and their order.
use Rattle.std.proofs.Common.{◌≡◌, ℕ, zero, suc, ◌+◌, List, [], ◌∷◌, ◌++◌, take, drop, slice_get, ap, ◌∙◌, arith, zero-add, Bool, true, false, Option, Some, None}
use Rattle.kat_model.specs.Steps.{Atom}
use Rattle.cert_checker.specs.AtomOrder.{IsLess}
use Rattle.cert_checker.specs.Cases.{Extends, IsOpen}

pub open_front : (n : ℕ) (ds : List (Option Bool)) (k : ℕ) → IsOpen (take n ds) k → IsOpen ds k
open_front zero ds k e = absurd cc
open_front (suc n) [] k e = absurd cc
open_front (suc n) (d ∷ ds) zero e = e
open_front (suc n) (d ∷ ds) (suc k) e = open_front n ds k e

pub open_back : (n : ℕ) (ds : List (Option Bool)) (k : ℕ) → IsOpen (drop n ds) k → IsOpen ds (n + k)
open_back zero ds k e = ap (slice_get ds) (zero-add k) ∙ e
open_back (suc n) [] k e = absurd cc
open_back (suc n) (d ∷ ds) k e = let more : suc n + k ≡ suc (n + k) = omega arith in ap (slice_get (d ∷ ds)) more ∙ open_back n ds k e

pub extends_front : (n : ℕ) (ds : List (Option Bool)) (x : Atom) → Extends ds x → Extends (take n ds) (take n x)
extends_front zero ds x h = tt
extends_front (suc n) [] [] h = tt
extends_front (suc n) [] (b ∷ x) h = h
extends_front (suc n) (d ∷ ds) [] h = absurd h
extends_front (suc n) (None ∷ ds) (b ∷ x) h = extends_front n ds x h
extends_front (suc n) (Some c ∷ ds) (b ∷ x) h = (h.0, extends_front n ds x h.1)

pub extends_back : (n : ℕ) (ds : List (Option Bool)) (x : Atom) → Extends ds x → Extends (drop n ds) (drop n x)
extends_back zero ds x h = h
extends_back (suc n) [] [] h = tt
extends_back (suc n) [] (b ∷ x) h = absurd h
extends_back (suc n) (d ∷ ds) [] h = absurd h
extends_back (suc n) (None ∷ ds) (b ∷ x) h = extends_back n ds x h
extends_back (suc n) (Some c ∷ ds) (b ∷ x) h = extends_back n ds x h.1

-- appending values after lesser ones keeps the order, and so does prepending equal values
pub less_append : (xs ys zs ws : Atom) → IsLess xs ys → IsLess (xs ++ zs) (ys ++ ws)
less_append [] ys zs ws h = absurd h
less_append (x ∷ xs) [] zs ws h = absurd h
less_append (false ∷ xs) (true ∷ ys) zs ws h = tt
less_append (true ∷ xs) (false ∷ ys) zs ws h = absurd h
less_append (false ∷ xs) (false ∷ ys) zs ws h = less_append xs ys zs ws h
less_append (true ∷ xs) (true ∷ ys) zs ws h = less_append xs ys zs ws h

pub less_behind : (zs xs ys : Atom) → IsLess xs ys → IsLess (zs ++ xs) (zs ++ ys)
less_behind [] xs ys h = h
less_behind (false ∷ zs) xs ys h = less_behind zs xs ys h
less_behind (true ∷ zs) xs ys h = less_behind zs xs ys h
