-- The entries of the clauses at hand, as the program changes them.
use Rattle.std.proofs.Common.{◌≡◌, ℕ, zero, suc, ◌+◌, eqb, List, [], ◌∷◌, take, refl, sym, ap, ◌∙◌, subst, arith, Bool, true, false, cond, nat_eq, Option, Some, slice_get, eqb-true, eq-eqb}
use Rattle.std.proofs.lemmas.Bool.Decides.{nat_tests}
use Rattle.std.specs.HashMap.{get, Updates}
use Rattle.kat_model.proofs.Options.{same_bool}
use Rattle.lrat_checker.specs.Propagation.{present}
use Rattle.lrat_checker.specs.Accepted.{entry_of, numbered}
use Rattle.lrat_checker.specs.Working.KnownClauses.{Entries, entry_known, entry_at}
use Rattle.lrat_checker.specs.declared.literal.Literal.{Literal}
use Rattle.lrat_checker.specs.declared.known.Known.{Known}

put_known : (b : Bool) (v : Known) (o : Option Known) → entry_known (cond b (Some v) o) ≡ cond b (entry_known (Some v)) (entry_known o)
put_known true v o = refl
put_known false v o = refl

-- the entries after a value is put at an id
pub put_entry : (old new : Entries) (id : ℕ) (v : Known) → Updates nat_eq old new id (Some v) → (n : ℕ) → entry_at new n ≡ cond (nat_eq id n) (entry_known (Some v)) (entry_at old n)
put_entry old new id v up n = ap entry_known (up.0 n) ∙ put_known (nat_eq id n) v (get nat_eq old n)

-- the clause with the next id
eqb_suc : (i n : ℕ) → eqb (suc i) (suc n) ≡ eqb i n
eqb_suc i n = same_bool _ _ (λ e. let s = eqb-true (suc i) (suc n) e in eq-eqb i n (omega (arith, s))) (λ e. let s = eqb-true i n e in eq-eqb (suc i) (suc n) (ap suc s))

zero_suc : (n : ℕ) → eqb 0 (suc n) ≡ false
zero_suc n = grind (arith, nat_tests)

suc_zero : (n : ℕ) → eqb (suc n) 0 ≡ false
suc_zero n = grind (arith, nat_tests)

more_given : (cs : List (List Literal)) (i : ℕ) (c : List Literal) → slice_get cs i ≡ Some c → (n : ℕ) → cond (eqb i n) (present c) (entry_of (slice_get (take i cs) n)) ≡ entry_of (slice_get (take (suc i) cs) n)
more_given [] i c e n = cc
more_given (d ∷ cs) zero c e zero = let same : c ≡ d = cc in ap present same
more_given (d ∷ cs) zero c e (suc n) = rw (zero_suc n) refl
more_given (d ∷ cs) (suc i) c e zero = rw (suc_zero i) refl
more_given (d ∷ cs) (suc i) c e (suc n) = rw (eqb_suc i n) (more_given cs i c e n)

at_suc : (cs : List (List Literal)) (i : ℕ) (c : List Literal) → slice_get cs i ≡ Some c → (n : ℕ) → cond (nat_eq (suc i) n) (present c) (numbered (take i cs) n) ≡ numbered (take (suc i) cs) n
at_suc cs i c e zero = rw (suc_zero i) refl
at_suc cs i c e (suc n) = rw (eqb_suc i n) (more_given cs i c e n)

pub numbered_more : (cs : List (List Literal)) (i : ℕ) (c : List Literal) → slice_get cs i ≡ Some c → (n : ℕ) → cond (nat_eq (i + 1) n) (present c) (numbered (take i cs) n) ≡ numbered (take (i + 1) cs) n
numbered_more cs i c e n = let plus_one : i + 1 ≡ suc i = omega arith in subst (λ (k : ℕ). cond (nat_eq k n) (present c) (numbered (take i cs) n) ≡ numbered (take k cs) n) (sym plus_one) (at_suc cs i c e n)
