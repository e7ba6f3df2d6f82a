-- The function that compares assignments decides equality.
use Rattle.std.proofs.Common.{arith, ◌≡◌, true, nat_eq, refl}
use Rattle.std.proofs.lemmas.Bool.{and_parts}
use Rattle.std.proofs.lemmas.Bool.Decides.{nat_tests}
use Rattle.linear_forms.specs.Sameness.{is_same_form}
use Rattle.linear_forms.proofs.Sameness.{is_same_form-true, is_same_form-same}
use Rattle.abstraction.specs.Comparisons.{Assignment}
use Rattle.abstraction.specs.Tables.{is_same_assignment}

pub is_same_assignment-true : (a b : Assignment) → is_same_assignment a b ≡ true → a ≡ b
is_same_assignment-true a b h =
    let p = and_parts (nat_eq a.var b.var) (is_same_form a.form b.form) h in
    let var : a.var ≡ b.var = grind (arith, nat_tests, p.0) in
    λ i. record { var = var i; form = is_same_form-true a.form b.form p.1 i }

pub is_same_assignment-same : (a : Assignment) → is_same_assignment a a ≡ true
is_same_assignment-same a = let own : nat_eq a.var a.var ≡ true = grind (arith, nat_tests) in rw (own, is_same_form-same a.form) refl
