-- The two truth values as a Kleene algebra with tests, the least one in which 0 and 1 differ. Each element is a test.
use Rattle.std.proofs.Common.{◌≡◌, Bool, true, false, not, ◌&&◌, ◌||◌, refl, sym, ◌∙◌}
use mathlib.Core.Path.{ap₂}
use Rattle.std.proofs.Math.Bool.{or_assoc, or_comm, or_self, or-false, and_assoc, and_comm, and-true, and-false, and-or_distrib_left, and-or_distrib_right, or-and_distrib_left, or-not_self, and-not_self}
use Rattle.kat_axioms.specs.Algebras.{Operations, IsBelow, IsKleeneAlgebra, IsBooleanAlgebra}
use Rattle.kat_axioms.specs.Meanings.{Interpretation}

abbrev pub truth_values : Operations {0}
truth_values = record { Carrier = Bool; Equal = λ a b. a ≡ b; zero = false; one = true; sum = ◌||◌; product = ◌&&◌; star = λ a. true }

least_left : (p q r : Bool) → IsBelow truth_values (q || (p && r)) r → IsBelow truth_values (true && q) r
least_left p true r h = h
least_left p false r h = refl

least_right : (p q r : Bool) → IsBelow truth_values (q || (r && p)) r → IsBelow truth_values (q && true) r
least_right p true r h = h
least_right p false r h = refl

pub truth_values_are_kleene : IsKleeneAlgebra truth_values
truth_values_are_kleene = record {
  congruence = record {
    itself = λ a. refl;
    symmetric = λ a b e. sym e;
    transitive = λ a b c e f. e ∙ f;
    sums = λ a b c d e f. ap₂ (λ x y. x || y) e f;
    products = λ a b c d e f. ap₂ (λ x y. x && y) e f;
    stars = λ a b e. refl;
  };
  semiring = record {
    sum_assoc = λ a b c. sym (or_assoc a b c);
    sum_comm = or_comm;
    sum_idem = or_self;
    sum_zero = or-false;
    product_assoc = λ a b c. sym (and_assoc a b c);
    one_left = λ a. refl;
    one_right = and-true;
    zero_left = λ a. refl;
    zero_right = and-false;
    dist_left = and-or_distrib_left;
    dist_right = and-or_distrib_right;
  };
  unfold_left = λ a. refl;
  unfold_right = λ a. refl;
  least_left = least_left;
  least_right = least_right;
}

pub truth_values_are_boolean : IsBooleanAlgebra truth_values (λ a. Unit {0}) not
truth_values_are_boolean = record {
  zero_is_test = tt;
  one_is_test = tt;
  sum_is_test = λ a b t u. tt;
  product_is_test = λ a b t u. tt;
  complement_is_test = λ a t. tt;
  product_comm = λ a b t u. and_comm a b;
  sum_dist = λ a b c t u w. or-and_distrib_left a b c;
  sum_complement = λ a t. or-not_self a;
  product_complement = λ a t. and-not_self a;
}

-- each action and each test denotes 0
abbrev pub all_false : Interpretation {0}
all_false = record {
  algebra = record {
    kleene = record { operations = truth_values; laws = truth_values_are_kleene };
    IsTest = λ a. Unit {0};
    complement = not;
    boolean = truth_values_are_boolean;
  };
  actions = λ a. false;
  tests = λ k. false;
  are_tests = λ k. tt;
}
