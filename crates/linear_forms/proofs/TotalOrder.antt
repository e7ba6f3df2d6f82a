-- The order of forms is a total order.
use Rattle.std.proofs.Common.{ℕ, ◌≡◌, refl, arith, Ordering, Less, Equal, Greater, nat_cmp}
use Rattle.std.proofs.lemmas.Bool.Decides.{nat_tests}
use Rattle.std.specs.Cmp.{IsTotalOrder}
use Rattle.std.specs.Ordering.{ordering_then, ordering_reverse}
use Rattle.linear_forms.specs.Forms.{FormTree, constant, var_term, product_term, MonoTree, var, product}
use Rattle.linear_forms.specs.Order.{form_cmp, mono_cmp}
use Rattle.linear_forms.proofs.SameOrder.{same_number}
use Rattle.kat_model.proofs.Numbers.{nat_cmp-own}

pub form_itself : (f : FormTree) → form_cmp f f ≡ Equal
form_itself (constant c) = nat_cmp-own c
form_itself (var_term k t r) = rw (nat_cmp-own k, nat_cmp-own t) (form_itself r)
form_itself (product_term f g t r) = rw (form_itself f, form_itself g, nat_cmp-own t) (form_itself r)

pub mono_itself : (p : MonoTree) → mono_cmp p p ≡ Equal
mono_itself (var k) = nat_cmp-own k
mono_itself (product f g) = rw (form_itself f, form_itself g) refl

pub number_turned : (j k : ℕ) → nat_cmp j k ≡ ordering_reverse (nat_cmp k j)
number_turned j k = grind (arith, nat_tests)

pub then_turned : (a b c d : Ordering) → a ≡ ordering_reverse c → b ≡ ordering_reverse d → ordering_then a b ≡ ordering_reverse (ordering_then c d)
then_turned a b Less d p q = rw (p) refl
then_turned a b Equal d p q = rw (p) q
then_turned a b Greater d p q = rw (p) refl

pub form_turned : (f g : FormTree) → form_cmp f g ≡ ordering_reverse (form_cmp g f)
form_turned (constant c) (constant d) = number_turned c d
form_turned (constant c) (var_term k u q) = refl
form_turned (constant c) (product_term f g u q) = refl
form_turned (var_term j t r) (constant d) = refl
form_turned (var_term j t r) (var_term k u q) = then_turned _ _ _ _ (number_turned j k) (then_turned _ _ _ _ (number_turned t u) (form_turned r q))
form_turned (var_term j t r) (product_term f g u q) = refl
form_turned (product_term e d t r) (constant c) = refl
form_turned (product_term e d t r) (var_term k u q) = refl
form_turned (product_term e d t r) (product_term f g u q) =
    then_turned _ _ _ _ (then_turned _ _ _ _ (form_turned e f) (form_turned d g)) (then_turned _ _ _ _ (number_turned t u) (form_turned r q))

-- less is transitive
pub number_less : (i j k : ℕ) → nat_cmp i j ≡ Less → nat_cmp j k ≡ Less → nat_cmp i k ≡ Less
number_less i j k p q = grind (arith, nat_tests, p, q)

-- the result of a third comparison that transitivity gives from a first and a second
abbrev pub Passes : Ordering → Ordering → Ordering → Type 0
Passes a b c = (a ≡ Less → b ≡ Less → c ≡ Less) × (a ≡ Equal → c ≡ b) × (b ≡ Equal → c ≡ a)

pub then_passes : (a b c d e f : Ordering) → Passes a b c → Passes d e f → Passes (ordering_then a d) (ordering_then b e) (ordering_then c f)
then_passes Less Less c d e f p q = rw (p.0 refl refl) ((λ _ _. refl), (λ h. absurd cc), (λ h. absurd cc))
then_passes Less Equal c d e f p q = rw (p.2 refl) ((λ _ _. refl), (λ h. absurd cc), (λ h. refl))
then_passes Less Greater c d e f p q = ((λ _ h. absurd cc), (λ h. absurd cc), (λ h. absurd cc))
then_passes Equal Less c d e f p q = rw (p.1 refl) ((λ _ _. refl), (λ h. refl), (λ h. absurd cc))
then_passes Equal Equal c d e f p q = rw (p.1 refl) q
then_passes Equal Greater c d e f p q = rw (p.1 refl) ((λ _ h. absurd cc), (λ h. refl), (λ h. absurd cc))
then_passes Greater Less c d e f p q = ((λ h _. absurd cc), (λ h. absurd cc), (λ h. absurd cc))
then_passes Greater Equal c d e f p q = rw (p.2 refl) ((λ h _. absurd cc), (λ h. absurd cc), (λ _. refl))
then_passes Greater Greater c d e f p q = ((λ h _. absurd cc), (λ h. absurd cc), (λ h. absurd cc))

pub number_passes : (i j k : ℕ) → Passes (nat_cmp i j) (nat_cmp j k) (nat_cmp i k)
number_passes i j k = (number_less i j k, (λ h. rw (same_number i j h) refl), (λ h. rw (same_number j k h) refl))

pub form_passes : (f g h : FormTree) → Passes (form_cmp f g) (form_cmp g h) (form_cmp f h)
form_passes (constant a) (constant b) (constant c) = number_passes a b c
form_passes (var_term i t p) (var_term j u q) (var_term k v r) =
    then_passes _ _ _ _ _ _ (number_passes i j k) (then_passes _ _ _ _ _ _ (number_passes t u v) (form_passes p q r))
form_passes (product_term a b t p) (product_term c d u q) (product_term e f v r) =
    then_passes _ _ _ _ _ _ (then_passes _ _ _ _ _ _ (form_passes a c e) (form_passes b d f)) (then_passes _ _ _ _ _ _ (number_passes t u v) (form_passes p q r))
form_passes (constant w1) (constant w2) (var_term k v r) = ((λ x y. cc), (λ x. cc), (λ x. cc))
form_passes (constant w1) (constant w2) (product_term e f v r) = ((λ x y. cc), (λ x. cc), (λ x. cc))
form_passes (constant w1) (var_term j u q) (constant w2) = ((λ x y. cc), (λ x. cc), (λ x. cc))
form_passes (constant w1) (var_term j u q) (var_term k v r) = ((λ x y. cc), (λ x. cc), (λ x. cc))
form_passes (constant w1) (var_term j u q) (product_term e f v r) = ((λ x y. cc), (λ x. cc), (λ x. cc))
form_passes (constant w1) (product_term c d u q) (constant w2) = ((λ x y. cc), (λ x. cc), (λ x. cc))
form_passes (constant w1) (product_term c d u q) (var_term k v r) = ((λ x y. cc), (λ x. cc), (λ x. cc))
form_passes (constant w1) (product_term c d u q) (product_term e f v r) = ((λ x y. cc), (λ x. cc), (λ x. cc))
form_passes (var_term i t p) (constant w1) (constant w2) = ((λ x y. cc), (λ x. cc), (λ x. cc))
form_passes (var_term i t p) (constant w1) (var_term k v r) = ((λ x y. cc), (λ x. cc), (λ x. cc))
form_passes (var_term i t p) (constant w1) (product_term e f v r) = ((λ x y. cc), (λ x. cc), (λ x. cc))
form_passes (var_term i t p) (var_term j u q) (constant w1) = ((λ x y. cc), (λ x. cc), (λ x. cc))
form_passes (var_term i t p) (var_term j u q) (product_term e f v r) = ((λ x y. cc), (λ x. cc), (λ x. cc))
form_passes (var_term i t p) (product_term c d u q) (constant w1) = ((λ x y. cc), (λ x. cc), (λ x. cc))
form_passes (var_term i t p) (product_term c d u q) (var_term k v r) = ((λ x y. cc), (λ x. cc), (λ x. cc))
form_passes (var_term i t p) (product_term c d u q) (product_term e f v r) = ((λ x y. cc), (λ x. cc), (λ x. cc))
form_passes (product_term a b t p) (constant w1) (constant w2) = ((λ x y. cc), (λ x. cc), (λ x. cc))
form_passes (product_term a b t p) (constant w1) (var_term k v r) = ((λ x y. cc), (λ x. cc), (λ x. cc))
form_passes (product_term a b t p) (constant w1) (product_term e f v r) = ((λ x y. cc), (λ x. cc), (λ x. cc))
form_passes (product_term a b t p) (var_term j u q) (constant w1) = ((λ x y. cc), (λ x. cc), (λ x. cc))
form_passes (product_term a b t p) (var_term j u q) (var_term k v r) = ((λ x y. cc), (λ x. cc), (λ x. cc))
form_passes (product_term a b t p) (var_term j u q) (product_term e f v r) = ((λ x y. cc), (λ x. cc), (λ x. cc))
form_passes (product_term a b t p) (product_term c d u q) (constant w1) = ((λ x y. cc), (λ x. cc), (λ x. cc))
form_passes (product_term a b t p) (product_term c d u q) (var_term k v r) = ((λ x y. cc), (λ x. cc), (λ x. cc))

pub mono_passes : (p q r : MonoTree) → Passes (mono_cmp p q) (mono_cmp q r) (mono_cmp p r)
mono_passes (var i) (var j) (var k) = number_passes i j k
mono_passes (product a b) (product c d) (product e f) = then_passes _ _ _ _ _ _ (form_passes a c e) (form_passes b d f)
mono_passes (var i) (var j) (product e f) = ((λ x y. cc), (λ x. cc), (λ x. cc))
mono_passes (var i) (product c d) (var k) = ((λ x y. cc), (λ x. cc), (λ x. cc))
mono_passes (var i) (product c d) (product e f) = ((λ x y. cc), (λ x. cc), (λ x. cc))
mono_passes (product a b) (var j) (var k) = ((λ x y. cc), (λ x. cc), (λ x. cc))
mono_passes (product a b) (var j) (product e f) = ((λ x y. cc), (λ x. cc), (λ x. cc))
mono_passes (product a b) (product c d) (var k) = ((λ x y. cc), (λ x. cc), (λ x. cc))

pub mono_turned : (p q : MonoTree) → mono_cmp p q ≡ Greater → mono_cmp q p ≡ Less
mono_turned (var j) (var k) h = grind (arith, nat_tests, h)
mono_turned (product e d) (product f g) h = rw (then_turned _ _ _ _ (form_turned f e) (form_turned g d), h) refl
mono_turned (product e d) (var k) h = refl
mono_turned (var j) (product f g) h = absurd cc

-- the orders as std's total orders

mono_reversed : (p q : MonoTree) → mono_cmp p q ≡ ordering_reverse (mono_cmp q p)
mono_reversed (var j) (var k) = number_turned j k
mono_reversed (var j) (product f g) = refl
mono_reversed (product d e) (var k) = refl
mono_reversed (product d e) (product f g) = then_turned _ _ _ _ (form_turned d f) (form_turned e g)

pub form_total : IsTotalOrder form_cmp
form_total = record {
  antisymm = form_turned;
  trans = λ f g h. (form_passes f g h).0;
  congr = λ f g h. (form_passes f g h).1;
}

pub mono_total : IsTotalOrder mono_cmp
mono_total = record {
  antisymm = mono_reversed;
  trans = λ p q r. (mono_passes p q r).0;
  congr = λ p q r. (mono_passes p q r).1;
}
