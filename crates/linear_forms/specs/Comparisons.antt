-- Comparisons of forms, in normal form.
use Rattle.std.specs.Prelude.{◌<◌, length, slice_set, ℕ, ◌+◌, ◌-◌, ◌*◌, ◌%◌, ◌≡◌, ◌||◌, nat_eq, nat_lt, Bool, true, false, not, if◌then◌else◌, List, [], ◌∷◌, map}
use Rattle.std.specs.Ordering.{is_eq, nat_cmp}
use Rattle.std.specs.Cmp.Lexicographic.{slice_cmp}
use Rattle.kat_model.specs.Expressions.{ExprTree}
use Rattle.kat_model.specs.Stores.{modulus, Store, IsStore, value, compares}
use Rattle.kat_model.specs.declared.expression.Width.{Width}
use Rattle.kat_model.specs.declared.expression.Rel.{Rel}
use Rattle.kat_model.specs.declared.expression.Rel.TheVariants.{Eq, Ne, Lt, Le, Gt, Ge}
use Rattle.linear_forms.specs.Forms.{FormTree, constant, var_term, product_term, form_nodes}
use Rattle.linear_forms.specs.Order.{form_cmp}
use Rattle.linear_forms.specs.Arithmetic.{by_order, negative, form_difference, normal_form}
use Rattle.linear_forms.specs.Values.{form_value}
use Rattle.linear_forms.specs.Substitution.{replaced, has_var}
use Rattle.linear_forms.specs.NormalForms.{IsForm}
use Rattle.linear_forms.specs.declared.comparison.Atomic.{Atomic}
use Rattle.linear_forms.specs.declared.comparison.Atomic.TheVariants.{Zero, Less}
use Rattle.linear_forms.specs.declared.comparison.CondForm.{CondForm}
use Rattle.linear_forms.specs.declared.comparison.CondForm.TheVariants.{True, False, Pos, Neg}

-- whether a comparison holds in a store, with values modulo m
abbrev pub atomic_holds : ℕ → Store → Atomic → Bool
atomic_holds m s (Zero f) = nat_eq (form_value m s f) 0
atomic_holds m s (Less f g) = nat_lt (form_value m s f) (form_value m s g)

abbrev pub cond_form_holds : ℕ → Store → CondForm → Bool
cond_form_holds m s True = true
cond_form_holds m s False = false
cond_form_holds m s (Pos a) = atomic_holds m s a
cond_form_holds m s (Neg a) = not (atomic_holds m s a)

-- the condition holds in the same stores of the width as the comparison of two expressions
abbrev pub HoldsAs : Width → Rel → ExprTree → ExprTree → CondForm → Type 0
HoldsAs w rel e f b = (s : Store) → IsStore w s → cond_form_holds (modulus w) s b ≡ compares rel (value w s e) (value w s f)

-- the condition holds in a store exactly when the comparison holds with variable j set to the value of `by`
abbrev pub HoldsWhenSet : ℕ → ℕ → FormTree → Atomic → CondForm → Type 0
HoldsWhenSet m j by a b = (s : Store) → j < length s → cond_form_holds m s b ≡ atomic_holds m (slice_set s j (form_value m s by)) a

-- the number of nodes of a comparison
abbrev pub atomic_nodes : Atomic → ℕ
atomic_nodes (Zero f) = form_nodes f + 1
atomic_nodes (Less f g) = form_nodes f + form_nodes g + 1

-- the forms of a comparison are forms modulo m
abbrev pub IsAtomic : ℕ → Atomic → Type 0
IsAtomic m (Zero f) = IsForm m f
IsAtomic m (Less f g) = IsForm m f × IsForm m g

abbrev pub IsCondForm : ℕ → CondForm → Type 0
IsCondForm m True = Unit {0}
IsCondForm m False = Unit {0}
IsCondForm m (Pos a) = IsAtomic m a
IsCondForm m (Neg a) = IsAtomic m a

-- the coefficients of a form in order, followed by its constant
abbrev pub coefficients : FormTree → List ℕ
coefficients (constant c) = c ∷ []
coefficients (var_term k t rest) = t ∷ coefficients rest
coefficients (product_term f g t rest) = t ∷ coefficients rest

-- the negative of n, modulo m
abbrev pub negative_number : ℕ → ℕ → ℕ
negative_number m n = ((m - 1) * n) % m

-- f or -f, whichever has the lesser list of coefficients followed by the constant
abbrev pub canonical : ℕ → FormTree → FormTree
canonical m f = by_order (slice_cmp nat_cmp (coefficients f) (map (negative_number m) (coefficients f))) f f (negative m f)

-- the condition that always holds, or the one that never holds
abbrev pub constantly : Bool → CondForm
constantly true = True
constantly false = False

abbrev pub opposite : CondForm → CondForm
opposite True = False
opposite False = True
opposite (Pos a) = Neg a
opposite (Neg a) = Pos a

-- the condition that a form is 0
abbrev pub zero_form : ℕ → FormTree → CondForm
zero_form m (constant c) = constantly (nat_eq c 0)
zero_form m f = Pos (Zero (canonical m f))

-- whether the form is this constant
abbrev pub is_constant : FormTree → ℕ → Bool
is_constant (constant c) d = nat_eq c d
is_constant f d = false

-- the condition that e is less than f, if one of them is not constant
abbrev pub varying_less_form : ℕ → FormTree → FormTree → CondForm
varying_less_form m e f =
    if is_eq (form_cmp e f) then False
    else if is_constant f 0 then False
    else if is_constant e (m - 1) then False
    else if is_constant f 1 then Pos (Zero (canonical m e))
    else if is_constant e 0 then Neg (Zero (canonical m f))
    else Pos (Less e f)

-- the condition that e is less than f
abbrev pub less_form : ℕ → FormTree → FormTree → CondForm
less_form m (constant c) (constant d) = constantly (nat_lt c d)
less_form m e f = varying_less_form m e f

-- the normal form of a comparison of two forms
abbrev pub compared_form : ℕ → Rel → FormTree → FormTree → CondForm
compared_form m Eq e f = zero_form m (form_difference m e f)
compared_form m Ne e f = opposite (zero_form m (form_difference m e f))
compared_form m Lt e f = less_form m e f
compared_form m Gt e f = less_form m f e
compared_form m Ge e f = opposite (less_form m e f)
compared_form m Le e f = opposite (less_form m f e)

-- the normal form of a comparison of two expressions
abbrev pub comparison_form : ℕ → Rel → ExprTree → ExprTree → CondForm
comparison_form m rel e f = compared_form m rel (normal_form m e) (normal_form m f)

-- the normal form of a comparison with `by` in place of variable j
abbrev pub substituted : ℕ → ℕ → FormTree → Atomic → CondForm
substituted m j by (Zero f) = zero_form m (replaced m j by f)
substituted m j by (Less f g) = less_form m (replaced m j by f) (replaced m j by g)

-- whether variable j occurs in a comparison
abbrev pub atomic_has_var : ℕ → Atomic → Bool
atomic_has_var j (Zero f) = has_var j f
atomic_has_var j (Less f g) = has_var j f || has_var j g

-- a comparison is its own normal form
abbrev pub IsSettled : ℕ → Atomic → Type 0
IsSettled m (Zero f) = zero_form m f ≡ Pos (Zero f)
IsSettled m (Less f g) = less_form m f g ≡ Pos (Less f g)

-- the comparison of a condition is its own normal form
abbrev pub IsSettledCond : ℕ → CondForm → Type 0
IsSettledCond m True = Unit {0}
IsSettledCond m False = Unit {0}
IsSettledCond m (Pos a) = IsSettled m a
IsSettledCond m (Neg a) = IsSettled m a
