-- Forms and actions with a number in the place of a cell.
use Rattle.std.proofs.Common.{◌≡◌, ℕ, zero, suc, Bool, true, false, ◌&&◌, nat_lt, List, [], ◌∷◌, ◌++◌, length, map, Option, Some, None, slice_get, if◌then◌else◌, refl, sym, ◌∙◌, ap}
use mathlib.Core.Path.{ap₂}
use Rattle.std.proofs.lemmas.Bool.{both_ways}
use Rattle.kat_model.specs.declared.expression.Width.{Width}
use Rattle.kat_model.specs.declared.expression.Width.TheVariants.{W8, W16, W32, W64}
use Rattle.flow_model.specs.declared.sort.Sort.{Sort}
use Rattle.flow_model.specs.declared.sort.Sort.TheVariants.{Number, Opaque}
use Rattle.flow_forms.specs.Forms.{FlowFormTree, constant, variable, form_tree, cell_form}
use Rattle.flow_forms.specs.Expressions.{or_number, or_zero, form_of_cell}
use Rattle.flow_forms.specs.Sizes.{is_small, product_fits}
use Rattle.flow_forms.specs.Substitution.{place_of, substituted, substitution_fits, cell_in, cell_fits_in, sum_in, product_in}
use Rattle.flow_forms.specs.declared.substitution.Place.TheVariants as place
use Rattle.flow_ways.specs.Ways.{own_forms_from}
use Rattle.flow_ways.specs.Conditions.{value_known}
use Rattle.flow_problem.specs.Edges.{FlowActionTree, Edge}
use Rattle.flow_problem.specs.Splits.{CellTest, is_same_cell, named, sorts_with, forms_with, with_cell_number, number_fits, action_reads, action_fits, action_with, edges_by, facts_of_all, split_edge}
use Rattle.flow_edges.specs.declared.splits.number.WithNumber.{WithNumber}
use Rattle.flow_edges.specs.Numbers.{HasNumber, number_action, action_if, edges_known, edges_or_whole}

-- ---- what is put in a form

pub number_is : (sorts : List Sort) (x : CellTest) (v : WithNumber) (sort : Sort) (f g : FlowFormTree) → HasNumber sorts x v → g ≡ named x.cell (length sorts) f →
    substituted v.sorts.items (map form_tree v.forms.items) (place_of sort) g ≡ with_cell_number sorts x sort f
number_is sorts x v sort f g h e =
    ap (λ ss. substituted ss (map form_tree v.forms.items) (place_of sort) g) h.0
    ∙ ap₂ (λ fs k. substituted (sorts_with sorts x) fs (place_of sort) k) h.1 e

pub fits_is : (sorts : List Sort) (x : CellTest) (v : WithNumber) (sort : Sort) (f g : FlowFormTree) → HasNumber sorts x v → g ≡ named x.cell (length sorts) f →
    substitution_fits v.sorts.items (map form_tree v.forms.items) (place_of sort) g ≡ number_fits sorts x sort f
fits_is sorts x v sort f g h e =
    ap (λ ss. substitution_fits ss (map form_tree v.forms.items) (place_of sort) g) h.0
    ∙ ap₂ (λ fs k. substitution_fits (sorts_with sorts x) fs (place_of sort) k) h.1 e

pub no_second : (b : Bool) → (b && false) ≡ false
no_second true = refl
no_second false = refl

-- ---- a variable that stands for itself never becomes too large

-- whether a form in the place of a cell of a sort, alone in a form of a width, is small
abbrev fits_alone : Width → Sort → FlowFormTree → Bool
fits_alone w sort f =
    (cell_fits_in (place.InNumber w) sort f && (true && product_fits w (cell_in (place.InNumber w) sort f) (constant 1)))
    && (true && is_small (sum_in (place.InNumber w) 1 (product_in (place.InNumber w) (cell_in (place.InNumber w) sort f) (constant 1)) (constant 0)))

number_alone : (w : Width) (sort : Sort) (c : ℕ) → fits_alone w sort (constant c) ≡ true
number_alone W8 (Number W8) c = refl
number_alone W8 (Number W16) c = refl
number_alone W8 (Number W32) c = refl
number_alone W8 (Number W64) c = refl
number_alone W8 (Opaque j) c = refl
number_alone W16 (Number W8) c = refl
number_alone W16 (Number W16) c = refl
number_alone W16 (Number W32) c = refl
number_alone W16 (Number W64) c = refl
number_alone W16 (Opaque j) c = refl
number_alone W32 (Number W8) c = refl
number_alone W32 (Number W16) c = refl
number_alone W32 (Number W32) c = refl
number_alone W32 (Number W64) c = refl
number_alone W32 (Opaque j) c = refl
number_alone W64 (Number W8) c = refl
number_alone W64 (Number W16) c = refl
number_alone W64 (Number W32) c = refl
number_alone W64 (Number W64) c = refl
number_alone W64 (Opaque j) c = refl

variable_alone : (w : Width) (sort : Sort) (k : ℕ) → fits_alone w sort (variable k) ≡ true
variable_alone W8 (Number W8) k = refl
variable_alone W8 (Number W16) k = refl
variable_alone W8 (Number W32) k = refl
variable_alone W8 (Number W64) k = refl
variable_alone W8 (Opaque j) k = refl
variable_alone W16 (Number W8) k = refl
variable_alone W16 (Number W16) k = refl
variable_alone W16 (Number W32) k = refl
variable_alone W16 (Number W64) k = refl
variable_alone W16 (Opaque j) k = refl
variable_alone W32 (Number W8) k = refl
variable_alone W32 (Number W16) k = refl
variable_alone W32 (Number W32) k = refl
variable_alone W32 (Number W64) k = refl
variable_alone W32 (Opaque j) k = refl
variable_alone W64 (Number W8) k = refl
variable_alone W64 (Number W16) k = refl
variable_alone W64 (Number W32) k = refl
variable_alone W64 (Number W64) k = refl
variable_alone W64 (Opaque j) k = refl

cell_alone : (w : Width) (sort : Sort) (k : ℕ) → fits_alone w sort (cell_form (variable k)) ≡ true
cell_alone W8 (Number W8) k = refl
cell_alone W8 (Number W16) k = refl
cell_alone W8 (Number W32) k = refl
cell_alone W8 (Number W64) k = refl
cell_alone W8 (Opaque j) k = refl
cell_alone W16 (Number W8) k = refl
cell_alone W16 (Number W16) k = refl
cell_alone W16 (Number W32) k = refl
cell_alone W16 (Number W64) k = refl
cell_alone W16 (Opaque j) k = refl
cell_alone W32 (Number W8) k = refl
cell_alone W32 (Number W16) k = refl
cell_alone W32 (Number W32) k = refl
cell_alone W32 (Number W64) k = refl
cell_alone W32 (Opaque j) k = refl
cell_alone W64 (Number W8) k = refl
cell_alone W64 (Number W16) k = refl
cell_alone W64 (Number W32) k = refl
cell_alone W64 (Number W64) k = refl
cell_alone W64 (Opaque j) k = refl

-- the forms of the variables and of the new one: cells and a number
own_or_number : (P : FlowFormTree → Type 0) → ((c : ℕ) → P (constant c)) → ((k : ℕ) → P (variable k)) → ((k : ℕ) → P (cell_form (variable k))) →
    (k : ℕ) (sorts : List Sort) (n j : ℕ) → P (or_zero (slice_get (own_forms_from k sorts ++ constant n ∷ []) j))
own_or_number P p q r k [] n zero = p n
own_or_number P p q r k [] n (suc j) = p 0
own_or_number P p q r k (Number w ∷ sorts) n zero = r k
own_or_number P p q r k (Opaque l ∷ sorts) n zero = q k
own_or_number P p q r k (sort ∷ sorts) n (suc j) = own_or_number P p q r (suc k) sorts n j

module _ (sorts : List Sort) (x : CellTest) where
  -- variable j in a form of a width
  variable_fits : (w : Width) (j : ℕ) → substitution_fits (sorts_with sorts x) (forms_with sorts x) (place.InNumber w) (cell_form (variable j)) ≡ true
  variable_fits w j =
      own_or_number (λ f. fits_alone w (or_number (slice_get (sorts_with sorts x) j)) f ≡ true)
      (number_alone w (or_number (slice_get (sorts_with sorts x) j)))
      (variable_alone w (or_number (slice_get (sorts_with sorts x) j)))
      (cell_alone w (or_number (slice_get (sorts_with sorts x) j)))
      0 sorts x.number j

  zero_fits : (w : Width) → substitution_fits (sorts_with sorts x) (forms_with sorts x) (place.InNumber w) (cell_form (constant 0)) ≡ true
  zero_fits W8 = refl
  zero_fits W16 = refl
  zero_fits W32 = refl
  zero_fits W64 = refl

  pub own_fits : (sort : Sort) (k : ℕ) → number_fits sorts x sort (form_of_cell sort (variable k)) ≡ true
  own_fits (Number w) k = by_tests (is_same_cell x.cell (variable k)) (nat_lt k (length sorts))
    where
      by_tests : (b c : Bool) → substitution_fits (sorts_with sorts x) (forms_with sorts x) (place.InNumber w) (cell_form (if b then variable (length sorts) else if c then variable k else constant 0)) ≡ true
      by_tests true c = variable_fits w (length sorts)
      by_tests false true = variable_fits w k
      by_tests false false = zero_fits w
  own_fits (Opaque j) k = by_tests (is_same_cell x.cell (variable k)) (nat_lt k (length sorts))
    where
      by_tests : (b c : Bool) → substitution_fits (sorts_with sorts x) (forms_with sorts x) place.AsValue (if b then variable (length sorts) else if c then variable k else constant 0) ≡ true
      by_tests true c = refl
      by_tests false true = refl
      by_tests false false = refl

  -- so an own form is never refused
  pub own_not_large : (sort : Sort) (k : ℕ) (f : FlowFormTree) (b : Bool) → f ≡ form_of_cell sort (variable k) → number_fits sorts x sort f ≡ false → b ≡ false
  own_not_large sort k f b e h =
      absurd (both_ways (number_fits sorts x sort f) h (ap (number_fits sorts x sort) e ∙ own_fits sort k))

  -- ---- actions

  pub read_and_fits : (a : FlowActionTree) (new : FlowActionTree) → action_reads x.cell a ≡ true → action_fits sorts x a ≡ true → new ≡ action_with sorts x a → Some new ≡ number_action sorts x a
  read_and_fits a new r f e = ap Some e ∙ sym (ap₂ (λ b c. action_if (b && c) (action_with sorts x a)) r f)

  pub not_read : (a : FlowActionTree) → action_reads x.cell a ≡ false → None ≡ number_action sorts x a
  not_read a r = sym (ap (λ b. action_if (b && action_fits sorts x a) (action_with sorts x a)) r)

  pub too_large : (a : FlowActionTree) → action_reads x.cell a ≡ true → action_fits sorts x a ≡ false → None ≡ number_action sorts x a
  too_large a r f = sym (ap₂ (λ b c. action_if (b && c) (action_with sorts x a)) r f)

-- ---- edges

edges_are : (sorts : List Sort) (x : CellTest) (e : Edge) → edges_or_whole x e (number_action sorts x e.action) ≡ split_edge sorts x e
edges_are sorts x e = by_test (action_reads x.cell e.action && action_fits sorts x e.action)
  where
    by_known : (o : Option Bool) → edges_known x.comparison (action_with sorts x e.action) e o ≡ edges_by sorts x e o
    by_known None = refl
    by_known (Some true) = refl
    by_known (Some false) = refl

    by_test : (b : Bool) → edges_or_whole x e (action_if b (action_with sorts x e.action)) ≡ (if b then edges_by sorts x e (value_known (facts_of_all e.tests) x.comparison) else e ∷ [])
    by_test true = by_known (value_known (facts_of_all e.tests) x.comparison)
    by_test false = refl

-- an edge that stays whole, and one that is split or has the number
pub whole_edge : (sorts : List Sort) (x : CellTest) (e : Edge) → None ≡ number_action sorts x e.action → e ∷ [] ≡ split_edge sorts x e
whole_edge sorts x e h = ap (edges_or_whole x e) h ∙ edges_are sorts x e

pub known_edges : (sorts : List Sort) (x : CellTest) (e : Edge) (new : FlowActionTree) → Some new ≡ number_action sorts x e.action →
    edges_known x.comparison new e (value_known (facts_of_all e.tests) x.comparison) ≡ split_edge sorts x e
known_edges sorts x e new h = ap (edges_or_whole x e) h ∙ edges_are sorts x e
