-- Forms as trees, without the lists and boxes of the program.
use Rattle.std.specs.Prelude.{ℕ, ◌+◌, List, [], ◌∷◌}

-- a form: a constant, or a term before a form; the term is a variable or a product of two forms, with its coefficient
pub data FormTree : Type 0 where
  constant : (c : ℕ) → FormTree
  var_term : (k coefficient : ℕ) (rest : FormTree) → FormTree
  product_term : (f g : FormTree) (coefficient : ℕ) (rest : FormTree) → FormTree

-- a monomial: a variable by its number, or a product of two forms
pub data MonoTree : Type 0 where
  var : (k : ℕ) → MonoTree
  product : (f g : FormTree) → MonoTree

-- a term: a monomial with its coefficient
abbrev pub TermTree : Type 0
TermTree = MonoTree × ℕ

-- a term before a form
abbrev pub with_term : TermTree → FormTree → FormTree
with_term (var k, t) rest = var_term k t rest
with_term (product f g, t) rest = product_term f g t rest

-- the form of a list of terms and a constant
abbrev pub form_of : List TermTree → ℕ → FormTree
form_of [] c = constant c
form_of (x ∷ xs) c = with_term x (form_of xs c)

-- the terms of a form; `constant_of`: its constant
abbrev pub terms_of : FormTree → List TermTree
terms_of (constant c) = []
terms_of (var_term k t rest) = (var k, t) ∷ terms_of rest
terms_of (product_term f g t rest) = (product f g, t) ∷ terms_of rest

abbrev pub constant_of : FormTree → ℕ
constant_of (constant c) = c
constant_of (var_term k t rest) = constant_of rest
constant_of (product_term f g t rest) = constant_of rest

-- the form that is one variable
abbrev pub form_of_var : ℕ → FormTree
form_of_var k = var_term k 1 (constant 0)

-- the number of nodes of a form: one, and for each term one for a variable, or one and the nodes of both forms of a
-- product
abbrev pub form_nodes : FormTree → ℕ
form_nodes (constant c) = 1
form_nodes (var_term k t rest) = form_nodes rest + 1
form_nodes (product_term f g t rest) = form_nodes rest + (form_nodes f + form_nodes g + 1)

abbrev pub mono_nodes : MonoTree → ℕ
mono_nodes (var k) = 1
mono_nodes (product f g) = form_nodes f + form_nodes g + 1
