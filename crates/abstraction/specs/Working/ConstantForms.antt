-- Constant forms.
use Rattle.std.specs.Prelude.{ℕ, Option, Some, None}
use Rattle.linear_forms.specs.Forms.{FormTree, constant, var_term, product_term}

-- the number of a constant form
abbrev pub constant_value : FormTree → Option ℕ
constant_value (constant c) = Some c
constant_value (var_term k t rest) = None
constant_value (product_term f g t rest) = None
