-- Codes of expressions and conditions as trees of numbers, by which the logic distinguishes the values of a model.
use Rattle.std.specs.Prelude.{◌≡◌, refl}
use Rattle.std.proofs.Common.{ap, ◌∙◌}
use mathlib.Core.Path.{ap₂}
use base.Stored.{Gv, gnil, gnum, gcons}
use denote.Struct.Codes.{itself}
use Rattle.std.specs.Coded.{Coded, code_by}
use Rattle.kat_model.specs.declared.expression.Rel.{Rel}
use Rattle.kat_model.specs.declared.expression.Rel.TheVariants.{Eq, Ne, Lt, Le, Gt, Ge}
use Rattle.kat_model.specs.Expressions.{ExprTree, number, variable, plus, minus, times, CondTree, always, never, named, compared, negation, both, either}

abbrev pub expr_code : ExprTree → Gv
expr_code (number n) = gnum n
expr_code (variable k) = gcons gnil (gnum k)
expr_code (plus e f) = gcons (gcons gnil (expr_code e)) (expr_code f)
expr_code (minus e f) = gcons (gcons (gnum 0) (expr_code e)) (expr_code f)
expr_code (times e f) = gcons (gcons (gcons gnil gnil) (expr_code e)) (expr_code f)

abbrev pub coded_as_expr : Gv → ExprTree
coded_as_expr gnil = number 0
coded_as_expr (gnum n) = number n
coded_as_expr (gcons gnil gnil) = number 0
coded_as_expr (gcons gnil (gnum k)) = variable k
coded_as_expr (gcons gnil (gcons x y)) = number 0
coded_as_expr (gcons (gnum k) v) = number 0
coded_as_expr (gcons (gcons gnil u) v) = plus (coded_as_expr u) (coded_as_expr v)
coded_as_expr (gcons (gcons (gnum k) u) v) = minus (coded_as_expr u) (coded_as_expr v)
coded_as_expr (gcons (gcons (gcons x y) u) v) = times (coded_as_expr u) (coded_as_expr v)

-- the code of a relation is one of two leaves or one of four pairs
abbrev pub rel_code : Rel → Gv
rel_code Eq = gnil
rel_code Ne = gnum 0
rel_code Lt = gcons gnil gnil
rel_code Le = gcons gnil (gnum 0)
rel_code Gt = gcons (gnum 0) gnil
rel_code Ge = gcons (gnum 0) (gnum 0)

abbrev pub coded_as_rel : Gv → Rel
coded_as_rel gnil = Eq
coded_as_rel (gnum k) = Ne
coded_as_rel (gcons gnil gnil) = Lt
coded_as_rel (gcons gnil (gnum k)) = Le
coded_as_rel (gcons gnil (gcons x y)) = Le
coded_as_rel (gcons (gnum j) gnil) = Gt
coded_as_rel (gcons (gnum j) (gnum k)) = Ge
coded_as_rel (gcons (gnum j) (gcons x y)) = Ge
coded_as_rel (gcons (gcons x y) v) = Ge

abbrev pub cond_code : CondTree → Gv
cond_code always = gnil
cond_code never = gcons gnil gnil
cond_code (named k) = gnum k
cond_code (compared rel e f) = gcons (gcons (gcons gnil (rel_code rel)) (expr_code e)) (expr_code f)
cond_code (negation b) = gcons (gnum 0) (cond_code b)
cond_code (both b c) = gcons (gcons gnil (cond_code b)) (cond_code c)
cond_code (either b c) = gcons (gcons (gnum 0) (cond_code b)) (cond_code c)

abbrev pub coded_as_cond : Gv → CondTree
coded_as_cond gnil = always
coded_as_cond (gnum k) = named k
coded_as_cond (gcons gnil v) = never
coded_as_cond (gcons (gnum k) v) = negation (coded_as_cond v)
coded_as_cond (gcons (gcons gnil u) v) = both (coded_as_cond u) (coded_as_cond v)
coded_as_cond (gcons (gcons (gnum k) u) v) = either (coded_as_cond u) (coded_as_cond v)
coded_as_cond (gcons (gcons (gcons x r) u) v) = compared (coded_as_rel r) (coded_as_expr u) (coded_as_expr v)

pub expr_of_code : (e : ExprTree) → coded_as_expr (expr_code e) ≡ e
expr_of_code (number n) = refl
expr_of_code (variable k) = refl
expr_of_code (plus e f) = ap₂ plus (expr_of_code e) (expr_of_code f)
expr_of_code (minus e f) = ap₂ minus (expr_of_code e) (expr_of_code f)
expr_of_code (times e f) = ap₂ times (expr_of_code e) (expr_of_code f)

pub rel_of_code : (rel : Rel) → coded_as_rel (rel_code rel) ≡ rel
rel_of_code Eq = refl
rel_of_code Ne = refl
rel_of_code Lt = refl
rel_of_code Le = refl
rel_of_code Gt = refl
rel_of_code Ge = refl

pub cond_of_code : (b : CondTree) → coded_as_cond (cond_code b) ≡ b
cond_of_code always = refl
cond_of_code never = refl
cond_of_code (named k) = refl
cond_of_code (compared rel e f) =
    ap (λ r. compared r (coded_as_expr (expr_code e)) (coded_as_expr (expr_code f))) (rel_of_code rel) ∙ ap₂ (compared rel) (expr_of_code e) (expr_of_code f)
cond_of_code (negation b) = ap negation (cond_of_code b)
cond_of_code (both b c) = ap₂ both (cond_of_code b) (cond_of_code c)
cond_of_code (either b c) = ap₂ either (cond_of_code b) (cond_of_code c)

abbrev pub coded_expr : Coded ExprTree
coded_expr = code_by Gv itself expr_code coded_as_expr expr_of_code

abbrev pub coded_rel : Coded Rel
coded_rel = code_by Gv itself rel_code coded_as_rel rel_of_code

abbrev pub coded_cond : Coded CondTree
coded_cond = code_by Gv itself cond_code coded_as_cond cond_of_code
