-- A code of programs as trees of numbers. The logic distinguishes the values of a model by their codes.
use Rattle.std.specs.Prelude.{◌≡◌, refl}
use Rattle.std.proofs.Common.{ap}
use mathlib.Core.Path.{ap₂}
use base.Stored.{Gv, gnil, gnum, gcons}
use denote.Struct.Codes.{itself}
use Rattle.std.specs.Coded.{Coded, code_by}
use Rattle.kat_model.specs.ConditionCodes.{expr_code, coded_as_expr, expr_of_code, cond_code, coded_as_cond, cond_of_code}
use Rattle.while_lang.specs.Programs.{ProgTree, empty, skip_then, abort_then, assert_then, act_then, assign_then, branch_then, loop_then}

abbrev pub prog_code : ProgTree → Gv
prog_code empty = gnil
prog_code (skip_then rest) = gcons (gnum 0) (prog_code rest)
prog_code (abort_then rest) = gcons gnil (prog_code rest)
prog_code (assert_then b rest) = gcons (gcons gnil (cond_code b)) (prog_code rest)
prog_code (act_then a rest) = gcons (gcons (gnum 0) (gnum a)) (prog_code rest)
prog_code (assign_then x e rest) = gcons (gcons (gnum 0) (gcons (gnum x) (expr_code e))) (prog_code rest)
prog_code (branch_then b p q rest) = gcons (gcons (gcons gnil (cond_code b)) (gcons (prog_code p) (prog_code q))) (prog_code rest)
prog_code (loop_then b p rest) = gcons (gcons (gcons (gnum 0) (cond_code b)) (prog_code p)) (prog_code rest)

abbrev pub coded_as_prog : Gv → ProgTree
coded_as_prog gnil = empty
coded_as_prog (gnum k) = empty
coded_as_prog (gcons gnil v) = abort_then (coded_as_prog v)
coded_as_prog (gcons (gnum k) v) = skip_then (coded_as_prog v)
coded_as_prog (gcons (gcons gnil b) v) = assert_then (coded_as_cond b) (coded_as_prog v)
coded_as_prog (gcons (gcons (gnum k) (gnum a)) v) = act_then a (coded_as_prog v)
coded_as_prog (gcons (gcons (gnum k) (gcons (gnum x) e)) v) = assign_then x (coded_as_expr e) (coded_as_prog v)
coded_as_prog (gcons (gcons (gcons gnil b) (gcons p q)) v) = branch_then (coded_as_cond b) (coded_as_prog p) (coded_as_prog q) (coded_as_prog v)
coded_as_prog (gcons (gcons (gcons (gnum k) b) p) v) = loop_then (coded_as_cond b) (coded_as_prog p) (coded_as_prog v)
coded_as_prog (gcons x v) = empty

pub prog_of_code : (p : ProgTree) → coded_as_prog (prog_code p) ≡ p
prog_of_code empty = refl
prog_of_code (skip_then rest) = ap skip_then (prog_of_code rest)
prog_of_code (abort_then rest) = ap abort_then (prog_of_code rest)
prog_of_code (assert_then b rest) = ap₂ assert_then (cond_of_code b) (prog_of_code rest)
prog_of_code (act_then a rest) = ap (act_then a) (prog_of_code rest)
prog_of_code (assign_then x e rest) = ap₂ (assign_then x) (expr_of_code e) (prog_of_code rest)
prog_of_code (branch_then b p q rest) = rw (cond_of_code b, prog_of_code p, prog_of_code q, prog_of_code rest) refl
prog_of_code (loop_then b p rest) = rw (cond_of_code b, prog_of_code p, prog_of_code rest) refl

abbrev pub coded_prog : Coded ProgTree
coded_prog = code_by Gv itself prog_code coded_as_prog prog_of_code
