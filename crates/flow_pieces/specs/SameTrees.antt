-- Whether expressions, conditions and statements are the same, as tests.
use Rattle.std.specs.Prelude.{Bool, true, false, not, ◌&&◌, nat_eq, if◌then◌else◌}
use Rattle.std.specs.Cmp.Lexicographic.{pointwise}
use Rattle.kat_model.specs.declared.expression.Rel.{Rel}
use Rattle.kat_model.specs.declared.expression.Rel.TheVariants.{Eq, Ne, Lt, Le, Gt, Ge}
use Rattle.flow_model.specs.declared.sort.Sort.{Sort}
use Rattle.flow_model.specs.declared.sort.Sort.TheVariants.{Number, Opaque}
use Rattle.flow_model.specs.Expressions.{ExprTree, number, variable, plus, minus, times, converted, applied, no_arguments, argument}
use Rattle.flow_model.specs.Conditions.{CondTree, always, never, compared, compared_signed, negation, both, either}
use Rattle.flow_model.specs.Graphs.{StatementTree, assign, claim}
use Rattle.flow_forms.specs.Conversions.{is_same_width}

abbrev pub is_same_bool : Bool → Bool → Bool
is_same_bool b c = if b then c else not c

abbrev pub is_same_rel : Rel → Rel → Bool
is_same_rel Eq Eq = true
is_same_rel Ne Ne = true
is_same_rel Lt Lt = true
is_same_rel Le Le = true
is_same_rel Gt Gt = true
is_same_rel Ge Ge = true
is_same_rel _ _ = false

abbrev pub is_same_sort : Sort → Sort → Bool
is_same_sort (Number v) (Number w) = is_same_width v w
is_same_sort (Opaque j) (Opaque k) = nat_eq j k
is_same_sort _ _ = false

abbrev pub is_same_expr : ExprTree → ExprTree → Bool
is_same_expr (number v m) (number w n) = is_same_width v w && nat_eq m n
is_same_expr (variable k) (variable l) = nat_eq k l
is_same_expr (plus v e f) (plus w g h) = is_same_width v w && is_same_expr e g && is_same_expr f h
is_same_expr (minus v e f) (minus w g h) = is_same_width v w && is_same_expr e g && is_same_expr f h
is_same_expr (times v e f) (times w g h) = is_same_width v w && is_same_expr e g && is_same_expr f h
is_same_expr (converted b v v' e) (converted c w w' f) = is_same_bool b c && is_same_width v w && is_same_width v' w' && is_same_expr e f
is_same_expr (applied f s e) (applied g t h) = nat_eq f g && is_same_sort s t && is_same_expr e h
is_same_expr no_arguments no_arguments = true
is_same_expr (argument e f) (argument g h) = is_same_expr e g && is_same_expr f h
is_same_expr _ _ = false

abbrev pub is_same_cond : CondTree → CondTree → Bool
is_same_cond always always = true
is_same_cond never never = true
is_same_cond (compared r e f) (compared s g h) = is_same_rel r s && is_same_expr e g && is_same_expr f h
is_same_cond (compared_signed r v e f) (compared_signed s w g h) = is_same_rel r s && is_same_width v w && is_same_expr e g && is_same_expr f h
is_same_cond (negation b) (negation c) = is_same_cond b c
is_same_cond (both b c) (both d e) = is_same_cond b d && is_same_cond c e
is_same_cond (either b c) (either d e) = is_same_cond b d && is_same_cond c e
is_same_cond _ _ = false

abbrev pub is_same_statement : StatementTree → StatementTree → Bool
is_same_statement (assign ks es) (assign ls fs) = pointwise nat_eq ks ls && pointwise is_same_expr es fs
is_same_statement (claim b) (claim c) = is_same_cond b c
is_same_statement _ _ = false
