-- The tests of sameness are true of equal lists, expressions, conditions, statements and matches only.
use Rattle.std.proofs.Common.{◌≡◌, ℕ, Bool, true, false, ◌&&◌, nat_eq, List, [], ◌∷◌, refl, ap}
use Rattle.std.proofs.lemmas.Bool.{and_parts, eqb-true}
use mathlib.Core.Path.{ap₂}
use Rattle.std.specs.Cmp.Lexicographic.{pointwise}
use Rattle.kat_model.specs.declared.expression.Rel.{Rel}
use Rattle.kat_model.specs.declared.expression.Rel.TheVariants.{Eq, Ne, Lt, Le, Gt, Ge}
use Rattle.flow_model.specs.declared.sort.Sort.{Sort}
use Rattle.flow_model.specs.declared.sort.Sort.TheVariants.{Number, Opaque}
use Rattle.flow_model.specs.Expressions.{ExprTree, number, variable, plus, minus, times, converted, applied, no_arguments, argument}
use Rattle.flow_model.specs.Conditions.{CondTree, always, never, compared, compared_signed, negation, both, either}
use Rattle.flow_model.specs.Graphs.{StatementTree, assign, claim}
use Rattle.flow_forms.specs.Conversions.{is_same_width}
use Rattle.flow_forms.proofs.ConvertedValues.{same_bits}
use Rattle.flow_model.specs.Matches.{Equation, Match}
use Rattle.flow_pieces.specs.PieceQuestions.{matched_at}
use Rattle.flow_pieces.specs.SameTrees.{is_same_bool, is_same_rel, is_same_sort, is_same_expr, is_same_cond, is_same_statement}
use Rattle.flow_pieces.specs.Exits.{is_same_equation, have_same_parts}

pub lists_same : {X : Type 0} (same : X → X → Bool) → ((x y : X) → same x y ≡ true → x ≡ y) → (xs ys : List X) → pointwise same xs ys ≡ true → xs ≡ ys
lists_same same is [] [] e = refl
lists_same same is [] (y ∷ ys) e = absurd cc
lists_same same is (x ∷ xs) [] e = absurd cc
lists_same same is (x ∷ xs) (y ∷ ys) e =
    let h = and_parts (same x y) (pointwise same xs ys) e in
    ap₂ (λ z zs. z ∷ zs) (is x y h.0) (lists_same same is xs ys h.1)

pub numbers_same : (ks ls : List ℕ) → pointwise nat_eq ks ls ≡ true → ks ≡ ls
numbers_same ks ls e = lists_same nat_eq (λ k l. eqb-true k l) ks ls e

pub bool_same : (b c : Bool) → is_same_bool b c ≡ true → b ≡ c
bool_same true true e = refl
bool_same false false e = refl
bool_same true false e = absurd cc
bool_same false true e = absurd cc

rel_same : (r s : Rel) → is_same_rel r s ≡ true → r ≡ s
rel_same Eq Eq e = refl
rel_same Ne Ne e = refl
rel_same Lt Lt e = refl
rel_same Le Le e = refl
rel_same Gt Gt e = refl
rel_same Ge Ge e = refl
rel_same _ _ e = absurd cc

sort_same : (s t : Sort) → is_same_sort s t ≡ true → s ≡ t
sort_same (Number v) (Number w) e = ap Number (same_bits v w e)
sort_same (Opaque j) (Opaque k) e = ap Opaque (eqb-true j k e)
sort_same _ _ e = absurd cc

pub expr_same : (e f : ExprTree) → is_same_expr e f ≡ true → e ≡ f
expr_same (number v m) (number w n) q =
    let h = and_parts (is_same_width v w) (nat_eq m n) q in
    rw (same_bits v w h.0, eqb-true m n h.1) refl
expr_same (variable k) (variable l) q = ap variable (eqb-true k l q)
expr_same (plus v e f) (plus w g d) q =
    let h = and_parts (is_same_width v w && is_same_expr e g) (is_same_expr f d) q in
    let i = and_parts (is_same_width v w) (is_same_expr e g) h.0 in
    rw (same_bits v w i.0, expr_same e g i.1, expr_same f d h.1) refl
expr_same (minus v e f) (minus w g d) q =
    let h = and_parts (is_same_width v w && is_same_expr e g) (is_same_expr f d) q in
    let i = and_parts (is_same_width v w) (is_same_expr e g) h.0 in
    rw (same_bits v w i.0, expr_same e g i.1, expr_same f d h.1) refl
expr_same (times v e f) (times w g d) q =
    let h = and_parts (is_same_width v w && is_same_expr e g) (is_same_expr f d) q in
    let i = and_parts (is_same_width v w) (is_same_expr e g) h.0 in
    rw (same_bits v w i.0, expr_same e g i.1, expr_same f d h.1) refl
expr_same (converted b v from e) (converted c w to f) q =
    let h = and_parts (is_same_bool b c && is_same_width v w && is_same_width from to) (is_same_expr e f) q in
    let i = and_parts (is_same_bool b c && is_same_width v w) (is_same_width from to) h.0 in
    let j = and_parts (is_same_bool b c) (is_same_width v w) i.0 in
    rw (bool_same b c j.0, same_bits v w j.1, same_bits from to i.1, expr_same e f h.1) refl
expr_same (applied f s e) (applied g t d) q =
    let h = and_parts (nat_eq f g && is_same_sort s t) (is_same_expr e d) q in
    let i = and_parts (nat_eq f g) (is_same_sort s t) h.0 in
    rw (eqb-true f g i.0, sort_same s t i.1, expr_same e d h.1) refl
expr_same no_arguments no_arguments q = refl
expr_same (argument e f) (argument g d) q =
    let h = and_parts (is_same_expr e g) (is_same_expr f d) q in
    ap₂ argument (expr_same e g h.0) (expr_same f d h.1)
expr_same _ _ q = absurd cc

pub cond_same : (b c : CondTree) → is_same_cond b c ≡ true → b ≡ c
cond_same always always q = refl
cond_same never never q = refl
cond_same (compared r e f) (compared s g d) q =
    let h = and_parts (is_same_rel r s && is_same_expr e g) (is_same_expr f d) q in
    let i = and_parts (is_same_rel r s) (is_same_expr e g) h.0 in
    rw (rel_same r s i.0, expr_same e g i.1, expr_same f d h.1) refl
cond_same (compared_signed r v e f) (compared_signed s w g d) q =
    let h = and_parts (is_same_rel r s && is_same_width v w && is_same_expr e g) (is_same_expr f d) q in
    let i = and_parts (is_same_rel r s && is_same_width v w) (is_same_expr e g) h.0 in
    let j = and_parts (is_same_rel r s) (is_same_width v w) i.0 in
    rw (rel_same r s j.0, same_bits v w j.1, expr_same e g i.1, expr_same f d h.1) refl
cond_same (negation b) (negation c) q = ap negation (cond_same b c q)
cond_same (both a b) (both c d) q =
    let h = and_parts (is_same_cond a c) (is_same_cond b d) q in
    ap₂ both (cond_same a c h.0) (cond_same b d h.1)
cond_same (either a b) (either c d) q =
    let h = and_parts (is_same_cond a c) (is_same_cond b d) q in
    ap₂ either (cond_same a c h.0) (cond_same b d h.1)
cond_same _ _ q = absurd cc

pub statement_same : (x y : StatementTree) → is_same_statement x y ≡ true → x ≡ y
statement_same (assign ks es) (assign ls fs) q =
    let h = and_parts (pointwise nat_eq ks ls) (pointwise is_same_expr es fs) q in
    ap₂ assign (numbers_same ks ls h.0) (lists_same is_same_expr expr_same es fs h.1)
statement_same (claim b) (claim c) q = ap claim (cond_same b c q)
statement_same _ _ q = absurd cc

equation_same : (d e : Equation) → is_same_equation d e ≡ true → d ≡ e
equation_same d e q =
    let h = and_parts (nat_eq d.variable e.variable) (is_same_expr d.expression e.expression) q in
    ap₂ (λ k x. record { variable = k; expression = x }) (eqb-true d.variable e.variable h.0) (expr_same d.expression e.expression h.1)

equations_same : (ds es : List Equation) → pointwise is_same_equation ds es ≡ true → ds ≡ es
equations_same ds es q = lists_same is_same_equation equation_same ds es q

match_of : (k l : ℕ) (forth forth' back back' keeping keeping' : List Equation) (b c : CondTree) → forth ≡ forth' → back ≡ back' → keeping ≡ keeping' → b ≡ c →
    ◌≡◌ {A = Match} (record { before = k; after = l; forth = forth; back = back; keeping = keeping; condition = b }) (record { before = k; after = l; forth = forth'; back = back'; keeping = keeping'; condition = c })
match_of k l forth forth' back back' keeping keeping' b c p q r s = rw (p, q, r, s) refl

-- matches with the same parts are one match at the blocks of one of them
pub parts_same : (c d : Match) → have_same_parts c d ≡ true → matched_at d.before d.after c ≡ d
parts_same c d q =
    let f = pointwise is_same_equation c.forth d.forth in
    let b = pointwise is_same_equation c.back d.back in
    let k = pointwise is_same_equation c.keeping d.keeping in
    let h = and_parts (f && b && k) (is_same_cond c.condition d.condition) q in
    let i = and_parts (f && b) k h.0 in
    let j = and_parts f b i.0 in
    match_of d.before d.after c.forth d.forth c.back d.back c.keeping d.keeping c.condition d.condition (equations_same c.forth d.forth j.0) (equations_same c.back d.back j.1) (equations_same c.keeping d.keeping i.1) (cond_same c.condition d.condition h.1)
