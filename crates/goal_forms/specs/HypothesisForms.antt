-- The forms of hypotheses as computable tests, and what hypotheses rule out.
use Rattle.std.specs.Prelude.{ℕ, Bool, true, false, not, ◌&&◌, ◌||◌, eqb, if◌then◌else◌, List}
use Rattle.std.specs.List.{list_all, list_any}
use Rattle.kat_model.specs.Trees.{Term, zero, one, test, act, sum, product, star, is_test}
use Rattle.kat_model.specs.Steps.{Atom, out}

-- whether the factors of a term are test terms and exactly one action
abbrev pub is_step : Term → Bool
is_step zero = false
is_step one = false
is_step (test b) = false
is_step (act a) = true
is_step (sum e f) = false
is_step (product e f) = (is_test e && is_step f) || (is_step e && is_test f)
is_step (star e) = false

abbrev pub is_simple : Term → Bool
is_simple h = is_test h || is_step h

-- whether no hypothesis that is a test term is true at the atom
abbrev pub allows : List Term → Atom → Bool
allows hyps atom = list_all (λ h. not (is_test h && out h atom)) hyps

-- whether a hypothesis with one action rules out the step by action a from one atom to another
abbrev pub rules_out : Term → ℕ → Atom → Atom → Bool
rules_out zero a before after = false
rules_out one a before after = false
rules_out (test b) a before after = false
rules_out (act b) a before after = eqb b a
rules_out (sum e f) a before after = false
rules_out (product e f) a before after =
    if is_test e then out e before && rules_out f a before after else rules_out e a before after && out f after
rules_out (star e) a before after = false

abbrev pub some_rules_out : List Term → ℕ → Atom → Atom → Bool
some_rules_out hyps a before after = list_any (λ h. rules_out h a before after) hyps
