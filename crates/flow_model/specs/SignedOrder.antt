-- The order of two's complements.
use Rattle.std.specs.Prelude.{ℕ, Bool, ◌&&◌, ◌||◌, not, nat_lt}
use Rattle.kat_model.specs.declared.expression.Width.{Width}
use Rattle.flow_model.specs.Interpretations.{is_negative}

-- whether m is less than n as two's complements: m is negative and n is not, or both have one sign and m is less
abbrev pub signed_less : Width → ℕ → ℕ → Bool
signed_less w m n =
    (is_negative w m && not (is_negative w n))
    || ((is_negative w m || not (is_negative w n)) && nat_lt m n)
