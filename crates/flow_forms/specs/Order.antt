-- The order of forms.
use Rattle.std.specs.Prelude.{ℕ, Bool, true, false}
use Rattle.std.specs.Ordering.{ordering_then}
use Rattle.std.proofs.Common.{Ordering, Less, Greater, nat_cmp}
use Rattle.kat_model.specs.Stores.{bits}
use Rattle.flow_model.specs.declared.sort.Sort.{Sort}
use Rattle.flow_model.specs.declared.sort.Sort.TheVariants.{Number, Opaque}
use Rattle.flow_forms.specs.Forms.{FlowFormTree, constant, term, one, factor, variable, applied, converted, no_arguments, argument}

-- number sorts come before opaque ones
abbrev pub sort_cmp : Sort → Sort → Ordering
sort_cmp (Number v) (Number w) = nat_cmp (bits v) (bits w)
sort_cmp (Number v) (Opaque k) = Less
sort_cmp (Opaque j) (Number w) = Greater
sort_cmp (Opaque j) (Opaque k) = nat_cmp j k

-- unsigned before signed
abbrev pub sign_rank : Bool → ℕ
sign_rank false = 0
sign_rank true = 1

-- the order of forms that begin differently
abbrev pub kind_rank : FlowFormTree → ℕ
kind_rank (constant c) = 0
kind_rank (term t p rest) = 1
kind_rank one = 2
kind_rank (factor c rest) = 3
kind_rank (variable k) = 4
kind_rank (applied f result args) = 5
kind_rank (converted signed from to f) = 6
kind_rank no_arguments = 7
kind_rank (argument sort f rest) = 8

-- Sums are ordered as lists of terms, product before coefficient, then by constant; products as lists of cells. Variables
-- come before applications and these before conversions; each in the order of its parts.
abbrev pub form_cmp : FlowFormTree → FlowFormTree → Ordering
form_cmp (constant c) (constant d) = nat_cmp c d
form_cmp (term t p rest) (term u q other) =
    ordering_then (form_cmp p q) (ordering_then (nat_cmp t u) (form_cmp rest other))
form_cmp (factor c rest) (factor d other) = ordering_then (form_cmp c d) (form_cmp rest other)
form_cmp (variable j) (variable k) = nat_cmp j k
form_cmp (applied f result args) (applied g sort others) =
    ordering_then (nat_cmp f g) (ordering_then (sort_cmp result sort) (form_cmp args others))
form_cmp (converted signed from to f) (converted sign v w g) =
    ordering_then (nat_cmp (sign_rank signed) (sign_rank sign))
    (ordering_then (nat_cmp (bits from) (bits v)) (ordering_then (nat_cmp (bits to) (bits w)) (form_cmp f g)))
form_cmp (argument sort f rest) (argument kind g other) =
    ordering_then (sort_cmp sort kind) (ordering_then (form_cmp f g) (form_cmp rest other))
form_cmp f g = nat_cmp (kind_rank f) (kind_rank g)
