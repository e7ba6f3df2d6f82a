-- What holds of the value of a result, if it has one.
use Rattle.std.proofs.Common.{◌≡◌, Bool, true, false, if◌then◌else◌, Result, Ok, Err, refl, subst}
use Rattle.text_parser.specs.declared.fault.TextFault.{TextFault}
use Rattle.text_parser.specs.Parsed.{◌>>=◌}

abbrev pub Holds : {V : Type 0} → (V → Type 0) → Result V TextFault → Type 0
Holds P (Ok x) = P x
Holds P (Err e) = Unit {0}

pub any_holds : {V : Type 0} (m : Result V TextFault) → Holds (λ (x : V). Unit {0}) m
any_holds (Ok x) = tt
any_holds (Err e) = tt

pub then_holds : {V W : Type 0} (P : V → Type 0) (Q : W → Type 0) (m : Result V TextFault) (f : V → Result W TextFault) → Holds P m → ((x : V) → P x → Holds Q (f x)) → Holds Q (m >>= f)
then_holds P Q (Ok x) f h g = g x h
then_holds P Q (Err e) f h g = tt

pub if_holds : {V : Type 0} (P : V → Type 0) (b : Bool) (x y : Result V TextFault) → (b ≡ true → Holds P x) → Holds P y → Holds P (if b then x else y)
if_holds P true x y f h = f refl
if_holds P false x y f h = h

pub weakened : {V : Type 0} (P Q : V → Type 0) (m : Result V TextFault) → Holds P m → ((x : V) → P x → Q x) → Holds Q m
weakened P Q (Ok x) h g = g x h
weakened P Q (Err e) h g = tt

pub value_holds : {V : Type 0} (P : V → Type 0) (m : Result V TextFault) (x : V) → Holds P m → m ≡ Ok x → P x
value_holds P m x h e = subst (Holds P) e h

pub both_hold : {V : Type 0} (P Q : V → Type 0) (m : Result V TextFault) → Holds P m → Holds Q m → Holds (λ x. P x × Q x) m
both_hold P Q (Ok x) h k = (h, k)
both_hold P Q (Err e) h k = tt

pub all_hold : {I V : Type 0} (P : I → V → Type 0) (m : Result V TextFault) → ((i : I) → Holds (P i) m) → Holds (λ x. (i : I) → P i x) m
all_hold P (Ok x) h = h
all_hold P (Err e) h = tt
