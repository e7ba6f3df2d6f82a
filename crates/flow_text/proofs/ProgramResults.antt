-- Results of the program and of definitions.
use Rattle.std.proofs.Common.{◌≡◌, Result, Ok, Err, ap}
use Rattle.text_parser.specs.declared.fault.TextFault.{TextFault}
use Rattle.text_parser.specs.declared.fault.TextFault.TheVariants.{NoMemory}
use Rattle.text_parser.specs.Parsed.{◌>>=◌, Makes}
use Rattle.problem_file.specs.Working.Walks.{Does}

-- the same value seen in another way
pub makes_seen : {V W X : Type 0} (f : V → W) (g : W → X) (r : Result V TextFault) (m : Result W TextFault) → Makes (Unit {0}) f r m → Makes (Unit {0}) (λ v. g (f v)) r (m >>= λ w. Ok (g w))
makes_seen f g (Ok v) m e = ap (λ n. n >>= λ w. Ok (g w)) e
makes_seen f g (Err NoMemory) m e = tt
makes_seen f g (Err fault) m e = ap (λ n. n >>= λ w. Ok (g w)) e

-- ---- a fault, at which `whole` fails too

at_fault : {V W : Type 0} (f : V → W) (fault : TextFault) (whole : Result W TextFault) → whole ≡ Err fault → Makes (Unit {0}) f (Err fault) whole
at_fault f NoMemory whole e = tt
at_fault f fault whole e = e

pub fault_made : {V W : Type 0} (f : V → W) (r : Result V TextFault) (fault : TextFault) (whole : Result W TextFault) → r ≡ Err fault → whole ≡ Err fault → Makes (Unit {0}) f r whole
fault_made f r fault whole is e = rw is (at_fault f fault whole e)

at_fault_seen : {V W X Y : Type 0} (f : V → W) (g : X → Y) (fault : TextFault) (m : Result Y TextFault) (whole : Result W TextFault) → Makes (Unit {0}) g (Err fault) m → (m ≡ Err fault → whole ≡ Err fault) → Makes (Unit {0}) f (Err fault) whole
at_fault_seen f g NoMemory m whole seen fails = tt
at_fault_seen f g fault m whole seen fails = fails seen

pub fault_seen : {V W X Y : Type 0} (f : V → W) (g : X → Y) (r : Result V TextFault) (fault : TextFault) (m : Result Y TextFault) (whole : Result W TextFault) → r ≡ Err fault → Makes (Unit {0}) g (Err fault) m → (m ≡ Err fault → whole ≡ Err fault) → Makes (Unit {0}) f r whole
fault_seen f g r fault m whole is seen fails = rw is (at_fault_seen f g fault m whole seen fails)

-- likewise, where the program changes a state; `X` and `Y` are the types of the program's values
at_fault_done : (S T X Y : Type 0) (s : S) (t : T) (fault : TextFault) (m : Result T TextFault) (whole : Result S TextFault) → Does {S = T} {X = X} (Unit {0}) (Err fault) t m → (m ≡ Err fault → whole ≡ Err fault) → Does {S = S} {X = Y} (Unit {0}) (Err fault) s whole
at_fault_done S T X Y s t NoMemory m whole done fails = tt
at_fault_done S T X Y s t fault m whole done fails = fails done

pub fault_done : (S T X Y : Type 0) (s : S) (t : T) (r : Result Y TextFault) (fault : TextFault) (m : Result T TextFault) (whole : Result S TextFault) → r ≡ Err fault → Does {S = T} {X = X} (Unit {0}) (Err fault) t m → (m ≡ Err fault → whole ≡ Err fault) → Does {S = S} {X = Y} (Unit {0}) r s whole
fault_done S T X Y s t r fault m whole is done fails = rw is (at_fault_done S T X Y s t fault m whole done fails)

-- a fault of a program that changes a state, in one that makes a value
at_fault_given : (T X : Type 0) {V W : Type 0} (f : V → W) (t : T) (fault : TextFault) (m : Result T TextFault) (whole : Result W TextFault) → Does {S = T} {X = X} (Unit {0}) (Err fault) t m → (m ≡ Err fault → whole ≡ Err fault) → Makes (Unit {0}) f (Err fault) whole
at_fault_given T X f t NoMemory m whole done fails = tt
at_fault_given T X f t fault m whole done fails = fails done

pub fault_given : (T X : Type 0) {V W : Type 0} (f : V → W) (t : T) (r : Result V TextFault) (fault : TextFault) (m : Result T TextFault) (whole : Result W TextFault) → r ≡ Err fault → Does {S = T} {X = X} (Unit {0}) (Err fault) t m → (m ≡ Err fault → whole ≡ Err fault) → Makes (Unit {0}) f r whole
fault_given T X f t r fault m whole is done fails = rw is (at_fault_given T X f t fault m whole done fails)
