-- Whether pairs, by the numbers of terms, match two sets of terms, as far as is known.
use Rattle.std.specs.Prelude.{◌≡◌, ◌⊎◌, ◌∷◌, [], ℕ, Bool, IsTrue, ◌&&◌, nat_eq, if◌then◌else◌, List, Option, None}
use Rattle.std.specs.List.{list_any}
use Rattle.std.specs.Cmp.Lexicographic.{pointwise}
use Rattle.certificate.specs.declared.nodes.Style.{Style}
use Rattle.certificate.specs.declared.nodes.Style.TheVariants.{Plain, UpTo, Under}
use Rattle.term_nodes.specs.NumberSets.{NumberPair}
use Rattle.certificate.specs.PairParts.{PairParts, only_sets}
use Rattle.cert_checker.specs.Cases.{known_test}
use Rattle.cert_checker.specs.Working.Reaching.{AreReached, IsReachedByBoth}
use Rattle.cert_checker.specs.declared.known.Truth.{Truth}
use Rattle.cert_checker.specs.declared.known.Truth.TheVariants.{Known, Undecided as UndecidedBy}
use Rattle.cert_checker.specs.declared.sides.TargetSides.{TargetSides}

-- whether a value is known to be true, or may be
abbrev pub may_be : Bool → Truth → Bool
may_be also (Known b) = b
may_be also (UndecidedBy k) = also

abbrev pub does_count : Bool → List Truth → PairParts → Bool
does_count also known p = may_be also (known_test known p.test)

-- the sets of the pairs whose test is true, or may be
abbrev pub counting : Bool → List Truth → List PairParts → List NumberPair
counting also known [] = []
counting also known (p ∷ ps) = if does_count also known p then only_sets p ∷ counting also known ps else counting also known ps

-- whether some pair has exactly these numbers
abbrev pub lists : List NumberPair → List ℕ → List ℕ → Bool
lists pairs ks ls = list_any (λ p. pointwise nat_eq p.left ks && pointwise nat_eq p.right ls) pairs

-- these pairs make each open term reachable from the surely present terms of the other set, or the universal term from
-- both sets
abbrev pub AreCovered : List NumberPair → Option ℕ → TargetSides → Type 0
AreCovered ps universal s =
    (AreReached ps s.right.sure.items s.left.alone.items × AreReached ps s.left.sure.items s.right.alone.items) ⊎ IsReachedByBoth ps universal s.left.sure.items s.right.sure.items

-- the pairs surely match the sets: the sets are listed and no guard waits, or they are covered and no guard of an open
-- term waits
abbrev pub AreSurelyMatched : Style → List NumberPair → Option ℕ → TargetSides → Type 0
AreSurelyMatched Plain ps universal s = ((s.left.waits ≡ None) × (s.right.waits ≡ None)) × IsTrue (lists ps s.left.sure.items s.right.sure.items)
AreSurelyMatched UpTo ps universal s = ((s.left.alone_waits ≡ None) × (s.right.alone_waits ≡ None)) × AreCovered ps universal s
AreSurelyMatched Under ps universal s = ((s.left.alone_waits ≡ None) × (s.right.alone_waits ≡ None)) × AreCovered ps universal s
