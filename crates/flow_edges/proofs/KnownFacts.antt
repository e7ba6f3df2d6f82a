-- What facts say of a comparison, one list after the other.
use Rattle.std.proofs.Common.{◌≡◌, Bool, true, false, List, [], ◌∷◌, ◌++◌, Some, if◌then◌else◌, refl}
use Rattle.std.specs.Option.{option_or}
use Rattle.flow_forms.specs.Comparisons.{FlowComparisonTree, is_same_comparison}
use Rattle.flow_ways.specs.Conditions.{Fact, value_known}

-- the first list decides, and where it says nothing the second
pub known_first : (fs gs : List Fact) (c : FlowComparisonTree) → value_known (fs ++ gs) c ≡ option_or (value_known fs c) (value_known gs c)
known_first [] gs c = refl
known_first (f ∷ fs) gs c = by_test (is_same_comparison f.0 c) (known_first fs gs c)
  where
    by_test : (b : Bool) → value_known (fs ++ gs) c ≡ option_or (value_known fs c) (value_known gs c) →
        (if b then Some f.1 else value_known (fs ++ gs) c) ≡ option_or (if b then Some f.1 else value_known fs c) (value_known gs c)
    by_test true e = refl
    by_test false e = e
