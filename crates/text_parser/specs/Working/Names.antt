-- Two maps that are inverse to each other.
use Rattle.std.specs.Prelude.{◌≡◌, ℕ, List, Option, Some, String, string_bytes}
use Rattle.std.specs.Option.{option_map}
use Rattle.std.specs.BTreeMap.{BTreeMap, get}
use Rattle.std.specs.declared.alloc.Global.{Global}
use Rattle.text_parser.specs.declared.meaning.Meaning.{Meaning}
use Rattle.text_parser.specs.contracts.meaning.MeaningOrd.TheImpl.{ghosts}

-- the text that the map stores for a meaning
abbrev pub text_of : BTreeMap Meaning (String Global) → Meaning → Option (List ℕ)
text_of texts m = option_map string_bytes (get ghosts.cmp texts m)

-- `f` and `g` are inverse: `f` maps `k` to `v` if and only if `g` maps `v` to `k`
pub record AreInverse {K V : Type 0} (f : K → Option V) (g : V → Option K) : Type 0 where
  pub there : (k : K) (v : V) → f k ≡ Some v → g v ≡ Some k
  pub back : (v : V) (k : K) → g v ≡ Some k → f k ≡ Some v
