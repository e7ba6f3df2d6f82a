-- Names and reasons by number.
use Rattle.std.proofs.Common.{◌≡◌, ℕ, List, map, Some, None, ap, ◌∙◌}
use Rattle.std.specs.Prelude.{slice_get, String, string_bytes}
use Rattle.std.specs.Option.{option_map}
use Rattle.std.specs.declared.alloc.Global.{Global}
use Rattle.std.proofs.lemmas.Option.{slice_get-map}
use Rattle.flow_abstraction.specs.HypothesisViews.{flow_rule}
use Rattle.flow_abstraction.specs.declared.hypothesis.FlowRule.{FlowRule as ARule}

-- the bytes of a name that is there
pub named : (xs : List (String Global)) (k : ℕ) (name : String Global) → slice_get xs k ≡ Some name → slice_get (map string_bytes xs) k ≡ Some (string_bytes name)
named xs k name e = slice_get-map string_bytes xs k ∙ ap (option_map string_bytes) e

pub unnamed : (xs : List (String Global)) (k : ℕ) → slice_get xs k ≡ None → slice_get (map string_bytes xs) k ≡ None
unnamed xs k e = slice_get-map string_bytes xs k ∙ ap (option_map string_bytes) e

pub reason_there : (xs : List ARule) (k : ℕ) (rule : ARule) → slice_get xs k ≡ Some rule → slice_get (map flow_rule xs) k ≡ Some (flow_rule rule)
reason_there xs k rule e = slice_get-map flow_rule xs k ∙ ap (option_map flow_rule) e

pub no_reason : (xs : List ARule) (k : ℕ) → slice_get xs k ≡ None → slice_get (map flow_rule xs) k ≡ None
no_reason xs k e = slice_get-map flow_rule xs k ∙ ap (option_map flow_rule) e
