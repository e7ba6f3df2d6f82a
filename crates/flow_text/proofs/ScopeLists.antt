-- The functions that are declared before a graph.
use Rattle.std.proofs.Common.{◌≡◌, ℕ, List, length, take, min, sym, ap, ◌∙◌}
use Rattle.std.proofs.lemmas.List.{take_min, take-map}
use Rattle.flow_text.specs.declared.scope.Function.{Function}
use Rattle.flow_text.specs.ScopeViews.{function_of, functions_of}

pub functions_before : (fs : List Function) (m : ℕ) → functions_of (take (min m (length fs)) fs) ≡ take m (functions_of fs)
functions_before fs m = ap functions_of (take_min m fs) ∙ sym (take-map function_of m fs)
