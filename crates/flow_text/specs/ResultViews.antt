-- The sorts of results, as definitions see them.
use Rattle.std.specs.Option.{option_map}
use Rattle.flow_text.specs.declared.results.Results.{Results}
use Rattle.flow_text.specs.Checking.{ResultSorts}

abbrev pub result_sorts : Results → ResultSorts
result_sorts r = option_map (λ v. v.items) r.sorts
