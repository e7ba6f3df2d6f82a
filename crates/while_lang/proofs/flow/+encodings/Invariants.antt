use Rattle.std.proofs.Common.{◌≡◌, ◌++◌, map, drop}
use Rattle.kat_model.specs.Trees.{kat_tree}
use Rattle.while_lang.specs.FlowViews.{flows_tree}
use Rattle.while_lang.specs.Encoding.{stmt_terms}
use Rattle.while_lang.proofs.flow.+encodings.Given as goal

-- the terms so far and those of the remaining statements are all terms
abbrev pub invariant-encode-loop-stmt : goal.invariant-encode-loop-stmt
invariant-encode-loop-stmt l = map kat_tree l.terms.items ++ stmt_terms (flows_tree (drop l.stmt-index l.stmt-items)) ≡ stmt_terms (flows_tree l.stmt-items)
