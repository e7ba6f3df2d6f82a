use Rattle.std.proofs.Common.{◌≡◌, ◌-◌, ◌∙◌, length, arith}
use Rattle.kat_model.specs.declared.limits.TheConstants.{MAX_TESTS}
use Rattle.kat_model.specs.Stores.{modulus}
use Rattle.while_lang.specs.Trees.{goal_tree}
use Rattle.abstraction.specs.Comparisons.{goal_comparisons}
use Rattle.linear_forms.specs.Sameness.{is_same_comparison}
use Rattle.kat_model.proofs.CappedTables.{first_rows, too_many_rows}
use Rattle.abstraction.proofs.file_tables.test_table.Goals as goal

pub returns-then-len-most : goal.returns-then-len-most
returns-then-len-most c =
    let rows = goal_comparisons (modulus c.file.inside.width) (goal_tree c.args.goal.now) in
    let len : c.len.result ≡ length c.in_ok-rows.rows.items = c.len.ensures ∙ c.in_ok-rows.rows.ok.0 in
    let k = too_many_rows (MAX_TESTS - c.file.inside.tests) is_same_comparison rows c.in_ok-rows.rows.items c.in_ok-rows.ensures (omega (arith, len, c.if-len-most.true)) in
    rw (← c.file.view_is) (omega (arith, k, c.if-file-gt-MAX_TESTS.false))

pub returns : goal.returns
returns c =
    let rows = goal_comparisons (modulus c.file.inside.width) (goal_tree c.args.goal.now) in
    let len : c.len.result ≡ length c.in_ok-rows.rows.items = c.len.ensures ∙ c.in_ok-rows.rows.ok.0 in
    let k = first_rows (MAX_TESTS - c.file.inside.tests) is_same_comparison rows c.in_ok-rows.rows.items c.in_ok-rows.ensures (omega (arith, len, c.if-len-most.false)) in
    rw (← c.file.view_is) (k, omega (arith, len, c.if-len-most.false, c.if-file-gt-MAX_TESTS.false))
