use Rattle.std.proofs.Common.{◌≡◌, ℕ, List, ◌++◌, codes, get_or, refl, subst}
use Rattle.std.specs.Fmt.{decimal}
use Rattle.kat_report.specs.RunTexts.{values_text}
use Rattle.kat_report.proofs.WrittenLists.{member_written, members_written, value_text}
use Rattle.kat_report.proofs.run_text.put_values.Goals as goal

pub loop-k-preserved : goal.loop-k-preserved
loop-k-preserved c =
    member_written (value_text c.args.scope.now) (values_text c.args.scope.now) (λ n v vs. refl) c.args.values.now c.loop-k.k _ 0 _ c.loop-k.out.items c.put_value.new.out.items
    c.loop-k-test.true refl
    (subst (λ (name : List ℕ). c.put_value.new.out.items ≡ c.loop-k.out.items ++ (codes " " ++ name ++ codes "=" ++ decimal (get_or c.args.values.now c.loop-k.k 0))) c.name_of.ensures c.in_ok-put_value.ensures)
    c.loop-k.invariant

pub returns : goal.returns
returns c = members_written (value_text c.args.scope.now) (values_text c.args.scope.now) (λ n. refl) c.args.values.now c.loop-k.k _ c.loop-k.out.items c.loop-k-test.false c.loop-k.invariant
