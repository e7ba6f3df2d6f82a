use Rattle.std.proofs.Common.{refl}
use Rattle.std.specs.List.{flat_map, enumerate_from}
use Rattle.text_print.specs.Printing.{name_of}
use Rattle.kat_report.specs.Shows.{action_comment}
use Rattle.kat_report.proofs.WrittenLists.{member_written, members_written}
use Rattle.kat_report.proofs.rows.put_action_comments.Goals as goal

pub loop-k-preserved : goal.loop-k-preserved
loop-k-preserved c =
    let comment = action_comment (name_of c.args.scope.now) in
    member_written (λ n row. comment (n, row)) (λ n rows. flat_map comment (enumerate_from n rows)) (λ n row rows. refl) c.args.rows.now c.loop-k.k c.index-rows-k.result c.index-rows-k.result _ c.loop-k.out.items c.put_action_comment.new.out.items
    c.loop-k-test.true c.index-rows-k.is c.in_ok-put_action_comment.ensures c.loop-k.invariant

pub returns : goal.returns
returns c =
    let comment = action_comment (name_of c.args.scope.now) in
    members_written (λ n row. comment (n, row)) (λ n rows. flat_map comment (enumerate_from n rows)) (λ n. refl) c.args.rows.now c.loop-k.k _ c.loop-k.out.items c.loop-k-test.false c.loop-k.invariant
