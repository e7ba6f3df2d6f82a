use Rattle.std.proofs.Common.{codes}
use Rattle.std.proofs.lemmas.Result.{on_ok_weaker}
use Rattle.tool_explain.proofs.Appending.{four_written}
use Rattle.tool_explain.proofs.sides.put_relation_line.Goals as goal

pub returns : goal.returns
returns c =
    on_ok_weaker c.put-4.result
    (four_written c.args.out.now.items c.put.new.out.items c.put-2.new.out.items c.put-3.new.out.items c.put-4.new.out.items
    c.args.relating.now (codes " relates the ends, ") c.args.other.now (codes " does not\n") c.in_ok-put.ensures c.in_ok-put-2.ensures c.in_ok-put-3.ensures)
    c.put-4.ensures
