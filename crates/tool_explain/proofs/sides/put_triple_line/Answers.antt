use Rattle.std.proofs.Common.{codes}
use Rattle.std.specs.Fmt.{decimal}
use Rattle.std.proofs.lemmas.Result.{on_ok_weaker}
use Rattle.tool_explain.proofs.Appending.{four_written}
use Rattle.tool_explain.proofs.sides.put_triple_line.Goals as goal

pub returns : goal.returns
returns c =
    on_ok_weaker c.put-3.result
    (four_written c.args.out.now.items c.put.new.out.items c.put-2.new.out.items c.put_numbered.new.out.items c.put-3.new.out.items
    c.args.name.now (codes " relates the ends: the precondition holds at 0, the postcondition fails at ") (decimal c.args.last) (codes "\n") c.in_ok-put.ensures c.in_ok-put-2.ensures c.in_ok-put_numbered.ensures)
    c.put-3.ensures
